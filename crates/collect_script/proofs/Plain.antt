-- No line of a script begins or ends a send by itself.
use Rattle.std.proofs.Common.{◌≡◌, ℕ, List, [], ◌∷◌, Option, Some, None, refl}
use Rattle.std.specs.Prelude.{Bool, true, false, codes, if◌then◌else◌, option_map}
use Rattle.std.specs.Str.{bytes_eq}
use Rattle.entry_form.specs.declared.command.Base.{Base}
use Rattle.entry_form.specs.declared.command.Base.TheVariants.{Blank, Draft, Edit}
use Rattle.entry_form.specs.declared.command.How.{How}
use Rattle.collect_text.specs.Arguments.{answer_line, asked_with, drop_form_line, drop_line, dropped, edit_line, get_line, how_of, load_line, number_of, open_line, show_line, shown, shown_doc, start_line, start_of, started, started_at, started_how, with_arguments}
use Rattle.collect_text.specs.Line.{meaning, told_meaning}
use Rattle.collect_text.specs.Lines.{without_return}
use Rattle.collect_text.specs.Rows.{LineRow, line_of, meaning_among, rows, same_words}
use Rattle.collect_text.specs.Words.{is_skipped, words_of}
use Rattle.collect_text.specs.declared.line.Line.{Line}
use Rattle.collect_text.specs.declared.rows.Asked.{Asked}
use Rattle.collect_text.specs.declared.rows.Asked.TheVariants as asked
use Rattle.collect_script.specs.Exchanged.{is_plain}

abbrev IsPlain : Line → Type 0
IsPlain line = is_plain line ≡ true

either : (b : Bool) (x y : Line) → IsPlain x → IsPlain y → IsPlain (if b then x else y)
either true x y one other = one
either false x y one other = other

started_how_plain : (base : Base) (how : Option How) → IsPlain (started_how base how)
started_how_plain base (Some how) = refl
started_how_plain base None = refl

started_plain : (base : Base) (words : List (List ℕ)) → IsPlain (started base words)
started_plain base words = started_how_plain base (how_of words)

started_at_plain : (base : Option Base) (words : List (List ℕ)) → IsPlain (started_at base words)
started_at_plain (Some base) words = started_plain base words
started_at_plain None words = refl

start_of_plain : (id : List ℕ) (words : List (List ℕ)) → IsPlain (start_of id words)
start_of_plain id [] = started_plain (Blank id None) []
start_of_plain id (word ∷ []) = started_plain (Blank id None) (word ∷ [])
start_of_plain id (word ∷ version ∷ words) =
    either (bytes_eq word (codes "version")) (started (Blank id (Some version)) words)
    (started (Blank id None) (word ∷ version ∷ words)) (started_plain (Blank id (Some version)) words)
    (started_plain (Blank id None) (word ∷ version ∷ words))

start_plain : (words : List (List ℕ)) → IsPlain (start_line words)
start_plain [] = refl
start_plain (id ∷ words) = start_of_plain id words

open_plain : (words : List (List ℕ)) → IsPlain (open_line words)
open_plain [] = refl
open_plain (number ∷ words) = started_at_plain (option_map Draft (number_of number)) words

edit_plain : (words : List (List ℕ)) → IsPlain (edit_line words)
edit_plain [] = refl
edit_plain (number ∷ words) = started_at_plain (option_map Edit (number_of number)) words

answer_plain : (words : List (List ℕ)) → IsPlain (answer_line words)
answer_plain [] = refl
answer_plain (path ∷ []) = refl
answer_plain (path ∷ value ∷ []) = refl
answer_plain (path ∷ value ∷ more ∷ words) = refl

load_plain : (words : List (List ℕ)) → IsPlain (load_line words)
load_plain [] = refl
load_plain (word ∷ []) = refl
load_plain (word ∷ more ∷ words) = refl

drop_form_plain : (words : List (List ℕ)) → IsPlain (drop_form_line words)
drop_form_plain [] = refl
drop_form_plain (id ∷ []) = refl
drop_form_plain (id ∷ more ∷ words) = refl

dropped_plain : (number : Option ℕ) → IsPlain (dropped number)
dropped_plain (Some number) = refl
dropped_plain None = refl

drop_plain : (words : List (List ℕ)) → IsPlain (drop_line words)
drop_plain [] = refl
drop_plain (number ∷ []) = dropped_plain (number_of number)
drop_plain (number ∷ more ∷ words) = refl

get_plain : (words : List (List ℕ)) → IsPlain (get_line words)
get_plain [] = refl
get_plain (id ∷ []) = refl
get_plain (id ∷ more ∷ words) = refl

shown_doc_plain : (number : Option ℕ) → IsPlain (shown_doc number)
shown_doc_plain (Some number) = refl
shown_doc_plain None = refl

shown_plain : (what name : List ℕ) → IsPlain (shown what name)
shown_plain what name =
    either (bytes_eq what (codes "doc")) _ _ (shown_doc_plain (number_of name))
    (either (bytes_eq what (codes "list")) _ _ refl refl)

show_plain : (words : List (List ℕ)) → IsPlain (show_line words)
show_plain [] = refl
show_plain (what ∷ []) = refl
show_plain (what ∷ name ∷ []) = shown_plain what name
show_plain (what ∷ name ∷ more ∷ words) = refl

asked_with_plain : (verb : List ℕ) (words : List (List ℕ)) → IsPlain (asked_with verb words)
asked_with_plain verb words =
    either (bytes_eq verb (codes "start")) _ _ (start_plain words)
    (either (bytes_eq verb (codes "open")) _ _ (open_plain words)
    (either (bytes_eq verb (codes "edit")) _ _ (edit_plain words)
    (either (bytes_eq verb (codes "answer")) _ _ (answer_plain words)
    (either (bytes_eq verb (codes "load")) _ _ (load_plain words)
    (either (bytes_eq verb (codes "dropform")) _ _ (drop_form_plain words)
    (either (bytes_eq verb (codes "drop")) _ _ (drop_plain words)
    (either (bytes_eq verb (codes "get")) _ _ (get_plain words)
    (either (bytes_eq verb (codes "show")) _ _ (show_plain words) refl))))))))

arguments_plain : (words : List (List ℕ)) → IsPlain (with_arguments words)
arguments_plain [] = refl
arguments_plain (verb ∷ words) = asked_with_plain verb words

row_plain : (row : Asked) → IsPlain (line_of row)
row_plain asked.Quit = refl
row_plain asked.NotBuilt = refl
row_plain asked.Send = refl
row_plain asked.ShowSettings = refl
row_plain asked.ShowForms = refl
row_plain asked.ShowInstances = refl
row_plain asked.ShowEntry = refl
row_plain (asked.AutoSend on) = refl
row_plain (asked.UpdateMode mode) = refl
row_plain asked.Tick = refl
row_plain asked.Save = refl
row_plain asked.Leave = refl
row_plain asked.Finalize = refl
row_plain asked.FinalizeAll = refl

among_plain : (words : List (List ℕ)) (table : List LineRow) → IsPlain (meaning_among words table)
among_plain words [] = arguments_plain words
among_plain words (row ∷ others) =
    either (same_words words row.0) (line_of row.1) (meaning_among words others) (row_plain row.1) (among_plain words others)

told_plain : (words : Option (List (List ℕ))) → IsPlain (told_meaning words)
told_plain (Some words) = among_plain words rows
told_plain None = refl

pub meaning_plain : (line : List ℕ) → IsPlain (meaning line)
meaning_plain line = either (is_skipped (without_return line)) _ _ refl (told_plain (words_of (without_return line)))
