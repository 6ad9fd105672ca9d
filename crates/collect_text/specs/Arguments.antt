-- The lines whose first word says what the words behind it are.
use Rattle.std.specs.Prelude.{ℕ, ◌^◌, List, [], ◌∷◌, ◌&&◌, nat_lt, if◌then◌else◌, codes, Option, Some, None, option_map}
use Rattle.std.specs.Fmt.{decimal}
use Rattle.std.specs.Str.{bytes_eq}
use Rattle.std.specs.Str.Parse.{digits_value}
use Rattle.entry_form.specs.declared.command.Base.{Base}
use Rattle.entry_form.specs.declared.command.Base.TheVariants.{Blank, Draft, Edit}
use Rattle.entry_form.specs.declared.command.Command.TheVariants.{DropForm, DropInstance, Fill, Load, Start}
use Rattle.entry_form.specs.declared.command.How.{How}
use Rattle.entry_form.specs.declared.command.How.TheVariants.{Fresh, Recover, Discard}
use Rattle.device_rules.specs.declared.answer.Query.TheVariants as queries
use Rattle.collect_text.specs.declared.line.Line.{Line}
use Rattle.collect_text.specs.declared.line.Line.TheVariants.{Bad, NotBuilt, Look, Give}

-- the number below 2^64 whose decimal digits, without leading zeros, these bytes are
unfoldable pub number_of : List ℕ → Option ℕ
number_of bytes =
    if bytes_eq (decimal (digits_value 10 bytes)) bytes && nat_lt (digits_value 10 bytes) (2 ^ 64)
    then Some (digits_value 10 bytes) else None

-- what is done with a savepoint, by the word that says it
abbrev pub how_named : List ℕ → Option How
how_named word =
    if bytes_eq word (codes "recover") then Some Recover
    else if bytes_eq word (codes "discard") then Some Discard
    else None

-- and by the words at the end of a line
abbrev pub how_of : List (List ℕ) → Option How
how_of [] = Some Fresh
how_of (word ∷ []) = how_named word
how_of (word ∷ next ∷ words) = None

abbrev pub started_how : Base → Option How → Line
started_how base (Some how) = Give (Start base how)
started_how base None = Bad

-- the start of an entry from a base; behind the base stands what is done with a savepoint
abbrev pub started : Base → List (List ℕ) → Line
started base words = started_how base (how_of words)

-- the start from the instance of a number, if it is one
abbrev pub started_at : Option Base → List (List ℕ) → Line
started_at (Some base) words = started base words
started_at None words = Bad

-- Behind the id stands a version where two words or more follow and the first of them is `version`.
abbrev pub start_of : List ℕ → List (List ℕ) → Line
start_of id [] = started (Blank id None) []
start_of id (word ∷ []) = started (Blank id None) (word ∷ [])
start_of id (word ∷ version ∷ words) =
    if bytes_eq word (codes "version") then started (Blank id (Some version)) words
    else started (Blank id None) (word ∷ version ∷ words)

-- start ID [version V] [recover or discard]
abbrev pub start_line : List (List ℕ) → Line
start_line [] = Bad
start_line (id ∷ words) = start_of id words

-- open N, and perhaps recover or discard
abbrev pub open_line : List (List ℕ) → Line
open_line [] = Bad
open_line (number ∷ words) = started_at (option_map Draft (number_of number)) words

-- edit N, and perhaps one of these
abbrev pub edit_line : List (List ℕ) → Line
edit_line [] = Bad
edit_line (number ∷ words) = started_at (option_map Edit (number_of number)) words

-- answer PATH VALUE
abbrev pub answer_line : List (List ℕ) → Line
answer_line (path ∷ value ∷ []) = Give (Fill path value)
answer_line words = Bad

-- load TEXT
abbrev pub load_line : List (List ℕ) → Line
load_line (text ∷ []) = Give (Load text)
load_line words = Bad

-- dropform ID
abbrev pub drop_form_line : List (List ℕ) → Line
drop_form_line (id ∷ []) = Give (DropForm id)
drop_form_line words = Bad

abbrev pub dropped : Option ℕ → Line
dropped (Some number) = Give (DropInstance number)
dropped None = Bad

-- drop N
abbrev pub drop_line : List (List ℕ) → Line
drop_line (number ∷ []) = dropped (number_of number)
drop_line words = Bad

-- get ID
abbrev pub get_line : List (List ℕ) → Line
get_line (id ∷ []) = NotBuilt
get_line words = Bad

abbrev pub shown_doc : Option ℕ → Line
shown_doc (Some number) = Look (queries.DocOf number)
shown_doc None = Bad

abbrev pub shown : List ℕ → List ℕ → Line
shown what name =
    if bytes_eq what (codes "doc") then shown_doc (number_of name)
    else if bytes_eq what (codes "list") then Look (queries.Entities name)
    else Bad

-- show doc N, show list NAME
abbrev pub show_line : List (List ℕ) → Line
show_line (what ∷ name ∷ []) = shown what name
show_line words = Bad

-- the line of a first word and the words behind it
abbrev pub asked_with : List ℕ → List (List ℕ) → Line
asked_with verb words =
    if bytes_eq verb (codes "start") then start_line words
    else if bytes_eq verb (codes "open") then open_line words
    else if bytes_eq verb (codes "edit") then edit_line words
    else if bytes_eq verb (codes "answer") then answer_line words
    else if bytes_eq verb (codes "load") then load_line words
    else if bytes_eq verb (codes "dropform") then drop_form_line words
    else if bytes_eq verb (codes "drop") then drop_line words
    else if bytes_eq verb (codes "get") then get_line words
    else if bytes_eq verb (codes "show") then show_line words
    else Bad

abbrev pub with_arguments : List (List ℕ) → Line
with_arguments [] = Bad
with_arguments (verb ∷ words) = asked_with verb words
