-- Functions of values (XPath 1.0, section 4, and ODK XForms, in a profile).
use Rattle.std.specs.Prelude.{ℕ, pos, Bool, true, false, not, ◌==◌, nat_le, if◌then◌else◌, List, [], length, chars}
use Rattle.std.specs.Prelude.{count_by, ◌&&◌}
use Rattle.std.specs.List.{list_any, slice_index_or, slice_split, flat_map}
use Rattle.std.specs.Str.{bytes_eq}
use Rattle.form_def.specs.declared.expr.Func.{Func}
use Rattle.form_def.specs.declared.expr.Func.TheVariants.{Yes, No, Not, Selected, CountSelected, StringLength, Concat}
use Rattle.form_def.specs.declared.expr.Func.TheVariants.{Choose, Coalesce}
use Rattle.expr_values.specs.declared.value.Value.{Value}
use Rattle.expr_values.specs.declared.value.Value.TheVariants.{Truth, Words}
use Rattle.expr_values.specs.Values.{whole, truth_of, text_of}

-- the argument at a place; one that is missing is the empty text
abbrev pub argument : List Value → ℕ → Value
argument args place = slice_index_or args place (Words [])

abbrev pub is_some_text : List ℕ → Bool
is_some_text text = truth_of (Words text)

-- what stands between single spaces
abbrev pub cut_at_spaces : List ℕ → List (List ℕ)
cut_at_spaces text = slice_split (λ c. c == 32) text

-- one of the pieces, of which the empty ones don't count
abbrev pub is_piece : List ℕ → List ℕ → Bool
is_piece piece part = is_some_text part && bytes_eq part piece

abbrev pub is_selected : List ℕ → List ℕ → Bool
is_selected text piece = list_any (is_piece piece) (cut_at_spaces text)

abbrev pub piece_count : List ℕ → ℕ
piece_count text = count_by is_some_text (cut_at_spaces text)

-- the text, or the empty one where it has more than 8,000 bytes
abbrev pub joined : List ℕ → List ℕ
joined text = if nat_le (length text) 8000 then text else []

abbrev pub called : Func → List Value → Value
called Yes args = Truth true
called No args = Truth false
called Not args = Truth (not (truth_of (argument args 0)))
called Selected args = Truth (is_selected (text_of (argument args 0)) (text_of (argument args 1)))
called CountSelected args = whole (pos (piece_count (text_of (argument args 0))))
called StringLength args = whole (pos (length (chars (text_of (argument args 0)))))
called Concat args = Words (joined (flat_map text_of args))
called Choose args = if truth_of (argument args 0) then argument args 1 else argument args 2
called Coalesce args = Words (if is_some_text (text_of (argument args 0)) then text_of (argument args 0) else text_of
    (argument args 1))
