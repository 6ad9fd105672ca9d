-- The meaning of a line of a script.
use Rattle.std.specs.Prelude.{ℕ, List, Option, Some, None, if◌then◌else◌}
use Rattle.entry_form.specs.declared.command.Command.TheVariants.{SaveDraft, Finalize}
use Rattle.device_rules.specs.declared.answer.Query.TheVariants.{Entities}
use Rattle.collect_text.specs.Lines.{without_return}
use Rattle.collect_text.specs.Rows.{words_meaning}
use Rattle.collect_text.specs.Words.{words_of, is_skipped}
use Rattle.collect_text.specs.declared.line.Line.{Line}
use Rattle.collect_text.specs.declared.line.Line.TheVariants.{Skipped, Bad, Look, Give}
use Rattle.collect_text.specs.declared.line.Shape.{Shape}
use Rattle.collect_text.specs.declared.line.Shape.TheVariants as shapes

-- a line that spells no words is bad
abbrev pub told_meaning : Option (List (List ℕ)) → Line
told_meaning (Some words) = words_meaning words
told_meaning None = Bad

-- the meaning of a line without its line feed; a carriage return at its end doesn't count
abbrev pub meaning : List ℕ → Line
meaning line = let text = without_return line in if is_skipped text then Skipped else told_meaning (words_of text)

-- how the answer to a line is printed
abbrev pub line_shape : Line → Shape
line_shape (Give SaveDraft) = shapes.Saved
line_shape (Give Finalize) = shapes.Finalized
line_shape (Look (Entities name)) = shapes.List name
line_shape line = shapes.Plain
