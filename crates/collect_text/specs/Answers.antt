-- The lines that answer the lines of a script. The first begins with its position, and each ends with a line feed.
use Rattle.std.specs.Prelude.{ℕ, List, [], ◌++◌, length, codes, Option, Some, None}
use Rattle.device_rules.specs.declared.answer.Answer.{Answer}
use Rattle.device_rules.specs.declared.answer.Answer.TheVariants.{Bulk, Counts as Counted, Doc, Done, Entities}
use Rattle.device_rules.specs.declared.answer.Answer.TheVariants.{EntryNow, Forms, Instances, NextSend, Number, Settings}
use Rattle.device_rules.specs.declared.answer.Counts.{Counts}
use Rattle.device_rules.specs.declared.answer.EntryView.{EntryView}
use Rattle.device_rules.specs.declared.answer.Finalized.{Finalized}
use Rattle.collect_text.specs.AnswerRows.{answer_rows}
use Rattle.collect_text.specs.declared.line.Line.{Line}
use Rattle.collect_text.specs.declared.line.Line.TheVariants as lines
use Rattle.collect_text.specs.declared.line.Shape.{Shape}
use Rattle.collect_text.specs.declared.line.Shape.TheVariants as shapes
use Rattle.collect_text.specs.Lines.{line_at}
use Rattle.collect_text.specs.Pieces.{spaced_number, spaced_text, spaced_word}
use Rattle.collect_text.specs.Settings.{settings_text}

-- the number of the instance that a line of this shape made
abbrev pub number_text : Shape → ℕ → List ℕ
number_text shapes.Saved number = codes "saved" ++ spaced_number number
number_text shapes.Finalized number = codes "finalized" ++ spaced_number number
number_text shapes.Plain number = codes "ok"
number_text (shapes.List name) number = codes "ok"

-- the form that is being filled in, and the number of its fields; `-` stands for none
abbrev pub entry_head : Option EntryView → List ℕ
entry_head (Some entry) =
    codes "entry" ++ spaced_text entry.id ++ spaced_text entry.version ++ spaced_number (length entry.fields)
entry_head None = codes "entry -"

-- how many drafts were finalized, became invalid, and were left
unfoldable pub bulk_text : Finalized → List ℕ
bulk_text counts =
    codes "finalized" ++ spaced_number counts.finalized ++ spaced_word (codes "invalid") ++ spaced_number counts.invalid
    ++ spaced_word (codes "skipped") ++ spaced_number counts.skipped

-- the name of a list and the number of its entities
abbrev pub list_head : Shape → ℕ → List ℕ
list_head (shapes.List name) count = codes "list" ++ spaced_text name ++ spaced_number count
list_head shape count = codes "list" ++ spaced_number count

unfoldable pub kept_counts : Counts → List ℕ
kept_counts counts =
    codes "counts forms" ++ spaced_number counts.forms ++ spaced_word (codes "instances") ++ spaced_number counts.instances

unfoldable pub queue_counts : Counts → List ℕ
queue_counts counts =
    spaced_word (codes "queued") ++ spaced_number counts.queued ++ spaced_word (codes "sent") ++ spaced_number counts.sent

-- how much the device keeps
abbrev pub counts_text : Counts → List ℕ
counts_text counts =
    (kept_counts counts ++ queue_counts counts) ++ (spaced_word (codes "lists") ++ spaced_number counts.lists)

-- the first line of the answer to a line of this shape
abbrev pub answer_text : Shape → Answer → List ℕ
answer_text shape Done = codes "ok"
answer_text shape (Number number) = number_text shape number
answer_text shape (Settings settings) = settings_text settings
answer_text shape (Forms forms) = codes "forms" ++ spaced_number (length forms)
answer_text shape (Instances instances) = codes "instances" ++ spaced_number (length instances)
answer_text shape (EntryNow entry) = entry_head entry
answer_text shape (Bulk counts) = bulk_text counts
answer_text shape (Doc bytes) = codes "doc" ++ spaced_text bytes
answer_text shape (Entities rows) = list_head shape (length rows)
answer_text shape (NextSend send) = []
answer_text shape (Counted counts) = counts_text counts

abbrev pub printed_answer : ℕ → Shape → Answer → List ℕ
printed_answer position shape answer = line_at position (answer_text shape answer) ++ answer_rows answer

-- a line that is answered by words alone
abbrev pub IsWord : Line → Type 0
IsWord lines.Quit = Unit {0}
IsWord lines.Bad = Unit {0}
IsWord lines.NotBuilt = Unit {0}
IsWord _ = ⊥

abbrev pub word_text : Line → List ℕ
word_text lines.Quit = codes "bye"
word_text lines.Bad = codes "bad line"
word_text _ = codes "not built"

abbrev pub printed_word : ℕ → Line → List ℕ
printed_word position line = line_at position (word_text line)
