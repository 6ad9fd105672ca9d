-- What the commands print that read no script: the log of a device's entries, and how much it keeps.
use Rattle.std.specs.Prelude.{◌≡◌, ℕ, List, [], length, Option, Some, None, option_map, Ok, Err}
use Rattle.field_io.specs.Causes.{Rose}
use Rattle.entry_form.specs.declared.entry.Entry.{Entry}
use Rattle.device_state.specs.declared.state.State.{State}
use Rattle.device_state.specs.State.{initial}
use Rattle.device_rules.specs.declared.answer.Answer.TheVariants.{Counts}
use Rattle.device_rules.specs.Answers.{counts_of}
use Rattle.device_rules.specs.Trail.{replay}
use Rattle.line_io.specs.Output.{Gained, IsCut}
use Rattle.collect_text.specs.Answers.{printed_answer}
use Rattle.collect_text.specs.declared.line.Shape.TheVariants.{Plain}
use Rattle.collect_script.specs.declared.stop.ScriptStop.TheVariants.{NoMemory, WriteFault}
use Rattle.collect_script.specs.Ends.{ScriptEnd, Streams}
use Rattle.collect_top.specs.declared.words.Work.{Work}
use Rattle.collect_top.specs.declared.words.Work.TheVariants.{Run, Log, Check}
use Rattle.collect_top.specs.Log.{log_text}

-- the line of how much a state keeps, behind so many entries
abbrev pub counts_line : ℕ → State → List ℕ
counts_line position state = printed_answer position Plain (Counts (counts_of state))

-- what the work prints of a device's entries; a script isn't printed
abbrev pub shown_text : Work → List Entry → Option (List ℕ)
shown_text Run entries = None
shown_text Log entries = Some (log_text entries)
shown_text Check entries = option_map (counts_line (length entries)) (replay initial entries)

-- How putting a text has ended that was made whole before. The source isn't asked.
pub data Shows (text : List ℕ) (before after : Streams) : ScriptEnd → Type 0 where
  shown : Gained before.held after.held text → after.sink_faults ≡ before.sink_faults → Shows text before after (Ok tt)
  cut : (front : List ℕ) → IsCut front text → Gained before.held after.held front
      → Rose before.sink_faults after.sink_faults
      → Shows text before after (Err WriteFault)
  starved : Gained before.held after.held [] → after.sink_faults ≡ before.sink_faults
      → Shows text before after (Err NoMemory)
