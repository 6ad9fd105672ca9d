-- The first parts of the headline: one serial run, and each printed answer at its place.
use Rattle.std.specs.Prelude.{◌≡◌, ℕ, suc, ◌≤◌, List, [], ◌++◌, IsTrue, length, take, drop, Option, Some}
use Rattle.std.specs.Prelude.{None, slice_get, IfSome, Ok, Err}
use Rattle.std.specs.List.{AllByRecursion}
use Rattle.field_io.specs.Causes.{Rose}
use Rattle.entry_form.specs.declared.entry.Entry.{Entry}
use Rattle.entry_form.specs.declared.entry.Entry.TheVariants.{Opened}
use Rattle.entry_form.specs.declared.hand.Hand.TheVariants as hands
use Rattle.device_journal.specs.Frames.{end_of}
use Rattle.device_journal.specs.declared.fault.OpenFault.{OpenFault}
use Rattle.device_rules.specs.declared.trail.Trail.{Trail}
use Rattle.device_rules.specs.Caller.{is_of}
use Rattle.device_rules.specs.Opened.{default_server}
use Rattle.device_state.specs.State.{initial}
use Rattle.device_rules.specs.Trail.{IsLegal, entries_of}
use Rattle.device_core.specs.Images.{ReadsAs, payloads_of}
use Rattle.line_io.specs.Output.{Gained, IsCut}
use Rattle.collect_script.specs.declared.stop.ScriptStop.TheVariants as script
use Rattle.collect_script.specs.Ends.{AnswersScript, ScriptEnd, Streams}
use Rattle.collect_top.specs.declared.stop.Stop.{Stop}
use Rattle.collect_top.specs.declared.stop.Stop.TheVariants.{Usage, Opening, Script}
use Rattle.collect_top.specs.declared.words.Work.{Work}
use Rattle.collect_top.specs.declared.words.Work.TheVariants.{Run}
use Rattle.collect_top.specs.Shown.{Shows, shown_text}
use Rattle.collect_top.specs.Outside.{Outside, streams_of}
use Rattle.collect_top.specs.Stop.{End, end_of_script, fault_line}

-- What joins the parts of the headline: how the call ended, how many entries opening found where the device was
-- opened, and the entry behind the history whose append met the fault that ended the call.
pub record Course : Type 0 where
  pub end : End
  pub found : Option ℕ
  pub rest : List Entry

-- the entry of this program's opening
abbrev pub own_opening : Entry
own_opening = Opened (record { device = 1; server = default_server })

-- Behind what opening found stands the opening, and behind it the script's commands alone.
pub record Continues (image : Option (List ℕ)) (entries : List Entry) (found : ℕ) : Type 0 where
  pub read : IfSome image (λ bytes. ReadsAs bytes (Ok (take found entries)))
  pub opening : slice_get entries found ≡ Some own_opening
  pub script : AllByRecursion (λ e. IsTrue (is_of hands.Script e)) (drop (suc found) entries)

-- Where the device wasn't opened there are no entries.
abbrev pub Begins : Option (List ℕ) → List Entry → Option ℕ → Type 0
Begins image entries None = entries ≡ []
Begins image entries (Some found) = Continues image entries found

-- One serial run of the rules from the initial state, with the entry that may stand behind it.
pub record SerialRun (image : Option (List ℕ)) (course : Course) (trail : Trail) : Type 0 where
  pub start : trail.start ≡ initial
  pub legal : IsLegal initial (entries_of trail.entries ++ course.rest)
  pub begins : Begins image (entries_of trail.entries) course.found

-- What the work has printed before the line of a stop. Where the device wasn't opened, nothing was read or put.
pub data Prints (work : Option Work) (before between : Streams) (entries rest : List Entry) : End → Option ℕ
    → Type 0 where
  usage : work ≡ None → between ≡ before → Prints work before between entries rest (Err Usage) None
  unopened : (asked : Work) (fault : OpenFault) → work ≡ Some asked → between ≡ before
      → Prints work before between entries rest (Err (Opening fault)) None
  answers : (found : ℕ) (end : ScriptEnd) → work ≡ Some Run
      → AnswersScript initial entries rest before between (suc found) end
      → ((size : ℕ) → end ≡ Err (script.JournalFull size) → size ≡ end_of (payloads_of entries))
      → Prints work before between entries rest (end_of_script end) (Some found)
  shows : (asked : Work) (text : List ℕ) (found : ℕ) (end : ScriptEnd) → work ≡ Some asked
      → shown_text asked entries ≡ Some text → length entries ≡ suc found → rest ≡ []
      → Shows text before between end
      → between.left ≡ before.left → between.source_faults ≡ before.source_faults
      → Prints work before between entries rest (end_of_script end) (Some found)

-- Behind it stands the line of a stop, cut only where the sink failed in it; a fault of the sink has none.
pub data PutsStop (between after : Streams) : End → Type 0 where
  none : after ≡ between → PutsStop between after (Ok tt)
  sink : after ≡ between → PutsStop between after (Err (Script script.WriteFault))
  whole : (stop : Stop) → Gained between.held after.held (fault_line stop) → after.sink_faults ≡ between.sink_faults
      → after.left ≡ between.left → after.source_faults ≡ between.source_faults → PutsStop between after (Err stop)
  cut : (stop : Stop) (front : List ℕ) → IsCut front (fault_line stop) → Gained between.held after.held front
      → Rose between.sink_faults after.sink_faults → between.sink_faults ≤ after.sink_faults
      → after.left ≡ between.left → after.source_faults ≡ between.source_faults → PutsStop between after (Err stop)

-- Each printed answer is the run's at its printed place.
pub record PrintedAnswers (work : Option Work) (before after : Outside) (course : Course) (trail : Trail) : Type 0 where
  -- the streams before the line of a stop
  pub between : Streams
  pub prints : Prints work (streams_of before) between (entries_of trail.entries) course.rest course.end course.found
  pub stop : PutsStop between (streams_of after) course.end
