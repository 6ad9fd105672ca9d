-- How the lines of a script are answered, and why the answering ends.
use Rattle.std.specs.Prelude.{◌≡◌, ◌⊎◌, ℕ, ◌+◌, ◌<◌, List, [], ◌∷◌, ◌++◌, length, drop, map, Option, Result, Ok}
use Rattle.std.specs.Prelude.{Err}
use Rattle.field_io.specs.Causes.{Rose}
use Rattle.entry_form.specs.declared.command.Command.{Command}
use Rattle.entry_form.specs.declared.entry.Entry.{Entry}
use Rattle.entry_form.specs.declared.entry.Entry.TheVariants.{Done}
use Rattle.entry_form.specs.declared.hand.Hand.TheVariants.{Script}
use Rattle.entry_codec.specs.Spelling.{spelling}
use Rattle.device_state.specs.declared.state.State.{State}
use Rattle.device_rules.specs.Limits.{largest_journal}
use Rattle.line_io.specs.Output.{Gained, IsCut}
use Rattle.line_io.specs.Script.{IsUncut}
use Rattle.collect_text.specs.Line.{meaning}
use Rattle.collect_text.specs.declared.line.Line.{Line}
use Rattle.collect_text.specs.declared.line.Line.TheVariants.{Give, Send}
use Rattle.collect_script.specs.declared.stop.ScriptStop.{ScriptStop}
use Rattle.collect_script.specs.declared.stop.ScriptStop.TheVariants as stops
use Rattle.collect_script.specs.Rounds.{IsOfRound}
use Rattle.collect_script.specs.Script.{Reads, GoesOn, Quits, IsWhole, IsTooLong, IsPastLimit}
use Rattle.collect_script.specs.Transcript.{of_script, MayAdd, AllAnswered, HasPrinted, Transcript}

-- the streams of a run at one moment: what the source has left, what the sink holds, and their counts of faults
pub record Streams : Type 0 where
  pub left : Option (List ℕ)
  pub held : Option (List ℕ)
  pub source_faults : ℕ
  pub sink_faults : ℕ

-- the streams, by what the source and the sink tell
abbrev pub streams : Option (List ℕ) → Option (List ℕ) → ℕ → ℕ → Streams
streams left held source_faults sink_faults =
    record { left = left; held = held; source_faults = source_faults; sink_faults = sink_faults }

-- how the answering ended: at the script's end, or by a stop
abbrev pub ScriptEnd : Type 0
ScriptEnd = Result (Unit {0}) ScriptStop

-- a command's entry doesn't fit a journal of this length
abbrev pub IsPast : Command → ℕ → Type 0
IsPast command size = largest_journal < size + 5 + length (spelling (Done Script command))

-- the command of a line doesn't
abbrev pub IsFullLine : Line → ℕ → Type 0
IsFullLine (Give command) size = IsPast command size
IsFullLine line size = ⊥

module _ (start : State) (entries rest : List Entry) (before after : Streams) where
  -- the sink has gained the text, and no call of it failed
  pub record Puts (text : List ℕ) : Type 0 where
    pub gained : Gained before.held after.held text
    pub sound : after.sink_faults ≡ before.sink_faults

  -- no call of the source failed
  abbrev pub IsCalm : Type 0
  IsCalm = after.source_faults ≡ before.source_faults

  -- of the script's nothing stands behind the position
  pub record IsSettled (position : ℕ) : Type 0 where
    pub answered : AllAnswered start entries position
    pub none_left : of_script rest ≡ []

  -- why no further line could be read, where this script was taken and this is behind the lines answered
  pub data CantRead (script behind : List ℕ) : ScriptStop → Type 0 where
    failed : IsUncut behind → Rose before.source_faults after.source_faults → CantRead script behind stops.ReadFault
    long_line : IsTooLong behind → IsCalm → CantRead script behind stops.LineTooLong
    long_script : IsPastLimit script behind → IsCalm → CantRead script behind stops.ScriptTooLong
    starved : IsCalm → CantRead script behind stops.NoMemory

  -- why this line isn't answered whole, behind lines that have printed the text up to the last position
  pub data CantAnswer (text : List ℕ) (last : ℕ) (line : Line) : ScriptStop → Type 0 where
    -- its entry may stand behind the history
    faulted : MayAdd line (of_script (drop last (entries ++ rest))) → Puts text
        → CantAnswer text last line stops.DiskFault
    -- its entry may stand in the history
    starved_at : MayAdd line (of_script (drop last entries)) → of_script rest ≡ [] → Puts text
        → CantAnswer text last line stops.NoMemory
    full : (size : ℕ) → IsFullLine line size → IsSettled last → Puts text
        → CantAnswer text last line (stops.JournalFull size)
    -- an entry of its round doesn't fit
    full_round : (command : Command) (size : ℕ) → line ≡ Send → IsOfRound command → IsPast command size
        → MayAdd line (of_script (drop last entries)) → of_script rest ≡ [] → Puts text
        → CantAnswer text last line (stops.JournalFull size)
    -- the front of its answer is put
    cut : (position : ℕ) (piece front : List ℕ) → HasPrinted start entries last line position piece
        → IsSettled position → IsCut front piece
        → Gained before.held after.held (text ++ front) → Rose before.sink_faults after.sink_faults
        → CantAnswer text last line stops.WriteFault

  -- why no more lines are answered than these
  pub data Ends (answered : List (List ℕ)) (text : List ℕ) (last : ℕ) : ScriptEnd → Type 0 where
    finished : (behind : List ℕ) → Reads before.left after.left answered behind
        → IsWhole after.left answered behind ⊎ Quits answered
        → IsSettled last → Puts text → IsCalm → Ends answered text last (Ok tt)
    unread : (behind : List ℕ) (stop : ScriptStop) (reads : Reads before.left after.left answered behind)
        → GoesOn answered
        → CantRead reads.script behind stop → IsSettled last → Puts text → Ends answered text last (Err stop)
    unanswered : (line behind : List ℕ) (stop : ScriptStop)
        → Reads before.left after.left (answered ++ line ∷ []) behind → GoesOn answered
        → CantAnswer text last (meaning line) stop → IsCalm → Ends answered text last (Err stop)

  -- What answering a script has read, printed and left. The positions printed are no lower than the first.
  pub record AnswersScript (first : ℕ) (end : ScriptEnd) : Type 0 where
    -- the lines that were answered whole
    pub answered : List (List ℕ)
    -- what they have printed, and the position of the last answer
    pub text : List ℕ
    pub last : ℕ
    pub transcript : Transcript start entries first (map meaning answered) text last
    pub ends : Ends answered text last end
