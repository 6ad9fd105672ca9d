-- What one line does over a caller, and what it prints.
use Rattle.std.specs.Prelude.{◌≡◌, ◌≢◌, ℕ, ◌+◌, ◌<◌, List, [], ◌∷◌, ◌++◌, length, Bool, true, false, Option, Result, Ok}
use Rattle.std.specs.Prelude.{Err}
use Rattle.field_io.specs.Causes.{Rose}
use Rattle.entry_form.specs.declared.command.Command.{Command}
use Rattle.entry_form.specs.declared.command.Command.TheVariants.{TakeLock}
use Rattle.entry_form.specs.declared.entry.Entry.{Entry}
use Rattle.entry_form.specs.declared.entry.Entry.TheVariants.{Done}
use Rattle.entry_form.specs.declared.hand.Hand.{Hand}
use Rattle.entry_form.specs.declared.hand.Round.TheVariants as rounds
use Rattle.entry_codec.specs.Spelling.{spelling}
use Rattle.field_io.specs.declared.exchange.Exchange.{Exchange}
use Rattle.device_rules.specs.declared.answer.Query.{Query}
use Rattle.device_rules.specs.declared.refused.Refused.{Refused}
use Rattle.device_rules.specs.declared.refused.Refused.TheVariants.{Busy, NoMemory}
use Rattle.device_rules.specs.declared.told.SubmitFault.{SubmitFault}
use Rattle.device_rules.specs.declared.told.SubmitFault.TheVariants as faults
use Rattle.device_rules.specs.declared.told.Told.{Told}
use Rattle.line_io.specs.declared.stop.ReadStop.{ReadStop}
use Rattle.line_io.specs.declared.stop.ReadStop.TheVariants as reading
use Rattle.device_rules.specs.Caller.{CallerView, Accepts, Grows, HidesFor, IsFullAt, LeavesRest, Refuses, SameRest}
use Rattle.device_rules.specs.Caller.{Shows, of_hand}
use Rattle.device_rules.specs.Limits.{largest_journal}
use Rattle.line_io.specs.Output.{Gained, IsCut}
use Rattle.collect_text.specs.Answers.{printed_answer, printed_word}
use Rattle.collect_text.specs.Line.{line_shape}
use Rattle.collect_text.specs.Refusals.{printed_refused}
use Rattle.collect_text.specs.Rounds.{printed_round}
use Rattle.collect_text.specs.declared.line.Line.{Line}
use Rattle.collect_text.specs.declared.line.Line.TheVariants.{Skipped, Bad, NotBuilt, Quit, Send, Look, Give}
use Rattle.collect_script.specs.declared.stop.ScriptStop.{ScriptStop}
use Rattle.collect_script.specs.declared.stop.ScriptStop.TheVariants as stops
use Rattle.collect_script.specs.Ends.{AnswersScript, ScriptEnd, Streams}
use Rattle.collect_script.specs.Rounds.{IsFrontOfRound, IsOfRound}
use Rattle.collect_script.specs.Transcript.{MayAdd}
use Rattle.send_workers.specs.Rounds.{HasRun, Stops, view}
use Rattle.send_workers.specs.declared.round.RoundEnd.{RoundEnd}
use Rattle.send_workers.specs.declared.round.RoundEnd.TheVariants as ends

-- want of memory is no refusal of the rules
abbrev pub is_no_memory : Refused → Bool
is_no_memory NoMemory = true
is_no_memory why = false

-- the refusal that a fault of a call is printed as, if it is one
abbrev pub FaultText : SubmitFault → List ℕ → Type 0
FaultText (faults.Refused position why) text = (why ≢ NoMemory) × (text ≡ printed_refused position why)
FaultText fault text = ⊥

-- the stop that a fault of a call leads to
abbrev pub FaultStop : SubmitFault → ScriptStop → Type 0
FaultStop (faults.Refused position why) stop = stop ≡ stops.NoMemory
FaultStop (faults.Full size) stop = stop ≡ stops.JournalFull size
FaultStop faults.DiskFault stop = stop ≡ stops.DiskFault
FaultStop (faults.Failed count) stop = stop ≡ stops.DiskFault

-- the line of a round, by its end
abbrev pub RoundText : RoundEnd → List ℕ → Type 0
RoundText (ends.Ran position good bad hidden) text = text ≡ printed_round position good bad
RoundText (ends.Busy position held) text = text ≡ printed_refused position (Busy held.hand held.since)
RoundText (ends.Stopped fault) text = FaultText fault text
RoundText ends.NoMemory text = ⊥

-- the stop that the end of a round leads to
abbrev pub RoundStop : RoundEnd → ScriptStop → Type 0
RoundStop (ends.Stopped fault) stop = FaultStop fault stop
RoundStop end stop = stop ≡ stops.NoMemory

-- the call has added what the line may add, with other hands' entries round it
pub record Adds (old new : CallerView) (line : Line) : Type 0 where
  pub added : List Entry
  pub grows : Grows old new added
  pub own : MayAdd line (of_hand old.hand added)
  pub rest : SameRest old new

-- a round has added some of its entries, and the append of this one more met a fault of the disk
pub record LeavesRound (old new : CallerView) (command : Command) : Type 0 where
  pub added : List Entry
  pub grows : Grows old new added
  pub own : IsFrontOfRound (of_hand old.hand added ++ Done old.hand command ∷ [])
  pub failed : new.faults ≢ 0
  pub rest : of_hand old.hand new.rest ≡ of_hand old.hand old.rest ++ Done old.hand command ∷ []

module _ (old new : CallerView) where
  -- the text that a line prints
  pub data Says (text : List ℕ) : Line → Type 0 where
    skips : new ≡ old → text ≡ [] → Says text Skipped
    accepts : (command : Command) (told : Told) → Accepts old new command told
        → text ≡ printed_answer told.position (line_shape (Give command)) told.answer
        → Says text (Give command)
    refuses : (command : Command) (position : ℕ) (why : Refused) → Refuses old new command position why → why ≢ NoMemory
        → text ≡ printed_refused position why → Says text (Give command)
    shows : (query : Query) (told : Told) → Shows old new query told
        → text ≡ printed_answer told.position (line_shape (Look query)) told.answer
        → Says text (Look query)
    hides : (query : Query) (position : ℕ) (why : Refused) → HidesFor old new query position why → why ≢ NoMemory
        → text ≡ printed_refused position why → Says text (Look query)
    quits : (query : Query) (told : Told) → Shows old new query told → text ≡ printed_word told.position Quit
        → Says text Quit
    bad : (query : Query) (told : Told) → Shows old new query told → text ≡ printed_word told.position Bad
        → Says text Bad
    not_built : (query : Query) (told : Told) → Shows old new query told → text ≡ printed_word told.position NotBuilt
        → Says text NotBuilt
    ran : (carried now : Option (List Exchange)) (position good bad : ℕ)
        → HasRun (view old carried) (view new now) position good bad → text ≡ printed_round position good bad
        → Says text Send
    busy : (position since : ℕ) (holder : Hand) → Refuses old new (TakeLock rounds.Send) position (Busy holder since)
        → text ≡ printed_refused position (Busy holder since) → Says text Send
    stopped : (carried now : Option (List Exchange)) (fault : SubmitFault) → Stops (view old carried) (view new now) fault
        → FaultText fault text → Says text Send

  -- why a line has no text
  pub data SaysNothing (line : Line) : ScriptStop → Type 0 where
    starved : Adds old new line → SaysNothing line stops.NoMemory
    full : (command : Command) (size : ℕ) → line ≡ Give command → IsFullAt old new command size
        → SaysNothing line (stops.JournalFull size)
    faulted : (command : Command) → line ≡ Give command → LeavesRest old new command → SaysNothing line stops.DiskFault
    full_round : (command : Command) (size : ℕ) → line ≡ Send → Adds old new line → IsOfRound command
        → size ≡ new.length → largest_journal < size + 5 + length (spelling (Done old.hand command))
        → SaysNothing line (stops.JournalFull size)
    faulted_round : (command : Command) → line ≡ Send → LeavesRound old new command
        → SaysNothing line stops.DiskFault
    failed : Adds old new line → new.faults ≢ 0 → SaysNothing line stops.DiskFault

  -- what a line prints, or why it prints nothing
  abbrev pub SaysOr : Line → Result (List ℕ) ScriptStop → Type 0
  SaysOr line (Ok text) = Says text line
  SaysOr line (Err stop) = SaysNothing line stop

  -- one line has printed all that it prints
  pub record LineAnswered (line : Line) (held_old held_new : Option (List ℕ)) (before now : ℕ) : Type 0 where
    pub text : List ℕ
    pub says : Says text line
    pub gained : Gained held_old held_new text
    pub sound : now ≡ before

  -- one line isn't answered whole
  pub data LineStops (line : Line) (held_old held_new : Option (List ℕ)) (before now : ℕ) : ScriptStop → Type 0 where
    silent : (stop : ScriptStop) → SaysNothing line stop → Gained held_old held_new [] → now ≡ before
        → LineStops line held_old held_new before now stop
    cut : (text front : List ℕ) → Says text line → IsCut front text → Gained held_old held_new front → Rose before now
        → LineStops line held_old held_new before now stops.WriteFault

-- why no line could be read
abbrev pub stop_of : ReadStop → ScriptStop
stop_of reading.ReadFault = stops.ReadFault
stop_of reading.LineTooLong = stops.LineTooLong
stop_of reading.ScriptTooLong = stops.ScriptTooLong
stop_of reading.NoMemory = stops.NoMemory

-- What answering a script does over a caller, whose history it continues.
pub record AnswersLines {K : Type 0} (seen : K → CallerView) (leads : K → K → Type 0) (old new : K)
    (before after : Streams) (end : ScriptEnd) : Type 0 where
  pub added : List Entry
  pub grows : Grows (seen old) (seen new) added
  pub answers : AnswersScript (seen new).start (seen new).trail (seen new).rest before after
      (length (seen old).trail) end
  pub full : (size : ℕ) → end ≡ Err (stops.JournalFull size) → size ≡ (seen new).length
  pub failed : end ≡ Err stops.DiskFault → (seen new).faults ≢ 0
  pub leads_on : leads old new
