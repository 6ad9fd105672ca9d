-- What a hand sees of the device that it calls, and what its calls do.
use Rattle.std.specs.Prelude.{◌≡◌, ◌≢◌, ℕ, ◌+◌, ◌-◌, ◌^◌, ◌<◌, ◌≤◌, min, List, [], ◌∷◌, ◌++◌, length, take, Bool}
use Rattle.std.specs.Prelude.{true, false, if◌then◌else◌, ◌==◌, Some, Result, Ok, Err}
use Rattle.std.specs.List.{filter, AllByRecursion}
use Rattle.field_text.specs.Steps.{Tells}
use Rattle.entry_form.specs.declared.command.Command.{Command}
use Rattle.entry_form.specs.declared.entry.Entry.{Entry}
use Rattle.entry_form.specs.declared.entry.Entry.TheVariants.{Opened, Done}
use Rattle.entry_form.specs.declared.hand.Hand.{Hand}
use Rattle.entry_form.specs.Entry.{owner}
use Rattle.entry_form.specs.Hand.{hand_number}
use Rattle.entry_codec.specs.Spelling.{spelling}
use Rattle.device_rules.specs.declared.answer.Query.{Query}
use Rattle.device_rules.specs.declared.refused.Refused.{Refused}
use Rattle.device_state.specs.declared.state.State.{State}
use Rattle.device_rules.specs.declared.told.SubmitFault.{SubmitFault}
use Rattle.device_rules.specs.declared.told.SubmitFault.TheVariants as faults
use Rattle.device_rules.specs.declared.told.Told.{Told}
use Rattle.device_rules.specs.Answers.{answer_to}
use Rattle.device_rules.specs.Due.{due_for}
use Rattle.device_rules.specs.Limits.{largest_journal}
use Rattle.device_rules.specs.Refused.{rule_of}
use Rattle.device_rules.specs.Step.{step, IsRefused}
use Rattle.device_rules.specs.Trail.{replay, IsLegal}

-- What a caller shows: its hand, the state that its history starts from, the history with the entries of all hands, the
-- entries behind it whose append met a fault of the disk, which a crash may leave, and its counts.
pub record CallerView : Type 0 where
  pub hand : Hand
  pub start : State
  pub trail : List Entry
  pub rest : List Entry
  -- faults of the disk
  pub faults : ℕ
  -- bytes of the journal
  pub length : ℕ
  -- calls that were refused
  pub refusals : ℕ
  -- times that the end was announced
  pub closings : ℕ

-- its entries and those behind them are a run of the rules
pub record HasLegal (view : CallerView) : Type 0 where
  pub legal : IsLegal view.start (view.trail ++ view.rest)

-- ---- whose entries they are

abbrev pub is_of : Hand → Entry → Bool
is_of hand entry = owner entry == hand_number hand

abbrev pub of_hand : Hand → List Entry → List Entry
of_hand hand entries = filter (is_of hand) entries

abbrev pub IsCommand : Entry → Type 0
IsCommand (Opened opening) = ⊥
IsCommand (Done hand command) = Unit {0}

-- ---- what any call does

-- a count that rises by one; at the end of its type it stays
abbrev pub raised : ℕ → ℕ
raised count = min (count + 1) (2 ^ 64 - 1)

-- entries were added to the history, no opening among them, and no count has fallen
pub record Grows (old new : CallerView) (added : List Entry) : Type 0 where
  pub hand : new.hand ≡ old.hand
  pub start : new.start ≡ old.start
  pub trail : new.trail ≡ old.trail ++ added
  pub commands : AllByRecursion IsCommand added
  pub faults : old.faults ≤ new.faults
  pub length : old.length ≤ new.length
  pub refusals : old.refusals ≤ new.refusals
  pub closings : old.closings ≤ new.closings

-- other hands' entries were added, and none of this one
pub record AddsOthers (old new : CallerView) : Type 0 where
  pub added : List Entry
  pub grows : Grows old new added
  pub others : of_hand old.hand added ≡ []

-- behind the history are the same entries of this hand
abbrev pub SameRest : CallerView → CallerView → Type 0
SameRest old new = of_hand old.hand new.rest ≡ of_hand old.hand old.rest

-- so many entries of the history lead to a state, at least those from before the call
pub record Reaches (old new : CallerView) (position : ℕ) (state : State) : Type 0 where
  pub low : length old.trail ≤ position
  pub high : position ≤ length new.trail
  pub reached : replay old.start (take position new.trail) ≡ Some state

-- ---- a command

-- The command is the hand's one new entry, at the position told. Other hands' entries may stand before it and behind
-- it.
pub record Accepts (old new : CallerView) (command : Command) (told : Told) : Type 0 where
  pub before : List Entry
  pub after : List Entry
  pub grows : Grows old new (before ++ Done old.hand command ∷ after)
  pub others_before : of_hand old.hand before ≡ []
  pub others_after : of_hand old.hand after ≡ []
  pub place : told.position ≡ length old.trail + length before + 1
  pub state : State
  pub next : State
  pub reached : replay old.start (old.trail ++ before) ≡ Some state
  pub stepped : step state (Done old.hand command) ≡ Ok (next, told.answer)
  pub rest : SameRest old new
  pub refusals : new.refusals ≡ old.refusals
  pub closings : new.closings ≡ old.closings

-- the rules refuse the command on the state after so many entries
pub record Refuses (old new : CallerView) (command : Command) (position : ℕ) (why : Refused) : Type 0 where
  pub others : AddsOthers old new
  pub state : State
  pub reaches : Reaches old new position state
  pub refused : IsRefused state (Done old.hand command) why
  pub rest : SameRest old new
  pub refusals : new.refusals ≡ raised old.refusals
  pub closings : new.closings ≡ old.closings

-- the command's entry doesn't fit the journal, which has this length
pub record IsFullAt (old new : CallerView) (command : Command) (size : ℕ) : Type 0 where
  pub others : AddsOthers old new
  pub is_length : size ≡ new.length
  pub past : largest_journal < size + 5 + length (spelling (Done old.hand command))
  pub rest : SameRest old new
  pub refusals : new.refusals ≡ old.refusals
  pub closings : new.closings ≡ old.closings

-- the append of the command's entry met a fault of the disk: the entry may last or not
pub record LeavesRest (old new : CallerView) (command : Command) : Type 0 where
  pub others : AddsOthers old new
  pub failed : new.faults ≢ 0
  pub rest : of_hand old.hand new.rest ≡ of_hand old.hand old.rest ++ Done old.hand command ∷ []
  pub refusals : new.refusals ≡ old.refusals
  pub closings : new.closings ≡ old.closings

-- an earlier call met a fault of the disk
pub record HasFailed (old new : CallerView) : Type 0 where
  pub others : AddsOthers old new
  pub failed : new.faults ≢ 0
  pub rest : SameRest old new
  pub refusals : new.refusals ≡ old.refusals
  pub closings : new.closings ≡ old.closings

abbrev pub IsCallFault : CallerView → CallerView → Command → SubmitFault → Type 0
IsCallFault old new command (faults.Refused position why) = Refuses old new command position why
IsCallFault old new command (faults.Full size) = IsFullAt old new command size
IsCallFault old new command faults.DiskFault = LeavesRest old new command
IsCallFault old new command (faults.Failed count) = HasFailed old new

abbrev pub Calls : CallerView → CallerView → Command → Result Told SubmitFault → Type 0
Calls old new command (Ok told) = Accepts old new command told
Calls old new command (Err fault) = IsCallFault old new command fault

-- ---- a query

-- a look adds nothing of the hand's own
pub record LooksOn (old new : CallerView) : Type 0 where
  pub others : AddsOthers old new
  pub rest : SameRest old new
  pub refusals : new.refusals ≡ old.refusals
  pub closings : new.closings ≡ old.closings

-- the query is answered on the state after so many entries
pub record Shows (old new : CallerView) (query : Query) (told : Told) : Type 0 where
  pub looks : LooksOn old new
  pub state : State
  pub reaches : Reaches old new told.position state
  pub answered : answer_to state old.hand query ≡ Ok told.answer

-- and refused on it
pub record HidesFor (old new : CallerView) (query : Query) (position : ℕ) (why : Refused) : Type 0 where
  pub looks : LooksOn old new
  pub state : State
  pub reaches : Reaches old new position state
  pub refused : Tells (rule_of why) (answer_to state old.hand query)

abbrev pub IsLookFault : CallerView → CallerView → Query → SubmitFault → Type 0
IsLookFault old new query (faults.Refused position why) = HidesFor old new query position why
IsLookFault old new query (faults.Full size) = ⊥
IsLookFault old new query faults.DiskFault = LooksOn old new × (new.faults ≢ 0)
IsLookFault old new query (faults.Failed count) = LooksOn old new × (new.faults ≢ 0)

abbrev pub Looks : CallerView → CallerView → Query → Result Told SubmitFault → Type 0
Looks old new query (Ok told) = Shows old new query told
Looks old new query (Err fault) = IsLookFault old new query fault

-- ---- what is due, and the end

-- so much is due for the hand on the state behind the history
pub record Dues (old new : CallerView) (count : ℕ) : Type 0 where
  pub looks : LooksOn old new
  pub state : State
  pub reached : replay new.start new.trail ≡ Some state
  pub due : count ≡ due_for state old.hand

-- the end is announced or not, and counted
pub record Closes (old new : CallerView) (announced : Bool) : Type 0 where
  pub others : AddsOthers old new
  pub rest : SameRest old new
  pub refusals : new.refusals ≡ old.refusals
  pub closings : new.closings ≡ (if announced then raised old.closings else old.closings)
