-- How a round of sending goes, and how it ends.
use Rattle.std.specs.Prelude.{◌≡◌, ℕ, zero, suc, ◌+◌, Bool, true, false, not, List, [], ◌∷◌, ◌++◌, length, map, ◌==◌}
use Rattle.std.specs.Prelude.{count_by, Option, Some, None, Result, Ok, Err}
use Rattle.entry_form.specs.declared.command.Command.TheVariants.{TakeLock, Release, SendBegun, SendEnded}
use Rattle.entry_form.specs.declared.entry.Entry.{Entry}
use Rattle.entry_form.specs.declared.hand.Hand.{Hand}
use Rattle.entry_form.specs.declared.hand.Lock.TheVariants.{Instances}
use Rattle.entry_form.specs.declared.hand.Round.TheVariants.{Send}
use Rattle.field_io.specs.declared.exchange.Exchange.{Exchange}
use Rattle.device_state.specs.declared.state.State.{State}
use Rattle.device_rules.specs.declared.answer.Answer.{Answer}
use Rattle.device_rules.specs.declared.answer.Answer.TheVariants as answers
use Rattle.device_rules.specs.declared.answer.NextSend.{NextSend}
use Rattle.device_rules.specs.declared.answer.Query.TheVariants as queries
use Rattle.device_rules.specs.declared.refused.Refused.TheVariants.{Busy, NothingDue}
use Rattle.device_rules.specs.declared.told.SubmitFault.{SubmitFault}
use Rattle.device_rules.specs.declared.told.SubmitFault.TheVariants as faults
use Rattle.device_rules.specs.Caller.{CallerView, Grows, SameRest, Refuses, IsCallFault, IsLookFault, raised}
use Rattle.device_rules.specs.SendEnded.{is_taken}
use Rattle.entry_form.specs.declared.command.Outcome.{Outcome}
use Rattle.entry_form.specs.declared.command.Outcome.TheVariants.{Reply, Fault}
use Rattle.http_exchange.specs.declared.got.Got.{Got}
use Rattle.http_exchange.specs.declared.got.Got.TheVariants as got
use Rattle.send_workers.specs.declared.one_send.Turn.{Turn}
use Rattle.send_workers.specs.declared.one_send.Turn.TheVariants as turns
use Rattle.send_workers.specs.declared.round.RoundEnd.{RoundEnd}
use Rattle.send_workers.specs.declared.round.RoundEnd.TheVariants as ends
use Rattle.send_workers.specs.declared.round.Tally.{Tally}
use Rattle.send_workers.specs.Exchanges.{Agrees, GainsAll}
use Rattle.send_workers.specs.Sends.{Sending, Waits, Comes, IsNext, Begins, IsCarried, AreSent}

-- the sends that a round tries at most
abbrev pub most_sends : ℕ
most_sends = 10000

-- what a round sees: its caller, and the exchanges of its dialer, where they are told
pub record RoundView : Type 0 where
  pub caller : CallerView
  pub carried : Option (List Exchange)

abbrev pub view : CallerView → Option (List Exchange) → RoundView
view caller carried = record { caller = caller; carried = carried }

abbrev pub exchanges_of : List Sending → List Exchange
exchanges_of sends = map (λ s. s.exchange) sends

-- a count that was raised so often
abbrev pub raised_by : ℕ → ℕ → ℕ
raised_by zero count = count
raised_by (suc times) count = raised (raised_by times count)

-- entries were added, and none that an append has left
pub record GoesOn (old now : CallerView) : Type 0 where
  pub added : List Entry
  pub grows : Grows old now added
  pub rest : SameRest old now

-- ---- how far a round came

-- the hand has taken the lock, and made these sends up to this history
pub record Went (old : CallerView) (sends : List Sending) (last : List Entry) : Type 0 where
  pub taken : List Entry
  pub takes : Comes old.hand old.trail (TakeLock Send) taken
  pub sent : AreSent old.start old.hand taken sends last

-- these sends are made, and so many were refused since they weren't due any more
pub record HasSent (old now : RoundView) (sends : List Sending) (refused : ℕ) : Type 0 where
  pub on : GoesOn old.caller now.caller
  pub last : List Entry
  pub went : Went old.caller sends last
  pub waits : Waits old.caller.hand last now.caller.trail
  pub gained : GainsAll old.carried now.carried (exchanges_of sends)
  pub refusals : now.caller.refusals ≡ raised_by refused old.caller.refusals

-- and another one is begun
pub record HasBegun (old now : RoundView) (sends : List Sending) (refused : ℕ) (named : NextSend) (at : ℕ) : Type 0 where
  pub on : GoesOn old.caller now.caller
  pub last : List Entry
  pub went : Went old.caller sends last
  pub begun : List Entry
  pub begins : Begins old.caller.start old.caller.hand last named at begun
  pub waits : Waits old.caller.hand begun now.caller.trail
  pub gained : GainsAll old.carried now.carried (exchanges_of sends)
  pub refusals : now.caller.refusals ≡ raised_by refused old.caller.refusals

-- and its exchange is made
pub record HasCarried (old now : RoundView) (sends : List Sending) (refused : ℕ) (s : Sending) : Type 0 where
  pub on : GoesOn old.caller now.caller
  pub last : List Entry
  pub went : Went old.caller sends last
  pub begun : List Entry
  pub begins : Begins old.caller.start old.caller.hand last s.named s.at begun
  pub waits : Waits old.caller.hand begun now.caller.trail
  pub carried : IsCarried s
  pub gained : GainsAll old.carried now.carried (exchanges_of (sends ++ s ∷ []))
  pub refusals : now.caller.refusals ≡ raised_by refused old.caller.refusals

-- ---- how it ends

-- the end of a round whose lock is held, where the fault says so
abbrev pub busy_in : SubmitFault → Option RoundEnd
busy_in (faults.Refused position (Busy hand since)) =
    Some (ends.Busy position (record { hand = hand; since = since }))
busy_in fault = None

-- the fault says that the instance isn't due any more
abbrev pub is_not_due : SubmitFault → Bool
is_not_due (faults.Refused position NothingDue) = true
is_not_due fault = false

-- behind the last send of a round and up to another history nothing is left to send, or as many sends were tried as a
-- round tries
pub data NoneLeft (start : State) (hand : Hand) (sends : List Sending) (refused : ℕ) (last until : List Entry) : Type 0 where
  none : IsNext start hand last until None → NoneLeft start hand sends refused last until
  tired : length sends + refused ≡ most_sends → NoneLeft start hand sends refused last until

abbrev pub was_taken : Sending → Bool
was_taken s = is_taken s.outcome

-- The round has made all its sends and given the lock back.
pub record HasRun (old new : RoundView) (position good bad : ℕ) : Type 0 where
  pub mid : RoundView
  pub sends : List Sending
  pub refused : ℕ
  pub sent : HasSent old mid sends refused
  pub on : GoesOn old.caller new.caller
  pub released : List Entry
  pub releases : Comes old.caller.hand sent.last (Release Instances) released
  pub none_left : NoneLeft old.caller.start old.caller.hand sends refused sent.last releases.before
  pub waits : Waits old.caller.hand released new.caller.trail
  pub gained : GainsAll old.carried new.carried (exchanges_of sends)
  pub place : position ≡ length released
  pub good_is : good ≡ count_by was_taken sends
  pub bad_is : bad ≡ count_by (λ s. not (was_taken s)) sends

-- The last call was answered by this fault.
pub data Stops (old new : RoundView) (fault : SubmitFault) : Type 0 where
  at_lock : busy_in fault ≡ None → IsCallFault old.caller new.caller (TakeLock Send) fault → new.carried ≡ old.carried
      → Stops old new fault
  at_look : (mid : RoundView) (sends : List Sending) (refused : ℕ) → HasSent old mid sends refused
      → IsLookFault mid.caller new.caller queries.NextSend fault → new.carried ≡ mid.carried → Stops old new fault
  at_begin : (mid : RoundView) (sends : List Sending) (refused : ℕ) (named : NextSend) (at : ℕ)
      → (sent : HasSent old mid sends refused)
      → IsNext old.caller.start old.caller.hand sent.last mid.caller.trail (Some named) → is_not_due fault ≡ false
      → IsCallFault mid.caller new.caller (SendBegun named.number at) fault → new.carried ≡ mid.carried
      → Stops old new fault
  at_end : (mid : RoundView) (sends : List Sending) (refused : ℕ) (s : Sending) → HasCarried old mid sends refused s
      → IsCallFault mid.caller new.caller (SendEnded s.named.number s.outcome) fault → new.carried ≡ mid.carried
      → Stops old new fault
  at_release : (mid : RoundView) (sends : List Sending) (refused : ℕ) → (sent : HasSent old mid sends refused)
      → NoneLeft old.caller.start old.caller.hand sends refused sent.last mid.caller.trail
      → IsCallFault mid.caller new.caller (Release Instances) fault → new.carried ≡ mid.carried → Stops old new fault

-- Memory ran out before a send was begun, or before its exchange.
pub data Starves (old new : RoundView) : Type 0 where
  unbegun : (sends : List Sending) (refused : ℕ) → HasSent old new sends refused → Starves old new
  begun : (sends : List Sending) (refused : ℕ) (named : NextSend) (at : ℕ) → HasBegun old new sends refused named at
      → Starves old new

-- ---- its parts

-- what is named by the answer to the question for it
abbrev pub named_in : Answer → Option NextSend
named_in (answers.NextSend next) = next
named_in answer = None

-- the answer says that the server accepted what was sent
abbrev pub is_one : Answer → Bool
is_one (answers.Number n) = n == 1
is_one answer = false

-- what is recorded of an exchange
abbrev pub outcome_of : Got → Option Outcome
outcome_of (got.Reply bytes) = Some (Reply bytes)
outcome_of (got.Fault stage) = Some (Fault stage)
outcome_of got.NoMemory = None

module _ (old new : RoundView) (sends : List Sending) (refused : ℕ) where
  -- this is to be sent next, or nothing
  abbrev pub Names : Option NextSend → Type 0
  Names next =
      (sent : HasSent old new sends refused)
      × IsNext old.caller.start old.caller.hand sent.last new.caller.trail next

  -- what a look for it has led to
  abbrev pub Looked : Result (Option NextSend) SubmitFault → Type 0
  Looked (Ok next) = Names next
  Looked (Err fault) = Stops old new fault

  -- it is begun, or wasn't due any more
  abbrev pub Begun : NextSend → ℕ → Result Bool SubmitFault → Type 0
  Begun named at (Ok true) = HasBegun old new sends refused named at
  Begun named at (Ok false) = HasSent old new sends (suc refused)
  Begun named at (Err fault) = Stops old new fault

  -- its end is recorded, as that of one that was accepted or not
  abbrev pub Ended : Sending → Result Bool SubmitFault → Type 0
  Ended s (Ok taken) = HasSent old new (sends ++ s ∷ []) refused × (taken ≡ was_taken s)
  Ended s (Err fault) = Stops old new fault

  -- why there is no turn
  abbrev pub Fails : RoundEnd → Type 0
  Fails (ends.Stopped fault) = Stops old new fault
  Fails ends.NoMemory = Starves old new
  Fails (ends.Busy position held) = ⊥
  Fails (ends.Ran position good bad hidden) = ⊥

  -- one turn of the round
  abbrev pub Turned : Result Turn RoundEnd → Type 0
  Turned (Ok turns.NoneLeft) = Names None
  Turned (Ok turns.NotDue) = HasSent old new sends (suc refused)
  Turned (Ok (turns.Sent taken)) = (s : Sending) × HasSent old new (sends ++ s ∷ []) refused × (taken ≡ was_taken s)
  Turned (Err end) = Fails end

-- what came of an exchange, if it was made
abbrev pub CarriesOut : List ℕ → List ℕ → Option (List Exchange) → Option (List Exchange) → Option Outcome → Type 0
CarriesOut authority request before now None = now ≡ before
CarriesOut authority request before now (Some outcome) =
    (x : Exchange) × Agrees authority request x outcome × GainsAll before now (x ∷ [])

-- one send more, accepted or not
abbrev pub with_one : Tally → Bool → Tally
with_one tally true = record tally { good = tally.good + 1 }
with_one tally false = record tally { bad = tally.bad + 1 }

-- all sends of the round are made, so many of them accepted and so many not
pub record AllSent (old new : RoundView) (tally : Tally) : Type 0 where
  pub sends : List Sending
  pub refused : ℕ
  pub sent : HasSent old new sends refused
  pub none_left : NoneLeft old.caller.start old.caller.hand sends refused sent.last new.caller.trail
  pub good_is : tally.good ≡ count_by was_taken sends
  pub bad_is : tally.bad ≡ count_by (λ s. not (was_taken s)) sends

abbrev pub SentAll : RoundView → RoundView → Result Tally RoundEnd → Type 0
SentAll old new (Ok tally) = AllSent old new tally
SentAll old new (Err end) = (sends : List Sending) × (refused : ℕ) × Fails old new sends refused end

-- what the end of a round says of it
abbrev pub Rounds : RoundView → RoundView → RoundEnd → Type 0
Rounds old new (ends.Busy position held) =
    Refuses old.caller new.caller (TakeLock Send) position (Busy held.hand held.since) × (new.carried ≡ old.carried)
Rounds old new (ends.Ran position good bad hidden) = HasRun old new position good bad × (hidden ≡ 0)
Rounds old new (ends.Stopped fault) = Stops old new fault
Rounds old new ends.NoMemory = Starves old new

-- the lock is taken, or the round ends so
abbrev pub Locked : {T : Type 0} → RoundView → RoundView → Result T RoundEnd → Type 0
Locked old new (Ok _) = HasSent old new [] 0
Locked old new (Err end) = Rounds old new end
