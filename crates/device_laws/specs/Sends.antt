-- What holds of sends over every legal history: an instance is sent exactly where a reply that accepts it was recorded for
-- a send of it that was begun, it waits in the queue until then, and one send of it is in flight at most.
use Rattle.std.specs.Prelude.{◌≡◌, ℕ, Bool, true, false, not, ◌&&◌, ◌==◌, List, ◌∷◌, ◌++◌, Some, Ok}
use Rattle.std.specs.List.{AllByRecursion, list_any}
use Rattle.entry_form.specs.declared.command.Command.TheVariants as commands
use Rattle.entry_form.specs.declared.command.Outcome.{Outcome}
use Rattle.entry_form.specs.declared.entry.Entry.{Entry}
use Rattle.entry_form.specs.declared.entry.Entry.TheVariants.{Opened, Done}
use Rattle.entry_form.specs.declared.hand.Hand.{Hand}
use Rattle.entry_form.specs.Hand.{hand_number}
use Rattle.device_state.specs.declared.flight.Flight.{Flight}
use Rattle.device_state.specs.declared.state.State.{State}
use Rattle.device_state.specs.Holding.{is_held_by}
use Rattle.device_state.specs.State.{initial}
use Rattle.device_rules.specs.declared.answer.Answer.{Answer}
use Rattle.device_rules.specs.Due.{is_queued}
use Rattle.device_rules.specs.Answers.{is_sent}
use Rattle.device_rules.specs.FinalizeAll.{is_finalized}
use Rattle.device_rules.specs.SendEnded.{is_taken}
use Rattle.device_rules.specs.Step.{step}
use Rattle.device_rules.specs.Trail.{replay}
use Rattle.instance_store.specs.declared.records.InstanceRec.{InstanceRec}
use Rattle.device_laws.specs.Finals.{DoDiffer, sent_numbers}
use Rattle.device_laws.specs.Soundness.{AnyByRecursion}

-- ---- what entries record

-- a reply that accepts the instance with this number
abbrev pub records_taken : ℕ → Entry → Bool
records_taken number (Done hand (commands.SendEnded n outcome)) = (n == number) && is_taken outcome
records_taken number entry = false

abbrev pub was_taken : ℕ → List Entry → Bool
was_taken number entries = list_any (records_taken number) entries

-- the end of a send that this hand has begun for the instance with this number; an opening ends all
abbrev pub ends_send : Hand → ℕ → Entry → Bool
ends_send hand number (Opened opening) = true
ends_send hand number (Done other (commands.SendEnded n outcome)) =
    (hand_number other == hand_number hand) && (n == number)
ends_send hand number entry = false

-- the hand has begun a send of the instance with this number, and nothing has ended it
pub record WasBegun (entries : List Entry) (hand : Hand) (number : ℕ) : Type 0 where
  pub before : List Entry
  pub between : List Entry
  pub at : ℕ
  pub is : entries ≡ before ++ Done hand (commands.SendBegun number at) ∷ between
  pub unended : list_any (ends_send hand number) between ≡ false

-- ---- one state

-- The instance is sent exactly where a reply that accepts it is recorded. A finalized one is in the queue until then.
pub record IsSentAsRecorded (entries : List Entry) (i : InstanceRec) : Type 0 where
  pub sent : is_sent i ≡ was_taken i.number entries
  pub queued : is_finalized i ≡ true → is_queued i ≡ not (was_taken i.number entries)

-- the instance with this number is in the queue
pub record IsQueuedAs (number : ℕ) (i : InstanceRec) : Type 0 where
  pub same : i.number ≡ number
  pub queued : is_queued i ≡ true

-- a send in flight is of the hand that holds the instances, and of an instance that is kept and in the queue
pub record IsRightFlight (state : State) (flight : Flight) : Type 0 where
  pub holder : is_held_by flight.hand state.locks.instances ≡ true
  pub queued : AnyByRecursion (IsQueuedAs flight.number) state.instances.items

-- no instance has two sends in flight
pub record HasOneFlightEach (state : State) : Type 0 where
  pub differ : DoDiffer (sent_numbers state.flights.items)
  pub right : AllByRecursion (IsRightFlight state) state.flights.items

-- ---- an entry

abbrev pub drops : ℕ → Entry → Bool
drops number (Done hand (commands.DropInstance n)) = n == number
drops number entry = false

-- an instance with this number is kept, and finalized
pub record IsFinalOf (number : ℕ) (i : InstanceRec) : Type 0 where
  pub same : i.number ≡ number
  pub final : is_finalized i ≡ true

-- a finalized instance is kept, if the entry doesn't throw it away
abbrev pub StaysUnlessDropped : Entry → State → InstanceRec → Type 0
StaysUnlessDropped entry next i = is_finalized i ≡ true → drops i.number entry ≡ false
    → AnyByRecursion (IsFinalOf i.number) next.instances.items

-- ---- histories

-- Behind each front of a history instances are sent as it records, each send that ends was begun, no instance has two in
-- flight, and no finalized instance leaves but by an entry that throws it away.
pub record KeepsSends (entries : List Entry) : Type 0 where
  pub sent : (front behind : List Entry) (state : State) → entries ≡ front ++ behind
      → replay initial front ≡ Some state → AllByRecursion (IsSentAsRecorded front) state.instances.items
  pub begun : (front behind : List Entry) (hand : Hand) (number : ℕ) (outcome : Outcome) (state next : State)
      (answer : Answer) → entries ≡ front ++ Done hand (commands.SendEnded number outcome) ∷ behind
      → replay initial front ≡ Some state
      → step state (Done hand (commands.SendEnded number outcome)) ≡ Ok (next, answer) → WasBegun front hand number
  pub flights : (front behind : List Entry) (state : State) → entries ≡ front ++ behind
      → replay initial front ≡ Some state → HasOneFlightEach state
  pub stays : (front behind : List Entry) (entry : Entry) (state next : State) (answer : Answer)
      → entries ≡ front ++ entry ∷ behind → replay initial front ≡ Some state → step state entry ≡ Ok (next, answer)
      → AllByRecursion (StaysUnlessDropped entry next) state.instances.items
