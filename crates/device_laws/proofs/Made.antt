-- What a rule of sending makes, behind its tests.
use Rattle.std.proofs.Common.{◌≡◌, ℕ, false, Some, Ok}
use Rattle.std.specs.Prelude.{not, if◌then◌else◌}
use Rattle.std.specs.List.{list_any}
use Rattle.std.specs.Option.{option_map_or}
use Rattle.field_text.proofs.StepLemmas.{then_ok}
use Rattle.change_locks.specs.Locks.{holder_of}
use Rattle.device_rules.specs.declared.answer.Answer.{Answer}
use Rattle.device_rules.specs.declared.answer.Answer.TheVariants.{Done, Number}
use Rattle.device_rules.specs.declared.refused.Refused.TheVariants.{InFlight, InUse, NoInstance, NotInFlight, NothingDue}
use Rattle.device_rules.specs.declared.refused.Refused.TheVariants.{WrongStatus}
use Rattle.device_rules.specs.DropInstance.{drop_instance, stands_on, without}
use Rattle.device_rules.specs.Due.{is_queued}
use Rattle.device_rules.specs.Holders.{free, free_for, held_by}
use Rattle.device_rules.specs.Release.{none_in_flight, release, without_lock}
use Rattle.device_rules.specs.SendBegun.{is_early, send_begun, sending}
use Rattle.device_rules.specs.SendEnded.{ended_as, is_taken, send_ended}
use Rattle.device_rules.specs.Start.{instance_of}
use Rattle.device_rules.specs.TakeLock.{take_instances, with_round}
use Rattle.device_rules.specs.Tests.{found_or, not_full, refused_if}
use Rattle.device_state.specs.declared.state.State.{State}
use Rattle.device_state.specs.Flights.{has_flight, is_flight}
use Rattle.entry_form.specs.declared.command.Outcome.{Outcome}
use Rattle.entry_form.specs.declared.hand.Hand.{Hand}
use Rattle.entry_form.specs.declared.hand.Lock.{Lock}
use Rattle.instance_store.specs.declared.records.InstanceRec.{InstanceRec}
use Rattle.device_laws.proofs.Following.{ended}
use Rattle.device_laws.proofs.Starts.{found_some}

-- ---- a lock is taken and given back

pub record IsTaking (state : State) (hand : Hand) (x : State × Answer) : Type 0 where
  pub nobody : free state.locks.instances ≡ Ok tt
  pub made : ended (with_round state hand, Done) ≡ ended x

pub taking : (state : State) (hand : Hand) (x : State × Answer) → take_instances state hand ≡ Ok x
    → IsTaking state hand x
taking state hand x is =
    let nobody = then_ok (free state.locks.instances) _ x is in
    record { nobody = nobody.1; made = (then_ok (not_full state) _ x nobody.2).2 }

pub record IsReleasing (state : State) (hand : Hand) (lock : Lock) (x : State × Answer) : Type 0 where
  pub held : held_by hand (holder_of state.locks lock) ≡ Ok tt
  pub none : none_in_flight state hand lock ≡ Ok tt
  pub made : ended (without_lock state hand lock, Done) ≡ ended x

pub releasing : (state : State) (hand : Hand) (lock : Lock) (x : State × Answer) → release state hand lock ≡ Ok x
    → IsReleasing state hand lock x
releasing state hand lock x is =
    let held = then_ok (held_by hand (holder_of state.locks lock)) _ x is in
    let room = then_ok (not_full state) _ x held.2 in
    let none = then_ok (none_in_flight state hand lock) _ x room.2 in
    record { held = held.1; none = none.1; made = none.2 }

-- ---- a send

pub record IsBeginning (state : State) (hand : Hand) (number : ℕ) (x : State × Answer) : Type 0 where
  pub held : held_by hand state.locks.instances ≡ Ok tt
  pub due : refused_if (option_map_or (is_early state hand) (instance_of state number) false) NothingDue ≡ Ok tt
  pub instance : InstanceRec
  pub found : instance_of state number ≡ Some instance
  pub queued : refused_if (not (is_queued instance)) (WrongStatus instance.status) ≡ Ok tt
  pub made : ended (sending state hand number, Done) ≡ ended x

pub beginning : (state : State) (hand : Hand) (number : ℕ) (x : State × Answer) → send_begun state hand number ≡ Ok x
    → IsBeginning state hand number x
beginning state hand number x is =
    let held = then_ok (held_by hand state.locks.instances) _ x is in
    let early = option_map_or (is_early state hand) (instance_of state number) false in
    let due = then_ok (refused_if early NothingDue) _ x held.2 in
    let there = then_ok (found_or (instance_of state number) NoInstance) _ x due.2 in
    let queued = then_ok (refused_if (not (is_queued there.0)) (WrongStatus there.0.status)) _ x there.2 in
    record {
      held = held.1;
      due = due.1;
      instance = there.0;
      found = found_some (instance_of state number) NoInstance there.0 there.1;
      queued = queued.1;
      made = (then_ok (not_full state) _ x queued.2).2;
    }

pub record IsEnding (state : State) (hand : Hand) (number : ℕ) (outcome : Outcome) (x : State × Answer) : Type 0 where
  pub flown : refused_if (not (list_any (is_flight hand number) state.flights.items)) NotInFlight ≡ Ok tt
  pub made : ended (ended_as state hand number (is_taken outcome), Number (if is_taken outcome then 1 else 0)) ≡ ended x

pub ending : (state : State) (hand : Hand) (number : ℕ) (outcome : Outcome) (x : State × Answer)
    → send_ended state hand number outcome ≡ Ok x → IsEnding state hand number outcome x
ending state hand number outcome x is =
    let room = then_ok (not_full state) _ x is in
    let there = then_ok (refused_if (not (list_any (is_flight hand number) state.flights.items)) NotInFlight) _ x room.2 in
    record { flown = there.1; made = there.2 }

-- ---- an instance is thrown away

pub record IsDropping (state : State) (number : ℕ) (x : State × Answer) : Type 0 where
  pub idle : refused_if (has_flight number state.flights.items) (InFlight number) ≡ Ok tt
  pub made : ended (without state number, Done) ≡ ended x

pub dropping : (state : State) (hand : Hand) (number : ℕ) (x : State × Answer) → drop_instance state hand number ≡ Ok x
    → IsDropping state number x
dropping state hand number x is =
    let nobody = then_ok (free_for hand state.locks.instances) _ x is in
    let there = then_ok (found_or (instance_of state number) NoInstance) _ x nobody.2 in
    let unused = then_ok (refused_if (stands_on number state.entry) (InUse number)) _ x there.2 in
    let room = then_ok (not_full state) _ x unused.2 in
    let idle = then_ok (refused_if (has_flight number state.flights.items) (InFlight number)) _ x room.2 in
    record { idle = idle.1; made = idle.2 }
