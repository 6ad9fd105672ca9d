-- A hand begins to send an instance that is due for it: before the first byte goes out, the instance is in flight and was
-- tried at this entry.
use Rattle.std.specs.Prelude.{ℕ, ◌+◌, ◌++◌, ◌∷◌, [], Bool, false, not, ◌&&◌, Option, Ok}
use Rattle.std.specs.Option.{option_map_or}
use Rattle.device_state.specs.declared.state.State.{State}
use Rattle.device_state.specs.Numbered.{tried_at}
use Rattle.device_state.specs.State.{bare, one_further}
use Rattle.entry_form.specs.declared.hand.Hand.{Hand}
use Rattle.field_text.specs.Steps.{◌>>=◌}
use Rattle.instance_store.specs.declared.records.InstanceRec.{InstanceRec}
use Rattle.device_rules.specs.declared.answer.Answer.TheVariants.{Done}
use Rattle.device_rules.specs.declared.refused.Refused.TheVariants.{NoInstance, NothingDue, WrongStatus}
use Rattle.device_rules.specs.Due.{is_due, is_queued}
use Rattle.device_rules.specs.Holders.{held_by}
use Rattle.device_rules.specs.Start.{instance_of}
use Rattle.device_rules.specs.Tests.{Stepped, found_or, not_full, refused_if}

-- it waits to be sent, and isn't due for this hand
abbrev pub is_early : State → Hand → InstanceRec → Bool
is_early state hand instance = is_queued instance && not (is_due state hand instance)

abbrev pub sending : State → Hand → ℕ → State
sending state hand number = record state {
  counters = one_further state.counters;
  instances = bare (tried_at (state.counters.position + 1) number state.instances.items);
  flights = bare (state.flights.items ++ record { hand = hand; number = number } ∷ []);
}

abbrev pub send_begun : State → Hand → ℕ → Stepped
send_begun state hand number = do
  held ← held_by hand state.locks.instances
  due ← refused_if (option_map_or (is_early state hand) (instance_of state number) false) NothingDue
  instance ← found_or (instance_of state number) NoInstance
  queued ← refused_if (not (is_queued instance)) (WrongStatus instance.status)
  room ← not_full state
  Ok (sending state hand number, Done)
