-- A hand takes the lock of the instances for a round of sending. Rounds of other kinds aren't known yet.
use Rattle.std.specs.Prelude.{ℕ, ◌+◌, Ok}
use Rattle.change_locks.specs.declared.held.Held.{Held}
use Rattle.device_state.specs.declared.state.State.{State}
use Rattle.device_state.specs.Holding.{taken}
use Rattle.device_state.specs.State.{one_further}
use Rattle.entry_form.specs.declared.hand.Hand.{Hand}
use Rattle.entry_form.specs.declared.hand.Lock.TheVariants as locks
use Rattle.entry_form.specs.declared.hand.Round.{Round}
use Rattle.entry_form.specs.declared.hand.Round.TheVariants.{Forms, Lists, Send}
use Rattle.field_text.specs.Steps.{◌>>=◌}
use Rattle.device_rules.specs.declared.answer.Answer.TheVariants.{Done}
use Rattle.device_rules.specs.Holders.{free}
use Rattle.device_rules.specs.NotBuilt.{not_built}
use Rattle.device_rules.specs.Tests.{Stepped, not_full}

-- held by the hand since the next entry
abbrev pub held_next : State → Hand → Held
held_next state hand = record { hand = hand; since = state.counters.position + 1 }

abbrev pub with_round : State → Hand → State
with_round state hand = record state {
  counters = one_further state.counters;
  locks = taken locks.Instances (held_next state hand) state.locks;
}

abbrev pub take_instances : State → Hand → Stepped
take_instances state hand = do
  nobody ← free state.locks.instances
  room ← not_full state
  Ok (with_round state hand, Done)

abbrev pub take_lock : State → Hand → Round → Stepped
take_lock state hand Forms = not_built state
take_lock state hand Lists = not_built state
take_lock state hand Send = take_instances state hand
