-- Which instances are due to be sent by a hand, and how busy a device is.
use Rattle.std.specs.Prelude.{ℕ, ◌+◌, ◌==◌, Bool, true, false, not, ◌&&◌, ◌||◌, nat_lt, find, length, Option, Some, None}
use Rattle.std.specs.List.{filter}
use Rattle.std.specs.Option.{option_and_then, option_map_or, unwrap_or}
use Rattle.change_locks.specs.declared.held.Held.{Held}
use Rattle.device_state.specs.declared.state.Counters.{Counters}
use Rattle.device_state.specs.declared.state.State.{State}
use Rattle.device_state.specs.Flights.{has_flight}
use Rattle.entry_form.specs.declared.hand.Hand.{Hand}
use Rattle.entry_form.specs.declared.hand.Hand.TheVariants as hands
use Rattle.entry_form.specs.Hand.{hand_number}
use Rattle.form_store.specs.Forms.{exact}
use Rattle.form_store.specs.declared.records.FormRec.{FormRec}
use Rattle.instance_store.specs.declared.records.InstanceRec.{InstanceRec}
use Rattle.instance_store.specs.declared.records.Status.{Status}
use Rattle.instance_store.specs.declared.records.Status.TheVariants as status
use Rattle.device_rules.specs.Start.{record_at}

abbrev pub is_waiting : Status → Bool
is_waiting status.Finalized = true
is_waiting status.SendFailed = true
is_waiting status.Draft = false
is_waiting status.Invalid = false
is_waiting status.Sent = false

-- finalized, and not taken by a server yet
abbrev pub is_queued : InstanceRec → Bool
is_queued instance = is_waiting instance.status

-- ---- one instance

-- in a round of the script: it wasn't tried since the round began
abbrev pub in_round : Option Held → InstanceRec → Bool
in_round None instance = false
in_round (Some held) instance = hand_number held.hand == hand_number hands.Script && nat_lt instance.tried held.since

-- what its form says of sending at once
abbrev pub form_auto : State → InstanceRec → Option Bool
form_auto state instance = option_and_then (λ (r : FormRec). r.auto)
    (record_at state.forms.items (exact instance.form instance.version state.forms.items))

-- it is sent at once: its form says so or, where the form says nothing, the setting
abbrev pub is_auto : State → InstanceRec → Bool
is_auto state instance = unwrap_or (form_auto state instance) state.settings.auto_send

-- it wasn't tried since it was finalized, or not since the last tick
abbrev pub is_untried : Counters → InstanceRec → Bool
is_untried counters instance = nat_lt instance.tried instance.final_at || nat_lt instance.tried counters.last_tick

-- the hand sends it now, if it is queued: the script in a round, the sender at once; the others send nothing
abbrev pub is_for : State → Hand → InstanceRec → Bool
is_for state hands.Script instance = in_round state.locks.instances instance
is_for state hands.Sender instance = is_auto state instance && is_untried state.counters instance
is_for state hands.Updater instance = false
is_for state hands.Lister instance = false

-- queued, with no send of it in flight
abbrev pub is_resting : State → InstanceRec → Bool
is_resting state instance = is_queued instance && not (has_flight instance.number state.flights.items)

abbrev pub is_due : State → Hand → InstanceRec → Bool
is_due state hand instance = is_resting state instance && is_for state hand instance

-- ---- all of them

-- the first instance that is due, which has the least number
abbrev pub next_due : State → Hand → Option InstanceRec
next_due state hand = find (is_due state hand) state.instances.items

abbrev pub count_due : State → Hand → ℕ
count_due state hand = length (filter (is_due state hand) state.instances.items)

-- how much is due for a hand; those that send nothing have no other work yet
abbrev pub due_for : State → Hand → ℕ
due_for state hands.Script = count_due state hands.Script
due_for state hands.Sender = count_due state hands.Sender
due_for state hands.Updater = 0
due_for state hands.Lister = 0

abbrev pub held_once : Option Held → ℕ
held_once holder = option_map_or (λ held. 1) holder 0

-- what is due for the three workers, and how many locks are held
abbrev pub busy_of : State → ℕ
busy_of state = due_for state hands.Sender + due_for state hands.Updater + due_for state hands.Lister
    + held_once state.locks.forms + held_once state.locks.instances
