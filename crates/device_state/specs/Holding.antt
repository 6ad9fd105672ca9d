-- Locks that are taken and given back.
use Rattle.std.specs.Prelude.{Bool, false, ◌==◌, if◌then◌else◌, Option, Some, None}
use Rattle.std.specs.Option.{option_map_or}
use Rattle.change_locks.specs.Locks.{Holders, all_free, holder_of, with_holder}
use Rattle.change_locks.specs.declared.held.Held.{Held}
use Rattle.entry_form.specs.declared.hand.Hand.{Hand}
use Rattle.entry_form.specs.declared.hand.Lock.{Lock}
use Rattle.entry_form.specs.Hand.{hand_number}
use Rattle.device_state.specs.declared.holding.LockChange.{LockChange}
use Rattle.device_state.specs.declared.holding.LockChange.TheVariants as locks

abbrev pub is_held_by : Hand → Option Held → Bool
is_held_by hand holder = option_map_or (λ held. hand_number held.hand == hand_number hand) holder false

-- held so, where nobody holds it
abbrev pub taken : Lock → Held → Holders → Holders
taken lock held holders =
    option_map_or (λ other. holders) (holder_of holders lock) (with_holder holders lock (Some held))

-- free, where this hand holds it
abbrev pub released : Lock → Hand → Holders → Holders
released lock hand holders =
    if is_held_by hand (holder_of holders lock) then with_holder holders lock None else holders

abbrev pub locks_changed : LockChange → Holders → Holders
locks_changed locks.Keep holders = holders
locks_changed (locks.Take lock held) holders = taken lock held holders
locks_changed (locks.Release lock hand) holders = released lock hand holders
locks_changed locks.FreeAll holders = all_free
