-- Tests of a lock: who may not hold it, or must.
use Rattle.std.specs.Prelude.{not, if◌then◌else◌, Option, Some, None, Ok, Err}
use Rattle.change_locks.specs.declared.held.Held.{Held}
use Rattle.device_state.specs.Holding.{is_held_by}
use Rattle.entry_form.specs.declared.hand.Hand.{Hand}
use Rattle.device_rules.specs.declared.refused.Refused.TheVariants.{Busy, NotHolder}
use Rattle.device_rules.specs.Tests.{Tested, refused_if}

-- nobody holds it
abbrev pub free : Option Held → Tested
free None = Ok tt
free (Some held) = Err (Busy held.hand held.since)

-- no other hand holds it
abbrev pub free_for : Hand → Option Held → Tested
free_for hand holder = if is_held_by hand holder then Ok tt else free holder

-- this hand holds it
abbrev pub held_by : Hand → Option Held → Tested
held_by hand holder = refused_if (not (is_held_by hand holder)) (NotHolder holder)
