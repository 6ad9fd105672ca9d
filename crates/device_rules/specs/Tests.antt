-- The refusals of commands, one after another: the first that applies is the answer.
use Rattle.std.specs.Prelude.{ℕ, Bool, true, false, nat_le, Option, Some, None, Result, Ok, Err}
use Rattle.device_state.specs.declared.entry.OpenEntry.{OpenEntry}
use Rattle.device_state.specs.declared.state.State.{State}
use Rattle.device_rules.specs.declared.answer.Answer.{Answer}
use Rattle.device_rules.specs.declared.refused.Refused.{Refused}
use Rattle.device_rules.specs.declared.refused.Refused.TheVariants.{Limit, NoEntry}
use Rattle.device_rules.specs.declared.refused.Which.TheVariants.{Counters}
use Rattle.device_rules.specs.Limits.{most_entries}

-- the next state with the answer, or the refusal
abbrev pub Stepped : Type 0
Stepped = Result (State × Answer) Refused

-- nothing but a test, which may refuse
abbrev pub Tested : Type 0
Tested = Result (Unit {0}) Refused

abbrev pub refused_if : Bool → Refused → Tested
refused_if true why = Err why
refused_if false why = Ok tt

-- what may be missing
abbrev pub found_or : {A : Type 0} → Option A → Refused → Result A Refused
found_or (Some a) why = Ok a
found_or None why = Err why

-- of every entry: the device has all the entries that it can hold
abbrev pub not_full : State → Tested
not_full state = refused_if (nat_le most_entries state.counters.position) (Limit Counters most_entries)

-- a questionnaire is being filled in
abbrev pub open_entry : State → Result OpenEntry Refused
open_entry state = found_or state.entry NoEntry
