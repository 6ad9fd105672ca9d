-- The exchanges of the script's hand, and the entries that they belong to.
use Rattle.std.specs.Prelude.{◌≡◌, ◌⊎◌, ℕ, ◌-◌, ◌≤◌, List, ◌++◌, length, take, drop, Option, Some, slice_get}
use Rattle.std.specs.List.{AllByRecursion}
use Rattle.entry_form.specs.declared.entry.Opening.{Opening}
use Rattle.entry_form.specs.declared.entry.Entry.{Entry}
use Rattle.entry_form.specs.declared.entry.Entry.TheVariants.{Opened}
use Rattle.entry_form.specs.declared.hand.Hand.TheVariants.{Script}
use Rattle.field_io.specs.declared.exchange.Exchange.{Exchange}
use Rattle.device_rules.specs.Caller.{IsCommand}
use Rattle.device_state.specs.State.{initial}
use Rattle.send_workers.specs.Agreement.{AreExchanged, Turn, exchanges_in}
use Rattle.send_workers.specs.Exchanges.{GainsAll}

-- behind so many of the entries stand commands alone, and the one before them is an opening, if there is one
pub record IsBehindOpening (entries : List Entry) (first : ℕ) : Type 0 where
  pub within : first ≤ length entries
  pub commands : AllByRecursion IsCommand (drop first entries)
  pub opening : (first ≡ 0) ⊎ ((opening : Opening) × (slice_get entries (first - 1) ≡ Some (Opened opening)))

-- The exchanges that the script's dialer has gained are those of the sends behind the last opening, in order: each goes to
-- the server of the state that named its instance, with that instance's document, and its end records what came of it.
pub record Transmits (entries : List Entry) (old new : Option (List Exchange)) : Type 0 where
  pub first : ℕ
  pub behind : IsBehindOpening entries first
  pub turns : List Turn
  pub exchanged : AreExchanged initial Script (take first entries) turns entries
  pub gained : GainsAll old new (exchanges_in turns)

-- the same from one history to another, which goes on by commands
pub record Transmitted (earlier later : List Entry) (old new : Option (List Exchange)) : Type 0 where
  pub added : List Entry
  pub joined : later ≡ earlier ++ added
  pub commands : AllByRecursion IsCommand added
  pub turns : List Turn
  pub exchanged : AreExchanged initial Script earlier turns later
  pub gained : GainsAll old new (exchanges_in turns)
