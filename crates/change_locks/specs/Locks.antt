-- The two locks of a device: who holds each, and since which entry.
use Rattle.std.specs.Prelude.{◌≡◌, ℕ, Option, Some, None, Result, Ok, Err, IsSomeAnd}
use Rattle.entry_form.specs.declared.hand.Hand.{Hand}
use Rattle.entry_form.specs.declared.hand.Lock.{Lock}
use Rattle.entry_form.specs.declared.hand.Lock.TheVariants as lock
use Rattle.change_locks.specs.declared.held.Held.{Held}

-- the holder of each lock
pub record Holders : Type 0 where
  pub forms : Option Held
  pub instances : Option Held

abbrev pub all_free : Holders
all_free = record { forms = None; instances = None }

abbrev pub holder_of : Holders → Lock → Option Held
holder_of holders lock.Forms = holders.forms
holder_of holders lock.Instances = holders.instances

-- the holders with another holder of one lock
abbrev pub with_holder : Holders → Lock → Option Held → Holders
with_holder holders lock.Forms held = record holders { forms = held }
with_holder holders lock.Instances held = record holders { instances = held }

-- the holder is this hand
abbrev pub IsHeldBy : Option Held → Hand → Type 0
IsHeldBy holder hand = IsSomeAnd holder (λ held. held.hand ≡ hand)
