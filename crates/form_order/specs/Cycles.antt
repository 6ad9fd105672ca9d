-- Fields that depend on themselves.
use Rattle.std.specs.Prelude.{ℕ, ◌<◌, List, length, Contains}
use Rattle.form_def.specs.declared.field.Field.{Field}
use Rattle.form_def.specs.Order.{dependencies_at}
use Rattle.form_order.specs.declared.fault.OrderFault.{OrderFault}
use Rattle.form_order.specs.declared.fault.OrderFault.TheVariants.{Cycle, NoMemory}

-- a needs b, or a number that leads to b
pub data Leads (needs : ℕ → List ℕ) : ℕ → ℕ → Type 0 where
  at_once : (a b : ℕ) → Contains (needs a) b → Leads needs a b
  through : (a b c : ℕ) → Contains (needs a) b → Leads needs b c → Leads needs a c

-- through any number of steps, one or more
abbrev pub DependsOn : List Field → ℕ → ℕ → Type 0
DependsOn fields a b = Leads (dependencies_at fields) a b

abbrev pub NoCycle : List Field → Type 0
NoCycle fields = (number : ℕ) → ¬ (DependsOn fields number number)

-- the first number below the count that leads to itself
abbrev pub IsFirstCycle : (ℕ → List ℕ) → ℕ → ℕ → Type 0
IsFirstCycle needs count number =
    (number < count) × Leads needs number number × ((k : ℕ) → k < number → ¬ (Leads needs k k))

-- why there is no order: of the fields that depend on themselves, the one of the least number
abbrev pub Refuses : List Field → OrderFault → Type 0
Refuses fields (Cycle number) = IsFirstCycle (dependencies_at fields) (length fields) number
Refuses fields NoMemory = Unit {0}
