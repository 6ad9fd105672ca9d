-- What holds of the ids that the device draws for instances, over every legal history, whatever numbers it was opened
-- with: no two instances get one.
use Rattle.std.specs.Prelude.{◌≡◌, ◌≢◌, ℕ, ◌<◌, ◌≤◌, ◌^◌, ◌++◌, ◌∷◌, [], true, codes, List, Some, None}
use Rattle.std.specs.List.{AllByRecursion}
use Rattle.std.specs.Option.{IfSome}
use Rattle.entry_form.specs.declared.entry.Entry.{Entry}
use Rattle.device_state.specs.declared.state.State.{State}
use Rattle.device_state.specs.State.{initial}
use Rattle.device_rules.specs.Start.{is_draft}
use Rattle.device_rules.specs.Trail.{replay}
use Rattle.field_ids.specs.Draws.{IsInRange, NextDraw}
use Rattle.field_ids.specs.Ids.{id_of, text_of_id}
use Rattle.finalizer.specs.Laws.{IsDrawnBetween}
use Rattle.instance_store.specs.declared.records.InstanceRec.{InstanceRec}

-- the id was drawn by a device with some number, with a counter from the one on and below the other
pub record IsDrawnFrom (least next : ℕ) (id : List ℕ) : Type 0 where
  pub device : ℕ
  pub counter : ℕ
  pub device_fits : device < 2 ^ 48
  pub counter_fits : counter < 2 ^ 62
  pub from : least ≤ counter
  pub below : counter < next
  pub text : id ≡ codes "uuid:" ++ text_of_id (id_of device counter)

-- an instance with this id has this number
abbrev pub IsOwner : List ℕ → ℕ → InstanceRec → Type 0
IsOwner id number i = i.instance_id ≡ Some id → i.number ≡ number

-- the id was drawn, and no instance with another number has it
pub record IsOwned (instances : List InstanceRec) (next : ℕ) (number : ℕ) (id : List ℕ) : Type 0 where
  pub drawn : IsDrawnFrom 0 next id
  pub owner : AllByRecursion (IsOwner id number) instances

-- the instance's id is its own
abbrev pub OwnsId : List InstanceRec → ℕ → InstanceRec → Type 0
OwnsId instances next i = IfSome i.instance_id (IsOwned instances next i.number)

abbrev pub HasNoIdYet : InstanceRec → Type 0
HasNoIdYet i = is_draft i.status ≡ true → i.instance_id ≡ None

pub record AreApart (instances : List InstanceRec) (draws : NextDraw) : Type 0 where
  pub range : IsInRange draws
  pub owned : AllByRecursion (OwnsId instances draws.next) instances
  pub drafts : AllByRecursion HasNoIdYet instances

-- The ids of instances were drawn, no two of them have one, and drafts have none.
abbrev pub HasIdsApart : State → Type 0
HasIdsApart state = AreApart state.instances.items state.counters.draws

-- an instance has its id alone among all those that are kept in another state
abbrev pub HasIdAlone : State → InstanceRec → Type 0
HasIdAlone state i = IfSome i.instance_id (λ id. AllByRecursion (IsOwner id i.number) state.instances.items)

-- the entry leads from the one state to the other
abbrev pub Leads : State → Entry → State → Type 0
Leads state entry next = replay state (entry ∷ []) ≡ Some next

-- the text of an id that was drawn between two states
abbrev pub IsDrawnIn : State → State → List ℕ → Type 0
IsDrawnIn state next text = IsDrawnBetween state.counters.draws next.counters.draws text

-- Of the instances that are kept behind two fronts of a history, those with one id have one number; and what is drawn
-- for two of its entries differs, be it for instances or for entities.
pub record KeepsIdsApart (entries : List Entry) : Type 0 where
  pub apart : (front middle behind : List Entry) (state next : State) → entries ≡ front ++ middle ++ behind
      → replay initial front ≡ Some state → replay state middle ≡ Some next
      → AllByRecursion (HasIdAlone next) state.instances.items
  pub draws : (front middle behind : List Entry) (first second : Entry) (a b c d : State)
      → entries ≡ front ++ first ∷ middle ++ second ∷ behind → replay initial front ≡ Some a → Leads a first b
      → replay b middle ≡ Some c → Leads c second d → (one other : List ℕ) → IsDrawnIn a b one → IsDrawnIn c d other
      → one ≢ other
