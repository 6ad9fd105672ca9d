-- What holds of finalized instances over every legal history: each stays as it is for as long as it is kept. With it goes
-- what holds of sends in flight: none is of a draft, and no two are of one instance.
use Rattle.std.specs.Prelude.{◌≡◌, ◌≢◌, ℕ, ◌<◌, true, List, [], ◌∷◌, ◌++◌, map, ⊤, Option, Some}
use Rattle.std.specs.List.{AllByRecursion}
use Rattle.std.specs.Option.{IfSome}
use Rattle.entry_form.specs.declared.entry.Entry.{Entry}
use Rattle.device_state.specs.declared.entry.OpenEntry.{OpenEntry}
use Rattle.device_state.specs.declared.flight.Flight.{Flight}
use Rattle.device_state.specs.declared.state.State.{State}
use Rattle.device_state.specs.State.{initial}
use Rattle.device_rules.specs.Due.{is_queued}
use Rattle.device_rules.specs.FinalizeAll.{is_finalized}
use Rattle.device_rules.specs.Start.{has_status}
use Rattle.device_rules.specs.Trail.{replay}
use Rattle.instance_store.specs.declared.records.InstanceRec.{InstanceRec}
use Rattle.savepoints.specs.declared.keys.KeyBase.{KeyBase}
use Rattle.savepoints.specs.Savepoints.{base_on}

-- ---- numbers

-- each number is less than those behind it
abbrev pub DoRise : List ℕ → Type 0
DoRise [] = ⊤
DoRise (n ∷ ns) = AllByRecursion (λ m. n < m) ns × DoRise ns

abbrev pub numbers_of : List InstanceRec → List ℕ
numbers_of instances = map (λ i. i.number) instances

-- a questionnaire that stands on this instance fills in a draft further, or edits a finalized one
abbrev pub IsRightBase : KeyBase → InstanceRec → Type 0
IsRightBase base i = base_on i.number base ≡ true → has_status base i.status ≡ true

abbrev pub HasRightBase : List InstanceRec → OpenEntry → Type 0
HasRightBase instances entry = AllByRecursion (IsRightBase entry.base) instances

-- the instances, the number that the next one gets, and the open questionnaire
pub record AreOrderly (instances : List InstanceRec) (next : ℕ) (entry : Option OpenEntry) : Type 0 where
  pub rise : DoRise (numbers_of instances)
  pub below : AllByRecursion (λ n. n < next) (numbers_of instances)
  pub base : IfSome entry (HasRightBase instances)

-- ---- sends in flight

-- no number is among those behind it
abbrev pub DoDiffer : List ℕ → Type 0
DoDiffer [] = ⊤
DoDiffer (n ∷ ns) = AllByRecursion (λ m. m ≢ n) ns × DoDiffer ns

abbrev pub sent_numbers : List Flight → List ℕ
sent_numbers flights = map (λ f. f.number) flights

-- the number was given, and P holds of the instance that is kept under it
pub record HoldsUnder (number : ℕ) (P : InstanceRec → Type 0) (kept : List InstanceRec) (next : ℕ) : Type 0 where
  pub below : number < next
  pub holds : AllByRecursion (λ i. i.number ≡ number → P i) kept

abbrev pub IsQueued : InstanceRec → Type 0
IsQueued i = is_queued i ≡ true

-- a send is of an instance in the queue
abbrev pub IsOfQueue : List InstanceRec → ℕ → Flight → Type 0
IsOfQueue instances next flight = HoldsUnder flight.number IsQueued instances next

pub record AreSendsOrderly (instances : List InstanceRec) (next : ℕ) (flights : List Flight) : Type 0 where
  pub differ : DoDiffer (sent_numbers flights)
  pub queued : AllByRecursion (IsOfQueue instances next) flights

-- Numbers are given once, in their order, and no finalized instance is filled in further. No instance has two sends in
-- flight, and one that has is in the queue.
pub record IsOrderly (state : State) : Type 0 where
  pub kept : AreOrderly state.instances.items state.counters.next_instance state.entry
  pub sends : AreSendsOrderly state.instances.items state.counters.next_instance state.flights.items

-- ---- finalized instances

-- still finalized, with the same form, answers, document, ids and moment
pub record IsSameFinal (i other : InstanceRec) : Type 0 where
  pub final : is_finalized other ≡ true
  pub form : other.form ≡ i.form
  pub version : other.version ≡ i.version
  pub sheet : other.sheet ≡ i.sheet
  pub doc : other.doc ≡ i.doc
  pub instance_id : other.instance_id ≡ i.instance_id
  pub edit_of : other.edit_of ≡ i.edit_of
  pub deprecated : other.deprecated ≡ i.deprecated
  pub final_at : other.final_at ≡ i.final_at

-- it is this instance, if it has the number
abbrev pub IsOrIsOther : InstanceRec → InstanceRec → Type 0
IsOrIsOther i other = other.number ≡ i.number → IsSameFinal i other

-- what is kept under a finalized instance's number is this instance as it was
abbrev pub StaysFinal : State → InstanceRec → Type 0
StaysFinal state i = is_finalized i ≡ true → AllByRecursion (IsOrIsOther i) state.instances.items

-- Behind each front of a history numbers are given once, and an instance that is finalized there stays as it is through
-- all entries behind.
pub record KeepsFinals (entries : List Entry) : Type 0 where
  pub orderly : (front behind : List Entry) (state : State) → entries ≡ front ++ behind
      → replay initial front ≡ Some state → IsOrderly state
  pub stays : (front middle behind : List Entry) (state next : State) → entries ≡ front ++ middle ++ behind
      → replay initial front ≡ Some state → replay state middle ≡ Some next
      → AllByRecursion (StaysFinal next) state.instances.items
