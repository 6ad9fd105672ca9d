-- Ids differ over every legal history.
use Rattle.std.proofs.Common.{◌≡◌, ◌≢◌, ℕ, ◌≤◌, List, [], ◌∷◌, Option, Some, None, Ok, arith}
use Rattle.std.specs.List.{AllByRecursion}
use Rattle.std.specs.Option.{IfSome}
use Rattle.device_rules.specs.declared.answer.Answer.{Answer}
use Rattle.device_rules.specs.Step.{step}
use Rattle.device_rules.specs.Trail.{replay}
use Rattle.device_state.specs.declared.state.State.{State}
use Rattle.device_state.specs.State.{initial}
use Rattle.entry_form.specs.declared.entry.Entry.{Entry}
use Rattle.finalizer.proofs.DrawLemmas.{later_differs}
use Rattle.instance_store.specs.declared.records.InstanceRec.{InstanceRec}
use Rattle.device_laws.specs.DrawnIds.{HasIdAlone, HasIdsApart, IsDrawnIn, IsOwned, IsOwner, KeepsIdsApart, Leads}
use Rattle.device_laws.specs.DrawnIds.{OwnsId}
use Rattle.device_laws.proofs.IdSteps.{step_apart}
use Rattle.device_laws.proofs.Lists.{all_then}
use Rattle.device_laws.proofs.Replays.{replay_keeps}

initial_apart : HasIdsApart initial
initial_apart = record {
  range = record { device = omega arith; from_one = omega arith; next = omega arith };
  owned = tt;
  drafts = tt;
}

apart_there : (state next : State) (entry : Entry) (answer : Answer) → HasIdsApart state
    → step state entry ≡ Ok (next, answer) → HasIdsApart next
apart_there state next entry answer apart is = (step_apart state next entry answer apart is).leaves.apart

pub history_apart : (entries : List Entry) (state : State) → replay initial entries ≡ Some state → HasIdsApart state
history_apart entries state reached =
    replay_keeps HasIdsApart apart_there entries initial state initial_apart reached

-- ---- an id through many entries

record KeepsOwner (number : ℕ) (id : List ℕ) (state : State) : Type 0 where
  apart : HasIdsApart state
  owned : IsOwned state.instances.items state.counters.draws.next number id

owner_kept : (number : ℕ) (id : List ℕ) (state next : State) (entry : Entry) (answer : Answer)
    → KeepsOwner number id state → step state entry ≡ Ok (next, answer) → KeepsOwner number id next
owner_kept number id state next entry answer keeps is =
    let left = step_apart state next entry answer keeps.apart is in
    record { apart = left.leaves.apart; owned = left.leaves.owned number id keeps.owned }

alone : (entries : List Entry) (state next : State) (number : ℕ) (o : Option (List ℕ)) → HasIdsApart state
    → replay state entries ≡ Some next
    → IfSome o (IsOwned state.instances.items state.counters.draws.next number)
    → IfSome o (λ id. AllByRecursion (IsOwner id number) next.instances.items)
alone entries state next number None apart reached owns = tt
alone entries state next number (Some id) apart reached owns =
    (replay_keeps (KeepsOwner number id) (owner_kept number id) entries state next
    (record { apart = apart; owned = owns }) reached).owned.owner

all_alone : (entries : List Entry) (state next : State) → HasIdsApart state → replay state entries ≡ Some next
    → AllByRecursion (HasIdAlone next) state.instances.items
all_alone entries state next apart reached =
    all_then state.instances.items
    (λ (i : InstanceRec) (owns : OwnsId state.instances.items state.counters.draws.next i).
    alone entries state next i.number i.instance_id apart reached owns) apart.owned

-- ---- draws

record HasDrawn (least : ℕ) (state : State) : Type 0 where
  apart : HasIdsApart state
  further : least ≤ state.counters.draws.next

drawn_further : (least : ℕ) (state next : State) (entry : Entry) (answer : Answer) → HasDrawn least state
    → step state entry ≡ Ok (next, answer) → HasDrawn least next
drawn_further least state next entry answer has is =
    let left = step_apart state next entry answer has.apart is in
    record { apart = left.leaves.apart; further = omega (arith, has.further, left.leaves.further) }

draws_go_on : (entries : List Entry) (state next : State) → HasIdsApart state → replay state entries ≡ Some next
    → HasDrawn state.counters.draws.next next
draws_go_on entries state next apart reached =
    replay_keeps (HasDrawn state.counters.draws.next) (drawn_further state.counters.draws.next) entries state next
    (record { apart = apart; further = omega arith }) reached

drawn_apart : (first second : Entry) (middle : List Entry) (a b c d : State) → HasIdsApart a → Leads a first b
    → replay b middle ≡ Some c → Leads c second d → (one other : List ℕ) → IsDrawnIn a b one → IsDrawnIn c d other
    → one ≢ other
drawn_apart first second middle a b c d apart to_b to_c to_d one other x y =
    let at_b = draws_go_on (first ∷ []) a b apart to_b in
    let at_c = draws_go_on middle b c at_b.apart to_c in
    let at_d = draws_go_on (second ∷ []) c d at_c.apart to_d in
    later_differs a.counters.draws b.counters.draws c.counters.draws d.counters.draws one other apart.range
    at_c.apart.range at_d.apart.range at_c.further x y

pub history_keeps_ids_apart : (entries : List Entry) → KeepsIdsApart entries
history_keeps_ids_apart entries = record {
  apart = λ front middle behind state next is reached then_reached.
      all_alone middle state next (history_apart front state reached) then_reached;
  draws = λ front middle behind first second a b c d is to_a to_b to_c to_d.
      drawn_apart first second middle a b c d (history_apart front a to_a) to_b to_c to_d;
}
