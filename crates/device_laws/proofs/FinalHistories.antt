-- Finalized instances stay as they are, over every legal history.
use Rattle.std.proofs.Common.{◌≡◌, ◌<◌, List, true, Some, Ok, ap, ◌∙◌}
use Rattle.std.specs.List.{AllByRecursion}
use Rattle.field_text.proofs.StepLemmas.{then_ok}
use Rattle.device_rules.specs.declared.answer.Answer.{Answer}
use Rattle.device_rules.specs.FinalizeAll.{is_finalized}
use Rattle.device_rules.specs.Step.{entered, step}
use Rattle.device_rules.specs.Trail.{replay}
use Rattle.device_state.specs.declared.state.State.{State}
use Rattle.device_state.specs.Purging.{purged}
use Rattle.device_state.specs.State.{initial}
use Rattle.entry_form.specs.declared.entry.Entry.{Entry}
use Rattle.instance_store.specs.declared.records.InstanceRec.{InstanceRec}
use Rattle.device_laws.specs.Finals.{IsOrderly, IsSameFinal, KeepsFinals, StaysFinal}
use Rattle.device_laws.proofs.Following.{came}
use Rattle.device_laws.proofs.Found.{all_numbers, one_each}
use Rattle.device_laws.proofs.Leaving.{entered_leaves}
use Rattle.device_laws.proofs.Lists.{IsAmong, all_elements, all_then, one_of}
use Rattle.device_laws.proofs.Pins.{IsPinnedIn, LeavesFinals, leaves}
use Rattle.device_laws.proofs.Replays.{replay_keeps}

pub initial_orderly : IsOrderly initial
initial_orderly = record {
  kept = record { rise = tt; below = tt; base = tt };
  sends = record { differ = tt; queued = tt };
}

-- ---- one entry

purged_leaves : (state next : State) → LeavesFinals state next → LeavesFinals state (purged next)
purged_leaves state next left = leaves state (purged next) left.orderly.kept left.orderly.sends left.pins

step_leaves : (state next : State) (entry : Entry) (answer : Answer) → IsOrderly state
    → step state entry ≡ Ok (next, answer) → LeavesFinals state next
step_leaves state next entry answer orderly is =
    let mid = then_ok (entered state entry) _ (next, answer) is in
    came (LeavesFinals state) (purged mid.0.0) mid.0.1 (next, answer) mid.2
    (purged_leaves state mid.0.0 (entered_leaves state entry mid.0 mid.1 orderly))

pub step_orderly : (state next : State) (entry : Entry) (answer : Answer) → IsOrderly state
    → step state entry ≡ Ok (next, answer) → IsOrderly next
step_orderly state next entry answer orderly is = (step_leaves state next entry answer orderly is).orderly

-- ---- many entries

same_final : (i other : InstanceRec) → is_finalized i ≡ true → other ≡ i → IsSameFinal i other
same_final i other final same = record {
  final = ap is_finalized same ∙ final;
  form = ap (λ (k : InstanceRec). k.form) same;
  version = ap (λ (k : InstanceRec). k.version) same;
  sheet = ap (λ (k : InstanceRec). k.sheet) same;
  doc = ap (λ (k : InstanceRec). k.doc) same;
  instance_id = ap (λ (k : InstanceRec). k.instance_id) same;
  edit_of = ap (λ (k : InstanceRec). k.edit_of) same;
  deprecated = ap (λ (k : InstanceRec). k.deprecated) same;
  final_at = ap (λ (k : InstanceRec). k.final_at) same;
}

-- a finalized instance is pinned where it is kept
pinned_here : (state : State) (i : InstanceRec) → IsOrderly state → IsAmong state.instances.items i
    → is_finalized i ≡ true → IsPinnedIn state i
pinned_here state i orderly among final = record {
  below = one_of (λ (k : InstanceRec). k.number < state.counters.next_instance) state.instances.items i among
      (all_numbers (λ m. m < state.counters.next_instance) state.instances.items orderly.kept.below);
  holds = all_then state.instances.items
      (λ (k : InstanceRec) (one : k.number ≡ i.number → k ≡ i) (is : k.number ≡ i.number).
      same_final i k final (one is))
      (one_each state.instances.items i orderly.kept.rise among);
}

-- orderly, with this instance pinned
record KeepsOne (i : InstanceRec) (state : State) : Type 0 where
  orderly : IsOrderly state
  pinned : IsPinnedIn state i

one_kept : (i : InstanceRec) (state next : State) (entry : Entry) (answer : Answer) → KeepsOne i state
    → step state entry ≡ Ok (next, answer) → KeepsOne i next
one_kept i state next entry answer keeps is =
    let left = step_leaves state next entry answer keeps.orderly is in
    record { orderly = left.orderly; pinned = left.pins i keeps.pinned }

pub finals_stay : (entries : List Entry) (state next : State) → IsOrderly state → replay state entries ≡ Some next
    → AllByRecursion (StaysFinal next) state.instances.items
finals_stay entries state next orderly reached = all_elements state.instances.items (λ i among final.
    (replay_keeps (KeepsOne i) (one_kept i) entries state next
    (record { orderly = orderly; pinned = pinned_here state i orderly among final }) reached).pinned.holds)

-- ---- histories

pub history_orderly : (entries : List Entry) (state : State) → replay initial entries ≡ Some state → IsOrderly state
history_orderly entries state reached =
    replay_keeps IsOrderly step_orderly entries initial state initial_orderly reached

pub history_keeps_finals : (entries : List Entry) → KeepsFinals entries
history_keeps_finals entries = record {
  orderly = λ front behind state is reached. history_orderly front state reached;
  stays = λ front middle behind state next is reached then_reached.
      finals_stay middle state next (history_orderly front state reached) then_reached;
}
