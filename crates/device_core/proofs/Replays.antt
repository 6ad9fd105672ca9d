-- Replaying entries one by one.
use Rattle.std.proofs.Common.{◌≡◌, ℕ, ◌+◌, List, [], ◌∷◌, ◌++◌, length, map, Option, Some, None, Err, refl, sym, ◌∙◌, ap, subst, arith, append_assoc}
use Rattle.std.specs.Prelude.{reverse}
use Rattle.std.proofs.lemmas.List.{map-append, reverse-append}
use Rattle.entry_form.specs.declared.entry.Entry.{Entry}
use Rattle.device_rules.specs.declared.refused.Refused.{Refused}
use Rattle.device_state.specs.declared.state.State.{State}
use Rattle.device_rules.specs.declared.trail.Marked.{Marked}
use Rattle.device_core.specs.Images.{IsRefusedFrom}
use Rattle.device_state.specs.State.{initial}
use Rattle.device_rules.specs.Step.{step}
use Rattle.device_rules.proofs.Replays.{entries-push, replay-push}
use Rattle.device_rules.specs.Trail.{entries_of, marked_at, replay, state_after}

-- So many entries are replayed, and the others are left, the first of them last.
pub record SoFar (all : List Entry) (moment : ℕ) (state : State) (marked : List Marked) (left : List Entry) : Type 0 where
  pub split : all ≡ entries_of marked ++ reverse left
  pub reached : replay initial (entries_of marked) ≡ Some state
  pub moments : marked ≡ map (marked_at moment) (entries_of marked)

pub so_far_none : (all : List Entry) (moment : ℕ) (left : List Entry) → all ≡ reverse left → SoFar all moment initial [] left
so_far_none all moment left is = record { split = is; reached = refl; moments = refl }

pub so_far_more : (all : List Entry) (moment : ℕ) (state next : State) (marked : List Marked) (left rest : List Entry) (entry : Entry) → left ≡ rest ++ entry ∷ [] → SoFar all moment state marked left → state_after state entry ≡ Some next → (now : List Marked) → now ≡ marked ++ marked_at moment entry ∷ [] → SoFar all moment next now rest
so_far_more all moment state next marked left rest entry popped so_far stepped now is = subst (λ (l : List Marked). SoFar all moment next l rest) (sym is) record {
  split = so_far.split ∙ ap (λ (l : List Entry). entries_of marked ++ reverse l) popped ∙ ap (λ (l : List Entry). entries_of marked ++ l) (reverse-append rest (entry ∷ []))
      ∙ sym (append_assoc (entries_of marked) (entry ∷ []) (reverse rest)) ∙ ap (λ (l : List Entry). l ++ reverse rest) (sym (entries-push marked (marked_at moment entry)));
  reached = ap (λ l. replay initial l) (entries-push marked (marked_at moment entry)) ∙ replay-push initial (entries_of marked) state next entry so_far.reached stepped;
  moments = (λ k. so_far.moments k ++ marked_at moment entry ∷ []) ∙ sym (ap (map (marked_at moment)) (entries-push marked (marked_at moment entry)) ∙ map-append (marked_at moment) (entries_of marked) (entry ∷ []));
}

pub refused_from : (all : List Entry) (moment : ℕ) (state : State) (marked : List Marked) (left rest : List Entry) (entry : Entry) (why : Refused) (position : ℕ) → left ≡ rest ++ entry ∷ [] → SoFar all moment state marked left → step state entry ≡ Err why → position ≡ length marked + 1 → IsRefusedFrom all position
refused_from all moment state marked left rest entry why position popped so_far refuses place = record {
  before = entries_of marked;
  refused = entry;
  after = reverse rest;
  state = state;
  why = why;
  split = so_far.split ∙ ap (λ (l : List Entry). entries_of marked ++ reverse l) popped ∙ ap (λ (l : List Entry). entries_of marked ++ l) (reverse-append rest (entry ∷ []));
  reached = so_far.reached;
  refuses = refuses;
  place = place ∙ ap (λ (n : ℕ). n + 1) (sym (length-map marked));
}
  where
    length-map : (m : List Marked) → length (entries_of m) ≡ length m
    length-map [] = refl
    length-map (x ∷ m) = let e = length-map m in omega (arith, e)
