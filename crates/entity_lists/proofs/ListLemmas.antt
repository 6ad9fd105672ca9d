-- The names of lists differ after one is put in its place or behind the others too.
use Rattle.std.proofs.Common.{◌≡◌, ◌≢◌, ℕ, ◌<◌, ◌++◌, nat_lt, not, Bool, true, false, true≢false, List, [], ◌∷◌}
use Rattle.std.proofs.Common.{length, get_or, set, slice_get, position, Option, Some, None, unwrap_or, IfSome}
use Rattle.std.proofs.Common.{arith, ap, sym, subst, inl, inr, ◌∙◌}
use Rattle.std.specs.List.{position_or_len}
use Rattle.std.specs.Str.{bytes_eq}
use Rattle.std.proofs.lemmas.Bool.{cases_Bool, cases_eq, ltb-false, not-true}
use Rattle.std.proofs.lemmas.List.{get_or-set_other, get_or-set_same, length-set}
use Rattle.std.proofs.lemmas.List.Quantifiers.{all_pairs_push, position-Some}
use Rattle.std.proofs.lemmas.List.Sums.{prefix_len_passes}
use Rattle.std.proofs.lemmas.Option.{slice_get-get_or, unwrap_or-slice_get}
use Rattle.std.proofs.lemmas.Slice.Eq.{bytes_eq-Decides}
use Rattle.entity_lists.specs.Lists.{NamesDiffer, list_place}
use Rattle.entity_lists.specs.declared.entity_list.EntityList.{EntityList}

-- an element stands at its place, whatever the default
at_place : {X : Type 0} (xs : List X) (place : ℕ) (x d : X) → slice_get xs place ≡ Some x → get_or xs place d ≡ x
at_place xs place x d is = sym (unwrap_or-slice_get xs place d) ∙ ap (λ (o : Option _). unwrap_or o d) is

kept_name : (lists : List EntityList) (place : ℕ) (list old : EntityList) (k : ℕ) (d : EntityList) → place < length lists
    → slice_get lists place ≡ Some old → old.name ≡ list.name
    → (get_or (set lists place list) k d).name ≡ (get_or lists k d).name
kept_name lists place list old k d within is same = elim (cases_eq k place) [
  | inl e ↦
      ap (λ n. (get_or (set lists place list) n d).name) e
      ∙ ap (λ (l : EntityList). l.name) (get_or-set_same lists place list d within)
      ∙ sym same
      ∙ ap (λ (l : EntityList). l.name) (sym (at_place lists place old d is))
      ∙ ap (λ n. (get_or lists n d).name) (sym e)
  | inr e ↦ ap (λ (l : EntityList). l.name) (get_or-set_other lists place k list d e)
]

pub replaced_differ : (lists : List EntityList) (place : ℕ) (list old : EntityList) → place < length lists
    → slice_get lists place ≡ Some old → old.name ≡ list.name → NamesDiffer lists
    → NamesDiffer (set lists place list)
replaced_differ lists place list old within is same differ = λ i j d below there equal.
    differ i j d below (omega (arith, there, length-set lists place list))
    (sym (kept_name lists place list old i d within is same) ∙ equal ∙ kept_name lists place list old j d within is same)

-- ---- a list behind the others

-- where no element has a place, none passes
pub none_passes : {X : Type 0} (p : X → Bool) (xs : List X) → position p xs ≡ None
    → (k : ℕ) (d : X) → k < length xs → p (get_or xs k d) ≡ false
none_passes p xs none k d within = elim (cases_Bool (nat_lt (position_or_len p xs) (length xs))) [
  | inl e ↦ cc (rw e at none)
  | inr e ↦
      let far = ltb-false (position_or_len p xs) (length xs) e in
      not-true (p (get_or xs k d)) (prefix_len_passes (λ x. not (p x)) xs k d (omega (arith, far)))
]

pub pushed_differ : (lists : List EntityList) (list : EntityList) → list_place list.name lists ≡ None → NamesDiffer lists
    → NamesDiffer (lists ++ list ∷ [])
pushed_differ lists list none differ =
    let has_name = λ (l : EntityList). bytes_eq l.name list.name in
    all_pairs_push (λ (a b : EntityList). a.name ≢ b.name) lists list differ (λ k d within same.
    true≢false (sym ((bytes_eq-Decides (get_or lists k d).name list.name).1 same) ∙ none_passes has_name lists none k d within))

-- ---- the list of a name

nothing : EntityList
nothing = record { name = []; url = None; rows = [] }

-- the list at the place of a name has that name
pub found_name : (name : List ℕ) (lists : List EntityList) (place : ℕ) → list_place name lists ≡ Some place
    → IfSome (slice_get lists place) (λ old. old.name ≡ name)
found_name name lists place is =
    let found = position-Some (λ (l : EntityList). bytes_eq l.name name) lists place nothing is in
    subst (λ (o : Option EntityList). IfSome o (λ old. old.name ≡ name)) (sym (slice_get-get_or lists place nothing found.0))
    ((bytes_eq-Decides (get_or lists place nothing).name name).0 found.1)
