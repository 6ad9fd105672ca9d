-- The ids of a list differ after an action too.
use Rattle.std.proofs.Common.{◌≡◌, ◌≢◌, true, false, true≢false, if◌then◌else◌, nat_lt, ◌+◌, ◌<◌}
use Rattle.std.proofs.Common.{List, ℕ, [], ◌∷◌, ◌++◌, map, length, get_or, None, Ok, sym, subst, refl, inl, inr, ◌∙◌}
use Rattle.std.specs.List.{list_any}
use Rattle.std.specs.Str.{bytes_eq}
use Rattle.std.proofs.lemmas.Bool.{cases_Bool}
use Rattle.std.proofs.lemmas.List.Quantifiers.{all_pairs_push}
use Rattle.std.proofs.lemmas.Slice.Eq.{bytes_eq-Decides}
use Rattle.field_ids.specs.Draws.{NextDraw}
use Rattle.entity_lists.specs.Entities.{IdsDiffer, entity_place}
use Rattle.entity_lists.specs.ServerRows.{row_limit}
use Rattle.entity_lists.specs.declared.entities.EntityRow.{EntityRow}
use Rattle.entity_lists.proofs.ListLemmas.{none_passes}
use Rattle.entity_merge.specs.declared.actions.Action.{Action}
use Rattle.entity_merge.specs.Branches.{branch_of}
use Rattle.entity_merge.specs.Actions.{acted_rows, created_row, created_rows, is_acted_on, is_at_end}
use Rattle.entity_merge.specs.Actions.{row_after, updated_row, updated_rows}
use Rattle.entity_merge.proofs.MergeLemmas.{AllPairs-map, OtherId}

keeps_id : (action : Action) (row : EntityRow) → (row_after action row).id ≡ row.id
keeps_id action row =
    elim (is_acted_on action row) as (λ b. (if b then updated_row action row else row).id ≡ row.id) [ true ↦ refl | false ↦ refl ]

updated_differ : (rows : List EntityRow) (action : Action) (after : List EntityRow) → IdsDiffer rows
    → updated_rows rows action ≡ Ok after → IdsDiffer after
updated_differ rows action after differ is = elim (cases_Bool (list_any (is_at_end action) rows)) [
  | inl e ↦ cc (rw e at is)
  | inr e ↦
      let same : map (row_after action) rows ≡ after = cc (rw e at is) in
      subst IdsDiffer same (AllPairs-map OtherId (row_after action) rows (λ i j d below within equal.
      differ i j d below within (sym (keeps_id action (get_or rows i d)) ∙ equal ∙ keeps_id action (get_or rows j d))))
]

-- where an id has no place, each row has another
pub others : (id : List ℕ) (rows : List EntityRow) → entity_place id rows ≡ None
    → (k : ℕ) (d : EntityRow) → k < length rows → (get_or rows k d).id ≢ id
others id rows absent k d within same =
    true≢false (sym ((bytes_eq-Decides (get_or rows k d).id id).1 same)
    ∙ none_passes (λ (r : EntityRow). bytes_eq r.id id) rows absent k d within)

created_differ : (rows : List EntityRow) (action : Action) (branch : List ℕ) (after : List EntityRow) → IdsDiffer rows
    → entity_place action.id rows ≡ None → created_rows rows action branch ≡ Ok after → IdsDiffer after
created_differ rows action branch after differ absent is = elim (cases_Bool (nat_lt row_limit (length rows + 1))) [
  | inl e ↦ cc (rw e at is)
  | inr e ↦
      let same : rows ++ created_row action branch ∷ [] ≡ after = cc (rw e at is) in
      subst IdsDiffer same
      (all_pairs_push OtherId rows (created_row action branch) differ (others action.id rows absent))
]

pub acted_differ : (rows : List EntityRow) (action : Action) (draws : NextDraw) (after : List EntityRow) → IdsDiffer rows
    → (action.create ≡ true → entity_place action.id rows ≡ None) → acted_rows rows action draws ≡ Ok after
    → IdsDiffer after
acted_differ rows action draws after differ absent is = elim (cases_Bool action.create) [
  | inl e ↦ created_differ rows action (branch_of draws) after differ (absent e) (rw e at is)
  | inr e ↦ updated_differ rows action after differ (rw e at is)
]
