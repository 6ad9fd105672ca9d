-- A merge is two steps: what the first gives or tells is what both give or tell.
use Rattle.std.proofs.Common.{◌≡◌, ℕ, List, length, nat_lt, Option, Some, None, Result, Ok}
use Rattle.std.proofs.Common.{ap, sym, subst, inl, inr, ◌∙◌}
use Rattle.std.proofs.lemmas.Bool.{cases_Bool}
use Rattle.field_text.specs.Steps.{◌>>=◌, Tells}
use Rattle.field_ids.specs.Draws.{NextDraw, drawn}
use Rattle.entity_lists.specs.Lists.{with_rows}
use Rattle.entity_lists.specs.ServerRows.{row_limit}
use Rattle.entity_lists.specs.declared.entities.EntityRow.{EntityRow}
use Rattle.entity_lists.specs.declared.entities.ServerRow.{ServerRow}
use Rattle.entity_lists.specs.declared.entity_list.EntityList.{EntityList}
use Rattle.entity_merge.specs.declared.merging.MergeRefused.{MergeRefused}
use Rattle.entity_merge.specs.Merging.{drawing_rows, merged, merged_rows, within_limit}

tells_then : {A B F : Type 0} (fault : Option F) (step : Result A F) (f : A → Result B F) → Tells fault step
    → Tells fault (step >>= f)
tells_then None step f told = tt
tells_then {A} {B} {F} (Some x) step f told = ap (λ (r : Result A F). r >>= f) told

abbrev behind_merge : EntityList → List ServerRow → NextDraw → List EntityRow → Result (EntityList × NextDraw) MergeRefused
behind_merge list rows draws after = Ok (with_rows list after, drawn draws (length (drawing_rows list.rows rows)))

pub merged_gives : (list : EntityList) (rows : List ServerRow) (draws : NextDraw) (all kept : List EntityRow) (count : ℕ)
    → all ≡ merged_rows list.rows rows draws → within_limit all ≡ Ok kept
    → count ≡ length (drawing_rows list.rows rows)
    → merged list rows draws ≡ Ok (with_rows list kept, drawn draws count)
merged_gives list rows draws all kept count is told counted =
    ap (λ (r : List EntityRow). within_limit r >>= behind_merge list rows draws) (sym is)
    ∙ ap (λ (r : Result (List EntityRow) MergeRefused). r >>= behind_merge list rows draws) told
    ∙ ap (λ (n : ℕ). Ok (with_rows list kept, drawn draws n)) (sym counted)

pub merged_tells : (list : EntityList) (rows : List ServerRow) (draws : NextDraw) (all : List EntityRow)
    (fault : Option MergeRefused) → all ≡ merged_rows list.rows rows draws → Tells fault (within_limit all)
    → Tells fault (merged list rows draws)
merged_tells list rows draws all fault is told =
    subst (λ (r : List EntityRow). Tells fault (within_limit r >>= behind_merge list rows draws)) is
    (tells_then fault (within_limit all) (behind_merge list rows draws) told)

-- rows that are within the limit are given as they are
pub within_same : (rows after : List EntityRow) → within_limit rows ≡ Ok after → rows ≡ after
within_same rows after is = elim (cases_Bool (nat_lt row_limit (length rows))) [
  | inl e ↦ cc (rw e at is)
  | inr e ↦ cc (rw e at is)
]
