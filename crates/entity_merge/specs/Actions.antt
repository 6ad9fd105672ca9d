-- What the action of a finalized form makes of an entity list: the list and the draws after it, or the refusal.
use Rattle.std.specs.Prelude.{ℕ, ◌+◌, ◌==◌, ◌&&◌, nat_lt, if◌then◌else◌, Bool, false, List, [], ◌∷◌, ◌++◌}
use Rattle.std.specs.Prelude.{length, map, fold, position, slice_set, Option, Some, None, Result, Ok, Err}
use Rattle.std.specs.List.{list_any}
use Rattle.std.specs.Str.{bytes_eq}
use Rattle.field_text.specs.Steps.{◌>>=◌}
use Rattle.field_ids.specs.Draws.{NextDraw, drawn}
use Rattle.entity_lists.specs.Lists.{with_rows}
use Rattle.entity_lists.specs.ServerRows.{row_limit}
use Rattle.entity_lists.specs.Versions.{is_last}
use Rattle.entity_lists.specs.declared.entities.EntityRow.{EntityRow}
use Rattle.entity_lists.specs.declared.entities.Prop.{Prop}
use Rattle.entity_lists.specs.declared.entity_list.EntityList.{EntityList}
use Rattle.entity_merge.specs.Branches.{branch_of}
use Rattle.entity_merge.specs.declared.actions.Action.{Action}
use Rattle.entity_merge.specs.declared.actions.ActionRefused.{ActionRefused}
use Rattle.entity_merge.specs.declared.actions.ActionRefused.TheVariants.{AtEnd, NoMemory, TooManyRecords}

-- ---- a creation

abbrev pub created_row : Action → List ℕ → EntityRow
created_row action branch = record {
  id = action.id;
  label = action.label;
  version = 1;
  trunk = None;
  branch = branch;
  online = false;
  props = action.props;
}

-- what is made goes to the end of the list, with the branch that was drawn for it
abbrev pub created_rows : List EntityRow → Action → List ℕ → Result (List EntityRow) ActionRefused
created_rows rows action branch =
    if nat_lt row_limit (length rows + 1) then Err (TooManyRecords (length rows + 1))
    else Ok (rows ++ created_row action branch ∷ [])

-- ---- an update

-- a property takes the place of the first of its name, or goes to the end
abbrev pub put_at : List Prop → Prop → Option ℕ → List Prop
put_at props new None = props ++ new ∷ []
put_at props new (Some place) = slice_set props place new

abbrev pub put_prop : List Prop → Prop → List Prop
put_prop props new = put_at props new (position (λ p. bytes_eq p.name new.name) props)

-- an empty label leaves the one that there is
abbrev pub label_after : Action → EntityRow → List ℕ
label_after action row = if length action.label == 0 then row.label else action.label

abbrev pub updated_row : Action → EntityRow → EntityRow
updated_row action row = record row {
  version = row.version + 1;
  label = label_after action row;
  props = fold put_prop row.props action.props;
}

abbrev pub is_acted_on : Action → EntityRow → Bool
is_acted_on action row = bytes_eq row.id action.id

abbrev pub row_after : Action → EntityRow → EntityRow
row_after action row = if is_acted_on action row then updated_row action row else row

-- whether a row is the action's and has no further version
abbrev pub is_at_end : Action → EntityRow → Bool
is_at_end action row = is_acted_on action row && is_last row.version

abbrev pub updated_rows : List EntityRow → Action → Result (List EntityRow) ActionRefused
updated_rows rows action =
    if list_any (is_at_end action) rows then Err (AtEnd action.id) else Ok (map (row_after action) rows)

-- ---- an action

abbrev pub acted_rows : List EntityRow → Action → NextDraw → Result (List EntityRow) ActionRefused
acted_rows rows action draws =
    if action.create then created_rows rows action (branch_of draws) else updated_rows rows action

-- a creation draws its branch, and an update nothing
abbrev pub draws_after : Action → NextDraw → NextDraw
draws_after action draws = if action.create then drawn draws 1 else draws

abbrev pub acted : EntityList → Action → NextDraw → Result (EntityList × NextDraw) ActionRefused
acted list action draws = do
  rows ← acted_rows list.rows action draws
  Ok (with_rows list rows, draws_after action draws)

-- each refusal but want of memory is one that the definition gives
abbrev pub fault_of : ActionRefused → Option ActionRefused
fault_of (TooManyRecords count) = Some (TooManyRecords count)
fault_of (AtEnd id) = Some (AtEnd id)
fault_of NoMemory = None
