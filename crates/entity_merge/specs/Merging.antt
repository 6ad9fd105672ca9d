-- What becomes of a local entity list when the rows of the server are merged into it: the list and draws after it, or
-- the refusal.
use Rattle.std.specs.Prelude.{ℕ, ◌==◌, ◌&&◌, ◌||◌, not, nat_lt, Bool, true, false, if◌then◌else◌}
use Rattle.std.specs.Prelude.{List, ◌++◌, length, map, filter, find, position}
use Rattle.std.specs.Prelude.{Option, Some, None, is_none, unwrap_or, Result, Ok, Err}
use Rattle.std.specs.List.{filter_map}
use denote.Ref.{Bor}
use Rattle.std.specs.Str.{bytes_eq}
use Rattle.field_text.specs.Steps.{◌>>=◌}
use Rattle.field_ids.specs.Draws.{NextDraw, drawn}
use Rattle.entity_lists.specs.FirstBy.{first_by}
use Rattle.entity_lists.specs.Lists.{with_rows}
use Rattle.entity_lists.specs.ServerRows.{row_limit}
use Rattle.entity_lists.specs.declared.entities.EntityRow.{EntityRow}
use Rattle.entity_lists.specs.declared.entities.ServerRow.{ServerRow}
use Rattle.entity_lists.specs.declared.entity_list.EntityList.{EntityList}
use Rattle.entity_merge.specs.Branches.{branch_of}
use Rattle.entity_merge.specs.declared.merging.MergeRefused.{MergeRefused}
use Rattle.entity_merge.specs.declared.merging.MergeRefused.TheVariants.{NoMemory, TooManyRecords}

-- the rows that a list of references points to
abbrev pub contents : List (Bor ServerRow) → List ServerRow
contents rows = map (λ r. r.now) rows

-- the local and the server's row of an id; of several the first
abbrev pub local_row : List EntityRow → List ℕ → Option EntityRow
local_row locals id = find (λ l. bytes_eq l.id id) locals

abbrev pub server_row : List ServerRow → List ℕ → Option ServerRow
server_row rows id = find (λ s. bytes_eq s.id id) rows

-- of each id the first row counts
abbrev pub first_rows : List ServerRow → List ServerRow
first_rows rows = first_by (λ s. s.id) rows

-- ---- what becomes of a row

abbrev pub is_trunk : Option ℕ → ℕ → Bool
is_trunk None version = false
is_trunk (Some trunk) version = trunk == version

-- the server's values replace those of an older local version, and of the same version with another trunk
abbrev pub server_wins : EntityRow → ServerRow → Bool
server_wins l s = nat_lt l.version s.version || ((l.version == s.version) && not (is_trunk l.trunk s.version))

abbrev pub taken_row : ServerRow → List ℕ → EntityRow
taken_row s branch = record {
  id = s.id;
  label = s.label;
  version = s.version;
  trunk = Some s.version;
  branch = branch;
  online = true;
  props = s.props;
}

abbrev pub seen_row : EntityRow → EntityRow
seen_row l = record l { online = true }

-- a local row that the server lacks goes if it was online
abbrev pub unseen_row : EntityRow → Option EntityRow
unseen_row l = if l.online then None else Some l

-- a local row after the server's of its id, which may start a branch
abbrev pub merged_row : (ServerRow → List ℕ) → EntityRow → Option ServerRow → Option EntityRow
merged_row branch l None = unseen_row l
merged_row branch l (Some s) = Some (if server_wins l s then taken_row s (branch s) else seen_row l)

-- ---- the branches that are drawn

abbrev pub draws_branch : Option EntityRow → ServerRow → Bool
draws_branch None s = true
draws_branch (Some l) s = server_wins l s

-- the server's rows that start a branch, in their order: each takes the next draw
abbrev pub drawing_rows : List EntityRow → List ServerRow → List ServerRow
drawing_rows locals rows = filter (λ s. draws_branch (local_row locals s.id) s) (first_rows rows)

abbrev pub place_among : List ServerRow → List ℕ → ℕ
place_among rows id = unwrap_or (position (λ s. bytes_eq s.id id) rows) 0

-- the branch that a row starts, which is one of those that draw
abbrev pub branch_by : List ServerRow → NextDraw → ServerRow → List ℕ
branch_by drawing draws s = branch_of (drawn draws (place_among drawing s.id))

-- ---- the whole list

-- local rows stay in their order
abbrev pub kept_rows : List EntityRow → List ServerRow → (ServerRow → List ℕ) → List EntityRow
kept_rows locals rows branch = filter_map (λ l. merged_row branch l (server_row rows l.id)) locals

-- of these rows of the server those that the local list lacks
abbrev pub new_rows : List EntityRow → List ServerRow → (ServerRow → List ℕ) → List EntityRow
new_rows locals rows branch = map (λ s. taken_row s (branch s)) (filter (λ s. is_none (local_row locals s.id)) rows)

-- the server's new rows follow the local ones in their own order
abbrev pub merged_rows : List EntityRow → List ServerRow → NextDraw → List EntityRow
merged_rows locals rows draws =
    let branch : ServerRow → List ℕ = branch_by (drawing_rows locals rows) draws in
    kept_rows locals rows branch ++ new_rows locals (first_rows rows) branch

abbrev pub within_limit : List EntityRow → Result (List EntityRow) MergeRefused
within_limit rows = if nat_lt row_limit (length rows) then Err (TooManyRecords (length rows)) else Ok rows

abbrev pub merged : EntityList → List ServerRow → NextDraw → Result (EntityList × NextDraw) MergeRefused
merged list rows draws = do
  after ← within_limit (merged_rows list.rows rows draws)
  Ok (with_rows list after, drawn draws (length (drawing_rows list.rows rows)))

-- each refusal but want of memory is one that the definition gives
abbrev pub fault_of : MergeRefused → Option MergeRefused
fault_of (TooManyRecords count) = Some (TooManyRecords count)
fault_of NoMemory = None
