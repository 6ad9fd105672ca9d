-- The table of versions: what a merge makes of the local and the server's row of an id. A branch is drawn where the
-- server's values are taken.
use Rattle.std.specs.Prelude.{◌≡◌, ◌≢◌, ℕ, ◌<◌, true, false, List, Option, Some, None}
use Rattle.entity_lists.specs.declared.entities.EntityRow.{EntityRow}
use Rattle.entity_lists.specs.declared.entities.ServerRow.{ServerRow}
use Rattle.entity_merge.specs.Merging.{seen_row, taken_row}

pub data Becomes (branch : List ℕ) : Option EntityRow → Option ServerRow → Option EntityRow → Type 0 where
  unknown : (s : ServerRow) → Becomes branch None (Some s) (Some (taken_row s branch))
  older : (l : EntityRow) (s : ServerRow) → l.version < s.version
      → Becomes branch (Some l) (Some s) (Some (taken_row s branch))
  same_trunk : (l : EntityRow) (s : ServerRow) → l.version ≡ s.version → l.trunk ≡ Some s.version
      → Becomes branch (Some l) (Some s) (Some (seen_row l))
  other_trunk : (l : EntityRow) (s : ServerRow) → l.version ≡ s.version → l.trunk ≢ Some s.version
      → Becomes branch (Some l) (Some s) (Some (taken_row s branch))
  newer : (l : EntityRow) (s : ServerRow) → s.version < l.version
      → Becomes branch (Some l) (Some s) (Some (seen_row l))
  offline : (l : EntityRow) → l.online ≡ false → Becomes branch (Some l) None (Some l)
  vanished : (l : EntityRow) → l.online ≡ true → Becomes branch (Some l) None None
