-- Laws of merges and actions.
use Rattle.std.specs.Prelude.{All, Contains, ◌≡◌, ◌<◌, false, List, Some, None, IfSome}
use Rattle.entity_lists.specs.Versions.{IsVersion}
use Rattle.entity_lists.specs.declared.entities.EntityRow.{EntityRow}
use Rattle.entity_lists.specs.declared.entities.ServerRow.{ServerRow}
use Rattle.entity_merge.specs.Merging.{seen_row, server_row}

-- an offline row that the server lacks stays as it was
abbrev pub OfflineStay : List EntityRow → List ServerRow → List EntityRow → Type 0
OfflineStay locals rows merged = All (λ l. l.online ≡ false → server_row rows l.id ≡ None → Contains merged l) locals

-- a row newer than the server's keeps its values
abbrev pub NewerStay : List EntityRow → List ServerRow → List EntityRow → Type 0
NewerStay locals rows merged =
    All (λ l. (s : ServerRow) → server_row rows l.id ≡ Some s → s.version < l.version
    → Contains merged (seen_row l)) locals

-- the version of each row is within the limit, and so is its trunk
abbrev pub HasVersions : EntityRow → Type 0
HasVersions row = IsVersion row.version × IfSome row.trunk IsVersion

abbrev pub HaveVersions : List EntityRow → Type 0
HaveVersions rows = All HasVersions rows

abbrev pub ServeVersions : List ServerRow → Type 0
ServeVersions rows = All (λ s. IsVersion s.version) rows
