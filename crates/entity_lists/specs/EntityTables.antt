-- Entity lists as tables: a table for each list, and a row for each entity.
use Rattle.std.specs.Prelude.{ℕ, List, [], ◌∷◌, map, codes, Option, Some, None}
use Rattle.std.specs.Fmt.{decimal}
use Rattle.field_text.specs.Tables.{NamedCell, NamedTable}
use Rattle.entity_lists.specs.declared.entities.Prop.{Prop}
use Rattle.entity_lists.specs.declared.entities.EntityRow.{EntityRow}
use Rattle.entity_lists.specs.declared.entity_list.EntityList.{EntityList}

abbrev pub cell_of : List ℕ → List ℕ → NamedCell
cell_of column text = record { column = column; text = text }

-- a trunk version as text, empty where there is none
abbrev pub trunk_text : Option ℕ → List ℕ
trunk_text None = []
trunk_text (Some version) = decimal version

abbrev pub prop_cell : Prop → NamedCell
prop_cell prop = cell_of prop.name prop.value

-- the columns of an entity: five fixed ones, and then its properties
abbrev pub entity_cells : EntityRow → List NamedCell
entity_cells row =
    cell_of (codes "name") row.id
    ∷ cell_of (codes "label") row.label
    ∷ cell_of (codes "__version") (decimal row.version)
    ∷ cell_of (codes "__trunkVersion") (trunk_text row.trunk)
    ∷ cell_of (codes "__branchId") row.branch
    ∷ map prop_cell row.props

abbrev pub list_table : EntityList → NamedTable
list_table list = record { name = list.name; rows = map entity_cells list.rows }

abbrev pub tables_of : List EntityList → List NamedTable
tables_of lists = map list_table lists
