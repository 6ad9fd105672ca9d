-- The entities of a server's list: what a CSV text reads as, or the first fault of it.
use Rattle.std.specs.Prelude.{ℕ, ◌+◌, ◌==◌, ◌&&◌, ◌||◌, not, nat_le, nat_lt, if◌then◌else◌, Bool}
use Rattle.std.specs.Prelude.{List, [], ◌∷◌, length, map, filter, take, codes, position, slice_get}
use Rattle.std.specs.Prelude.{Option, Some, None, is_none, unwrap_or, Result, Ok, Err}
use Rattle.std.specs.List.{list_all, starts_with}
use Rattle.std.specs.Option.{option_or}
use Rattle.std.specs.Bool.{nat_eq}
use Rattle.std.specs.Fmt.{decimal}
use Rattle.std.specs.Str.{bytes_eq, is_utf8}
use Rattle.std.specs.Str.Parse.{digits_value}
use Rattle.entity_lists.specs.CsvRecords.{records_of}
use Rattle.entity_lists.specs.FirstBy.{first_by}
use Rattle.entity_lists.specs.declared.entities.Prop.{Prop}
use Rattle.entity_lists.specs.declared.entities.ServerRow.{ServerRow}
use Rattle.entity_lists.specs.declared.server_rows.CsvRefused.{CsvRefused}
use Rattle.entity_lists.specs.declared.server_rows.CsvRefused.TheVariants.{NoName, NoLabel, NoVersion}
use Rattle.entity_lists.specs.declared.server_rows.CsvRefused.TheVariants.{BadVersion, Ragged, NotUtf8, TooMany}

-- how many rows a list holds, how many properties are taken from a server's list, and its greatest version
abbrev pub row_limit : ℕ
row_limit = 4096

abbrev pub property_limit : ℕ
property_limit = 64

abbrev pub server_version_limit : ℕ
server_version_limit = 999999999999999

-- the place of the first column of a name
abbrev pub column_place : List (List ℕ) → List ℕ → Option ℕ
column_place header name = position (λ column. bytes_eq column name) header

abbrev pub field_at_place : List (List ℕ) → Option ℕ → List ℕ
field_at_place fields None = []
field_at_place fields (Some place) = unwrap_or (slice_get fields place) []

-- the field of a record in the first column of a name
abbrev pub field_under : List (List ℕ) → List ℕ → List (List ℕ) → List ℕ
field_under header name fields = field_at_place fields (column_place header name)

-- ---- the header

abbrev pub header_fault : List (List ℕ) → Option CsvRefused
header_fault header =
    if not (list_all is_utf8 header) then Some (NotUtf8 0)
    else if is_none (column_place header (codes "name")) then Some NoName
    else if is_none (column_place header (codes "label")) then Some NoLabel
    else if is_none (column_place header (codes "__version")) then Some NoVersion
    else None

-- whether a column of this name holds a property
abbrev pub is_property : List ℕ → Bool
is_property name =
    not (bytes_eq name (codes "name") || bytes_eq name (codes "label") || starts_with nat_eq name (codes "__"))

-- the names of some columns, each once, where it stands first
abbrev pub first_of_each : List (List ℕ) → List (List ℕ)
first_of_each names = first_by (λ name. name) names

abbrev pub property_names : List (List ℕ) → List (List ℕ)
property_names header = take property_limit (filter is_property (first_of_each header))

-- ---- a row of data

-- the version that a text writes: a decimal from 1 on
abbrev pub version_in : List ℕ → Option ℕ
version_in text =
    let value = digits_value 10 text in
    if bytes_eq (decimal value) text && nat_le 1 value && nat_le value server_version_limit then Some value else None

-- rows are counted from 1
abbrev pub row_fault : List (List ℕ) → ℕ → List (List ℕ) → Option CsvRefused
row_fault header row fields =
    if not (length fields == length header) then Some (Ragged row)
    else if not (list_all is_utf8 fields) then Some (NotUtf8 row)
    else if is_none (version_in (field_under header (codes "__version") fields)) then Some (BadVersion row)
    else None

abbrev pub prop_under : List (List ℕ) → List (List ℕ) → List ℕ → Prop
prop_under header fields name = record { name = name; value = field_under header name fields }

abbrev pub server_row : List (List ℕ) → List (List ℕ) → ServerRow
server_row header fields = record {
  id = field_under header (codes "name") fields;
  label = field_under header (codes "label") fields;
  version = unwrap_or (version_in (field_under header (codes "__version") fields)) 0;
  props = map (prop_under header fields) (property_names header);
}

-- ---- the whole text

-- the first fault of some rows, the first of which has this number
abbrev pub rows_fault : List (List ℕ) → ℕ → List (List (List ℕ)) → Option CsvRefused
rows_fault header row [] = None
rows_fault header row (fields ∷ rest) =
    if nat_lt row_limit row then Some (TooMany row)
    else option_or (row_fault header row fields) (rows_fault header (row + 1) rest)

-- whether a row names an entity
abbrev pub is_named : ServerRow → Bool
is_named row = not (length row.id == 0)

-- what was read, unless there is a fault
abbrev pub unless_fault : {A : Type 0} → Option CsvRefused → Result A CsvRefused → Result A CsvRefused
unless_fault (Some fault) read = Err fault
unless_fault None read = read

-- the first record names the columns; rows of an entity without a name are left out once they are found to be right
abbrev pub rows_of_records : List (List (List ℕ)) → Result (List ServerRow) CsvRefused
rows_of_records [] = Err NoName
rows_of_records (header ∷ rows) =
    unless_fault (header_fault header)
    (unless_fault (rows_fault header 1 rows) (Ok (filter is_named (map (server_row header) rows))))

abbrev pub rows_of : List ℕ → Result (List ServerRow) CsvRefused
rows_of bytes = rows_of_records (records_of bytes)
