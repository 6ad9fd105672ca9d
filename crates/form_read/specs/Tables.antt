-- Secondary instances (ODK XForms, "Secondary Instances") and values that are set. Of tables of one name the first
-- counts, and the others are unread with their faults.
use Rattle.std.specs.Prelude.{ℕ, Bool, true, false, ◌-◌, ◌&&◌, ◌||◌, if◌then◌else◌, List, [], ◌∷◌, ◌++◌, codes}
use Rattle.std.specs.Prelude.{nat_eq, length, take, drop, Option, Some, None, Result, Ok, Err, option_and_then}
use Rattle.std.specs.List.{list_any, starts_with, ends_with}
use Rattle.std.specs.Option.{option_map_or}
use Rattle.std.specs.Str.{bytes_eq}
use Rattle.form_read.specs.Lists.{is_empty}
use Rattle.form_def.specs.declared.field.InnerTable.{InnerTable}
use Rattle.form_def.specs.declared.field.OuterTable.{OuterTable}
use Rattle.form_outline.specs.declared.outline.Table.{Table}
use Rattle.form_outline.specs.declared.outline.TableContent.{TableContent}
use Rattle.form_outline.specs.declared.outline.TableContent.TheVariants.{Rows, Source, Nothing}
use Rattle.form_outline.specs.declared.outline.SetValue.{SetValue}
use Rattle.form_read.specs.declared.refusal.FormRefused.{FormRefused}
use Rattle.form_read.specs.declared.refusal.FormRefused.TheVariants.{UnknownControl, UnknownList}
use Rattle.form_read.specs.declared.scope.Scope.{Scope}
use Rattle.form_read.specs.declared.draft.Draft.{Draft}
use Rattle.form_read.specs.Slots.{slot_of}
use Rattle.form_read.specs.Primary.{entity_path}
use Rattle.form_read.specs.Binds.{is_given}

abbrev pub has_inner : List InnerTable → List ℕ → Bool
has_inner tables name = list_any (λ t. bytes_eq t.name name) tables

abbrev pub has_outer : List OuterTable → List ℕ → Bool
has_outer tables name = list_any (λ t. bytes_eq t.name name) tables

abbrev pub has_table : Draft → List ℕ → Bool
has_table d name = has_inner d.inner name || has_outer d.outer name

abbrev pub scheme : List ℕ
scheme = codes "jr://file-csv/"

abbrev pub extension : List ℕ
extension = codes ".csv"

abbrev pub behind_scheme : List ℕ → Option (List ℕ)
behind_scheme source = if starts_with nat_eq source scheme then Some (drop (length scheme) source) else None

abbrev pub before_extension : List ℕ → Option (List ℕ)
before_extension file =
    if ends_with nat_eq file extension then Some (take (length file - length extension) file) else None

abbrev pub if_some_name : List ℕ → Option (List ℕ)
if_some_name name = if is_empty name then None else Some name

-- the entity list that `jr://file-csv/NAME.csv` names
abbrev pub list_named : List ℕ → Option (List ℕ)
list_named source = option_and_then if_some_name (option_and_then before_extension (behind_scheme source))

abbrev pub with_inner : Draft → InnerTable → Draft
with_inner d table = record d { inner = d.inner ++ table ∷ [] }

abbrev pub with_outer : Draft → OuterTable → Draft
with_outer d table = record d { outer = d.outer ++ table ∷ [] }

abbrev pub source_taken : Draft → List ℕ → Option (List ℕ) → Result Draft FormRefused
source_taken d id None = Err (UnknownList id)
source_taken d id (Some list) = Ok (with_outer d (record { name = id; list = list }))

abbrev pub content_taken : Draft → List ℕ → TableContent → Result Draft FormRefused
content_taken d id (Rows rows) = Ok (with_inner d (record { name = id; rows = rows }))
content_taken d id Nothing = Ok (with_inner d (record { name = id; rows = [] }))
content_taken d id (Source source) = source_taken d id (list_named source)

abbrev pub table_taken : Draft → Table → Result Draft FormRefused
table_taken d table = if has_table d table.id then Ok d else content_taken d table.id table.content

abbrev pub says : List ℕ → Option (List ℕ) → Bool
says text value = option_map_or (λ v. bytes_eq v text) value false

abbrev pub entity_id_path : List ℕ → List ℕ
entity_id_path root = entity_path root ++ codes "/@id"

-- the one value that may be set: a fresh id for the entity, when an instance begins
abbrev pub draws_id : Scope → SetValue → Bool
draws_id scope setvalue =
    is_given (slot_of scope.slots (entity_id_path scope.root)) && says (entity_id_path scope.root) setvalue.target
    && says (codes "odk-instance-first-load") setvalue.event
    && says (codes "uuid()") setvalue.value

abbrev pub setvalue_taken : Scope → Draft → SetValue → Result Draft FormRefused
setvalue_taken scope d setvalue =
    if draws_id scope setvalue then Ok (record d { draws_id = true }) else Err (UnknownControl (codes "setvalue"))
