-- The tables of a form (ODK XForms, "Secondary Instances"): a table is the first instance of its id.
use Rattle.std.specs.Prelude.{◌≡◌, ℕ, Bool, true, false, if◌then◌else◌, List, [], find, Option, Some, None}
use Rattle.std.specs.Str.{bytes_eq}
use Rattle.form_def.specs.declared.field.Cell.{Cell}
use Rattle.form_def.specs.declared.field.InnerTable.{InnerTable}
use Rattle.form_def.specs.declared.field.OuterTable.{OuterTable}
use Rattle.form_outline.specs.declared.outline.ModelPart.{ModelPart}
use Rattle.form_outline.specs.declared.outline.ModelPart.TheVariants as part
use Rattle.form_outline.specs.declared.outline.Table.{Table}
use Rattle.form_outline.specs.declared.outline.TableContent.{TableContent}
use Rattle.form_outline.specs.declared.outline.TableContent.TheVariants.{Rows, Source, Nothing}
use Rattle.form_read.specs.declared.refusal.FormRefused.{FormRefused}
use Rattle.form_read.specs.declared.refusal.FormRefused.TheVariants.{UnknownList}
use Rattle.form_read.specs.Binds.{is_given}
use Rattle.form_read.specs.Tables.{list_named}

abbrev pub is_table_of : List ℕ → ModelPart → Bool
is_table_of id part.Primary = false
is_table_of id (part.Bind bind) = false
is_table_of id (part.Table table) = bytes_eq table.id id
is_table_of id (part.Submission auto_send) = false
is_table_of id (part.SetValue setvalue) = false
is_table_of id (part.Other element) = false

abbrev pub is_inner_of : List ℕ → InnerTable → Bool
is_inner_of id table = bytes_eq table.name id

abbrev pub is_outer_of : List ℕ → OuterTable → Bool
is_outer_of id table = bytes_eq table.name id

abbrev pub inner_table : List ℕ → List (List Cell) → InnerTable
inner_table id rows = record { name = id; rows = rows }

abbrev pub outer_table : List ℕ → List ℕ → OuterTable
outer_table id list = record { name = id; list = list }

-- What the instances among these parts say of an id: the first with this id is a table of its rows, or of the entity list
-- that its source names.
pub data TablesSay (parts : List ModelPart) (id : List ℕ) : Option InnerTable → Option OuterTable → Type 0 where
  unknown : find (is_table_of id) parts ≡ None → TablesSay parts id None None
  of_rows : (table : Table) (rows : List (List Cell)) → find (is_table_of id) parts ≡ Some (part.Table table)
      → table.content ≡ Rows rows → TablesSay parts id (Some (inner_table id rows)) None
  without_rows : (table : Table) → find (is_table_of id) parts ≡ Some (part.Table table) → table.content ≡ Nothing
      → TablesSay parts id (Some (inner_table id [])) None
  of_list : (table : Table) (source list : List ℕ) → find (is_table_of id) parts ≡ Some (part.Table table)
      → table.content ≡ Source source → list_named source ≡ Some list
      → TablesSay parts id None (Some (outer_table id list))

abbrev pub source_cause : List ℕ → Option (List ℕ) → Option FormRefused
source_cause id None = Some (UnknownList id)
source_cause id (Some list) = None

abbrev pub content_cause : List ℕ → TableContent → Option FormRefused
content_cause id (Rows rows) = None
content_cause id Nothing = None
content_cause id (Source source) = source_cause id (list_named source)

-- a later instance of an id is unread
abbrev pub table_cause : List ModelPart → Table → Option FormRefused
table_cause before table =
    if is_given (find (is_table_of table.id) before) then None else content_cause table.id table.content
