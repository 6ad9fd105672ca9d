-- The document of a finalized instance (OpenRosa metadata, ODK Entities), without white space between its parts.
use Rattle.std.specs.Prelude.{ℕ, Bool, nat_lt, if◌then◌else◌, List, [], ◌++◌, codes, length, Option, Some, None}
use Rattle.std.specs.Prelude.{Result, Ok, Err}
use Rattle.std.specs.Option.{option_map_or}
use Rattle.form_def.specs.declared.field.EntityDef.{EntityDef}
use Rattle.form_def.specs.declared.form.FormDef.{FormDef}
use Rattle.instance_doc.specs.declared.fault.DocFault.{DocFault}
use Rattle.instance_doc.specs.declared.fault.DocFault.TheVariants as fault
use Rattle.instance_doc.specs.declared.meta.Meta.{Meta}
use Rattle.instance_doc.specs.Markup.{attribute, element, end_tag, escaped, in_utf8, start_tag}
use Rattle.instance_doc.specs.Rows.{Row, content, meta_path, row_at, rows_of}
use Rattle.instance_doc.specs.Elements.{fields_text}

-- ---- what stands in `meta`

abbrev pub deprecated_text : Option (List ℕ) → List ℕ
deprecated_text None = []
deprecated_text (Some id) = element (codes "orx:deprecatedID") (escaped id)

-- the instance's own id, and that of the instance that it is an edit of
abbrev pub ids_text : Meta → List ℕ
ids_text meta = element (codes "orx:instanceID") (escaped meta.instance_id) ++ deprecated_text meta.deprecated

abbrev pub name_element : Row → List ℕ
name_element r = element (codes "orx:instanceName") (content r [])

-- the instance's name, where the form has one; it is written whether it is shown or not
abbrev pub name_text : List ℕ → List Row → List ℕ
name_text root rows = option_map_or name_element (row_at (meta_path root (codes "instanceName")) rows) []

-- an attribute of the entity, where the form has it; it is written whether it is shown or not
abbrev pub entity_attribute : List ℕ → List Row → List ℕ → List ℕ
entity_attribute root rows name =
    option_map_or (λ r. attribute name r.text) (row_at (meta_path root (codes "entity/@" ++ name)) rows) []

-- which entity it is, and whether it is a new one or is changed
abbrev pub action_attributes : List ℕ → List Row → List ℕ
action_attributes root rows = entity_attribute root rows (codes "id") ++ (entity_attribute root rows (codes "create")
    ++ entity_attribute root rows (codes "update"))

-- the version that is changed
abbrev pub version_attributes : List ℕ → List Row → List ℕ
version_attributes root rows = entity_attribute root rows (codes "baseVersion")
    ++ (entity_attribute root rows (codes "trunkVersion") ++ entity_attribute root rows (codes "branchId"))

abbrev pub entity_attributes : List ℕ → List Row → EntityDef → List ℕ
entity_attributes root rows entity = attribute (codes "dataset") entity.dataset ++ (action_attributes root rows
    ++ version_attributes root rows)

abbrev pub entity_tag : List ℕ → List Row → EntityDef → List ℕ
entity_tag root rows entity = codes "<entities:entity" ++ (entity_attributes root rows entity ++ codes ">")

abbrev pub label_content : List ℕ → List Row → List ℕ
label_content root rows = option_map_or (λ r. content r []) (row_at (meta_path root (codes "entity/label")) rows) []

-- the label is written whether the form has one or not, and whether it is shown or not
abbrev pub label_text : List ℕ → List Row → List ℕ
label_text root rows = element (codes "entities:label") (label_content root rows)

abbrev pub entity_text : List ℕ → List Row → Option EntityDef → List ℕ
entity_text root rows None = []
entity_text root rows (Some entity) =
    entity_tag root rows entity ++ (label_text root rows ++ end_tag (codes "entities:entity"))

abbrev pub meta_content : FormDef → List Row → Meta → List ℕ
meta_content form rows meta = ids_text meta ++ (name_text form.root rows ++ entity_text form.root rows form.entity)

abbrev pub meta_text : FormDef → List Row → Meta → List ℕ
meta_text form rows meta = start_tag (codes "orx:meta") ++ (meta_content form rows meta ++ end_tag (codes "orx:meta"))

-- ---- the whole

unfoldable pub declaration : List ℕ
declaration = codes "<?xml version=\"1.0\" encoding=\"UTF-8\"?>"

unfoldable pub namespaces : List ℕ
namespaces = codes " xmlns:orx=\"http://openrosa.org/xforms\""
    ++ codes " xmlns:entities=\"http://www.opendatakit.org/xforms/entities\""

abbrev pub root_name : FormDef → List ℕ
root_name form = codes "<" ++ (in_utf8 form.root ++ namespaces)

abbrev pub root_attributes : FormDef → List ℕ
root_attributes form = attribute (codes "id") form.id ++ attribute (codes "version") form.version

abbrev pub root_tag : FormDef → List ℕ
root_tag form = root_name form ++ (root_attributes form ++ codes ">")

abbrev pub root_content : FormDef → List Row → Meta → List ℕ
root_content form rows meta = fields_text form.root rows ++ meta_text form rows meta

abbrev pub root_text : FormDef → List Row → Meta → List ℕ
root_text form rows meta = root_tag form ++ (root_content form rows meta ++ end_tag form.root)

abbrev pub document : FormDef → List Row → Meta → List ℕ
document form rows meta = declaration ++ root_text form rows meta

-- the document of a form's instance with these texts, of which these are shown
abbrev pub doc_of : FormDef → List (List ℕ) → List Bool → Meta → List ℕ
doc_of form texts shown meta = document form (rows_of form.fields texts shown) meta

-- ---- its limit

abbrev pub document_limit : ℕ
document_limit = 131072

abbrev pub limited : List ℕ → Result (List ℕ) DocFault
limited document =
    if nat_lt document_limit (length document) then Err (fault.TooLong (length document)) else Ok document

-- want of memory says nothing
abbrev pub fault_of : DocFault → Option DocFault
fault_of (fault.TooLong length) = Some (fault.TooLong length)
fault_of fault.NoMemory = None
