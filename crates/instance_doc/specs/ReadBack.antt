-- When the document of an instance is read back as what was given.
use Rattle.std.specs.Prelude.{ℕ, Bool, true, not, ◌&&◌, ◌||◌, nat_le, List, [], codes, count_by}
use Rattle.std.specs.List.{list_all}
use Rattle.std.specs.Option.{option_map_or}
use Rattle.std.specs.Str.{bytes_eq, chars, is_utf8}
use Rattle.field_text.specs.Xml.{is_xml_char}
use Rattle.form_def.specs.declared.form.FormDef.{FormDef}
use Rattle.form_def.specs.Paths.{is_slash}
use Rattle.rosa_doc.specs.LocalNames.{spells_local_name}
use Rattle.instance_doc.specs.declared.instance.Read.{Read}
use Rattle.instance_doc.specs.declared.meta.Meta.{Meta}
use Rattle.instance_doc.specs.Rows.{Row, is_in_meta, last_name, meta_path}
use Rattle.instance_doc.specs.Elements.{Placed, field_text, placed}

-- what was given
abbrev pub given : FormDef → Meta → Read
given form meta = record {
  form_id = form.id;
  version = form.version;
  instance_id = meta.instance_id;
  deprecated = meta.deprecated;
}

-- a text of characters that a document may hold
abbrev pub is_kept : List ℕ → Bool
is_kept text = is_utf8 text && list_all is_xml_char (chars text)

abbrev pub are_kept : FormDef → Meta → Bool
are_kept form meta = is_kept form.id && is_kept form.version && is_kept meta.instance_id
    && option_map_or is_kept meta.deprecated true

-- a path has so many names
abbrev pub names : List ℕ → ℕ
names path = count_by is_slash path

-- a field outside `meta` is an element, and no element is at a level above 16
abbrev pub is_right : List ℕ → Row → Bool
is_right meta r =
    is_in_meta meta r.field.path || (spells_local_name (last_name r.field.path) && nat_le (names r.field.path) 16)

-- an outermost field outside `meta` has another name
abbrev pub is_no_meta : List ℕ → Placed (List ℕ) → Bool
is_no_meta meta p = is_in_meta meta p.path || not (bytes_eq (last_name p.path) (codes "meta"))

abbrev pub are_right : List ℕ → List Row → Bool
are_right meta rows = list_all (is_right meta) rows && list_all (is_no_meta meta) (placed (field_text meta) rows)

-- the names that are written are such that the document can be read
abbrev pub is_readable : FormDef → List Row → Bool
is_readable form rows = spells_local_name form.root && are_right (meta_path form.root []) rows
