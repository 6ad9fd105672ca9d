-- The fields in the tree of the document of an instance.
use Rattle.std.specs.Prelude.{◌≡◌, ℕ, if◌then◌else◌, List, [], ◌∷◌, ◌++◌, codes, encode_utf8_all, map}
use Rattle.std.specs.Str.{chars}
use Rattle.field_text.specs.Xml.{xml_char_of}
use Rattle.rosa_doc.specs.declared.tree.Doc.{Doc}
use Rattle.rosa_doc.specs.declared.tree.Element.{Element}
use Rattle.rosa_doc.specs.declared.tree.Node.{Node}
use Rattle.rosa_doc.specs.declared.tree.Node.TheVariants.{Child}
use Rattle.rosa_doc.specs.Documents.{with_words}
use Rattle.rosa_doc.specs.Refusals.{IsDoc}
use Rattle.instance_doc.specs.Markup.{in_utf8}
use Rattle.instance_doc.specs.Rows.{Row, is_group, last_name, meta_path}
use Rattle.instance_doc.specs.Elements.{is_written, placed, values}

-- a text, with U+FFFD in the place of each character that no document may hold
abbrev pub kept_text : List ℕ → List ℕ
kept_text text = encode_utf8_all (map xml_char_of (chars text))

abbrev pub field_element : Row → List Node → Element
field_element r inside = record {
  name = in_utf8 (last_name r.field.path);
  attributes = [];
  children = if is_group r.field.kind then inside else with_words [] (kept_text r.text);
}

-- a field's element round what stands inside, where the field is written
abbrev pub field_nodes : List ℕ → Row → List Node → List Node
field_nodes meta r inside = if is_written meta r then Child (field_element r inside) ∷ [] else []

abbrev pub fields_nodes : List ℕ → List Row → List Node
fields_nodes root rows = values (placed (field_nodes (meta_path root [])) rows)

-- the bytes are a document whose root has the fields that are written, and behind them `meta`
pub record HasFields (bytes : List ℕ) (root : List ℕ) (rows : List Row) : Type 0 where
  pub doc : Doc
  pub document : IsDoc bytes doc
  pub meta : Element
  pub named : meta.name ≡ codes "meta"
  pub fields : doc.root.children ≡ fields_nodes root rows ++ (Child meta ∷ [])
