-- What a document says of the instance that it is of, by local names (OpenRosa metadata). Of several elements or
-- attributes of one name the first counts.
use Rattle.std.specs.Prelude.{◌≡◌, ℕ, List, [], codes, Option, option_map, option_and_then, unwrap_or}
use Rattle.rosa_doc.specs.declared.tree.Doc.{Doc}
use Rattle.rosa_doc.specs.declared.tree.Element.{Element}
use Rattle.rosa_doc.specs.Refusals.{IsDoc}
use Rattle.rosa_nodes.specs.Nodes.{child_named, text_of_attribute, words_of}
use Rattle.instance_doc.specs.declared.instance.Read.{Read}

-- the text of a child of `meta`
abbrev pub text_in_meta : List ℕ → Element → Option (List ℕ)
text_in_meta name root = option_and_then
    (λ meta. option_map (λ e. words_of e.children) (child_named name meta.children))
    (child_named (codes "meta") root.children)

-- what isn't there is the empty text, but for the deprecated id
abbrev pub read_of : Element → Read
read_of root = record {
  form_id = text_of_attribute (codes "id") root.attributes;
  version = text_of_attribute (codes "version") root.attributes;
  instance_id = unwrap_or (text_in_meta (codes "instanceID") root) [];
  deprecated = text_in_meta (codes "deprecatedID") root;
}

-- the bytes are a document that says this of its instance
abbrev pub ReadsAs : List ℕ → Read → Type 0
ReadsAs bytes read = (doc : Doc) × IsDoc bytes doc × (read ≡ read_of doc.root)
