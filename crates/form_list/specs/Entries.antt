-- The entries of a form list and of a manifest (OpenRosa Form List API 1.0), and what they lack.
use Rattle.std.specs.Prelude.{ℕ, ◌+◌, Bool, false, if◌then◌else◌, List, [], ◌∷◌, codes, Option, Some, None}
use Rattle.std.specs.Option.{option_map_or, option_or}
use Rattle.std.specs.Str.{bytes_eq}
use Rattle.field_ids.specs.Hashes.{is_hash}
use Rattle.rosa_doc.specs.declared.tree.Element.{Element}
use Rattle.rosa_nodes.specs.Nodes.{attribute_of}
use Rattle.rosa_nodes.specs.Trimming.{text_of_child}
use Rattle.form_list.specs.declared.entries.Listed.{Listed}
use Rattle.form_list.specs.declared.entries.MediaFile.{MediaFile}
use Rattle.form_list.specs.declared.refusal.Child.{Child}
use Rattle.form_list.specs.declared.refusal.Child.TheVariants.{FormId, Hash, DownloadUrl, Filename}
use Rattle.form_list.specs.declared.refusal.ListRefused.{ListRefused}
use Rattle.form_list.specs.declared.refusal.ListRefused.TheVariants.{Missing, BadHash}

-- a text, where it isn't empty
abbrev pub unless_empty : List ℕ → Option (List ℕ)
unless_empty [] = None
unless_empty (b ∷ bs) = Some (b ∷ bs)

-- a child that an entry needs, where its text is empty
abbrev pub missing : ℕ → Child → List ℕ → Option ListRefused
missing entry child [] = Some (Missing entry child)
missing entry child (b ∷ bs) = None

abbrev pub bad_hash : ℕ → List ℕ → Option ListRefused
bad_hash entry hash = if is_hash hash then None else Some (BadHash entry)

-- ---- forms

abbrev pub listed_of : Element → Listed
listed_of e = record {
  form_id = text_of_child (codes "formID") e.children;
  name = text_of_child (codes "name") e.children;
  version = text_of_child (codes "version") e.children;
  hash = text_of_child (codes "hash") e.children;
  download = text_of_child (codes "downloadUrl") e.children;
  manifest = unless_empty (text_of_child (codes "manifestUrl") e.children);
}

-- the first thing that a form lacks
abbrev pub listed_fault : ℕ → Listed → Option ListRefused
listed_fault entry item =
    option_or (missing entry FormId item.form_id)
    (option_or (missing entry Hash item.hash)
    (option_or (missing entry DownloadUrl item.download)
    (bad_hash entry item.hash)))

-- ---- media files

-- the attribute `type` has this value, as it is written
abbrev pub is_entity_list : Element → Bool
is_entity_list e =
    option_map_or (λ kind. bytes_eq kind (codes "entityList")) (attribute_of (codes "type") e.attributes) false

abbrev pub media_file_of : Element → MediaFile
media_file_of e = record {
  filename = text_of_child (codes "filename") e.children;
  hash = text_of_child (codes "hash") e.children;
  download = text_of_child (codes "downloadUrl") e.children;
  entity_list = is_entity_list e;
}

abbrev pub media_file_fault : ℕ → MediaFile → Option ListRefused
media_file_fault entry item =
    option_or (missing entry Filename item.filename)
    (option_or (missing entry Hash item.hash)
    (option_or (missing entry DownloadUrl item.download)
    (bad_hash entry item.hash)))

-- ---- entries in their order

-- the first fault of some entries, the first of which has this number
abbrev pub first_fault : {A : Type 0} → (ℕ → A → Option ListRefused) → ℕ → List A → Option ListRefused
first_fault fault entry [] = None
first_fault fault entry (item ∷ items) = option_or (fault entry item) (first_fault fault (entry + 1) items)
