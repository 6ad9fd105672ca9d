-- The documents that are written, and when they are read back as the same items.
use Rattle.std.specs.Prelude.{ℕ, ◌&&◌, nat_le, Bool, true, false, if◌then◌else◌, List, [], ◌∷◌, ◌++◌, codes, length}
use Rattle.std.specs.Prelude.{Option, Some, None}
use Rattle.std.specs.List.{flat_map, list_all}
use Rattle.std.specs.Option.{option_map_or}
use Rattle.field_ids.specs.Hashes.{is_hash}
use Rattle.rosa_doc.specs.Refusals.{longest_document}
use Rattle.rosa_nodes.specs.Writing.{Leaf, end_text, is_plain, leaf, leaf_text, start_text}
use Rattle.form_list.specs.declared.entries.Listed.{Listed}
use Rattle.form_list.specs.declared.entries.MediaFile.{MediaFile}

-- an entry between its tags
abbrev pub entry_text : List ℕ → List Leaf → List ℕ → List ℕ
entry_text start children end = start ++ (flat_map leaf_text children ++ end)

-- ---- forms

abbrev pub manifest_leaf : Option (List ℕ) → List Leaf
manifest_leaf None = []
manifest_leaf (Some manifest) = leaf (codes "manifestUrl") manifest ∷ []

abbrev pub form_leaves : Listed → List Leaf
form_leaves form =
    leaf (codes "formID") form.form_id
    ∷ leaf (codes "name") form.name
    ∷ leaf (codes "version") form.version
    ∷ leaf (codes "hash") form.hash
    ∷ leaf (codes "downloadUrl") form.download
    ∷ manifest_leaf form.manifest

unfoldable pub form_text : Listed → List ℕ
form_text form = entry_text (start_text (codes "xform")) (form_leaves form) (end_text (codes "xform"))

abbrev pub list_start : List ℕ
list_start = codes "<xforms xmlns=\"http://openrosa.org/xforms/xformsList\">"

-- the document of a form list
unfoldable pub list_text : List Listed → List ℕ
list_text forms = list_start ++ (flat_map form_text forms ++ end_text (codes "xforms"))

-- ---- media files

abbrev pub file_leaves : MediaFile → List Leaf
file_leaves file =
    leaf (codes "filename") file.filename
    ∷ leaf (codes "hash") file.hash
    ∷ leaf (codes "downloadUrl") file.download
    ∷ []

abbrev pub file_start : MediaFile → List ℕ
file_start file = if file.entity_list then codes "<mediaFile type=\"entityList\">" else start_text (codes "mediaFile")

unfoldable pub file_text : MediaFile → List ℕ
file_text file = entry_text (file_start file) (file_leaves file) (end_text (codes "mediaFile"))

abbrev pub manifest_start : List ℕ
manifest_start = codes "<manifest xmlns=\"http://openrosa.org/xforms/xformsManifest\">"

-- the document of a manifest
unfoldable pub manifest_text : List MediaFile → List ℕ
manifest_text files = manifest_start ++ (flat_map file_text files ++ end_text (codes "manifest"))

-- ---- what reads back

abbrev pub are_plain : List Leaf → Bool
are_plain leaves = list_all (λ l. is_plain l.text) leaves

abbrev pub is_present : List ℕ → Bool
is_present [] = false
is_present (b ∷ bs) = true

-- what is needed is there, the hash is one, and no manifest is the empty text
abbrev pub is_form : Listed → Bool
is_form form =
    are_plain (form_leaves form) && is_present form.form_id && is_present form.hash && is_present form.download
    && is_hash form.hash && option_map_or is_present form.manifest true

abbrev pub is_file : MediaFile → Bool
is_file file =
    are_plain (file_leaves file) && is_present file.filename && is_present file.hash && is_present file.download
    && is_hash file.hash

-- so many items at most, each of them right, in a document within its limit
abbrev pub reads_back : {A : Type 0} → (A → Bool) → ℕ → List A → List ℕ → Bool
reads_back is_right limit items text =
    list_all is_right items && nat_le (length items) limit && nat_le (length text) longest_document
