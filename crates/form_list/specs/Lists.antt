-- What a document reads as: a form list or a manifest, or the first refusal.
use Rattle.std.specs.Prelude.{◌≡◌, ◌⊎◌, ℕ, nat_lt, if◌then◌else◌, List, codes, filter_map, length, map, Option, Some}
use Rattle.std.specs.Prelude.{None, Result, Ok, Err}
use Rattle.std.specs.Str.{bytes_eq}
use Rattle.field_text.specs.Finds.{◌>>=◌}
use Rattle.rosa_doc.specs.declared.tree.Doc.{Doc}
use Rattle.rosa_doc.specs.declared.tree.Element.{Element}
use Rattle.rosa_doc.specs.declared.tree.Node.{Node}
use Rattle.rosa_doc.specs.declared.refusal.DocRefused.{DocRefused}
use Rattle.rosa_doc.specs.declared.refusal.DocRefused.TheVariants as doc
use Rattle.rosa_doc.specs.Refusals.{IsDoc, ReadsAs as DocReadsAs}
use Rattle.rosa_nodes.specs.Nodes.{element_in}
use Rattle.form_list.specs.declared.entries.Listed.{Listed}
use Rattle.form_list.specs.declared.entries.MediaFile.{MediaFile}
use Rattle.form_list.specs.declared.refusal.ListRefused.{ListRefused}
use Rattle.form_list.specs.declared.refusal.ListRefused.TheVariants as refusals
use Rattle.form_list.specs.Entries.{first_fault, listed_of, listed_fault, media_file_of, media_file_fault}

-- the entry of a name that a node is; other nodes are skipped
abbrev pub if_named : List ℕ → Element → Option Element
if_named name e = if bytes_eq e.name name then Some e else None

abbrev pub entry_in : List ℕ → Node → Option Element
entry_in name n = element_in n >>= if_named name

abbrev pub entries : List ℕ → List Node → List Element
entries name nodes = filter_map (entry_in name) nodes

-- the items, unless there is a fault
abbrev pub unless_fault : {A : Type 0} → Option ListRefused → A → Result A ListRefused
unless_fault None items = Ok items
unless_fault (Some fault) items = Err fault

-- so many entries at most, each as the one function reads it and without what the other finds
abbrev pub items_of : {A : Type 0} → (Element → A) → (ℕ → A → Option ListRefused) → ℕ → List Element
    → Result (List A) ListRefused
items_of item fault limit es =
    if nat_lt limit (length es) then Err (refusals.TooMany (length es))
    else unless_fault (first_fault fault 1 (map item es)) (map item es)

-- what the root of a document reads as
abbrev pub form_list : Element → Result (List Listed) ListRefused
form_list root =
    if bytes_eq root.name (codes "xforms") then items_of listed_of listed_fault 1000
    (entries (codes "xform") root.children)
    else Err refusals.WrongRoot

abbrev pub manifest : Element → Result (List MediaFile) ListRefused
manifest root =
    if bytes_eq root.name (codes "manifest") then items_of media_file_of media_file_fault 100
    (entries (codes "mediaFile") root.children)
    else Err refusals.WrongRoot

-- unless memory ran out, what is returned is what is wanted
abbrev pub Gives : {A : Type 0} → Result A ListRefused → Result A ListRefused → Type 0
Gives (Ok items) wanted = wanted ≡ Ok items
Gives (Err fault) wanted = (fault ≡ refusals.NoMemory) ⊎ (wanted ≡ Err fault)

-- what bytes read as: what the tree of their document is, or why they are no document
pub data ReadsAs {A : Type 0} (of_root : Element → Result (List A) ListRefused) (bytes : List ℕ) : Result
    (List A) ListRefused → Type 0 where
  tree : (doc : Doc) → IsDoc bytes doc → ReadsAs of_root bytes (of_root doc.root)
  no_document : (refusal : DocRefused) → DocReadsAs bytes (Err refusal)
      → ReadsAs of_root bytes (Err (refusals.Doc refusal))

-- unless memory ran out, the bytes read as what is returned
abbrev pub Reads : {A : Type 0} → (Element → Result (List A) ListRefused) → List ℕ → Result (List A) ListRefused
    → Type 0
Reads of_root bytes (Ok items) = ReadsAs of_root bytes (Ok items)
Reads of_root bytes (Err fault) = (fault ≡ refusals.NoMemory) ⊎ ReadsAs of_root bytes (Err fault)

-- the refusal of bytes that are no document
abbrev pub refused : DocRefused → ListRefused
refused doc.NoMemory = refusals.NoMemory
refused refusal = refusals.Doc refusal
