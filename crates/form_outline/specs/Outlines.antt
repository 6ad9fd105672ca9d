-- Where in a document the parts of a form stand (ODK XForms, "Form Document").
use Rattle.std.specs.Prelude.{◌≡◌, ℕ, Bool, false, ◌||◌, List, [], ◌∷◌, codes, Option, Some, None, Result, Ok, Err}
use Rattle.std.specs.Prelude.{find}
use Rattle.std.specs.Option.{option_map_or}
use Rattle.std.specs.Str.{bytes_eq}
use Rattle.rosa_doc.specs.declared.tree.Doc.{Doc}
use Rattle.rosa_doc.specs.declared.tree.Element.{Element}
use Rattle.rosa_doc.specs.declared.tree.Node.{Node}
use Rattle.rosa_doc.specs.Refusals.{IsDoc, Refuses as RefusesDoc}
use Rattle.form_outline.specs.declared.outline.Outline.{Outline}
use Rattle.form_outline.specs.declared.reading.OutlineFault.{OutlineFault}
use Rattle.form_outline.specs.declared.reading.OutlineFault.TheVariants as fault
use Rattle.rosa_nodes.specs.Nodes.{elements, child_named, text_of_attribute}
use Rattle.form_outline.specs.Primary.{primary_of}
use Rattle.form_outline.specs.Models.{model_of}
use Rattle.form_outline.specs.Controls.{controls_of}

infixl 10 ◌>>=◌
abbrev pub ◌>>=◌ : {A B : Type 0} → Option A → (A → Option B) → Option B
(Some x) >>= f = f x
None >>= f = None

abbrev pub is_body : Element → Bool
is_body e = bytes_eq e.name (codes "body")

abbrev pub is_head_or_body : Element → Bool
is_head_or_body e = bytes_eq e.name (codes "head") || is_body e

-- whether the first body stands before the first head
abbrev pub has_body_first : List Node → Bool
has_body_first nodes = option_map_or is_body (find is_head_or_body (elements nodes)) false

abbrev pub first_of : {A : Type 0} → List A → Option A
first_of [] = None
first_of (x ∷ xs) = Some x

abbrev pub first_element : List Node → Option Element
first_element nodes = first_of (elements nodes)

-- The model is that of the head; of its first instance the first element inside is the primary instance.
unfoldable pub outline_of : Element → Option Outline
outline_of document = do
  head ← child_named (codes "head") document.children
  model ← child_named (codes "model") head.children
  instance ← child_named (codes "instance") model.children
  root ← first_element instance.children
  body ← child_named (codes "body") document.children
  Some (record {
    root = root.name;
    id = text_of_attribute (codes "id") root.attributes;
    version = text_of_attribute (codes "version") root.attributes;
    primary = primary_of root;
    model = model_of model.children;
    controls = controls_of body.children;
    body_first = has_body_first document.children;
  })

-- what a function returned, seen by view, is what the definition gives, unless memory ran out
abbrev pub Lacks : {Y : Type 0} → OutlineFault → Option Y → Type 0
Lacks (fault.Doc refusal) wanted = ⊥
Lacks fault.NoPrimary wanted = wanted ≡ None
Lacks fault.NoMemory wanted = Unit {0}

abbrev pub Gives : {X Y : Type 0} → (X → Y) → Result X OutlineFault → Option Y → Type 0
Gives view (Ok x) wanted = wanted ≡ Some (view x)
Gives view (Err e) wanted = Lacks e wanted

-- the bytes are a document that says this of a form
abbrev pub Outlines : List ℕ → Outline → Type 0
Outlines bytes outline = (doc : Doc) × IsDoc bytes doc × (outline_of doc.root ≡ Some outline)

abbrev pub Refuses : List ℕ → OutlineFault → Type 0
Refuses bytes (fault.Doc refusal) = RefusesDoc bytes refusal
Refuses bytes fault.NoPrimary = (doc : Doc) × IsDoc bytes doc × (outline_of doc.root ≡ None)
Refuses bytes fault.NoMemory = Unit {0}
