-- The form that a document describes (ODK XForms in a profile), or what it is refused for first.
use Rattle.std.specs.Prelude.{◌≡◌, ℕ, Bool, true, false, if◌then◌else◌, List, [], ◌∷◌, codes, length, Option, Some}
use Rattle.std.specs.Prelude.{None, Result, Ok, Err, option_map, slice_get}
use Rattle.std.specs.Str.{bytes_eq}
use Rattle.form_def.specs.declared.field.Kind.TheVariants as kind
use Rattle.form_def.specs.declared.field.Choices.TheVariants as choices
use Rattle.form_def.specs.declared.field.Field.{Field}
use Rattle.form_def.specs.declared.field.EntityDef.{EntityDef}
use Rattle.form_def.specs.declared.parts.FormParts.{FormParts}
use Rattle.form_def.specs.declared.form.FormDef.{FormDef}
use Rattle.form_def.specs.Paths.{is_name}
use Rattle.form_def.specs.Fields.{have_paths, PathsDiffer, are_within}
use Rattle.form_def.specs.Order.{dependencies_at, is_order}
use Rattle.form_def.specs.FormDefs.{parts_of_form}
use Rattle.form_order.specs.Cycles.{NoCycle, IsFirstCycle}
use Rattle.form_outline.specs.declared.outline.PrimaryField.{PrimaryField}
use Rattle.form_outline.specs.declared.outline.PrimaryPart.{PrimaryPart}
use Rattle.form_outline.specs.declared.outline.PrimaryPart.TheVariants as primary
use Rattle.form_outline.specs.declared.outline.ModelPart.{ModelPart}
use Rattle.form_outline.specs.declared.outline.ModelPart.TheVariants as part
use Rattle.form_outline.specs.declared.outline.Outline.{Outline}
use Rattle.form_outline.specs.declared.reading.OutlineFault.{OutlineFault}
use Rattle.form_outline.specs.declared.reading.OutlineFault.TheVariants as fault
use Rattle.form_outline.specs.Outlines.{Outlines, Refuses as RefusesOutline}
use Rattle.rosa_doc.specs.declared.refusal.DocRefused.{DocRefused}
use Rattle.rosa_doc.specs.declared.refusal.DocRefused.TheVariants as doc
use Rattle.form_read.specs.declared.refusal.FormRefused.{FormRefused}
use Rattle.form_read.specs.declared.refusal.FormRefused.TheVariants.{Doc, NoPrimary, Cycle, NoMemory}
use Rattle.form_read.specs.declared.draft.Bound.{Bound}
use Rattle.form_read.specs.declared.draft.Asked.{Asked}
use Rattle.form_read.specs.declared.draft.Draft.{Draft}
use Rattle.form_read.specs.declared.draft.Drafted.{Drafted}
use Rattle.form_read.specs.Refusals.{◌>>=◌}
use Rattle.form_read.specs.Slots.{slots_of}
use Rattle.form_read.specs.Drafts.{scope_of, draft_of}

-- a field without a bind
abbrev pub unbound : Bound
unbound =
    record { relevant = None; constraint = None; required = None; readonly = None; calculate = None; saveto = None }

abbrev pub bound_in : Option Bound → Bound
bound_in None = unbound
bound_in (Some bound) = bound

-- a field that no control asks is plain, or a group where it holds others
abbrev pub asked_in : Bool → Option Asked → Asked
asked_in is_group None = record { kind = if is_group then kind.Group else kind.Plain; choices = choices.Nothing }
asked_in is_group (Some asked) = asked

abbrev pub joined : PrimaryField → Bound → Asked → Field
joined s b a = record {
  path = s.path;
  kind = a.kind;
  initial = s.initial;
  relevant = b.relevant;
  constraint = b.constraint;
  required = b.required;
  readonly = b.readonly;
  calculate = b.calculate;
  saveto = b.saveto;
  choices = a.choices;
}

abbrev pub field_of : PrimaryField → Option Bound → Option Asked → Field
field_of s b a = joined s (bound_in b) (asked_in s.is_group a)

-- the fields of these slots, each with what its bind and its control say
abbrev pub fields_of : List PrimaryField → List (Option Bound) → List (Option Asked) → List Field
fields_of [] bounds asked = []
fields_of (s ∷ ss) [] asked = []
fields_of (s ∷ ss) (b ∷ bs) [] = []
fields_of (s ∷ ss) (b ∷ bs) (a ∷ rest) = field_of s b a ∷ fields_of ss bs rest

-- the first submission counts; another value than these is as none
abbrev pub auto_send_by : Option (List ℕ) → Option Bool
auto_send_by None = None
auto_send_by (Some value) =
    if bytes_eq value (codes "true") then Some true else if bytes_eq value (codes "false") then Some false else None

abbrev pub auto_send_in : List ModelPart → Option Bool
auto_send_in [] = None
auto_send_in (part.Primary ∷ ps) = auto_send_in ps
auto_send_in (part.Bind bind ∷ ps) = auto_send_in ps
auto_send_in (part.Table table ∷ ps) = auto_send_in ps
auto_send_in (part.Submission value ∷ ps) = auto_send_by value
auto_send_in (part.SetValue setvalue ∷ ps) = auto_send_in ps
auto_send_in (part.Other name ∷ ps) = auto_send_in ps

-- the dataset of the first entity
abbrev pub dataset_in : List PrimaryPart → Option (List ℕ)
dataset_in [] = None
dataset_in (primary.Field f ∷ ps) = dataset_in ps
dataset_in (primary.Meta f ∷ ps) = dataset_in ps
dataset_in (primary.Entity e ∷ ps) = e.dataset

abbrev pub entity_def : Bool → List ℕ → EntityDef
entity_def draws_id dataset = record { dataset = dataset; draws_id = draws_id }

abbrev pub fields_in : Outline → Draft → List Field
fields_in o d = fields_of (slots_of o.primary) d.bounds d.asked

abbrev pub parts_of : Outline → Draft → List ℕ → FormParts
parts_of o d order = record {
  id = o.id;
  version = o.version;
  root = o.root;
  fields = fields_in o d;
  inner = d.inner;
  outer = d.outer;
  entity = option_map (entity_def d.draws_id) (dataset_in o.primary);
  auto_send = auto_send_in o.model;
  order = order;
}

-- what an outline is made into
abbrev pub drafted_by : Outline → Draft → Drafted
drafted_by o d = record { id = o.id; version = o.version; primary = o.primary; scope = scope_of o; draft = d }

unfoldable pub drafted : Outline → Result Drafted FormRefused
drafted o = do
  d ← draft_of o
  Ok (drafted_by o d)

abbrev pub fields_drafted : Drafted → List Field
fields_drafted x = fields_of x.scope.slots x.draft.bounds x.draft.asked

abbrev pub parts_drafted : Drafted → List ℕ → FormParts
parts_drafted x order = record {
  id = x.id;
  version = x.version;
  root = x.scope.root;
  fields = fields_drafted x;
  inner = x.draft.inner;
  outer = x.draft.outer;
  entity = option_map (entity_def x.draft.draws_id) (dataset_in x.primary);
  auto_send = auto_send_in x.scope.model;
  order = order;
}

-- parts of which a form can be made
pub record IsSound (parts : FormParts) : Type 0 where
  pub root_named : is_name parts.root ≡ true
  pub paths_named : have_paths parts.root parts.fields ≡ true
  pub paths_differ : PathsDiffer parts.fields
  pub numbers_within : are_within (length parts.fields) 0 parts.fields ≡ true
  pub ordered : is_order parts.fields parts.order ≡ true

-- the first field that depends on itself has this path
pub record IsCycle (fields : List Field) (path : List ℕ) : Type 0 where
  pub number : ℕ
  pub first : IsFirstCycle (dependencies_at fields) (length fields) number
  pub path_is : option_map (λ f. f.path) (slice_get fields number) ≡ Some path

-- why fields have no order
pub data HasNoOrder (fields : List Field) : FormRefused → Type 0 where
  has_cycle : (path : List ℕ) → IsCycle fields path → HasNoOrder fields (Cycle path)
  lacks_memory : HasNoOrder fields NoMemory

-- the parts of an outline are those of this form
pub record IsFormOf (outline : Outline) (form : FormDef) : Type 0 where
  pub draft : Draft
  pub drafted : draft_of outline ≡ Ok draft
  pub parts : parts_of_form form ≡ parts_of outline draft form.order
  pub no_cycle : NoCycle (fields_in outline draft)

-- Why the parts of an outline are no form: the first of them in document order that is refused, or the first of its
-- fields that depends on itself.
pub data RefusesParts (outline : Outline) : FormRefused → Type 0 where
  by_part : (refusal : FormRefused) → draft_of outline ≡ Err refusal → RefusesParts outline refusal
  by_cycle : (draft : Draft) (path : List ℕ) → draft_of outline ≡ Ok draft → IsCycle (fields_in outline draft) path
      → RefusesParts outline (Cycle path)
  by_memory : RefusesParts outline NoMemory

-- the bytes are a document that describes this form
abbrev pub Describes : List ℕ → FormDef → Type 0
Describes bytes form = (o : Outline) × Outlines bytes o × IsFormOf o form

-- want of memory in reading the document is want of memory
abbrev pub doc_refusal : DocRefused → FormRefused
doc_refusal (doc.NotUtf8 at) = Doc (doc.NotUtf8 at)
doc_refusal (doc.BadMarkup at) = Doc (doc.BadMarkup at)
doc_refusal (doc.Unclosed at) = Doc (doc.Unclosed at)
doc_refusal (doc.TooDeep at) = Doc (doc.TooDeep at)
doc_refusal (doc.TooLong long) = Doc (doc.TooLong long)
doc_refusal (doc.HasDoctype at) = Doc (doc.HasDoctype at)
doc_refusal doc.NoMemory = NoMemory

abbrev pub refusal_of : OutlineFault → FormRefused
refusal_of (fault.Doc refusal) = doc_refusal refusal
refusal_of fault.NoPrimary = NoPrimary
refusal_of fault.NoMemory = NoMemory

-- Why bytes describe no form: they are no document with a model and a primary instance, or what that says is refused.
pub data Refuses (bytes : List ℕ) : FormRefused → Type 0 where
  no_outline : (why : OutlineFault) → RefusesOutline bytes why → Refuses bytes (refusal_of why)
  no_form : (o : Outline) (refusal : FormRefused) → Outlines bytes o → RefusesParts o refusal → Refuses bytes refusal

-- what bytes describe, but for the order of the fields, of which there may be several
abbrev pub unordered : FormDef → FormParts
unordered form = record (parts_of_form form) { order = [] }
