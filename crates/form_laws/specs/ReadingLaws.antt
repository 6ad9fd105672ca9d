-- Proofs that any bytes are read as a form or a refusal, and no definitions.
use Rattle.std.specs.Prelude.{◌≡◌, ◌≢◌, ℕ, true, List, Option, Some, None, Result, Ok, Err, IfErr, refl}
use Rattle.std.proofs.Common.{inl, inr, ap, subst}
use Rattle.rosa_doc.specs.declared.tree.Doc.{Doc}
use Rattle.rosa_doc.specs.declared.refusal.DocRefused.{DocRefused}
use Rattle.rosa_doc.specs.declared.refusal.DocRefused.TheVariants as doc
use Rattle.rosa_doc.specs.Refusals.{IsDoc, ReadsAs as DocReadsAs}
use Rattle.rosa_doc.proofs.LocalNames.{document_has_local_names}
use Rattle.rosa_doc.proofs.AllReadings.{all_read as all_documents_read}
use Rattle.form_def.specs.declared.parts.FormParts.{FormParts}
use Rattle.form_def.specs.declared.form.FormDef.{FormDef}
use Rattle.form_def.specs.Fields.{parents_of}
use Rattle.form_def.specs.Order.{is_order}
use Rattle.form_order.specs.Cycles.{NoCycle}
use Rattle.form_outline.specs.declared.outline.Outline.{Outline}
use Rattle.form_outline.specs.declared.reading.OutlineFault.TheVariants as fault
use Rattle.form_outline.specs.Names.{IsNamed}
use Rattle.form_outline.specs.Outlines.{outline_of, Outlines}
use Rattle.form_outline.proofs.NameLemmas.{given_is_named}
use Rattle.form_read.specs.declared.refusal.FormRefused.{FormRefused}
use Rattle.form_read.specs.declared.refusal.FormRefused.TheVariants.{NoPrimary, Cycle, NoMemory}
use Rattle.form_read.specs.declared.draft.Draft.{Draft}
use Rattle.form_read.specs.Refusals.{◌>>=◌}
use Rattle.form_read.specs.Drafts.{draft_of}
use Rattle.form_read.specs.Forms.{fields_in, parts_of, drafted_by, drafted, IsSound, IsFormOf, doc_refusal}
use Rattle.form_read.specs.Forms as forms
use Rattle.form_read.proofs.DifferLemmas.{model_has_primary}
use Rattle.form_read.proofs.DraftWithinLemmas.{draft_within}
use Rattle.form_read.proofs.FormLemmas.{sound}
use Rattle.form_laws.specs.CycleLaws.{order_or_cycle}
use Rattle.form_laws.specs.DraftLaws.{IsTold, is_told, draft_told}
use Rattle.form_laws.specs.Readings.{ReadsAs}

abbrev Reading : List ℕ → Type 0
Reading bytes = (reading : Result FormDef FormRefused) × ReadsAs bytes reading

-- ---- the form of an outline

abbrev form_with : (parts : FormParts) → IsSound parts → FormDef
form_with parts is = record {
  id = parts.id;
  version = parts.version;
  root = parts.root;
  fields = parts.fields;
  inner = parts.inner;
  outer = parts.outer;
  entity = parts.entity;
  auto_send = parts.auto_send;
  parents = parents_of parts.fields;
  order = parts.order;
  root_named = is.root_named;
  paths_named = is.paths_named;
  paths_differ = is.paths_differ;
  numbers_within = is.numbers_within;
  parents_known = refl;
  ordered = is.ordered;
}

names_known : (bytes : List ℕ) (o : Outline) → Outlines bytes o → IsNamed o
names_known bytes o (d, is, gives) =
    given_is_named d.root (Ok o) (document_has_local_names bytes d is) gives

drafted_is : (o : Outline) (d : Draft) → draft_of o ≡ Ok d → drafted o ≡ Ok (drafted_by o d)
unfolding drafted
drafted_is o d is = ap (λ r. r >>= λ x. Ok (drafted_by o x)) is

parts_sound : (bytes : List ℕ) (o : Outline) (d : Draft) (order : List ℕ) → Outlines bytes o → draft_of o ≡ Ok d
    → is_order (fields_in o d) order ≡ true → IsSound (parts_of o d order)
parts_sound bytes o d order outlined is ordered =
    sound o (drafted_by o d) (parts_of o d order) (names_known bytes o outlined) (model_has_primary bytes o outlined)
    (drafted_is o d is) refl ordered

ordered_read : (bytes : List ℕ) (o : Outline) (d : Draft) (order : List ℕ) → Outlines bytes o → draft_of o ≡ Ok d
    → is_order (fields_in o d) order ≡ true → NoCycle (fields_in o d) → Reading bytes
ordered_read bytes o d order outlined is ordered no_cycle =
    let form : FormDef = form_with (parts_of o d order) (parts_sound bytes o d order outlined is ordered) in
    let made : IsFormOf o form = record { draft = d; drafted = is; parts = refl; no_cycle = no_cycle } in
    (Ok form, (o, outlined, made))

cycle_is_told : (path : List ℕ) → Cycle path ≢ NoMemory
cycle_is_told path same = absurd cc

draft_read : (bytes : List ℕ) (o : Outline) (d : Draft) → Outlines bytes o → draft_of o ≡ Ok d → Reading bytes
draft_read bytes o d outlined is = elim (order_or_cycle (fields_in o d) (draft_within o d is)) [
  | inl found ↦ ordered_read bytes o d found.0 outlined is found.1 found.2
  | inr cycle ↦ (
    Err (Cycle cycle.0),
    (forms.no_form o (Cycle cycle.0) outlined (forms.by_cycle d cycle.0 is cycle.1), cycle_is_told cycle.0),
  )
]

refused_read : (bytes : List ℕ) (o : Outline) (refusal : FormRefused) → Outlines bytes o → draft_of o ≡ Err refusal
    → Reading bytes
refused_read bytes o refusal outlined is =
    let told = is_told refusal (subst (λ r. IfErr r IsTold) is (draft_told o)) in
    (Err refusal, (forms.no_form o refusal outlined (forms.by_part refusal is), told))

outline_read : (bytes : List ℕ) (o : Outline) → Outlines bytes o → Reading bytes
outline_read bytes o outlined = by (draft_of o) refl
  where
    by : (r : Result Draft FormRefused) → draft_of o ≡ r → Reading bytes
    by (Ok d) is = draft_read bytes o d outlined is
    by (Err refusal) is = refused_read bytes o refusal outlined is

-- ---- documents

no_primary_told : NoPrimary ≢ NoMemory
no_primary_told same = absurd cc

doc_told : (refusal : DocRefused) → refusal ≢ doc.NoMemory → doc_refusal refusal ≢ NoMemory
doc_told (doc.NotUtf8 at) told same = absurd cc
doc_told (doc.BadMarkup at) told same = absurd cc
doc_told (doc.Unclosed at) told same = absurd cc
doc_told (doc.TooDeep at) told same = absurd cc
doc_told (doc.TooLong long) told same = absurd cc
doc_told (doc.HasDoctype at) told same = absurd cc
doc_told doc.NoMemory told same = told refl

tree_read : (bytes : List ℕ) (d : Doc) → IsDoc bytes d → Reading bytes
tree_read bytes d is = by (outline_of d.root) refl
  where
    by : (o : Option Outline) → outline_of d.root ≡ o → Reading bytes
    by None none = (Err NoPrimary, (forms.no_outline fault.NoPrimary (d, is, none), no_primary_told))
    by (Some o) some = outline_read bytes o (d, is, some)

document_read : (bytes : List ℕ) (r : Result Doc DocRefused) → DocReadsAs bytes r → Reading bytes
document_read bytes (Ok d) is = tree_read bytes d is
document_read bytes (Err refusal) (refused, told) =
    (Err (doc_refusal refusal), (forms.no_outline (fault.Doc refusal) refused, doc_told refusal told))

pub all_read : (bytes : List ℕ) → (reading : Result FormDef FormRefused) × ReadsAs bytes reading
all_read bytes = let (r, is) = all_documents_read bytes in document_read bytes r is
