-- What a questionnaire begins with is the form of a kept record.
use Rattle.std.proofs.Common.{◌≡◌, ℕ, List, [], Bool, true, false, Option, Some, None, Result, Ok, Err, sym, ◌∙◌, ap}
use Rattle.std.proofs.Common.{subst}
use Rattle.std.specs.Prelude.{if◌then◌else◌, is_some, not}
use Rattle.std.specs.List.{AllByRecursion}
use Rattle.std.specs.Option.{IfSome}
use Rattle.std.specs.Str.{bytes_eq}
use Rattle.std.proofs.lemmas.Bool.{and_from}
use Rattle.std.proofs.lemmas.Slice.Eq.{bytes_eq-Decides}
use Rattle.field_text.proofs.StepLemmas.{then_ok}
use Rattle.device_rules.specs.declared.answer.Answer.{Answer}
use Rattle.device_rules.specs.declared.refused.Refused.{Refused}
use Rattle.device_rules.specs.declared.start.Source.{Source}
use Rattle.device_rules.specs.declared.refused.Refused.TheVariants.{EntryThere, NoForm, NoInstance, NoVersion}
use Rattle.device_rules.specs.Start.{base_record, begun, blank_record, counted_record, counts, has_id, instance_of}
use Rattle.device_rules.specs.Start.{instance_record, key_of_source, not_edited, opened_with, or_no_form, record_at}
use Rattle.device_rules.specs.Start.{record_form, right_status, savepoint_met, savepoints_left, source_of}
use Rattle.device_rules.specs.Start.{start}
use Rattle.device_rules.specs.Tests.{found_or, not_full, refused_if}
use Rattle.device_state.specs.declared.entry.OpenEntry.{OpenEntry}
use Rattle.device_state.specs.declared.state.State.{State}
use Rattle.entry_form.specs.declared.command.Base.{Base}
use Rattle.entry_form.specs.declared.command.Base.TheVariants as bases
use Rattle.entry_form.specs.declared.command.How.{How}
use Rattle.entry_form.specs.declared.command.How.TheVariants.{Discard, Fresh, Recover}
use Rattle.form_read.specs.declared.refusal.FormRefused.{FormRefused as FormFault}
use Rattle.form_store.specs.declared.records.FormRec.{FormRec}
use Rattle.form_store.specs.Forms.{exact, latest}
use Rattle.kept_forms.specs.KeptForms.{id_of, kept_form, version_of}
use Rattle.savepoints.specs.declared.keys.Key.{Key}
use Rattle.savepoints.specs.declared.store.Savepoint.{Savepoint}
use Rattle.device_laws.specs.Soundness.{HasOpenForm, HasSavepointForm, IsOpenForm, IsRead, IsSound}
use Rattle.device_laws.proofs.Following.{Follows, came, follows}
use Rattle.device_laws.proofs.Forms.{follow_themselves}
use Rattle.device_laws.proofs.KeptForms.{kept_reads}
use Rattle.device_laws.proofs.Lists.{among_at, any_then, one_of, IsAmong}
use Rattle.device_laws.proofs.Rows.{all_gone}

-- ---- what was found

abbrev okay : {A : Type 0} → A → Result A Refused
okay a = Ok a

pub same_okay : {A : Type 0} (a b : A) → okay a ≡ okay b → a ≡ b
same_okay a b is = cc is

pub found_some : {A : Type 0} (o : Option A) (why : Refused) (a : A) → found_or o why ≡ Ok a → o ≡ Some a
found_some (Some b) why a is = ap Some (same_okay b a is)
found_some None why a is = absurd (cc is)

abbrev found_record : Option FormRec → Refused → Result FormRec Refused
found_record o why = found_or o why

-- a record at a place is among the records
at_place : (forms : List FormRec) (place : Option ℕ) (r : FormRec) → record_at forms place ≡ Some r → IsAmong forms r
at_place forms None r is = absurd (cc is)
at_place forms (Some n) r is = among_at forms n r is

counted_if : (b : Bool) (r kept : FormRec)
    → (if b then found_record (Some r) NoVersion else found_record None NoVersion) ≡ found_record (Some kept) NoVersion
    → r ≡ kept
counted_if true r kept is = cc is
counted_if false r kept is = absurd (cc is)

counted_some : (how : How) (o : Option FormRec) (kept : FormRec) → counted_record how o ≡ Ok kept → o ≡ Some kept
counted_some how None kept is = absurd (cc is)
counted_some how (Some r) kept is = ap Some (counted_if (counts how r) r kept is)

blank_among : (forms : List FormRec) (id : List ℕ) (version : Option (List ℕ)) (how : How) (kept : FormRec)
    → blank_record forms id version how ≡ Ok kept → IsAmong forms kept
blank_among forms id None how kept is =
    at_place forms (latest id forms) kept (found_some (record_at forms (latest id forms)) NoForm kept is)
blank_among forms id (Some version) how kept is =
    let there = then_ok (refused_if (not (has_id id forms)) NoForm) _ kept is in
    at_place forms (exact id version forms) kept
    (counted_some how (record_at forms (exact id version forms)) kept there.2)

instance_among : (state : State) (number : ℕ) (kept : FormRec) → instance_record state number ≡ Ok kept
    → IsAmong state.forms.items kept
instance_among state number kept is =
    let there = then_ok (found_or (instance_of state number) NoInstance) _ kept is in
    let place = exact there.0.form there.0.version state.forms.items in
    at_place state.forms.items place kept (found_some (record_at state.forms.items place) NoForm kept there.2)

base_among : (state : State) (base : Base) (how : How) (kept : FormRec) → base_record state base how ≡ Ok kept
    → IsAmong state.forms.items kept
base_among state (bases.Blank id version) how kept is = blank_among state.forms.items id version how kept is
base_among state (bases.Draft number) how kept is = instance_among state number kept is
base_among state (bases.Edit number) how kept is = instance_among state number kept is

-- ---- its form

form_or : (o : Result (List ℕ) FormFault) (form : List ℕ) → or_no_form o ≡ Ok form → o ≡ Ok form
form_or (Ok bytes) form is = ap (λ r. back r) is
  where
    back : Result (List ℕ) Refused → Result (List ℕ) FormFault
    back (Ok b) = Ok b
    back (Err w) = Ok []
form_or (Err why) form is = absurd (cc is)

-- the bytes that a record keeps are those of the form
record_bytes : (kept : FormRec) (form : List ℕ) → record_form kept ≡ Ok form → kept.bytes ≡ form
record_bytes kept form is = sym (kept_reads kept.bytes form (form_or (kept_form kept.bytes) form is)).0

open_form : (entry : OpenEntry) (kept : FormRec) → IsRead kept → kept.bytes ≡ entry.form → IsOpenForm entry kept
open_form entry kept read bytes = record {
  names = and_from (bytes_eq (id_of entry.form) kept.id) (bytes_eq (version_of entry.form) kept.version)
      ((bytes_eq-Decides (id_of entry.form) kept.id).1 (ap id_of (sym bytes) ∙ read.id))
      ((bytes_eq-Decides (version_of entry.form) kept.version).1 (ap version_of (sym bytes) ∙ read.version));
  bytes = bytes;
}

-- ---- the step

left_all : (P : Savepoint → Type 0) (how : How) (key : Key) (kept : List Savepoint) → AllByRecursion P kept
    → AllByRecursion P (savepoints_left how key kept)
left_all P Fresh key kept all = all
left_all P Recover key kept all = all
left_all P Discard key kept all = all_gone P key kept all

form_among : (forms : List FormRec) (kept : FormRec) (entry : OpenEntry) → IsAmong forms kept
    → AllByRecursion IsRead forms → kept.bytes ≡ entry.form → HasOpenForm forms entry
form_among forms kept entry among read bytes =
    let opened = open_form entry kept (one_of IsRead forms kept among read) bytes in
    any_then forms (λ r here. subst (IsOpenForm entry) (sym here) opened) among

-- the form that a questionnaire begins with is kept
pub source_kept : (state : State) (base : Base) (how : How) (source : Source) (entry : OpenEntry)
    → source_of state base how ≡ Ok source → AllByRecursion IsRead state.forms.items → source.form ≡ entry.form
    → HasOpenForm state.forms.items entry
source_kept state base how source entry is read same =
    let there = then_ok (base_record state base how) _ source is in
    let form = then_ok (record_form there.0) _ source there.2 in
    form_among state.forms.items there.0 entry (base_among state base how there.0 there.1) read
    (record_bytes there.0 form.0 form.1 ∙ ap (λ (s : Source). s.form) (same_okay _ source form.2) ∙ same)

pub start_keeps : (state : State) (base : Base) (how : How) (x : State × Answer) → start state base how ≡ Ok x
    → IsSound state → Follows state x.0
start_keeps state base how x is sound =
    let source = then_ok (source_of state base how) _ x is in
    let there = then_ok (base_record state base how) _ source.0 source.1 in
    let reads = then_ok (record_form there.0) _ source.0 there.2 in
    let with_what = then_ok (begun state how source.0) _ x source.2 in
    let alone = then_ok (refused_if (is_some state.entry) EntryThere) _ with_what.0 with_what.1 in
    let met = then_ok (savepoint_met state how (key_of_source source.0)) _ with_what.0 alone.2 in
    let status = then_ok (right_status state source.0.base) _ with_what.0 met.2 in
    let edit = then_ok (not_edited state source.0.base) _ with_what.0 status.2 in
    let room = then_ok (not_full state) _ with_what.0 edit.2 in
    let left = with_what.0.0 in
    let sheet = with_what.0.1 in
    came (Follows state) (opened_with state source.0 left sheet) _ x with_what.2
    (follows state (opened_with state source.0 left sheet) sound (follow_themselves state.forms.items) sound.instances
    (subst (λ (what : List Savepoint × List (List ℕ)). AllByRecursion (HasSavepointForm state.forms.items) what.0)
    (same_okay _ with_what.0 room.2)
    (left_all (HasSavepointForm state.forms.items) how (key_of_source source.0) state.savepoints.items sound.savepoints))
    (subst (λ s. IfSome (opened_with state s left sheet).entry (HasOpenForm state.forms.items))
    (same_okay _ source.0 reads.2)
    (form_among state.forms.items there.0 _ (base_among state base how there.0 there.1) sound.read
    (record_bytes there.0 reads.0 reads.1))))
