-- Finalizing an instance: its sheet is settled and tested, its ids are drawn, and its document is written. A refusal
-- draws nothing.
use Rattle.std.specs.Prelude.{ℕ, Bool, List, ◌++◌, codes, slice_set, Option, Some, None, Result, Ok, Err}
use Rattle.field_text.specs.Steps.{◌>>=◌}
use Rattle.field_text.specs.Tables.{NamedTable}
use Rattle.field_ids.specs.Draws.{NextDraw, drawn}
use Rattle.field_ids.specs.Ids.{id_of, text_of_id}
use Rattle.form_def.specs.declared.form.FormDef.{FormDef}
use Rattle.question_rules.specs.declared.faults.Cause.{Cause}
use Rattle.question_rules.specs.declared.faults.Cause.TheVariants as causes
use Rattle.question_rules.specs.declared.faults.Fault.{Fault}
use Rattle.question_rules.specs.Along.{settled, shown_marks}
use Rattle.question_rules.specs.Faults.{first_fault_of}
use Rattle.entity_lists.specs.declared.entity_list.EntityList.{EntityList}
use Rattle.entity_lists.specs.EntityTables.{tables_of}
use Rattle.instance_doc.specs.declared.fault.DocFault.{DocFault}
use Rattle.instance_doc.specs.declared.fault.DocFault.TheVariants as faults
use Rattle.instance_doc.specs.declared.meta.Meta.{Meta}
use Rattle.instance_doc.specs.Documents.{doc_of, limited}
use Rattle.finalizer.specs.declared.finals.Drawn.{Drawn}
use Rattle.finalizer.specs.declared.finals.Final.{Final}
use Rattle.finalizer.specs.declared.finals.MetaIn.{MetaIn}
use Rattle.finalizer.specs.declared.finals.NotFinal.{NotFinal}
use Rattle.finalizer.specs.declared.finals.NotFinal.TheVariants.{Constraint, NoMemory, Required, TooLong}
use Rattle.finalizer.specs.Actions.{action_of}
use Rattle.finalizer.specs.EntityParts.{undrawn}

-- ---- the sheet that is tested

abbrev pub lacking : Cause → List ℕ → NotFinal
lacking causes.Required path = Required path
lacking causes.Constraint path = Constraint path

-- these texts, if they have no fault
abbrev pub if_faultless : List (List ℕ) → Option Fault → Result (List (List ℕ)) NotFinal
if_faultless texts None = Ok texts
if_faultless texts (Some fault) = Err (lacking fault.cause fault.path)

abbrev pub settled_sheet : FormDef → List NamedTable → List (List ℕ) → List (List ℕ)
settled_sheet form tables sheet = (settled form tables sheet).texts

-- the settled texts, if nothing is lacking
abbrev pub complete_sheet : FormDef → List NamedTable → List (List ℕ) → Result (List (List ℕ)) NotFinal
complete_sheet form tables sheet =
    if_faultless (settled_sheet form tables sheet) (first_fault_of form tables (settled_sheet form tables sheet))

-- ---- the ids that are drawn

-- the text of the next id
abbrev pub next_id : NextDraw → List ℕ
next_id draws = text_of_id (id_of draws.device draws.next)

abbrev pub instance_id : NextDraw → List ℕ
instance_id draws = codes "uuid:" ++ next_id draws

-- what the document calls the instance
abbrev pub names_of : MetaIn → Meta
names_of meta = record { instance_id = instance_id meta.draws; deprecated = meta.deprecated }

-- the texts and the draws once the field of a number, if there is one, has a drawn id
abbrev pub with_id_at : List (List ℕ) → NextDraw → Option ℕ → Drawn
with_id_at texts draws None = record { sheet = texts; draws = draws }
with_id_at texts draws (Some number) = record { sheet = slice_set texts number (next_id draws); draws = drawn draws 1 }

-- the entity's id is drawn behind the instance's
abbrev pub with_ids : FormDef → NextDraw → List (List ℕ) → Drawn
with_ids form draws texts = with_id_at texts (drawn draws 1) (undrawn form texts)

-- ---- the finalized instance

abbrev pub not_written : DocFault → NotFinal
not_written (faults.TooLong length) = TooLong length
not_written faults.NoMemory = NoMemory

abbrev pub if_written : Result (List ℕ) DocFault → Result (List ℕ) NotFinal
if_written (Ok bytes) = Ok bytes
if_written (Err fault) = Err (not_written fault)

-- the document of these texts, of which the marked ones are shown
abbrev pub document : FormDef → List (List ℕ) → List Bool → Meta → Result (List ℕ) NotFinal
document form texts marks names = if_written (limited (doc_of form texts marks names))

-- with these names, and with this sheet once its ids are drawn
abbrev pub final_with : FormDef → List EntityList → Meta → Drawn → List Bool → Result Final NotFinal
final_with form lists names made marks = do
  bytes ← document form made.sheet marks names
  Ok (record {
    bytes = bytes;
    instance_id = names.instance_id;
    sheet = made.sheet;
    action = action_of form lists made.sheet marks;
    draws = made.draws;
  })

abbrev pub final_drawn : FormDef → List EntityList → Meta → Drawn → Result Final NotFinal
final_drawn form lists names made =
    final_with form lists names made (shown_marks form (tables_of lists) made.sheet)

abbrev pub final_of : FormDef → List (List ℕ) → List EntityList → MetaIn → Result Final NotFinal
final_of form sheet lists meta = do
  texts ← complete_sheet form (tables_of lists) sheet
  final_drawn form lists (names_of meta) (with_ids form meta.draws texts)

-- each refusal but want of memory is one that the definition gives
abbrev pub fault_of : NotFinal → Option NotFinal
fault_of (Required path) = Some (Required path)
fault_of (Constraint path) = Some (Constraint path)
fault_of (TooLong length) = Some (TooLong length)
fault_of NoMemory = None
