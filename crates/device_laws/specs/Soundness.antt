-- What holds of every state that a legal history leads to: whatever names a form version finds it.
use Rattle.std.specs.Prelude.{◌≡◌, ◌⊎◌, Bool, true, false, ◌||◌, List, [], ◌∷◌, ◌++◌, ⊤, Some, Ok}
use Rattle.std.specs.List.{AllByRecursion, list_any}
use Rattle.std.specs.Option.{IfSome}
use Rattle.entry_form.specs.declared.entry.Entry.{Entry}
use Rattle.device_state.specs.declared.entry.OpenEntry.{OpenEntry}
use Rattle.device_state.specs.declared.state.State.{State}
use Rattle.device_state.specs.State.{initial}
use Rattle.device_state.specs.Purging.{entry_names, instance_names, open_names, savepoint_names}
use Rattle.device_rules.specs.declared.answer.Answer.{Answer}
use Rattle.device_rules.specs.Step.{step}
use Rattle.device_rules.specs.Trail.{replay}
use Rattle.form_store.specs.Forms.{is_form as is_version}
use Rattle.form_store.specs.declared.records.FormRec.{FormRec}
use Rattle.instance_store.specs.declared.records.InstanceRec.{InstanceRec}
use Rattle.kept_forms.specs.KeptForms.{id_of, is_form, version_of}
use Rattle.savepoints.specs.declared.store.Savepoint.{Savepoint}

-- P holds of one of the elements
abbrev pub AnyByRecursion : {T : Type 0} → (T → Type 0) → List T → Type 0
AnyByRecursion P [] = ⊥
AnyByRecursion P (x ∷ xs) = P x ⊎ AnyByRecursion P xs

-- ---- what names a form

-- an instance's form version is kept
abbrev pub HasInstanceForm : List FormRec → InstanceRec → Type 0
HasInstanceForm forms instance = AnyByRecursion (λ r. instance_names r instance ≡ true) forms

-- a savepoint's form version is kept
abbrev pub HasSavepointForm : List FormRec → Savepoint → Type 0
HasSavepointForm forms savepoint = AnyByRecursion (λ r. savepoint_names r savepoint ≡ true) forms

-- the record is the open questionnaire's form
pub record IsOpenForm (entry : OpenEntry) (r : FormRec) : Type 0 where
  pub names : open_names r entry ≡ true
  pub bytes : r.bytes ≡ entry.form

-- the open questionnaire's form is kept
abbrev pub HasOpenForm : List FormRec → OpenEntry → Type 0
HasOpenForm forms entry = AnyByRecursion (IsOpenForm entry) forms

-- the open questionnaire, a savepoint or an instance names the record by id and version
abbrev pub is_named : State → FormRec → Bool
is_named state r = entry_names r state.entry || (list_any (savepoint_names r) state.savepoints.items
    || list_any (instance_names r) state.instances.items)

-- ---- the records

-- the bytes are a form with the record's id and version
pub record IsRead (r : FormRec) : Type 0 where
  pub form : is_form r.bytes ≡ true
  pub id : id_of r.bytes ≡ r.id
  pub version : version_of r.bytes ≡ r.version

-- another id, or another version of it
abbrev pub IsOther : FormRec → FormRec → Type 0
IsOther r other = is_version other.id other.version r ≡ false

-- no two records have one id and version
abbrev pub AreApart : List FormRec → Type 0
AreApart [] = ⊤
AreApart (r ∷ rs) = AllByRecursion (IsOther r) rs × AreApart rs

-- ---- the law's parts

pub record IsSound (state : State) : Type 0 where
  pub instances : AllByRecursion (HasInstanceForm state.forms.items) state.instances.items
  pub savepoints : AllByRecursion (HasSavepointForm state.forms.items) state.savepoints.items
  pub entry : IfSome state.entry (HasOpenForm state.forms.items)
  pub read : AllByRecursion IsRead state.forms.items
  pub apart : AreApart state.forms.items

-- the same id, version and bytes
pub record IsSameForm (r other : FormRec) : Type 0 where
  pub id : other.id ≡ r.id
  pub version : other.version ≡ r.version
  pub bytes : other.bytes ≡ r.bytes

-- the record is there with the same bytes, if something names it
abbrev pub StaysWhereNamed : State → FormRec → Type 0
StaysWhereNamed state r = is_named state r ≡ true → AnyByRecursion (IsSameForm r) state.forms.items

-- Behind each front of a history whatever names a form finds it, and the next entry leaves what is named with its bytes.
pub record KeepsUsedForms (entries : List Entry) : Type 0 where
  pub sound : (front behind : List Entry) (state : State) → entries ≡ front ++ behind
      → replay initial front ≡ Some state → IsSound state
  pub stays : (front behind : List Entry) (entry : Entry) (state next : State) (answer : Answer)
      → entries ≡ front ++ entry ∷ behind → replay initial front ≡ Some state → step state entry ≡ Ok (next, answer)
      → AllByRecursion (StaysWhereNamed next) state.forms.items
