-- What an entry makes of a state before hidden forms are let go, and that letting go.
use Rattle.std.proofs.Common.{◌≡◌, ℕ, List, [], ◌∷◌, Bool, true, false, Option, Some, None, Ok, refl, ◌∙◌, ap, subst}
use Rattle.std.specs.Prelude.{◌&&◌, ◌||◌, cond}
use Rattle.std.specs.List.{AllByRecursion, filter, list_any}
use Rattle.std.specs.Option.{IfSome}
use Rattle.std.specs.Str.{bytes_eq}
use Rattle.device_rules.specs.declared.answer.Answer.{Answer}
use Rattle.device_rules.specs.Tests.{Stepped}
use Rattle.device_state.specs.declared.entry.OpenEntry.{OpenEntry}
use Rattle.device_state.specs.declared.state.State.{State}
use Rattle.device_state.specs.Purging.{entry_names, instance_names, is_kept, open_names, purged, savepoint_names}
use Rattle.form_store.specs.declared.records.FormRec.{FormRec}
use Rattle.instance_store.specs.declared.records.InstanceRec.{InstanceRec}
use Rattle.kept_forms.specs.KeptForms.{id_of, version_of}
use Rattle.savepoints.specs.declared.store.Savepoint.{Savepoint}
use Rattle.device_laws.specs.Soundness.{AnyByRecursion, AreApart, HasInstanceForm, HasOpenForm, HasSavepointForm}
use Rattle.device_laws.specs.Soundness.{IsOpenForm, IsOther, IsRead, IsSameForm, IsSound, StaysWhereNamed, is_named}
use Rattle.device_laws.proofs.Forms.{Carries, FormsFollow, carried, test_same}
use Rattle.device_laws.proofs.Lists.{all_among, all_filtered, all_then, any_filtered, passes_among, IsAmong}

-- the state behind is sound, and has each form of the one before
pub record Follows (state next : State) : Type 0 where
  pub sound : IsSound next
  pub carries : Carries state.forms.items next.forms.items

-- what came of a step
abbrev pub ended : State × Answer → Stepped
ended x = Ok x

pub same_end : (x y : State × Answer) → ended x ≡ ended y → x ≡ y
same_end x y is = cc is

pub came : (P : State → Type 0) (s : State) (a : Answer) (x : State × Answer) → ended (s, a) ≡ ended x → P s → P x.0
came P s a x is holds = subst (λ (y : State × Answer). P y.0) (same_end (s, a) x is) holds

-- ---- forms that are carried

-- what is found by its id and version
found_again : (old new : List FormRec) (id version : List ℕ) → Carries old new
    → AnyByRecursion (λ r. (bytes_eq id r.id && bytes_eq version r.version) ≡ true) old
    → AnyByRecursion (λ r. (bytes_eq id r.id && bytes_eq version r.version) ≡ true) new
found_again old new id version carries any =
    carried (λ r. (bytes_eq id r.id && bytes_eq version r.version) ≡ true)
    (λ r other same is. test_same (λ i v. bytes_eq id i && bytes_eq version v) true r other same is)
    old new carries any

pub carried_instances : (old new : List FormRec) (instances : List InstanceRec) → Carries old new
    → AllByRecursion (HasInstanceForm old) instances → AllByRecursion (HasInstanceForm new) instances
carried_instances old new instances carries all =
    all_then instances (λ i any. found_again old new i.form i.version carries any) all

pub carried_savepoints : (old new : List FormRec) (savepoints : List Savepoint) → Carries old new
    → AllByRecursion (HasSavepointForm old) savepoints → AllByRecursion (HasSavepointForm new) savepoints
carried_savepoints old new savepoints carries all =
    all_then savepoints (λ s any. found_again old new s.key.form s.key.version carries any) all

open_same : (entry : OpenEntry) (r other : FormRec) → IsSameForm r other → IsOpenForm entry r → IsOpenForm entry other
open_same entry r other same is = record {
  names = test_same (λ id version. bytes_eq (id_of entry.form) id && bytes_eq (version_of entry.form) version) true
      r other same is.names;
  bytes = same.bytes ∙ is.bytes;
}

pub carried_entry : (old new : List FormRec) (entry : Option OpenEntry) → Carries old new
    → IfSome entry (HasOpenForm old) → IfSome entry (HasOpenForm new)
carried_entry old new None carries has = tt
carried_entry old new (Some entry) carries has = carried (IsOpenForm entry) (open_same entry) old new carries has

-- a state whose forms follow, and where nothing names another form than before
pub follows : (state next : State) → IsSound state → FormsFollow state.forms.items next.forms.items
    → AllByRecursion (HasInstanceForm state.forms.items) next.instances.items
    → AllByRecursion (HasSavepointForm state.forms.items) next.savepoints.items
    → IfSome next.entry (HasOpenForm state.forms.items) → Follows state next
follows state next sound forms instances savepoints entry = record {
  sound = record {
    instances = carried_instances state.forms.items next.forms.items next.instances.items forms.carries instances;
    savepoints = carried_savepoints state.forms.items next.forms.items next.savepoints.items forms.carries savepoints;
    entry = carried_entry state.forms.items next.forms.items next.entry forms.carries entry;
    read = forms.read sound.read;
    apart = forms.apart sound.apart;
  };
  carries = forms.carries;
}

-- ---- letting go of hidden forms that nothing names

or_first : (a b : Bool) → a ≡ true → (a || b) ≡ true
or_first a b is = ap (λ x. x || b) is

or_second : (a b : Bool) → b ≡ true → (a || b) ≡ true
or_second true b is = refl
or_second false b is = is

pub named_kept : (state : State) (r : FormRec) → is_named state r ≡ true
    → is_kept state.instances.items state.savepoints.items state.entry r ≡ true
named_kept state r is = or_second r.visible (is_named state r) is

by_instance : (state : State) (r : FormRec) (i : InstanceRec) → IsAmong state.instances.items i
    → instance_names r i ≡ true → is_named state r ≡ true
by_instance state r i among is =
    or_second (entry_names r state.entry) _
    (or_second (list_any (savepoint_names r) state.savepoints.items) _
    (passes_among (instance_names r) state.instances.items i among is))

by_savepoint : (state : State) (r : FormRec) (s : Savepoint) → IsAmong state.savepoints.items s
    → savepoint_names r s ≡ true → is_named state r ≡ true
by_savepoint state r s among is =
    or_second (entry_names r state.entry) _
    (or_first (list_any (savepoint_names r) state.savepoints.items) _
    (passes_among (savepoint_names r) state.savepoints.items s among is))

by_entry : (state : State) (r : FormRec) (entry : OpenEntry) → state.entry ≡ Some entry → open_names r entry ≡ true
    → is_named state r ≡ true
by_entry state r entry opened is = or_first (entry_names r state.entry) _ (ap (entry_names r) opened ∙ is)

apart_cons : (b : Bool) (r : FormRec) (rs : List FormRec) → AllByRecursion (IsOther r) rs → AreApart rs
    → AreApart (cond b (r ∷ rs) rs)
apart_cons true r rs others apart = (others, apart)
apart_cons false r rs others apart = apart

apart_filtered : (keep : FormRec → Bool) (forms : List FormRec) → AreApart forms → AreApart (filter keep forms)
apart_filtered keep [] apart = tt
apart_filtered keep (r ∷ rs) (others, rest) =
    apart_cons (keep r) r (filter keep rs) (all_filtered (IsOther r) keep rs others) (apart_filtered keep rs rest)

purged_entry : (state : State) (entry : Option OpenEntry) → state.entry ≡ entry
    → IfSome entry (HasOpenForm state.forms.items) → IfSome entry (HasOpenForm (purged state).forms.items)
purged_entry state None is has = tt
purged_entry state (Some entry) is has =
    any_filtered (IsOpenForm entry) (is_kept state.instances.items state.savepoints.items state.entry) state.forms.items
    (λ r o. named_kept state r (by_entry state r entry is o.names)) has

pub purged_sound : (state : State) → IsSound state → IsSound (purged state)
purged_sound state sound = record {
  instances = all_among state.instances.items (λ i among any.
      any_filtered (λ r. instance_names r i ≡ true) keep state.forms.items
      (λ r is. named_kept state r (by_instance state r i among is)) any) sound.instances;
  savepoints = all_among state.savepoints.items (λ s among any.
      any_filtered (λ r. savepoint_names r s ≡ true) keep state.forms.items
      (λ r is. named_kept state r (by_savepoint state r s among is)) any) sound.savepoints;
  entry = purged_entry state state.entry refl sound.entry;
  read = all_filtered IsRead keep state.forms.items sound.read;
  apart = apart_filtered keep state.forms.items sound.apart;
}
  where
    keep : FormRec → Bool
    keep = is_kept state.instances.items state.savepoints.items state.entry

named_same : (state : State) (r other : FormRec) → IsSameForm r other → is_named state r ≡ true
    → is_named state other ≡ true
named_same state r other same is =
    test_same (λ id version. is_named state (record r { id = id; version = version })) true r other same is

purged_stays : (state : State) (r : FormRec) → AnyByRecursion (IsSameForm r) state.forms.items
    → StaysWhereNamed (purged state) r
purged_stays state r any = λ named.
    any_filtered (IsSameForm r) (is_kept state.instances.items state.savepoints.items state.entry) state.forms.items
    (λ other same. named_kept state other (named_same state r other same named)) any

pub carried_stays : (old : List FormRec) (state : State) → Carries old state.forms.items
    → AllByRecursion (StaysWhereNamed (purged state)) old
carried_stays old state carries = all_then old (λ r any. purged_stays state r any) carries
