-- What finalizing gives, where it gives something.
use Rattle.std.specs.Prelude.{ℕ, ◌+◌, ◌≤◌, ◌≡◌, Bool, true, false, List, Option, Some, None, Result, Ok, Err}
use Rattle.std.specs.Prelude.{IfOk, IfSome, refl}
use Rattle.std.proofs.Common.{subst, arith, sym}
use Rattle.field_text.specs.Finds.{◌>>=◌}
use Rattle.field_text.specs.Steps.{Gives}
use Rattle.field_text.proofs.StepLemmas.{then_holds}
use Rattle.field_ids.specs.Draws.{NextDraw, drawn}
use Rattle.form_def.specs.declared.form.FormDef.{FormDef}
use Rattle.question_rules.specs.declared.faults.Fault.{Fault}
use Rattle.question_rules.specs.Along.{shown_marks}
use Rattle.entity_lists.specs.declared.entity_list.EntityList.{EntityList}
use Rattle.entity_lists.specs.EntityTables.{tables_of}
use Rattle.entity_merge.specs.declared.actions.Action.{Action}
use Rattle.finalizer.specs.declared.entity_parts.Part.TheVariants.{Create, Update}
use Rattle.finalizer.specs.declared.finals.Drawn.{Drawn}
use Rattle.finalizer.specs.declared.finals.Final.{Final}
use Rattle.finalizer.specs.declared.finals.MetaIn.{MetaIn}
use Rattle.finalizer.specs.declared.finals.NotFinal.{NotFinal}
use Rattle.finalizer.specs.Actions.{action_of, creation, has_entity}
use Rattle.finalizer.specs.EntityParts.{entity_id, is_asked}
use Rattle.finalizer.specs.Finals.{complete_sheet, document, fault_of, final_drawn, final_of, if_faultless, instance_id}
use Rattle.finalizer.specs.Finals.{names_of, settled_sheet, with_id_at, with_ids}
use Rattle.finalizer.specs.Fits.{Fits}

-- ---- the parts of a finalized instance

abbrev marks_of : FormDef → List EntityList → List (List ℕ) → List Bool
marks_of form lists texts = shown_marks form (tables_of lists) texts

pub record IsMade (form : FormDef) (lists : List EntityList) (meta : MetaIn) (made : Drawn) (done : Final)
    : Type 0 where
  pub instance_id : done.instance_id ≡ instance_id meta.draws
  pub sheet : done.sheet ≡ made.sheet
  pub action : done.action ≡ action_of form lists made.sheet (marks_of form lists made.sheet)
  pub draws : done.draws ≡ made.draws

-- the sheet that a document is written of, with the draws behind it
abbrev pub made_for : FormDef → List (List ℕ) → List EntityList → MetaIn → Drawn
made_for form sheet lists meta = with_ids form meta.draws (settled_sheet form (tables_of lists) sheet)

tested : (texts : List (List ℕ)) (fault : Option Fault) → IfOk (if_faultless texts fault) (λ t. t ≡ texts)
tested texts None = refl
tested texts (Some fault) = tt

any_ok : {A F : Type 0} (r : Result A F) → IfOk r (λ _. Unit {0})
any_ok (Ok x) = tt
any_ok (Err why) = tt

drawn_made : (form : FormDef) (lists : List EntityList) (meta : MetaIn) (made : Drawn)
    → IfOk (final_drawn form lists (names_of meta) made) (IsMade form lists meta made)
drawn_made form lists meta made =
    then_holds (λ bytes. Unit {0}) (IsMade form lists meta made)
    (document form made.sheet (marks_of form lists made.sheet) (names_of meta)) _ (any_ok _)
    (λ bytes u. record { instance_id = refl; sheet = refl; action = refl; draws = refl })

final_made : (form : FormDef) (sheet : List (List ℕ)) (lists : List EntityList) (meta : MetaIn)
    → IfOk (final_of form sheet lists meta) (IsMade form lists meta (made_for form sheet lists meta))
final_made form sheet lists meta =
    then_holds (λ texts. texts ≡ settled_sheet form (tables_of lists) sheet)
    (IsMade form lists meta (made_for form sheet lists meta)) (complete_sheet form (tables_of lists) sheet) _
    (tested _ _)
    (λ texts same. subst (λ t. IfOk (final_drawn form lists (names_of meta) (with_ids form meta.draws texts))
    (IsMade form lists meta (with_ids form meta.draws t))) same
    (drawn_made form lists meta (with_ids form meta.draws texts)))

pub made_of : (form : FormDef) (sheet : List (List ℕ)) (lists : List EntityList) (meta : MetaIn) (done : Final)
    → final_of form sheet lists meta ≡ Ok done → IsMade form lists meta (made_for form sheet lists meta) done
made_of form sheet lists meta done is =
    subst (λ r. IfOk r (IsMade form lists meta (made_for form sheet lists meta))) is (final_made form sheet lists meta)

-- ---- an entity that is made isn't there

creation_new : (create update there : Bool)
    → IfSome (creation create update there) (λ made. made ≡ true → there ≡ false)
creation_new true update false = λ e. refl
creation_new true true true = λ e. absurd (cc e)
creation_new true false true = tt
creation_new false true true = λ e. absurd (cc e)
creation_new false true false = tt
creation_new false false there = tt

found_then : {A B : Type 0} (P : A → Type 0) (Q : B → Type 0) (o : Option A) (f : A → Option B) → IfSome o P
    → ((x : A) → P x → IfSome (f x) Q) → IfSome (o >>= f) Q
found_then P Q None f p g = tt
found_then P Q (Some x) f p g = g x p

any_some : {A : Type 0} (o : Option A) → IfSome o (λ _. Unit {0})
any_some None = tt
any_some (Some x) = tt

abbrev IsNew : List EntityList → Action → Type 0
IsNew lists action = action.create ≡ true → has_entity lists action.list action.id ≡ false

action_new : (form : FormDef) (lists : List EntityList) (texts : List (List ℕ)) (marks : List Bool)
    → IfSome (action_of form lists texts marks) (IsNew lists)
action_new form lists texts marks =
    found_then (λ _. Unit {0}) (IsNew lists) form.entity _ (any_some _) (λ entity u.
    found_then (λ _. Unit {0}) (IsNew lists) (entity_id form texts) _ (any_some _) (λ id v.
    found_then (λ made. made ≡ true → has_entity lists entity.dataset id ≡ false) (IsNew lists)
    (creation (is_asked form texts Create) (is_asked form texts Update) (has_entity lists entity.dataset id)) _
    (creation_new (is_asked form texts Create) (is_asked form texts Update) (has_entity lists entity.dataset id))
    (λ made new. new)))

-- ---- what fits

few_drawn : (texts : List (List ℕ)) (before : NextDraw) (number : Option ℕ)
    → (with_id_at texts (drawn before 1) number).draws.next ≤ before.next + 2
few_drawn texts before None = omega arith
few_drawn texts before (Some number) = omega arith

final_fits : (form : FormDef) (sheet : List (List ℕ)) (lists : List EntityList) (meta : MetaIn) (done : Final)
    → final_of form sheet lists meta ≡ Ok done → Fits lists meta.draws done
final_fits form sheet lists meta done is =
    let m = made_of form sheet lists meta done is in
    let made = made_for form sheet lists meta in
    record {
      draws = subst (λ (d : NextDraw). d.next ≤ meta.draws.next + 2) (sym m.draws) (few_drawn _ meta.draws _);
      new = subst (λ (a : Option Action). IfSome a (IsNew lists)) (sym m.action)
          (action_new form lists made.sheet (marks_of form lists made.sheet));
    }

pub given_fits : (form : FormDef) (sheet : List (List ℕ)) (lists : List EntityList) (meta : MetaIn)
    (r : Result Final NotFinal) → Gives fault_of (λ done. done) r (final_of form sheet lists meta)
    → IfOk r (Fits lists meta.draws)
given_fits form sheet lists meta (Ok done) is = final_fits form sheet lists meta done is
given_fits form sheet lists meta (Err why) is = tt
