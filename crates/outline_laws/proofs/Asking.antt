-- What a control does to a draft, and that each leaf is asked for by one control at most.
use Rattle.std.specs.Prelude.{◌≡◌, ◌≢◌, ℕ, ◌<◌, Bool, true, false, if◌then◌else◌, nat_eq, List, [], ◌∷◌, ◌++◌, find, length, Option, Some, None, Result, Ok, Err, slice_set, refl}
use Rattle.std.specs.List.{slice_index_or}
use Rattle.std.proofs.Common.{ap, sym, ◌∙◌, subst, length-set}
use Rattle.std.proofs.lemmas.Bool.{eqb-true, eqb-false}
use Rattle.std.proofs.lemmas.List.{get_or-set_same, get_or-set_other}
use Rattle.form_outline.specs.declared.outline.Control.{Control}
use Rattle.form_outline.specs.declared.outline.PrimaryField.{PrimaryField}
use Rattle.form_read.specs.Binds.{is_given}
use Rattle.form_read.specs.Controls.{asked_at, asked_by, control_taken, is_control}
use Rattle.form_read.specs.Drafts.{controls_taken}
use Rattle.form_read.specs.Paths.{is_leaf_at, leaf_of}
use Rattle.form_read.specs.Refusals.{◌>>=◌}
use Rattle.form_read.specs.declared.draft.Asked.{Asked}
use Rattle.form_read.specs.declared.draft.Draft.{Draft}
use Rattle.form_read.specs.declared.refusal.FormRefused.{FormRefused}
use Rattle.form_read.specs.declared.refusal.FormRefused.TheVariants.{UnknownControl, UnknownPath}
use Rattle.form_read.specs.declared.scope.Scope.{Scope}
use Rattle.outline_laws.specs.FirstControls.{ControlsSay, asked, asks_for, control_cause, control_cause_at, is_number, unasked}
use Rattle.outline_laws.proofs.Binding.{found_at}
use Rattle.outline_laws.proofs.Finding.{find_kept, find_new, find_none}
use Rattle.outline_laws.proofs.Folding.{Folded, Tracked, folds}

nowhere : PrimaryField
nowhere = record { path = []; initial = []; is_group = false }

is_the_number : (n m : ℕ) → is_number n (Some m) ≡ true → n ≡ m
is_the_number n m is = let e : m ≡ n = eqb-true m n is in sym e

is_no_number : (n m : ℕ) → is_number n (Some m) ≡ false → n ≢ m
is_no_number n m is e = eqb-false m n is (sym e)

leaf_within : (slots : List PrimaryField) (path : List ℕ) (n : ℕ) → leaf_of slots path ≡ Some n → n < length slots
leaf_within slots path n is = (found_at (is_leaf_at path) slots n nowhere is).0

-- each leaf has what the control says that asks for it
pub record AreAsked (scope : Scope) (before : List Control) (answers : List (Option Asked)) : Type 0 where
  pub count : length answers ≡ length scope.slots
  pub say : (n : ℕ) → ControlsSay scope before n (slice_index_or answers n None)

-- the controls change nothing else of a draft
abbrev pub but_asked : Draft → Draft
but_asked d = record d { asked = [] }

pub record IsAsked (scope : Scope) (first : Draft) (before : List Control) (d : Draft) : Type 0 where
  pub asked : AreAsked scope before d.asked
  pub others : but_asked d ≡ but_asked first

say_on : (scope : Scope) (before : List Control) (c : Control) (n : ℕ) (o : Option Asked) → asks_for scope n c ≡ false → ControlsSay scope before n o → ControlsSay scope (before ++ c ∷ []) n o
say_on scope before c n o other (unasked none) = unasked (find_none (asks_for scope n) before c none other)
say_on scope before c n o other (asked control said found is) = asked control said (find_kept (asks_for scope n) before c control found) is

module _ (scope : Scope) (first : Draft) (before : List Control) (d : Draft) (c : Control) (h : IsAsked scope first before d) where
  abbrev Step : Result Draft FormRefused → Type 0
  Step r = Tracked (IsAsked scope first) (control_cause scope) before c r

  module _ (control : is_control c.name ≡ true) where
    cause_at : (o : Option ℕ) → leaf_of scope.slots c.target ≡ o → control_cause scope before c ≡ control_cause_at scope before c o
    cause_at o is = rw control (ap (control_cause_at scope before c) is)

    module _ (m : ℕ) (is : leaf_of scope.slots c.target ≡ Some m) where
      new_say : (said : Asked) → find (asks_for scope m) before ≡ None → asked_by scope c ≡ Ok said → (n : ℕ)
          → ControlsSay scope (before ++ c ∷ []) n (slice_index_or (slice_set d.asked m (Some said)) n None)
      new_say said none by_it n = by (is_number n (Some m)) refl
        where
          by : (b : Bool) → is_number n (Some m) ≡ b → ControlsSay scope (before ++ c ∷ []) n (slice_index_or (slice_set d.asked m (Some said)) n None)
          by true alike =
              let same : n ≡ m = is_the_number n m alike in
              let within : m < length d.asked = subst (λ k. m < k) (sym h.asked.count) (leaf_within scope.slots c.target m is) in
              subst (λ k. ControlsSay scope (before ++ c ∷ []) k (slice_index_or (slice_set d.asked m (Some said)) k None)) (sym same)
              (subst (ControlsSay scope (before ++ c ∷ []) m) (sym (get_or-set_same d.asked m (Some said) None within))
              (asked c said (find_new (asks_for scope m) before c none (ap (is_number m) is ∙ subst (λ k. is_number k (Some m) ≡ true) same alike)) by_it))
          by false alike =
              subst (ControlsSay scope (before ++ c ∷ []) n) (sym (get_or-set_other d.asked m n (Some said) None (is_no_number n m alike)))
              (say_on scope before c n (slice_index_or d.asked n None) (ap (is_number n) is ∙ alike) (h.asked.say n))

      new_control : find (asks_for scope m) before ≡ None → (r : Result Asked FormRefused) → asked_by scope c ≡ r
          → Step (r >>= λ said. Ok (record d { asked = slice_set d.asked m (Some said) }))
      new_control none (Ok said) by_it = (
        cause_at (Some m) is ∙ rw (none, by_it) refl,
        record {
          asked = record { count = length-set d.asked m (Some said) ∙ h.asked.count; say = new_say said none by_it };
          others = h.others;
        },
      )
      new_control none (Err why) by_it = cause_at (Some m) is ∙ rw (none, by_it) refl

      leaf : (o : Option Asked) → ControlsSay scope before m o
          → Step (if is_given o then Err (UnknownControl c.name) else (asked_by scope c >>= λ said. Ok (record d { asked = slice_set d.asked m (Some said) })))
      leaf None (unasked none) = new_control none (asked_by scope c) refl
      leaf (Some said) (asked other _ found by_it) = cause_at (Some m) is ∙ rw found refl

    at : (o : Option ℕ) → leaf_of scope.slots c.target ≡ o → Step (asked_at scope d c o)
    at None is = cause_at None is
    at (Some m) is = leaf m is (slice_index_or d.asked m None) (h.asked.say m)

  control_tracked : Step (control_taken scope d c)
  unfolding control_taken
  control_tracked = by (is_control c.name) refl
    where
      by : (b : Bool) → is_control c.name ≡ b → Step (if b then asked_at scope d c (leaf_of scope.slots c.target) else Err (UnknownControl c.name))
      by true control = at control (leaf_of scope.slots c.target) refl
      by false control = rw control refl

none_asked : {A : Type 0} (scope : Scope) (xs : List A) (n : ℕ) → ControlsSay scope [] n None
none_asked scope xs n = unasked refl

-- the controls are refused for the first cause
pub controls_folded : (scope : Scope) (d : Draft) (controls : List Control) → AreAsked scope [] d.asked
    → Folded (IsAsked scope d) (control_cause scope) [] controls (controls_taken scope d controls)
controls_folded scope d controls h = folds (IsAsked scope d) (control_cause scope) (control_taken scope) (controls_taken scope) (λ s. refl) (λ s c cs. refl)
    (λ before s c kept. control_tracked scope d before s c kept) [] d controls (record { asked = h; others = refl })
