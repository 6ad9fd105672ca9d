-- The controls of a form (ODK XForms, "Body"): a control asks for the leaf that its `ref` names, and one control asks for
-- a leaf at most.
use Rattle.std.specs.Prelude.{◌≡◌, ℕ, Bool, false, if◌then◌else◌, nat_eq, List, find, Option, Some, None, Ok}
use Rattle.form_outline.specs.declared.outline.Control.{Control}
use Rattle.form_read.specs.declared.refusal.FormRefused.{FormRefused}
use Rattle.form_read.specs.declared.refusal.FormRefused.TheVariants.{UnknownControl, UnknownPath}
use Rattle.form_read.specs.declared.scope.Scope.{Scope}
use Rattle.form_read.specs.declared.draft.Asked.{Asked}
use Rattle.form_read.specs.Binds.{is_given}
use Rattle.form_read.specs.Controls.{asked_by, is_control}
use Rattle.form_read.specs.Paths.{leaf_of}
use Rattle.outline_laws.specs.Causes.{refusal_in}

abbrev pub is_number : ℕ → Option ℕ → Bool
is_number number None = false
is_number number (Some other) = nat_eq other number

-- the control names the leaf with this number: the first leaf of its path, whatever else has the path
abbrev pub asks_for : Scope → ℕ → Control → Bool
asks_for scope number control = is_number number (leaf_of scope.slots control.target)

-- what the controls say of a field: what the one says that asks for it, if there is one
pub data ControlsSay (scope : Scope) (controls : List Control) (number : ℕ) : Option Asked → Type 0 where
  unasked : find (asks_for scope number) controls ≡ None → ControlsSay scope controls number None
  asked : (control : Control) (said : Asked) → find (asks_for scope number) controls ≡ Some control
      → asked_by scope control ≡ Ok said → ControlsSay scope controls number (Some said)

-- a control of no leaf is refused, and a second one of a leaf
abbrev pub control_cause_at : Scope → List Control → Control → Option ℕ → Option FormRefused
control_cause_at scope before control None = Some (UnknownPath control.target)
control_cause_at scope before control (Some number) =
    if is_given (find (asks_for scope number) before) then Some (UnknownControl control.name)
    else refusal_in (asked_by scope control)

abbrev pub control_cause : Scope → List Control → Control → Option FormRefused
control_cause scope before control =
    if is_control control.name then control_cause_at scope before control (leaf_of scope.slots control.target)
    else Some (UnknownControl control.name)
