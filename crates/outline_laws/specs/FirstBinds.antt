-- The binds of a form (ODK XForms, "Bindings"): a field has what the first bind with its path says.
use Rattle.std.specs.Prelude.{◌≡◌, ℕ, if◌then◌else◌, List, find, Option, Some, None, Ok}
use Rattle.form_outline.specs.declared.outline.Bind.{Bind}
use Rattle.form_outline.specs.declared.outline.ModelPart.{ModelPart}
use Rattle.form_outline.specs.declared.outline.ModelPart.TheVariants as part
use Rattle.form_read.specs.declared.refusal.FormRefused.{FormRefused}
use Rattle.form_read.specs.declared.refusal.FormRefused.TheVariants.{UnknownPath}
use Rattle.form_read.specs.declared.scope.Scope.{Scope}
use Rattle.form_read.specs.declared.draft.Bound.{Bound}
use Rattle.form_read.specs.Slots.{slot_of}
use Rattle.form_read.specs.Binds.{bound_by, is_below_meta, is_bind_of, is_given}
use Rattle.outline_laws.specs.Causes.{refusal_in}

-- what the binds among these parts say of a path: what the first with this path says, if there is one
pub data BindsSay (scope : Scope) (parts : List ModelPart) (path : List ℕ) : Option Bound → Type 0 where
  unbound : find (is_bind_of path) parts ≡ None → BindsSay scope parts path None
  bound : (bind : Bind) (said : Bound) → find (is_bind_of path) parts ≡ Some (part.Bind bind)
      → bound_by scope bind ≡ Ok said → BindsSay scope parts path (Some said)

-- a bind of a path that is no field is refused outside `meta`, and a later bind of a field is unread
abbrev pub bind_cause_at : Scope → List ModelPart → Bind → Option ℕ → Option FormRefused
bind_cause_at scope before bind None =
    if is_below_meta scope.root bind.nodeset then None else Some (UnknownPath bind.nodeset)
bind_cause_at scope before bind (Some number) =
    if is_given (find (is_bind_of bind.nodeset) before) then None else refusal_in (bound_by scope bind)

abbrev pub bind_cause : Scope → List ModelPart → Bind → Option FormRefused
bind_cause scope before bind = bind_cause_at scope before bind (slot_of scope.slots bind.nodeset)
