-- What binds say (ODK XForms, "Bindings"). The first bind of a field counts, and the others are unread with their
-- faults.
use Rattle.std.specs.Prelude.{ℕ, Bool, true, false, if◌then◌else◌, List, ◌∷◌, ◌++◌, codes, nat_eq, Option, Some, None}
use Rattle.std.specs.Prelude.{Result, Ok, Err, find, option_and_then, slice_set}
use Rattle.std.specs.List.{starts_with, slice_index_or}
use Rattle.std.specs.Str.{bytes_eq}
use Rattle.form_outline.specs.declared.outline.Bind.{Bind}
use Rattle.form_outline.specs.declared.outline.ModelPart.{ModelPart}
use Rattle.form_outline.specs.declared.outline.ModelPart.TheVariants as part
use Rattle.form_read.specs.declared.refusal.FormRefused.{FormRefused}
use Rattle.form_read.specs.declared.refusal.FormRefused.TheVariants.{UnknownPath}
use Rattle.form_read.specs.declared.scope.Scope.{Scope}
use Rattle.form_read.specs.declared.draft.Bound.{Bound}
use Rattle.form_read.specs.declared.draft.Draft.{Draft}
use Rattle.form_read.specs.Refusals.{◌>>=◌}
use Rattle.form_read.specs.Slots.{slot_of}
use Rattle.form_read.specs.Expressions.{optional_at}

abbrev pub is_bind_of : List ℕ → ModelPart → Bool
is_bind_of path part.Primary = false
is_bind_of path (part.Bind bind) = bytes_eq bind.nodeset path
is_bind_of path (part.Table table) = false
is_bind_of path (part.Submission auto_send) = false
is_bind_of path (part.SetValue setvalue) = false
is_bind_of path (part.Other element) = false

abbrev pub type_in : ModelPart → Option (List ℕ)
type_in part.Primary = None
type_in (part.Bind bind) = bind.data_type
type_in (part.Table table) = None
type_in (part.Submission auto_send) = None
type_in (part.SetValue setvalue) = None
type_in (part.Other element) = None

-- the type that the first bind of a path gives
abbrev pub type_of : Scope → List ℕ → Option (List ℕ)
type_of scope path = option_and_then type_in (find (is_bind_of path) scope.model)

abbrev pub meta_prefix : List ℕ → List ℕ
meta_prefix root = 47 ∷ root ++ codes "/meta/"

abbrev pub is_below_meta : List ℕ → List ℕ → Bool
is_below_meta root path = starts_with nat_eq path (meta_prefix root)

-- the attributes in this order
unfoldable pub bound_by : Scope → Bind → Result Bound FormRefused
bound_by scope bind = do
  relevant ← optional_at scope bind.nodeset bind.relevant
  constraint ← optional_at scope bind.nodeset bind.constraint
  required ← optional_at scope bind.nodeset bind.required
  readonly ← optional_at scope bind.nodeset bind.readonly
  calculate ← optional_at scope bind.nodeset bind.calculate
  Ok (record {
    relevant = relevant;
    constraint = constraint;
    required = required;
    readonly = readonly;
    calculate = calculate;
    saveto = bind.saveto;
  })

abbrev pub is_given : {A : Type 0} → Option A → Bool
is_given (Some x) = true
is_given None = false

-- a field that is bound already keeps what its first bind says
abbrev pub field_bound : Scope → Draft → Bind → ℕ → Result Draft FormRefused
field_bound scope d bind number =
    if is_given (slice_index_or d.bounds number None) then Ok d
    else (bound_by scope bind >>= λ bound. Ok (record d { bounds = slice_set d.bounds number (Some bound) }))

-- a nodeset in `meta` that is no field is skipped
abbrev pub no_field_bound : Scope → Draft → Bind → Result Draft FormRefused
no_field_bound scope d bind = if is_below_meta scope.root bind.nodeset then Ok d else Err (UnknownPath bind.nodeset)

abbrev pub bound_at : Scope → Draft → Bind → Option ℕ → Result Draft FormRefused
bound_at scope d bind None = no_field_bound scope d bind
bound_at scope d bind (Some number) = field_bound scope d bind number

unfoldable pub bind_taken : Scope → Draft → Bind → Result Draft FormRefused
bind_taken scope d bind = bound_at scope d bind (slot_of scope.slots bind.nodeset)
