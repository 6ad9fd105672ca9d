-- The parts of a form in document order: each says what it says of a field or a table, or is refused.
use Rattle.std.specs.Prelude.{ℕ, Bool, false, nat_lt, if◌then◌else◌, List, [], ◌∷◌, length, map, None, Result, Ok, Err}
use Rattle.form_read.specs.Lists.{is_empty}
use Rattle.form_outline.specs.declared.outline.PrimaryPart.{PrimaryPart}
use Rattle.form_outline.specs.declared.outline.ModelPart.{ModelPart}
use Rattle.form_outline.specs.declared.outline.ModelPart.TheVariants as part
use Rattle.form_outline.specs.declared.outline.Control.{Control}
use Rattle.form_outline.specs.declared.outline.PrimaryField.{PrimaryField}
use Rattle.form_outline.specs.declared.outline.Outline.{Outline}
use Rattle.form_read.specs.declared.refusal.FormRefused.{FormRefused}
use Rattle.form_read.specs.declared.refusal.FormRefused.TheVariants.{NoId, UnknownControl, TooManyFields}
use Rattle.form_read.specs.declared.scope.Scope.{Scope}
use Rattle.form_read.specs.declared.draft.Draft.{Draft}
use Rattle.form_read.specs.Refusals.{◌>>=◌}
use Rattle.form_read.specs.Slots.{slots_of}
use Rattle.form_read.specs.Primary.{parts_taken, nothing_seen}
use Rattle.form_read.specs.Binds.{bind_taken}
use Rattle.form_read.specs.Tables.{table_taken, setvalue_taken}
use Rattle.form_read.specs.Controls.{control_taken}

abbrev pub primary_taken : Scope → List PrimaryPart → Draft → Result Draft FormRefused
primary_taken scope primary d = parts_taken scope.root nothing_seen primary >>= λ seen. Ok d

abbrev pub model_part_taken : Scope → List PrimaryPart → Draft → ModelPart → Result Draft FormRefused
model_part_taken scope primary d part.Primary = primary_taken scope primary d
model_part_taken scope primary d (part.Bind bind) = bind_taken scope d bind
model_part_taken scope primary d (part.Table table) = table_taken d table
model_part_taken scope primary d (part.Submission auto_send) = Ok d
model_part_taken scope primary d (part.SetValue setvalue) = setvalue_taken scope d setvalue
model_part_taken scope primary d (part.Other name) = Err (UnknownControl name)

abbrev pub model_taken : Scope → List PrimaryPart → Draft → List ModelPart → Result Draft FormRefused
model_taken scope primary d [] = Ok d
model_taken scope primary d (p ∷ ps) = model_part_taken scope primary d p >>= λ next. model_taken scope primary next ps

abbrev pub controls_taken : Scope → Draft → List Control → Result Draft FormRefused
controls_taken scope d [] = Ok d
controls_taken scope d (c ∷ cs) = control_taken scope d c >>= λ next. controls_taken scope next cs

abbrev pub empty_draft : List PrimaryField → Draft
empty_draft slots =
    record { bounds = map (λ s. None) slots; asked = map (λ s. None) slots; inner = []; outer = []; draws_id = false }

-- the head and the body, whichever stands first
unfoldable pub head_first : Scope → List PrimaryPart → List Control → Draft → Result Draft FormRefused
head_first scope primary controls d = do
  next ← model_taken scope primary d scope.model
  controls_taken scope next controls

unfoldable pub body_first : Scope → List PrimaryPart → List Control → Draft → Result Draft FormRefused
body_first scope primary controls d = do
  next ← controls_taken scope d controls
  model_taken scope primary next scope.model

abbrev pub all_taken : Bool → Scope → List PrimaryPart → List Control → Draft → Result Draft FormRefused
all_taken is_body_first scope primary controls d =
    if is_body_first then body_first scope primary controls d else head_first scope primary controls d

abbrev pub most_fields : ℕ
most_fields = 500

abbrev pub scope_of : Outline → Scope
scope_of o = record { root = o.root; slots = slots_of o.primary; model = o.model }

abbrev pub taken_unless_many : Outline → Scope → Result Draft FormRefused
taken_unless_many o scope = if nat_lt most_fields (length scope.slots) then Err (TooManyFields (length scope.slots))
    else all_taken o.body_first scope o.primary o.controls (empty_draft scope.slots)

-- what the parts of a document say, or the first refusal
unfoldable pub draft_of : Outline → Result Draft FormRefused
draft_of o = if is_empty o.id then Err NoId else taken_unless_many o (scope_of o)
