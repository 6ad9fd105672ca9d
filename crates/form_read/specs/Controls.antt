-- What controls say (ODK XForms, "Body"): one for a field at most, its kind by its name and by the type of the
-- field's bind, and the values that a select offers.
use Rattle.std.specs.Prelude.{ℕ, Bool, true, ◌||◌, if◌then◌else◌, List, [], ◌∷◌, ◌++◌, codes, Option, Some, None}
use Rattle.std.specs.Prelude.{Result, Ok, Err, slice_set, unwrap_or}
use Rattle.std.specs.List.{slice_index_or}
use Rattle.std.specs.Str.{bytes_eq}
use Rattle.form_read.specs.Lists.{is_empty}
use Rattle.form_def.specs.declared.expr.Expr.{Expr}
use Rattle.form_def.specs.declared.field.Kind.{Kind}
use Rattle.form_def.specs.declared.field.Kind.TheVariants as kind
use Rattle.form_def.specs.declared.field.Choices.{Choices}
use Rattle.form_def.specs.declared.field.Choices.TheVariants as choices
use Rattle.form_expr.specs.declared.syntax.Syntax.{Syntax}
use Rattle.form_expr.specs.declared.syntax.Itemset.{Itemset}
use Rattle.form_expr.specs.Reading.{itemset_of}
use Rattle.form_outline.specs.declared.outline.ItemsetPart.{ItemsetPart}
use Rattle.form_outline.specs.declared.outline.ControlPart.{ControlPart}
use Rattle.form_outline.specs.declared.outline.ControlPart.TheVariants as part
use Rattle.form_outline.specs.declared.outline.Control.{Control}
use Rattle.form_read.specs.declared.refusal.FormRefused.{FormRefused}
use Rattle.form_read.specs.declared.refusal.FormRefused.TheVariants.{UnknownPath, UnknownControl, UnknownType}
use Rattle.form_read.specs.declared.refusal.FormRefused.TheVariants.{UnknownList}
use Rattle.form_read.specs.declared.scope.Scope.{Scope}
use Rattle.form_read.specs.declared.draft.Asked.{Asked}
use Rattle.form_read.specs.declared.draft.Offer.{Offer}
use Rattle.form_read.specs.declared.draft.Draft.{Draft}
use Rattle.form_read.specs.Refusals.{◌>>=◌}
use Rattle.form_read.specs.Paths.{leaf_of}
use Rattle.form_read.specs.Expressions.{is_declared, resolved, or_bad}
use Rattle.form_read.specs.Binds.{type_of, is_given}

abbrev pub is_input : List ℕ → Bool
is_input name = bytes_eq name (codes "input")

abbrev pub is_select_one : List ℕ → Bool
is_select_one name = bytes_eq name (codes "select1")

abbrev pub is_control : List ℕ → Bool
is_control name = is_input name || is_select_one name || bytes_eq name (codes "select")

abbrev pub input_kind : List ℕ → Option (List ℕ) → Result Kind FormRefused
input_kind path None = Ok kind.Words
input_kind path (Some data_type) = if bytes_eq data_type (codes "string") then Ok kind.Words
    else if bytes_eq data_type (codes "int") then Ok kind.Whole else Err (UnknownType path)

abbrev pub is_select_type : Option (List ℕ) → Bool
is_select_type None = true
is_select_type (Some data_type) =
    bytes_eq data_type (codes "string") || bytes_eq data_type (codes "select1") || bytes_eq data_type (codes "select")

abbrev pub select_kind : List ℕ → Kind → Option (List ℕ) → Result Kind FormRefused
select_kind path k data_type = if is_select_type data_type then Ok k else Err (UnknownType path)

-- the kind of the field of a path under a control of this name
abbrev pub control_kind : List ℕ → List ℕ → Option (List ℕ) → Result Kind FormRefused
control_kind name path data_type = if is_input name then input_kind path data_type
    else if is_select_one name then select_kind path kind.One data_type else select_kind path kind.Many data_type

abbrev pub part_name : ControlPart → List ℕ
part_name (part.Item value) = codes "item"
part_name (part.Itemset itemset) = codes "itemset"
part_name (part.Other name) = name

-- an input has only labels and hints
abbrev pub input_choices : List ControlPart → Result Choices FormRefused
input_choices [] = Ok choices.Nothing
input_choices (p ∷ ps) = Err (UnknownControl (part_name p))

abbrev pub filter_resolved : Scope → List ℕ → Option Syntax → Result (Option Expr) FormRefused
filter_resolved scope path None = Ok None
filter_resolved scope path (Some syntax) = resolved scope path syntax >>= λ x. Ok (Some x)

-- an itemset without a value offers the names of its rows
abbrev pub value_column : Option (List ℕ) → List ℕ
value_column value = unwrap_or value (codes "name")

abbrev pub rows_resolved : Scope → List ℕ → Option (List ℕ) → Itemset → Result Choices FormRefused
rows_resolved scope path value itemset =
    if is_declared scope itemset.table then (filter_resolved scope path itemset.filter >>= λ filter.
    Ok (choices.Rows itemset.table filter (value_column value))) else Err (UnknownList itemset.table)

unfoldable pub rows_offered : Scope → List ℕ → ItemsetPart → Result Choices FormRefused
rows_offered scope path i = do
  itemset ← or_bad path (itemset_of i.nodeset)
  rows_resolved scope path i.value itemset

-- an item without a value is skipped, and so is a second itemset
abbrev pub part_offered : Scope → List ℕ → Offer → ControlPart → Result Offer FormRefused
part_offered scope path o (part.Item None) = Ok o
part_offered scope path o (part.Item (Some value)) = Ok (record o { values = o.values ++ value ∷ [] })
part_offered scope path o (part.Itemset i) =
    if is_given o.rows then Ok o else (rows_offered scope path i >>= λ rows. Ok (record o { rows = Some rows }))
part_offered scope path o (part.Other name) = Err (UnknownControl name)

abbrev pub parts_offered : Scope → List ℕ → Offer → List ControlPart → Result Offer FormRefused
parts_offered scope path o [] = Ok o
parts_offered scope path o (p ∷ ps) = part_offered scope path o p >>= λ next. parts_offered scope path next ps

abbrev pub nothing_offered : Offer
nothing_offered = record { values = []; rows = None }

abbrev pub fixed_choices : List (List ℕ) → Choices
fixed_choices values = if is_empty values then choices.Nothing else choices.Fixed values

-- with an itemset the items are left out
abbrev pub choices_in : Offer → Choices
choices_in o = unwrap_or o.rows (fixed_choices o.values)

abbrev pub select_choices : Scope → List ℕ → List ControlPart → Result Choices FormRefused
select_choices scope path parts = parts_offered scope path nothing_offered parts >>= λ o. Ok (choices_in o)

abbrev pub control_choices : Scope → Control → Result Choices FormRefused
control_choices scope c = if is_input c.name then input_choices c.parts else select_choices scope c.target c.parts

unfoldable pub asked_by : Scope → Control → Result Asked FormRefused
asked_by scope c = do
  k ← control_kind c.name c.target (type_of scope c.target)
  offered ← control_choices scope c
  Ok (record { kind = k; choices = offered })

abbrev pub field_asked : Scope → Draft → Control → ℕ → Result Draft FormRefused
field_asked scope d c number =
    if is_given (slice_index_or d.asked number None) then Err (UnknownControl c.name)
    else (asked_by scope c >>= λ asked. Ok (record d { asked = slice_set d.asked number (Some asked) }))

abbrev pub asked_at : Scope → Draft → Control → Option ℕ → Result Draft FormRefused
asked_at scope d c None = Err (UnknownPath c.target)
asked_at scope d c (Some number) = field_asked scope d c number

unfoldable pub control_taken : Scope → Draft → Control → Result Draft FormRefused
control_taken scope d c =
    if is_control c.name then asked_at scope d c (leaf_of scope.slots c.target) else Err (UnknownControl c.name)
