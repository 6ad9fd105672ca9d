-- What the parts of the model do to a draft, and what they are refused for.
use Rattle.std.specs.Prelude.{◌≡◌, ℕ, Bool, true, false, ◌||◌, if◌then◌else◌, List, [], ◌∷◌, ◌++◌, codes, find, length, Option, Some, None, Result, Ok, Err, refl}
use Rattle.std.specs.List.{list_any}
use Rattle.std.proofs.Common.{ap, sym, ◌∙◌, subst}
use Rattle.form_outline.specs.declared.outline.ModelPart.{ModelPart}
use Rattle.form_outline.specs.declared.outline.ModelPart.TheVariants as part
use Rattle.form_outline.specs.declared.outline.Bind.{Bind}
use Rattle.form_outline.specs.declared.outline.PrimaryPart.{PrimaryPart}
use Rattle.form_outline.specs.declared.outline.SetValue.{SetValue}
use Rattle.form_outline.specs.declared.outline.Table.{Table}
use Rattle.form_read.specs.Binds.{bind_taken, is_bind_of}
use Rattle.form_read.specs.Drafts.{model_part_taken, model_taken, primary_taken}
use Rattle.form_read.specs.Primary.{nothing_seen, parts_taken}
use Rattle.form_read.specs.Refusals.{◌>>=◌}
use Rattle.form_read.specs.Tables.{draws_id, setvalue_taken, table_taken}
use Rattle.form_read.specs.declared.draft.Asked.{Asked}
use Rattle.form_read.specs.declared.draft.Draft.{Draft}
use Rattle.form_read.specs.declared.primary.Seen.{Seen}
use Rattle.form_read.specs.declared.refusal.FormRefused.{FormRefused}
use Rattle.form_read.specs.declared.refusal.FormRefused.TheVariants.{UnknownControl}
use Rattle.form_read.specs.declared.scope.Scope.{Scope}
use Rattle.outline_laws.specs.Causes.{causes, first_cause, refusal_in}
use Rattle.outline_laws.specs.FirstRefusals.{model_cause, primary_cause}
use Rattle.outline_laws.specs.FirstTables.{is_table_of}
use Rattle.outline_laws.proofs.Binding.{AreBound, BindStep, bind_step, bound_on, kept, refused, set}
use Rattle.outline_laws.proofs.Tabling.{AreTables, TableStep, inner, outer, table_step, tables_on}
use Rattle.outline_laws.proofs.Tabling as table
use Rattle.outline_laws.proofs.Primaries.{primary_refusal}
use Rattle.outline_laws.proofs.Folding.{Folded, Tracked, folds}

-- what the parts of the model have said
pub record IsModel (scope : Scope) (answers : List (Option Asked)) (before : List ModelPart) (d : Draft) : Type 0 where
  pub binds : AreBound scope before d.bounds
  pub tables : AreTables before d.inner d.outer
  -- the model changes nothing of what controls say
  pub asked : d.asked ≡ answers

module _ (scope : Scope) (answers : List (Option Asked)) (primary : List PrimaryPart) (before : List ModelPart) (d : Draft) (h : IsModel scope answers before d) where
  abbrev Step : ModelPart → Result Draft FormRefused → Type 0
  Step p r = Tracked (IsModel scope answers) (model_cause scope primary) before p r

  -- a part that is no bind and no table changes nothing of these
  same_on : (p : ModelPart) → ((path : List ℕ) → is_bind_of path p ≡ false) → ((id : List ℕ) → is_table_of id p ≡ false) → IsModel scope answers (before ++ p ∷ []) d
  same_on p no_bind no_table = record {
    binds = bound_on scope before p d.bounds (λ path n is none. no_bind path) h.binds;
    tables = tables_on before p d.inner d.outer (λ id none. no_table id) h.tables;
    asked = h.asked;
  }

  primary_tracked : Step part.Primary (primary_taken scope primary d)
  primary_tracked = by (parts_taken scope.root nothing_seen primary) (primary_refusal scope.root primary)
    where
      by : (r : Result Seen FormRefused) → refusal_in r ≡ first_cause (causes (primary_cause scope.root) [] primary) → Step part.Primary (r >>= λ seen. Ok d)
      by (Ok seen) is = (sym is, same_on part.Primary (λ path. refl) (λ id. refl))
      by (Err why) is = sym is

  bind_tracked : (bind : Bind) → Step (part.Bind bind) (bind_taken scope d bind)
  bind_tracked bind = by (bind_taken scope d bind) (bind_step scope before bind d h.binds)
    where
      tables_here : AreTables (before ++ part.Bind bind ∷ []) d.inner d.outer
      tables_here = tables_on before (part.Bind bind) d.inner d.outer (λ id none. refl) h.tables

      by : (r : Result Draft FormRefused) → BindStep scope before bind d r → Step (part.Bind bind) r
      by (Ok _) (kept none bound) = (none, record { binds = bound; tables = tables_here; asked = h.asked })
      by (Ok _) (set bounds none bound) = (none, record { binds = bound; tables = tables_here; asked = h.asked })
      by (Err why) (refused _ some) = some

  table_tracked : (t : Table) → Step (part.Table t) (table_taken d t)
  table_tracked t = by (table_taken d t) (table_step before t d h.tables)
    where
      binds_here : AreBound scope (before ++ part.Table t ∷ []) d.bounds
      binds_here = bound_on scope before (part.Table t) d.bounds (λ path n is none. refl) h.binds

      by : (r : Result Draft FormRefused) → TableStep before t d r → Step (part.Table t) r
      by (Ok _) (table.kept none tables) = (none, record { binds = binds_here; tables = tables; asked = h.asked })
      by (Ok _) (inner new none tables) = (none, record { binds = binds_here; tables = tables; asked = h.asked })
      by (Ok _) (outer new none tables) = (none, record { binds = binds_here; tables = tables; asked = h.asked })
      by (Err why) (table.refused _ some) = some

  setvalue_tracked : (s : SetValue) → Step (part.SetValue s) (setvalue_taken scope d s)
  setvalue_tracked s = by (draws_id scope s) refl
    where
      by : (b : Bool) → draws_id scope s ≡ b → Step (part.SetValue s) (setvalue_taken scope d s)
      by true is =
          let here = same_on (part.SetValue s) (λ path. refl) (λ id. refl) in
          rw is (rw is refl, record { binds = here.binds; tables = here.tables; asked = h.asked })
      by false is = rw is (rw is refl)

  model_part_tracked : (p : ModelPart) → Step p (model_part_taken scope primary d p)
  model_part_tracked part.Primary = primary_tracked
  model_part_tracked (part.Bind bind) = bind_tracked bind
  model_part_tracked (part.Table t) = table_tracked t
  model_part_tracked (part.Submission auto_send) = (refl, same_on (part.Submission auto_send) (λ path. refl) (λ id. refl))
  model_part_tracked (part.SetValue s) = setvalue_tracked s
  model_part_tracked (part.Other name) = refl

-- the model is refused for the first cause
pub model_folded : (scope : Scope) (primary : List PrimaryPart) (d : Draft) (parts : List ModelPart) → IsModel scope d.asked [] d
    → Folded (IsModel scope d.asked) (model_cause scope primary) [] parts (model_taken scope primary d parts)
model_folded scope primary d parts h = folds (IsModel scope d.asked) (model_cause scope primary) (model_part_taken scope primary) (model_taken scope primary) (λ s. refl) (λ s p ps. refl)
    (λ before s p is. model_part_tracked scope d.asked primary before s is p) [] d parts h
