-- What is shown and calculated depends only on the fields that it depends on.
use Rattle.std.specs.Prelude.{ℕ, ◌≡◌, Bool, true, ◌&&◌, cond, List, [], ◌++◌, Option, Some, None, refl}
use Rattle.std.specs.List.{list_all}
use Rattle.std.specs.Option.{option_to_list}
use Rattle.std.proofs.Common.{ap, ◌∙◌}
use Rattle.std.proofs.lemmas.Bool.{and_parts}
use Rattle.field_text.specs.Tables.{NamedTable}
use Rattle.form_def.specs.declared.expr.Expr.{Expr}
use Rattle.form_def.specs.declared.field.Field.{Field}
use Rattle.form_def.specs.declared.form.FormDef.{FormDef}
use Rattle.form_def.specs.Reads.{reads, reads_of}
use Rattle.form_def.specs.Fields.{parent_of}
use Rattle.form_def.specs.Order.{dependencies, is_marked}
use Rattle.expr_values.specs.Values.{truth_of, calculated_text}
use Rattle.expr_values.specs.Rows.{no_columns, rows_named}
use Rattle.expr_values.specs.Evaluation.{text_read}
use Rattle.expr_values.proofs.DependsLemmas.{value_same}
use Rattle.expr_values.proofs.Truths.{all-first, all-second}
use Rattle.question_rules.specs.Fields.{text_at, value_of, holds_or}
use Rattle.question_rules.specs.Shown.{is_parent_shown, is_shown_by}
use Rattle.question_rules.specs.Settled.{text_by}
use Rattle.question_rules.specs.Along.{Made}

-- the same marks and texts at these fields
abbrev pub Agree : (ℕ → Bool) → Made → Made → Type 0
Agree ok a b = (k : ℕ) → ok k ≡ true → (is_marked a.marks k ≡ is_marked b.marks k) × (text_at a.texts k ≡ text_at b.texts k)

read_agrees : (ok : ℕ → Bool) (a b : Made) → Agree ok a b → (k : ℕ) → ok k ≡ true → text_read a.texts a.marks k ≡ text_read b.texts b.marks k
read_agrees ok a b same k on = ap (λ m. cond m (text_at a.texts k) []) (same k on).0 ∙ ap (λ t. cond (is_marked b.marks k) t []) (same k on).1

value_agrees : (form : FormDef) (tables : List NamedTable) (ok : ℕ → Bool) (a b : Made) → Agree ok a b → (own : ℕ) (expr : Expr) → list_all ok (reads own expr) ≡ true
    → value_of form tables a.texts a.marks own expr ≡ value_of form tables b.texts b.marks own expr
value_agrees form tables ok a b same own expr on =
    ap (λ v. v no_columns) (value_same (text_read a.texts a.marks) (text_read b.texts b.marks) (rows_named form tables) own ok (read_agrees ok a b same) expr on)

holds_agrees : (form : FormDef) (tables : List NamedTable) (ok : ℕ → Bool) (a b : Made) → Agree ok a b → (own : ℕ) (absent : Bool) (expr : Option Expr) → list_all ok (reads_of own expr) ≡ true
    → holds_or absent form tables a.texts a.marks own expr ≡ holds_or absent form tables b.texts b.marks own expr
holds_agrees form tables ok a b same own absent None on = refl
holds_agrees form tables ok a b same own absent (Some expr) on = ap truth_of (value_agrees form tables ok a b same own expr on)

pub text_agrees : (form : FormDef) (tables : List NamedTable) (ok : ℕ → Bool) (a b : Made) → Agree ok a b → (own : ℕ) (expr : Option Expr) (old : List ℕ) → list_all ok (reads_of own expr) ≡ true
    → text_by form tables a.texts a.marks own expr old ≡ text_by form tables b.texts b.marks own expr old
text_agrees form tables ok a b same own None old on = refl
text_agrees form tables ok a b same own (Some expr) old on = ap calculated_text (value_agrees form tables ok a b same own expr on)

parent_agrees : (ok : ℕ → Bool) (a b : Made) → Agree ok a b → (parent : Option ℕ) → list_all ok (option_to_list parent) ≡ true → is_parent_shown a.marks parent ≡ is_parent_shown b.marks parent
parent_agrees ok a b same None on = refl
parent_agrees ok a b same (Some parent) on = (same parent ((and_parts (ok parent) true on).0)).0

pub shown_agrees : (form : FormDef) (tables : List NamedTable) (ok : ℕ → Bool) (a b : Made) → Agree ok a b → (own : ℕ) (field : Field) → list_all ok (dependencies form.fields own field) ≡ true
    → is_shown_by form tables a.texts a.marks own field ≡ is_shown_by form tables b.texts b.marks own field
shown_agrees form tables ok a b same own field on =
    let parent = option_to_list (parent_of form.fields field.path) in
    let front = all-first ok (parent ++ reads_of own field.relevant) (reads_of own field.calculate) on in
    ap (λ p. p && holds_or true form tables a.texts a.marks own field.relevant) (parent_agrees ok a b same (parent_of form.fields field.path) (all-first ok parent (reads_of own field.relevant) front))
    ∙ ap (λ h. is_parent_shown b.marks (parent_of form.fields field.path) && h) (holds_agrees form tables ok a b same own true field.relevant (all-second ok parent (reads_of own field.relevant) front))

pub calculate_reads : (form : FormDef) (ok : ℕ → Bool) (own : ℕ) (field : Field) → list_all ok (dependencies form.fields own field) ≡ true → list_all ok (reads_of own field.calculate) ≡ true
calculate_reads form ok own field on = all-second ok (option_to_list (parent_of form.fields field.path) ++ reads_of own field.relevant) (reads_of own field.calculate) on
