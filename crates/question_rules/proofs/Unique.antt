-- Marks and settled texts are the only ones that are right.
use Rattle.std.specs.Prelude.{ℕ, ◌<◌, ◌≡◌, Bool, true, false, List, [], ◌∷◌, length, slice_get, Option, Some, None, refl}
use Rattle.std.proofs.Common.{sym, ◌∙◌, arith, eqb, inl, inr}
use Rattle.std.proofs.lemmas.Bool.{false≢true, and_parts}
use Rattle.std.proofs.lemmas.List.{ext_get_or}
use Rattle.std.proofs.lemmas.Option.{slice_get_cases}
use Rattle.field_text.specs.Tables.{NamedTable}
use Rattle.form_def.specs.declared.expr.Expr.{Expr}
use Rattle.form_def.specs.declared.field.Field.{Field}
use Rattle.form_def.specs.declared.form.FormDef.{FormDef}
use Rattle.form_def.specs.Order.{is_among, is_marked, may_come, are_ordered, dependencies_at}
use Rattle.form_def.proofs.FieldLemmas.{may_come_within}
use Rattle.question_rules.specs.Fields.{text_at}
use Rattle.question_rules.specs.Shown.{IsShown}
use Rattle.question_rules.specs.Settled.{IsSettled}
use Rattle.question_rules.specs.Along.{Made}
use Rattle.question_rules.proofs.Placed.{placed_after, has_before, order_along, all_placed}
use Rattle.question_rules.proofs.Agreement.{Agree, shown_agrees, text_agrees, calculate_reads}
use Rattle.question_rules.proofs.Making.{IsCalculation, own_calculation, no_calculation, IsRight, depends_at, either_placed}

field_there : (fields : List Field) (number : ℕ) → number < length fields → (field : Field) × (slice_get fields number ≡ Some field)
field_there fields number within = elim (slice_get_cases fields number).1 [ inl h ↦ (h.0, h.2) | inr h ↦ absurd (omega (arith, h.0)) ]

agree_here : (form : FormDef) (tables : List NamedTable) (calculation : Field → Option Expr) → IsCalculation calculation → (before : List (List ℕ)) (placed : List ℕ) (a b : Made) (number : ℕ)
    → ((k : ℕ) → IsRight form tables calculation before a k) → ((k : ℕ) → IsRight form tables calculation before b k) → may_come (length form.fields) (dependencies_at form.fields) (is_among placed) number ≡ true → Agree (is_among placed) a b
    → (is_marked a.marks number ≡ is_marked b.marks number) × (text_at a.texts number ≡ text_at b.texts number)
agree_here form tables calculation is before placed a b number one other may same =
    let f = field_there form.fields number (may_come_within (length form.fields) (dependencies_at form.fields) (is_among placed) number may) in
    let depends = depends_at form (is_among placed) number f.0 f.1 (has_before form.fields placed number may) in
    let x = one number f.0 f.1 in
    let y = other number f.0 f.1 in (
      x.0 ∙ shown_agrees form tables (is_among placed) a b same number f.0 depends ∙ sym y.0,
      x.1 ∙ text_agrees form tables (is_among placed) a b same number (calculation f.0) (text_at before number) (is (is_among placed) number f.0 (calculate_reads form (is_among placed) number f.0 depends)) ∙ sym y.1,
    )

agree_along : (form : FormDef) (tables : List NamedTable) (calculation : Field → Option Expr) → IsCalculation calculation → (before : List (List ℕ)) (a b : Made)
    → ((k : ℕ) → IsRight form tables calculation before a k) → ((k : ℕ) → IsRight form tables calculation before b k)
    → (placed numbers : List ℕ) → are_ordered (length form.fields) (dependencies_at form.fields) placed numbers ≡ true → Agree (is_among placed) a b → Agree (is_among (placed_after placed numbers)) a b
agree_along form tables calculation is before a b one other placed [] ordered same = same
agree_along form tables calculation is before a b one other placed (number ∷ numbers) ordered same =
    let may = (and_parts (may_come (length form.fields) (dependencies_at form.fields) (is_among placed) number) (are_ordered (length form.fields) (dependencies_at form.fields) (number ∷ placed) numbers) ordered).0 in
    agree_along form tables calculation is before a b one other (number ∷ placed) numbers
    ((and_parts (may_come (length form.fields) (dependencies_at form.fields) (is_among placed) number) (are_ordered (length form.fields) (dependencies_at form.fields) (number ∷ placed) numbers) ordered).1)
    (λ k on. either_placed number placed k (λ j. (is_marked a.marks j ≡ is_marked b.marks j) × (text_at a.texts j ≡ text_at b.texts j))
    (agree_here form tables calculation is before placed a b number one other may same) same (eqb number k) refl on)

agree_all : (form : FormDef) (tables : List NamedTable) (calculation : Field → Option Expr) → IsCalculation calculation → (before : List (List ℕ)) (a b : Made)
    → ((k : ℕ) → IsRight form tables calculation before a k) → ((k : ℕ) → IsRight form tables calculation before b k)
    → (k : ℕ) → k < length form.fields → (is_marked a.marks k ≡ is_marked b.marks k) × (text_at a.texts k ≡ text_at b.texts k)
agree_all form tables calculation is before a b one other k within =
    agree_along form tables calculation is before a b one other [] form.order (order_along form.fields form.order form.ordered) (λ j on. absurd (false≢true on)) k
    (all_placed form.fields form.order form.ordered k within)

pub one_shown : (form : FormDef) (tables : List NamedTable) (texts : List (List ℕ)) (one other : List Bool) → IsShown form tables texts one → IsShown form tables texts other → one ≡ other
one_shown form tables texts one other a b =
    let long : length one ≡ length form.fields = a.0 in
    ext_get_or false one other (long ∙ sym b.0) (λ k within.
    (agree_all form tables (λ field. None) no_calculation texts (record { texts = texts; marks = one }) (record { texts = texts; marks = other })
    (λ j field at. (a.1 j field at, refl)) (λ j field at. (b.1 j field at, refl)) k (omega arith)).0)

pub one_settled : (form : FormDef) (tables : List NamedTable) (before one other : List (List ℕ)) → length before ≡ length form.fields
    → IsSettled form tables before one → IsSettled form tables before other → one ≡ other
one_settled form tables before one other fits a b =
    let long : length one ≡ length before = a.1.0 in
    ext_get_or [] one other (long ∙ sym b.1.0) (λ k within.
    (agree_all form tables (λ field. field.calculate) own_calculation before (record { texts = one; marks = a.0 }) (record { texts = other; marks = b.0 })
    (λ j field at. (a.1.1.1 j field at, a.1.2 j field at)) (λ j field at. (b.1.1.1 j field at, b.1.2 j field at)) k (omega arith)).1)
