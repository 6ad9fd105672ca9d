-- What is made along the order is right at each field.
use Rattle.std.specs.Prelude.{ℕ, ◌<◌, ◌≡◌, ◌≢◌, Bool, true, false, ◌||◌, List, [], ◌∷◌, length, slice_get, slice_set, Option, Some, None, refl}
use Rattle.std.specs.List.{list_all}
use Rattle.std.specs.Option.{option_map_or}
use Rattle.std.proofs.Common.{ap, sym, ◌∙◌, subst, arith, eqb, eqb-true, length-set, get_or-set_same, get_or-set_other}
use Rattle.std.proofs.lemmas.Bool.{eqb-false, false≢true, and_parts}
use Rattle.std.proofs.lemmas.List.{set-get_or, length-replicate}
use Rattle.std.proofs.lemmas.Option.{slice_get_within}
use Rattle.field_text.specs.Tables.{NamedTable}
use Rattle.form_def.specs.declared.expr.Expr.{Expr}
use Rattle.form_def.specs.declared.field.Field.{Field}
use Rattle.form_def.specs.declared.form.FormDef.{FormDef}
use Rattle.form_def.specs.Reads.{reads_of}
use Rattle.form_def.specs.Order.{is_among, is_marked, may_come, are_ordered, dependencies, dependencies_at}
use Rattle.form_def.proofs.FieldLemmas.{may_come_within}
use Rattle.question_rules.specs.Fields.{text_at}
use Rattle.question_rules.specs.Shown.{is_shown_by, IsShown}
use Rattle.question_rules.specs.Settled.{text_by, IsSettledWith}
use Rattle.question_rules.specs.Along.{Made, mark_at, text_made, marks_with, made_with, made_along, marked_along, unmarked, shown_marks, settled}
use Rattle.question_rules.proofs.Placed.{placed_after, is_new, has_before, order_along, all_placed}
use Rattle.question_rules.proofs.Agreement.{Agree, shown_agrees, text_agrees, calculate_reads}

-- a calculation of a field that reads no more than the field's own does
abbrev pub IsCalculation : (Field → Option Expr) → Type 0
IsCalculation calculation = (ok : ℕ → Bool) (own : ℕ) (field : Field) → list_all ok (reads_of own field.calculate) ≡ true → list_all ok (reads_of own (calculation field)) ≡ true

pub own_calculation : IsCalculation (λ field. field.calculate)
own_calculation ok own field on = on

pub no_calculation : IsCalculation (λ field. None)
no_calculation ok own field on = refl

abbrev pub IsRight : FormDef → List NamedTable → (Field → Option Expr) → List (List ℕ) → Made → ℕ → Type 0
IsRight form tables calculation before made number = (field : Field) → slice_get form.fields number ≡ Some field
    → (is_marked made.marks number ≡ is_shown_by form tables made.texts made.marks number field)
    × (text_at made.texts number ≡ text_by form tables made.texts made.marks number (calculation field) (text_at before number))

pub depends_at : (form : FormDef) (ok : ℕ → Bool) (number : ℕ) (field : Field) → slice_get form.fields number ≡ Some field → list_all ok (dependencies_at form.fields number) ≡ true
    → list_all ok (dependencies form.fields number field) ≡ true
depends_at form ok number field at on = ap (λ o. list_all ok (option_map_or (λ f. dependencies form.fields number f) o [])) (sym at) ∙ on

right_agrees : (form : FormDef) (tables : List NamedTable) (calculation : Field → Option Expr) → IsCalculation calculation → (before : List (List ℕ)) (ok : ℕ → Bool) (a b : Made) → Agree ok a b
    → (number : ℕ) → ok number ≡ true → list_all ok (dependencies_at form.fields number) ≡ true → IsRight form tables calculation before a number → IsRight form tables calculation before b number
right_agrees form tables calculation is before ok a b same number on deps right field at =
    let depends = depends_at form ok number field at deps in
    let r = right field at in (
      sym (same number on).0 ∙ r.0 ∙ shown_agrees form tables ok a b same number field depends,
      sym (same number on).1 ∙ r.1 ∙ text_agrees form tables ok a b same number (calculation field) (text_at before number) (is ok number field (calculate_reads form ok number field depends)),
    )

-- what was made of the placed fields, each of which has all that it depends on among them
pub record SoFar (form : FormDef) (tables : List NamedTable) (calculation : Field → Option Expr) (before : List (List ℕ)) (placed : List ℕ) (made : Made) : Type 0 where
  closed : (k : ℕ) → is_among placed k ≡ true → list_all (is_among placed) (dependencies_at form.fields k) ≡ true
  right : (k : ℕ) → is_among placed k ≡ true → IsRight form tables calculation before made k
  untouched : (k : ℕ) → is_among placed k ≡ false → text_at made.texts k ≡ text_at before k
  marks_long : length made.marks ≡ length form.fields
  texts_long : length made.texts ≡ length form.fields

among_more : (number : ℕ) (placed : List ℕ) (k : ℕ) → is_among placed k ≡ true → is_among (number ∷ placed) k ≡ true
among_more number placed k on = either (eqb number k) (is_among placed k) on where
  either : (a b : Bool) → b ≡ true → (a || b) ≡ true
  either true b e = refl
  either false b e = e

all_more : (number : ℕ) (placed xs : List ℕ) → list_all (is_among placed) xs ≡ true → list_all (is_among (number ∷ placed)) xs ≡ true
all_more number placed [] on = refl
all_more number placed (x ∷ xs) on = rw (among_more number placed x ((and_parts (is_among placed x) (list_all (is_among placed) xs) on).0))
    (all_more number placed xs ((and_parts (is_among placed x) (list_all (is_among placed) xs) on).1))

differs : (placed : List ℕ) (number k : ℕ) → is_among placed number ≡ false → is_among placed k ≡ true → k ≢ number
differs placed number k off on e = false≢true (sym off ∙ ap (is_among placed) (sym e) ∙ on)

kept_others : (form : FormDef) (tables : List NamedTable) (calculation : Field → Option Expr) (placed : List ℕ) (made : Made) (number : ℕ) → is_among placed number ≡ false
    → Agree (is_among placed) made (made_with form tables calculation made number)
kept_others form tables calculation placed made number new k on =
    let other = differs placed number k new on in (
      sym (get_or-set_other made.marks number k _ false other),
      sym (get_or-set_other made.texts number k _ [] other),
    )

-- the marks are set first, and the text is read with them
kept_with_mark : (form : FormDef) (tables : List NamedTable) (calculation : Field → Option Expr) (placed : List ℕ) (made : Made) (number : ℕ) → is_among placed number ≡ false
    → Agree (is_among placed) (record { texts = made.texts; marks = marks_with form tables made.texts made.marks number }) (made_with form tables calculation made number)
kept_with_mark form tables calculation placed made number new k on = (refl, sym (get_or-set_other made.texts number k _ [] (differs placed number k new on)))

right_here : (form : FormDef) (tables : List NamedTable) (calculation : Field → Option Expr) → IsCalculation calculation → (before : List (List ℕ)) (placed : List ℕ) (made : Made) (number : ℕ)
    → may_come (length form.fields) (dependencies_at form.fields) (is_among placed) number ≡ true → SoFar form tables calculation before placed made
    → IsRight form tables calculation before (made_with form tables calculation made number) number
right_here form tables calculation is before placed made number may s field at =
    let new = is_new form.fields placed number may in
    let depends = depends_at form (is_among placed) number field at (has_before form.fields placed number may) in
    let low : number < length form.fields = may_come_within (length form.fields) (dependencies_at form.fields) (is_among placed) number may in
    let marks_long : length made.marks ≡ length form.fields = s.marks_long in
    let texts_long : length made.texts ≡ length form.fields = s.texts_long in (
      get_or-set_same made.marks number (mark_at form tables made.texts made.marks number) false (omega arith)
          ∙ ap (λ o. option_map_or (λ f. is_shown_by form tables made.texts made.marks number f) o false) at
          ∙ shown_agrees form tables (is_among placed) made (made_with form tables calculation made number) (kept_others form tables calculation placed made number new) number field depends,
      get_or-set_same made.texts number (text_made form tables calculation made.texts (marks_with form tables made.texts made.marks number) number) [] (omega arith)
          ∙ ap (λ o. option_map_or (λ f. text_by form tables made.texts (marks_with form tables made.texts made.marks number) number (calculation f) (text_at made.texts number)) o (text_at made.texts number)) at
          ∙ ap (λ old. text_by form tables made.texts (marks_with form tables made.texts made.marks number) number (calculation field) old) (s.untouched number new)
          ∙ text_agrees form tables (is_among placed) (record { texts = made.texts; marks = marks_with form tables made.texts made.marks number }) (made_with form tables calculation made number)
          (kept_with_mark form tables calculation placed made number new) number (calculation field) (text_at before number) (is (is_among placed) number field (calculate_reads form (is_among placed) number field depends)),
    )

pub either_placed : (number : ℕ) (placed : List ℕ) (k : ℕ) (P : ℕ → Type 0) → P number → ((j : ℕ) → is_among placed j ≡ true → P j) → (b : Bool) → eqb number k ≡ b → (b || is_among placed k) ≡ true → P k
either_placed number placed k P here others true e on = subst P (eqb-true number k e) here
either_placed number placed k P here others false e on = others k on

neither_placed : (number : ℕ) (placed : List ℕ) (k : ℕ) (b : Bool) → eqb number k ≡ b → (b || is_among placed k) ≡ false → (k ≢ number) × (is_among placed k ≡ false)
neither_placed number placed k true e off = absurd (false≢true (sym off))
neither_placed number placed k false e off = (λ h. eqb-false number k e (sym h), off)

one_more : (form : FormDef) (tables : List NamedTable) (calculation : Field → Option Expr) → IsCalculation calculation → (before : List (List ℕ)) (placed : List ℕ) (made : Made) (number : ℕ)
    → may_come (length form.fields) (dependencies_at form.fields) (is_among placed) number ≡ true → SoFar form tables calculation before placed made
    → SoFar form tables calculation before (number ∷ placed) (made_with form tables calculation made number)
one_more form tables calculation is before placed made number may s =
    let new = is_new form.fields placed number may in
    let next : Made = made_with form tables calculation made number in record {
      closed = λ k on. either_placed number placed k (λ j. list_all (is_among (number ∷ placed)) (dependencies_at form.fields j) ≡ true)
          (all_more number placed (dependencies_at form.fields number) (has_before form.fields placed number may))
          (λ j there. all_more number placed (dependencies_at form.fields j) (s.closed j there)) (eqb number k) refl on;
      right = λ k on. either_placed number placed k (λ j. IsRight form tables calculation before next j)
          (right_here form tables calculation is before placed made number may s)
          (λ j there. right_agrees form tables calculation is before (is_among placed) made next (kept_others form tables calculation placed made number new) j there (s.closed j there) (s.right j there))
          (eqb number k) refl on;
      untouched = λ k off. let n = neither_placed number placed k (eqb number k) refl off in get_or-set_other made.texts number k _ [] n.0 ∙ s.untouched k n.1;
      marks_long = length-set made.marks number _ ∙ s.marks_long;
      texts_long = length-set made.texts number _ ∙ s.texts_long;
    }

all_more_along : (form : FormDef) (tables : List NamedTable) (calculation : Field → Option Expr) → IsCalculation calculation → (before : List (List ℕ)) (placed numbers : List ℕ) (made : Made)
    → are_ordered (length form.fields) (dependencies_at form.fields) placed numbers ≡ true → SoFar form tables calculation before placed made
    → SoFar form tables calculation before (placed_after placed numbers) (made_along form tables calculation numbers made)
all_more_along form tables calculation is before placed [] made ordered s = s
all_more_along form tables calculation is before placed (number ∷ numbers) made ordered s =
    let may = (and_parts (may_come (length form.fields) (dependencies_at form.fields) (is_among placed) number) (are_ordered (length form.fields) (dependencies_at form.fields) (number ∷ placed) numbers) ordered).0 in
    all_more_along form tables calculation is before (number ∷ placed) numbers (made_with form tables calculation made number)
    ((and_parts (may_come (length form.fields) (dependencies_at form.fields) (is_among placed) number) (are_ordered (length form.fields) (dependencies_at form.fields) (number ∷ placed) numbers) ordered).1)
    (one_more form tables calculation is before placed made number may s)

at_first : (form : FormDef) (tables : List NamedTable) (calculation : Field → Option Expr) (texts : List (List ℕ)) → length texts ≡ length form.fields
    → SoFar form tables calculation texts [] (record { texts = texts; marks = unmarked form })
at_first form tables calculation texts long = record {
  closed = λ k on. absurd (false≢true on);
  right = λ k on. absurd (false≢true on);
  untouched = λ k off. refl;
  marks_long = length-replicate (length form.fields) false;
  texts_long = long;
}

at_last : (form : FormDef) (tables : List NamedTable) (calculation : Field → Option Expr) → IsCalculation calculation → (texts : List (List ℕ)) → length texts ≡ length form.fields
    → SoFar form tables calculation texts (placed_after [] form.order) (made_along form tables calculation form.order (record { texts = texts; marks = unmarked form }))
at_last form tables calculation is texts long =
    all_more_along form tables calculation is texts [] form.order (record { texts = texts; marks = unmarked form }) (order_along form.fields form.order form.ordered) (at_first form tables calculation texts long)

right_at_last : (form : FormDef) (tables : List NamedTable) (calculation : Field → Option Expr) (before : List (List ℕ)) (made : Made)
    → SoFar form tables calculation before (placed_after [] form.order) made → (number : ℕ) (field : Field) → slice_get form.fields number ≡ Some field
    → (is_marked made.marks number ≡ is_shown_by form tables made.texts made.marks number field)
    × (text_at made.texts number ≡ text_by form tables made.texts made.marks number (calculation field) (text_at before number))
right_at_last form tables calculation before made s number field at =
    s.right number (all_placed form.fields form.order form.ordered number (slice_get_within form.fields number field at)) field at

-- texts once they are settled
pub settled_is : (form : FormDef) (tables : List NamedTable) (texts : List (List ℕ)) → length texts ≡ length form.fields
    → IsSettledWith form tables texts (settled form tables texts).texts (settled form tables texts).marks
settled_is form tables texts long =
    let made : Made = settled form tables texts in
    let s : SoFar form tables (λ field. field.calculate) texts (placed_after [] form.order) made = at_last form tables (λ field. field.calculate) own_calculation texts long in (
      s.texts_long ∙ sym long,
      (s.marks_long, λ number field at. (right_at_last form tables (λ field. field.calculate) texts made s number field at).0),
      λ number field at. (right_at_last form tables (λ field. field.calculate) texts made s number field at).1,
    )

same_text : (form : FormDef) (tables : List NamedTable) (texts : List (List ℕ)) (marks : List Bool) (number : ℕ) (o : Option Field)
    → option_map_or (λ field. text_by form tables texts marks number None (text_at texts number)) o (text_at texts number) ≡ text_at texts number
same_text form tables texts marks number None = refl
same_text form tables texts marks number (Some field) = refl

-- where nothing is calculated, the texts stay
marks_alone : (form : FormDef) (tables : List NamedTable) (texts : List (List ℕ)) (numbers : List ℕ) (marks : List Bool)
    → made_along form tables (λ field. None) numbers (record { texts = texts; marks = marks }) ≡ record { texts = texts; marks = marked_along form tables texts numbers marks }
marks_alone form tables texts [] marks = refl
marks_alone form tables texts (number ∷ numbers) marks =
    let next = marks_with form tables texts marks number in
    ap (λ t. made_along form tables (λ field. None) numbers (record { texts = t; marks = next }))
    (ap (slice_set texts number) (same_text form tables texts next number (slice_get form.fields number)) ∙ set-get_or texts number [])
    ∙ marks_alone form tables texts numbers next

pub shown_is : (form : FormDef) (tables : List NamedTable) (texts : List (List ℕ)) → length texts ≡ length form.fields → IsShown form tables texts (shown_marks form tables texts)
shown_is form tables texts long =
    let made : Made = record { texts = texts; marks = shown_marks form tables texts } in
    let s : SoFar form tables (λ field. None) texts (placed_after [] form.order) made =
    subst (SoFar form tables (λ field. None) texts (placed_after [] form.order)) (marks_alone form tables texts form.order (unmarked form)) (at_last form tables (λ field. None) no_calculation texts long) in
    (s.marks_long, λ number field at. (right_at_last form tables (λ field. None) texts made s number field at).0)
