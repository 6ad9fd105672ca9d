-- Proofs that fields have an order, or a first one of them depends on itself, and no definitions.
use Rattle.std.specs.Prelude.{◌≡◌, ◌⊎◌, ◌↔◌, IsTrue, ℕ, zero, suc, ◌+◌, ◌<◌, ◌≤◌, true, Bool, List, [], ◌∷◌}
use Rattle.std.specs.Prelude.{length, Some, option_map, slice_get, refl}
use Rattle.std.proofs.Common.{inl, inr, ap, sym, subst, ◌∙◌, arith, get_or}
use Rattle.std.proofs.lemmas.Bool.{cases_lt, cases_Bool, false≢true}
use Rattle.form_def.specs.declared.field.Field.{Field}
use Rattle.form_def.specs.Fields.{are_within}
use Rattle.form_def.specs.Order.{is_order, is_marked}
use Rattle.form_order.specs.declared.reach.Reach.{Reach}
use Rattle.form_order.specs.Cycles.{Leads, NoCycle, IsFirstCycle}
use Rattle.form_order.specs.Rows.{rows_of, row, AreWithin}
use Rattle.form_order.specs.Reached.{unreached, with_all_found}
use Rattle.form_order.specs.Walks.{IsOrder}
use Rattle.form_order.proofs.LeadsLemmas.{leads_within}
use Rattle.form_order.proofs.ReachLemmas.{Reaches, reaches_start, reaches_more, reaches_end}
use Rattle.form_order.proofs.RowLemmas.{rows_within, order_of_fields, no_cycle_of_fields, first_of_fields}
use Rattle.form_read.specs.Forms.{IsCycle}
use Rattle.form_laws.specs.WalkLaws.{walk_all}

-- ---- whether a number leads to itself

abbrev Decides : List (List ℕ) → ℕ → Type 0
Decides rows from = (b : Bool) × (IsTrue b ↔ Leads (row rows) from from)

decides : (rows : List (List ℕ)) (from next : ℕ) (r : Reach) → Reaches rows from next r → length r.found ≤ next
    → Decides rows from
decides rows from next r reaches past = (is_marked r.marks from, reaches_end rows from next r reaches past)

-- the numbers found from one have theirs added in turn, until no more are found
reach_on : (n : ℕ) (rows : List (List ℕ)) → AreWithin rows → (from next : ℕ) (r : Reach) → Reaches rows from next r
    → length rows ≤ next + n → Decides rows from
reach_on zero rows within from next r reaches le =
    decides rows from next r reaches (let counted = reaches.reach.counted in omega (arith, counted, le))
reach_on (suc n) rows within from next r reaches le = elim (cases_lt next (length r.found)) [
  | inl more ↦
      let found = get_or r.found next 0 in
      reach_on n rows within from (next + 1) (with_all_found r (row rows found))
      (reaches_more rows from next found r within reaches more refl) (omega (arith, le))
  | inr past ↦ decides rows from next r reaches past
]

leads_or_not : (rows : List (List ℕ)) → AreWithin rows → (from : ℕ) → Decides rows from
leads_or_not rows within from =
    reach_on (length rows) rows within from 0 (with_all_found (unreached (length rows)) (row rows from))
    (reaches_start rows from within) (omega arith)

-- ---- the first that does

abbrev HasFirst : List (List ℕ) → Type 0
HasFirst rows = (number : ℕ) × IsFirstCycle (row rows) (length rows) number

abbrev NoneBelow : List (List ℕ) → ℕ → Type 0
NoneBelow rows number = (k : ℕ) → k < number → ¬ (Leads (row rows) k k)

none_more : (rows : List (List ℕ)) (number : ℕ) → NoneBelow rows number → ¬ (Leads (row rows) number number)
    → NoneBelow rows (suc number)
none_more rows number none other k low leads = elim (cases_lt k number) [
  | inl before ↦ none k before leads
  | inr behind ↦
      let same : k ≡ number = omega (arith, low, behind) in
      other (subst (λ (j : ℕ). Leads (row rows) j j) same leads)
]

first_or_none : (rows : List (List ℕ)) → AreWithin rows → (number : ℕ) → number ≤ length rows
    → HasFirst rows ⊎ NoneBelow rows number
first_or_none rows within zero le = inr (λ k low leads. absurd (omega (arith, low)))
first_or_none rows within (suc number) le = elim (first_or_none rows within number (omega (arith, le))) [
  | inl first ↦ inl first
  | inr none ↦
      let (b, leads) = leads_or_not rows within number in
      elim (cases_Bool b) [
        | inl on ↦ inl (number, (omega (arith, le), leads.0 on, none))
        | inr off ↦ inr (none_more rows number none (λ h. false≢true (sym off ∙ leads.1 h)))
      ]
]

order_or_first : (rows : List (List ℕ)) → AreWithin rows
    → ((order : List ℕ) × IsOrder (row rows) (length rows) order) ⊎ HasFirst rows
order_or_first rows within = elim (walk_all rows within) [
  | inl cycle ↦ elim (first_or_none rows within (length rows) (omega arith)) [
    | inl first ↦ inr first
    | inr none ↦ absurd (none cycle.0 (leads_within rows cycle.0 cycle.0 cycle.1) cycle.1)
  ]
  | inr order ↦ inl order
]

-- ---- fields

item_at : (fields : List Field) (k : ℕ) → k < length fields → (f : Field) × (slice_get fields k ≡ Some f)
item_at [] k within = absurd (omega (arith, within))
item_at (f ∷ fs) zero within = (f, refl)
item_at (f ∷ fs) (suc k) within = item_at fs k (omega (arith, within))

cycle_at : (fields : List Field) → HasFirst (rows_of fields) → (path : List ℕ) × IsCycle fields path
cycle_at fields (number, first) =
    let here = first_of_fields fields (rows_of fields) number refl first in
    let (f, is) = item_at fields number here.0 in
    (f.path, record { number = number; first = here; path_is = ap (option_map (λ g. g.path)) is })

-- fields that read fields of the form alone have an order, or the first that depends on itself has a path
pub order_or_cycle : (fields : List Field) → are_within (length fields) 0 fields ≡ true
    → ((order : List ℕ) × (is_order fields order ≡ true) × NoCycle fields) ⊎ ((path : List ℕ) × IsCycle fields path)
order_or_cycle fields within = elim (order_or_first (rows_of fields) (rows_within fields within)) [
  | inl found ↦ inl (
    found.0,
    order_of_fields fields (rows_of fields) found.0 refl found.1,
    no_cycle_of_fields fields (rows_of fields) found.0 refl found.1,
  )
  | inr first ↦ inr (cycle_at fields first)
]
