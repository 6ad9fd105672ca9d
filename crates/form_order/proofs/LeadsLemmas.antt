-- From number to number.
use Rattle.std.specs.Prelude.{ℕ, ◌<◌, ◌≤◌, ◌≡◌, Bool, true, false, nat_lt, List, [], ◌∷◌, ◌++◌, length, All, AllPairs, Contains, refl}
use Rattle.std.proofs.Common.{ap, subst, arith, ltb-true, ltb-false}
use Rattle.std.proofs.lemmas.List.{get_or_past}
use Rattle.std.proofs.lemmas.List.Elements.{All-push, All-weaker}
use Rattle.form_def.specs.Order.{is_among}
use Rattle.form_order.specs.Cycles.{Leads, at_once, through}
use Rattle.form_order.specs.Rows.{row}
use Rattle.form_order.proofs.ListLemmas.{pairs_last}

pub leads_then : (needs : ℕ → List ℕ) (a b c : ℕ) → Leads needs a b → Contains (needs b) c → Leads needs a c
leads_then needs a b c (at_once _ _ h) last = through a b c h (at_once b c last)
leads_then needs a b c (through _ d _ h rest) last = through a d c h (leads_then needs d b c rest last)

pub leads-same : (p q : ℕ → List ℕ) → ((k : ℕ) → p k ≡ q k) → (a b : ℕ) → Leads p a b → Leads q a b
leads-same p q same a b (at_once _ _ h) = at_once a b (subst (λ (xs : List ℕ). Contains xs b) (same a) h)
leads-same p q same a b (through _ d _ h rest) = through a d b (subst (λ (xs : List ℕ). Contains xs d) (same a) h) (leads-same p q same d b rest)

-- behind a path that leads to its last number, all lead to what this one needs
pub all_lead : (needs : ℕ → List ℕ) (path : List ℕ) (last next : ℕ) → AllPairs (λ a b. Leads needs a b) (path ++ last ∷ []) → Contains (needs last) next
    → All (λ k. Leads needs k next) (path ++ last ∷ [])
all_lead needs path last next leads needed =
    All-push (λ k. Leads needs k next) path last
    (All-weaker (λ k. Leads needs k last) (λ k. Leads needs k next) (λ k h. leads_then needs k last next h needed) path (pairs_last (λ a b. Leads needs a b) path last leads))
    (at_once last next needed)

-- numbers that are closed under what each needs
abbrev pub IsClosed : (ℕ → List ℕ) → List ℕ → Type 0
IsClosed needs xs = (a b : ℕ) → is_among xs a ≡ true → Contains (needs a) b → is_among xs b ≡ true

pub leads_into : (needs : ℕ → List ℕ) (xs : List ℕ) → IsClosed needs xs → (a b : ℕ) → ((c : ℕ) → Contains (needs a) c → is_among xs c ≡ true) → Leads needs a b → is_among xs b ≡ true
leads_into needs xs closed a b first (at_once _ _ h) = first b h
leads_into needs xs closed a b first (through _ d _ h rest) = leads_into needs xs closed d b (λ c needed. closed d c (first d h) needed) rest

-- only a number with a row needs any
no_needs : (rows : List (List ℕ)) (a b : ℕ) (t : Bool) → nat_lt a (length rows) ≡ t → Contains (row rows a) b → a < length rows
no_needs rows a b true e h = ltb-true a (length rows) e
no_needs rows a b false e (k, within, is) =
    let past : length rows ≤ a = ltb-false a (length rows) e in
    let none : length (row rows a) ≡ 0 = ap length (get_or_past rows a [] past) in
    absurd (omega arith)

pub leads_within : (rows : List (List ℕ)) (a b : ℕ) → Leads (row rows) a b → a < length rows
leads_within rows a b (at_once _ _ h) = no_needs rows a b (nat_lt a (length rows)) refl h
leads_within rows a b (through _ d _ h rest) = no_needs rows a d (nat_lt a (length rows)) refl h
