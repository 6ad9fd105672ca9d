-- Rows in their order: the first fault among them, and the rows that name an entity.
use Rattle.std.proofs.Common.{◌≡◌, ℕ, suc, ◌+◌, ◌<◌, ◌≤◌, nat_lt, true, false, codes, List, [], ◌∷◌, ◌++◌, length, map, filter, take, drop, get_or, Option, Some, None, arith, add-one, ap, sym, refl, inl, inr, ◌∙◌}
use Rattle.std.specs.Option.{option_or}
use Rattle.std.specs.List.{list_all}
use Rattle.std.specs.Str.{is_utf8}
use Rattle.std.proofs.lemmas.Bool.{cases_Bool, eq-eqb, lt-ltb, ltb-true}
use Rattle.std.proofs.lemmas.List.{length-take-le, map-append, take-append-drop}
use Rattle.std.proofs.lemmas.List.Elements.{filter-append}
use Rattle.std.proofs.Math.Seq.{drop-cons, take-suc}
use Rattle.entity_lists.specs.ServerRows.{field_under, is_named, row_fault, row_limit, rows_fault, server_row, version_in}
use Rattle.entity_lists.specs.declared.server_rows.CsvRefused.{CsvRefused}
use Rattle.entity_lists.specs.declared.server_rows.CsvRefused.TheVariants.{TooMany}
use Rattle.entity_lists.proofs.FirstLemmas.{if_passes}

-- a row as long as the header, all of it text, with a version
pub no_row_fault : (header fields : List (List ℕ)) (row version : ℕ) → length fields ≡ length header → list_all is_utf8 fields ≡ true
    → version_in (field_under header (codes "__version") fields) ≡ Some version → row_fault header row fields ≡ None
no_row_fault header fields row version same text is = rw (eq-eqb (length fields) (length header) same, text, is) refl

option_or_none : {A : Type 0} (a b : Option A) → option_or a b ≡ None → (a ≡ None) × (b ≡ None)
option_or_none None b h = (refl, h)
option_or_none (Some x) b h = cc h

-- rows without a fault are passed over
pub rows_fault-append : (header : List (List ℕ)) (n m : ℕ) (xs ys : List (List (List ℕ))) → n + length xs ≡ m → rows_fault header n xs ≡ None
    → rows_fault header n (xs ++ ys) ≡ rows_fault header m ys
rows_fault-append header n m [] ys is none = ap (λ k. rows_fault header k ys) (omega arith)
rows_fault-append header n m (x ∷ xs) ys is none = elim (cases_Bool (nat_lt row_limit n)) [
  | inl e ↦ cc (rw e at none)
  | inr e ↦
      let both = option_or_none (row_fault header n x) (rows_fault header (n + 1) xs) (rw e at none) in
      rw (e, both.0) (rows_fault-append header (n + 1) m xs ys (omega arith) both.1)
]

rows_split : (rows : List (List (List ℕ))) (i : ℕ) → i < length rows → rows ≡ take i rows ++ get_or rows i [] ∷ drop (suc i) rows
rows_split rows i small = sym (take-append-drop i rows) ∙ ap (λ (t : List (List (List ℕ))). take i rows ++ t) (drop-cons rows i [] small)

from_here : (header : List (List ℕ)) (rows : List (List (List ℕ))) (i : ℕ) → i < length rows → rows_fault header 1 (take i rows) ≡ None
    → rows_fault header 1 rows ≡ rows_fault header (i + 1) (get_or rows i [] ∷ drop (suc i) rows)
from_here header rows i small none =
    ap (rows_fault header 1) (rows_split rows i small) ∙ rows_fault-append header 1 (i + 1) (take i rows) (get_or rows i [] ∷ drop (suc i) rows) (omega (arith, length-take-le i rows (omega arith))) none

pub too_many_rows : (header : List (List ℕ)) (rows : List (List (List ℕ))) (i : ℕ) → i < length rows → rows_fault header 1 (take i rows) ≡ None → row_limit < i + 1
    → rows_fault header 1 rows ≡ Some (TooMany (i + 1))
too_many_rows header rows i small none past =
    let over : nat_lt row_limit (i + 1) ≡ true = lt-ltb row_limit (i + 1) past in
    from_here header rows i small none ∙ rw over refl

not_past : (n : ℕ) → n ≤ row_limit → nat_lt row_limit n ≡ false
not_past n few = elim (cases_Bool (nat_lt row_limit n)) [
  | inl e ↦ absurd (let past = ltb-true row_limit n e in omega arith)
  | inr e ↦ e
]

pub row_refused : (header : List (List ℕ)) (rows : List (List (List ℕ))) (i : ℕ) (e : CsvRefused) → i < length rows → rows_fault header 1 (take i rows) ≡ None → i + 1 ≤ row_limit
    → row_fault header (i + 1) (get_or rows i []) ≡ Some e → rows_fault header 1 rows ≡ Some e
row_refused header rows i e small none few is = from_here header rows i small none ∙ rw (not_past (i + 1) few, is) refl

pub row_taken : (header : List (List ℕ)) (rows : List (List (List ℕ))) (i : ℕ) → i < length rows → rows_fault header 1 (take i rows) ≡ None → i + 1 ≤ row_limit
    → row_fault header (i + 1) (get_or rows i []) ≡ None → rows_fault header 1 (take (i + 1) rows) ≡ None
row_taken header rows i small none few is =
    let step : take (i + 1) rows ≡ take i rows ++ get_or rows i [] ∷ [] = rw (add-one i) (take-suc rows i [] small) in
    ap (rows_fault header 1) step ∙ rows_fault-append header 1 (i + 1) (take i rows) (get_or rows i [] ∷ []) (omega (arith, length-take-le i rows (omega arith))) none ∙ rw (not_past (i + 1) few, is) refl

pub named_step : (header : List (List ℕ)) (rows : List (List (List ℕ))) (i : ℕ) → i < length rows
    → filter is_named (map (server_row header) (take (i + 1) rows)) ≡ filter is_named (map (server_row header) (take i rows)) ++ if_passes (is_named (server_row header (get_or rows i []))) (server_row header (get_or rows i []))
named_step header rows i small =
    let step : take (i + 1) rows ≡ take i rows ++ get_or rows i [] ∷ [] = rw (add-one i) (take-suc rows i [] small) in
    ap (λ (t : List (List (List ℕ))). filter is_named (map (server_row header) t)) step
    ∙ ap (filter is_named) (map-append (server_row header) (take i rows) (get_or rows i [] ∷ []))
    ∙ filter-append is_named (map (server_row header) (take i rows)) (server_row header (get_or rows i []) ∷ [])
