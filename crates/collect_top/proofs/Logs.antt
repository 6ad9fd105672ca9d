-- The log grows by the line of each entry.
use Rattle.std.proofs.Common.{◌≡◌, ℕ, zero, suc, ◌+◌, ◌<◌, List, [], ◌∷◌, ◌++◌, length, take, Some, ap, sym, ◌∙◌, arith, append_assoc}
use Rattle.std.specs.Prelude.{slice_get}
use Rattle.std.proofs.lemmas.List.{append-nil}
use Rattle.std.proofs.Math.ListN.{length-take}
use Rattle.entry_form.specs.declared.entry.Entry.{Entry}
use Rattle.device_rules.specs.declared.trail.Marked.{Marked}
use Rattle.device_rules.specs.Trail.{entries_of}
use Rattle.collect_text.specs.Log.{printed_entry}
use Rattle.collect_top.specs.Log.{log_from, log_text}

-- one line more
pub log_from-push : (position : ℕ) (entries : List Entry) (entry : Entry) → log_from position (entries ++ entry ∷ []) ≡ log_from position entries ++ printed_entry (position + length entries) entry
log_from-push position [] entry = let place : position ≡ position + 0 = omega arith in append-nil (printed_entry position entry) ∙ ap (λ n. printed_entry n entry) place
log_from-push position (e ∷ entries) entry =
    let place : position + 1 + length entries ≡ position + suc (length entries) = omega arith in
    ap (λ t. printed_entry position e ++ t) (log_from-push (position + 1) entries entry ∙ ap (λ n. log_from (position + 1) entries ++ printed_entry n entry) place)
    ∙ sym (append_assoc (printed_entry position e) (log_from (position + 1) entries) (printed_entry (position + suc (length entries)) entry))

reaches : (entries : List Entry) (n : ℕ) (x : Entry) → slice_get entries n ≡ Some x → n < length entries
reaches [] n x is = absurd (cc (is))
reaches (e ∷ entries) zero x is = omega arith
reaches (e ∷ entries) (suc n) x is = let h = reaches entries n x is in omega (arith, h)

-- one entry more is taken
pub take_next : (entries : List Entry) (n : ℕ) (x : Entry) → slice_get entries n ≡ Some x → take (suc n) entries ≡ take n entries ++ x ∷ []
take_next [] n x is = absurd (cc (is))
take_next (e ∷ entries) zero x is = ap (λ y. y ∷ []) (cc (is))
take_next (e ∷ entries) (suc n) x is = ap (λ l. e ∷ l) (take_next entries n x is)

entry_at : (entries : List Marked) (i : ℕ) (m : Marked) → slice_get entries i ≡ Some m → slice_get (entries_of entries) i ≡ Some m.entry
entry_at [] i m is = absurd (cc (is))
entry_at (e ∷ entries) zero m is = let same : e ≡ m = cc (is) in ap (λ k. Some k.entry) same
entry_at (e ∷ entries) (suc i) m is = entry_at entries i m is

-- one entry more has its line
pub logged_more : (entries : List Marked) (i : ℕ) (m : Marked) (old new : List ℕ) (position : ℕ) → slice_get entries i ≡ Some m → old ≡ log_text (take i (entries_of entries))
    → new ≡ old ++ printed_entry (position + 1) m.entry → position ≡ i → new ≡ log_text (take (i + 1) (entries_of entries))
logged_more entries i m old new position at so_far printed place =
    let within = reaches (entries_of entries) i m.entry (entry_at entries i m at) in
    let count : position + 1 ≡ 1 + length (take i (entries_of entries)) = omega (arith, place, within, length-take i (entries_of entries)) in
    let next : suc i ≡ i + 1 = omega arith in
    printed ∙ (λ k. so_far k ++ printed_entry (count k) m.entry) ∙ sym (log_from-push 1 (take i (entries_of entries)) m.entry)
    ∙ ap log_text (sym (take_next (entries_of entries) i m.entry (entry_at entries i m at)) ∙ ap (λ n. take n (entries_of entries)) next)
