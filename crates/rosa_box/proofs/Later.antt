-- What is kept stays, under ids that differ.
use Rattle.std.proofs.Common.{◌≡◌, ◌≢◌, ℕ, ◌<◌, Bool, true, false, true≢false, List, [], ◌∷◌, ◌++◌, cond, length, get_or, zero, suc}
use Rattle.std.proofs.Common.{Option, Some, None, refl, sym, ap, subst, ◌∙◌, append_assoc, inl, inr, arith, lit<}
use Rattle.std.specs.Prelude.{Contains, find, bytes_eq, if◌then◌else◌}
use Rattle.std.proofs.lemmas.Bool.{cases_Bool}
use Rattle.std.proofs.lemmas.Option.{same_Some}
use Rattle.std.proofs.lemmas.List.{append-nil}
use Rattle.std.proofs.lemmas.List.Elements.{Contains-append_right}
use Rattle.std.proofs.lemmas.List.Quantifiers.{all_pairs_push}
use Rattle.std.proofs.lemmas.Slice.Eq.{bytes_eq-Decides}
use Rattle.rosa_box.specs.declared.asked.Asked.{Asked}
use Rattle.rosa_box.specs.declared.asked.Asked.TheVariants as asked
use Rattle.rosa_box.specs.declared.reply.Status.{Status}
use Rattle.rosa_box.specs.declared.reply.Status.TheVariants as status
use Rattle.rosa_box.specs.declared.state.BoxKept.{BoxKept}
use Rattle.rosa_box.specs.declared.state.BoxState.{BoxState}
use Rattle.rosa_box.specs.Answers.{reply_text}
use Rattle.rosa_box.specs.Asked.{Asks}
use Rattle.rosa_box.specs.Kept.{is_under, kept_under}
use Rattle.rosa_box.specs.Laws.{IsLater, IdsDiffer, KeptStay, IdsStayApart, TakenAreKept}
use Rattle.rosa_box.specs.Laws.ServesAll.{at_rest, onward}
use Rattle.rosa_box.specs.Served.{Serves, served, submitted}

-- ---- what was found, and what wasn't

module _ {X : Type 0} (p : X → Bool) where
  -- where none was found, no element passes
  none_passes : (xs : List X) → find p xs ≡ None → (k : ℕ) (d : X) → k < length xs → p (get_or xs k d) ≡ false
  none_passes [] none k d within = absurd (omega (arith, within))
  none_passes (x ∷ xs) none k d within = elim (cases_Bool (p x)) [
    | inl passes ↦ absurd (some_is_none x (subst (λ b. cond b (Some x) (find p xs) ≡ None) passes none))
    | inr fails ↦ in_either k d fails (none_passes xs (subst (λ b. cond b (Some x) (find p xs) ≡ None) fails none)) within
  ]
    where
      some_is_none : (x : X) → Some x ≡ None → ⊥
      some_is_none x is = cc

      in_either : (k : ℕ) (d : X) → p x ≡ false → ((j : ℕ) (d : X) → j < length xs → p (get_or xs j d) ≡ false)
          → k < length (x ∷ xs) → p (get_or (x ∷ xs) k d) ≡ false
      in_either zero d fails rest within = fails
      in_either (suc k) d fails rest within = rest k d (omega (arith, within))

  -- what was found is there, and passes
  found_there : (xs : List X) (x : X) → find p xs ≡ Some x → Contains xs x × (p x ≡ true)
  found_there [] x found = absurd (let none : None ≡ Some x = found in cc)
  found_there (y ∷ ys) x found = elim (cases_Bool (p y)) [
    | inl passes ↦
        let same : y ≡ x = same_Some y x (subst (λ b. cond b (Some y) (find p ys) ≡ Some x) passes found) in
        ((0, omega arith, same), subst (λ z. p z ≡ true) same passes)
    | inr fails ↦
        let there = found_there ys x (subst (λ b. cond b (Some y) (find p ys) ≡ Some x) fails found) in
        ((suc there.0.0, omega (arith, there.0.1), there.0.2), there.1)
  ]

-- ---- one answer

pub unchanged : (state : BoxState) → IsLater state state
unchanged state = record { more = []; grown = ap (λ kept. record state { kept = kept }) (sym (append-nil state.kept)) }

later_by : (before : BoxState) (new : BoxKept) (found : Option BoxKept)
    → IsLater before (submitted before new found).state
later_by before new None = record { more = new ∷ []; grown = refl }
later_by before new (Some old) = unchanged before

pub served_later : (before : BoxState) (a : Asked) → IsLater before (served before a).state
served_later before asked.Unreadable = unchanged before
served_later before asked.Elsewhere = unchanged before
served_later before asked.OtherMethod = unchanged before
served_later before asked.Nothing = unchanged before
served_later before (asked.Submission new) = later_by before new (kept_under new.instance_id before.kept)

apart_by : (before : BoxState) (new : BoxKept) (found : Option BoxKept)
    → kept_under new.instance_id before.kept ≡ found → IdsDiffer before.kept
    → IdsDiffer (submitted before new found).state.kept
apart_by before new None none differ =
    all_pairs_push (λ (a b : BoxKept). a.instance_id ≢ b.instance_id) before.kept new differ (λ k d within same.
    true≢false (sym ((bytes_eq-Decides (get_or before.kept k d).instance_id new.instance_id).1 same)
    ∙ none_passes (is_under new.instance_id) before.kept none k d within))
apart_by before new (Some old) found differ = differ

served_apart : (before : BoxState) (a : Asked) → IdsDiffer before.kept → IdsDiffer (served before a).state.kept
served_apart before asked.Unreadable differ = differ
served_apart before asked.Elsewhere differ = differ
served_apart before asked.OtherMethod differ = differ
served_apart before asked.Nothing differ = differ
served_apart before (asked.Submission new) differ =
    apart_by before new (kept_under new.instance_id before.kept) refl differ

-- ---- any requests

later_then : (a b c : BoxState) → IsLater a b → IsLater b c → IsLater a c
later_then a b c x y = record {
  more = x.more ++ y.more;
  grown = y.grown ∙ ap (λ (s : BoxState). record s { kept = s.kept ++ y.more }) x.grown
      ∙ ap (λ kept. record a { kept = kept }) (append_assoc a.kept x.more y.more);
}

pub later : (before after : BoxState) (request reply : List ℕ) → Serves before request after reply
    → IsLater before after
later before after request reply is =
    subst (IsLater before) (sym is.leaves.state_is) (served_later before is.asked)

pub kept_stay : KeptStay
kept_stay before _ _ at_rest = unchanged before
kept_stay before after _ (onward {middle = middle} {request = request} {reply = reply} {others = others} is rest) =
    later_then before middle after (later before middle request reply is) (kept_stay middle after others rest)

pub ids_stay_apart : IdsStayApart
ids_stay_apart before _ _ at_rest differ = differ
ids_stay_apart before after _ (onward {middle = middle} {others = others} is rest) differ =
    ids_stay_apart middle after others rest
    (subst (λ (s : BoxState). IdsDiffer s.kept) (sym is.leaves.state_is) (served_apart before is.asked differ))

-- ---- documents that were taken

-- the first digit of the status tells a document that was taken from a refusal
abbrev digit : List ℕ → ℕ
digit reply = get_or reply 9 0

abbrev TakenIn : BoxState → BoxState → Asked → Type 0
TakenIn before after a = (new : BoxKept) × (a ≡ asked.Submission new) × Contains after.kept new

not_taken : (s : Status) → digit (reply_text status.Created) ≡ digit (reply_text s) → s ≡ status.Created
not_taken status.Created is = refl
not_taken status.BadRequest is = absurd (let e : 50 ≡ 52 = is in omega (arith, e))
not_taken status.NotFound is = absurd (let e : 50 ≡ 52 = is in omega (arith, e))
not_taken status.MethodNotAllowed is = absurd (let e : 50 ≡ 52 = is in omega (arith, e))
not_taken status.Conflict is = absurd (let e : 50 ≡ 52 = is in omega (arith, e))

taken_by : (before : BoxState) (new : BoxKept) (found : Option BoxKept)
    → kept_under new.instance_id before.kept ≡ found → (submitted before new found).status ≡ status.Created
    → Contains (submitted before new found).state.kept new
taken_by before new None none is = Contains-append_right before.kept (new ∷ []) new (0, lit< tt, refl)
taken_by before new (Some old) found is =
    let there = found_there (is_under new.instance_id) before.kept old found in
    let id : old.instance_id ≡ new.instance_id = (bytes_eq-Decides old.instance_id new.instance_id).0 there.1 in
    let bytes : old.bytes ≡ new.bytes = (bytes_eq-Decides old.bytes new.bytes).0 (taken_if (bytes_eq old.bytes new.bytes) is) in
    let same : old ≡ new = λ i. record { instance_id = id i; bytes = bytes i } in
    subst (Contains before.kept) same there.0
  where
    taken_if : (same : Bool) → (if same then status.Created else status.Conflict) ≡ status.Created → same ≡ true
    taken_if true is = refl
    taken_if false is = absurd (cc)

served_taken : (before : BoxState) (a : Asked) → (served before a).status ≡ status.Created
    → TakenIn before (served before a).state a
served_taken before asked.Unreadable is = absurd (cc)
served_taken before asked.Elsewhere is = absurd (cc)
served_taken before asked.OtherMethod is = absurd (cc)
served_taken before asked.Nothing is = absurd (cc)
served_taken before (asked.Submission new) is =
    (new, refl, taken_by before new (kept_under new.instance_id before.kept) refl is)

pub taken_are_kept : TakenAreKept
taken_are_kept before after request is =
    let created = not_taken (served before is.asked).status (ap digit is.leaves.reply_is) in
    let taken = served_taken before is.asked created in (
      taken.0,
      subst (Asks request) taken.1 is.asks,
      subst (λ (s : BoxState). Contains s.kept taken.0) (sym is.leaves.state_is) taken.2,
    )
