-- The four formats of one part.
use Rattle.std.proofs.Common.{◌≡◌, ℕ, suc, ◌+◌, ◌^◌, ◌<◌, ◌≤◌, Bool, true, false, cond, eqb, ltb, List, [], ◌∷◌, ◌++◌, length, take, drop, Option, Some, None, Result, Ok, Err, refl, lit<, sym, ap, subst, ◌∙◌, append_assoc, arith, inl, inr}
use Rattle.std.specs.Prelude.{find}
use Rattle.std.specs.Int.{Width, byte_len, w32, w64, from_le_bytes, to_le_bytes}
use Rattle.std.specs.Str.{IsUtf8, is_utf8}
use Rattle.std.proofs.lemmas.Bool.{cases_lt, ltb-false, le-ltb, eqb-true}
use Rattle.std.proofs.lemmas.List.{take_at, drop_at, take-append-drop, length-append, length-take, length-drop, get_or-drop, get_or-take, get_or_past}
use Rattle.std.proofs.lemmas.Nat.{le_bytes_4, le_bytes_8, from_le_bytes-to_le_bytes_4, from_le_bytes-to_le_bytes_8}
use Rattle.std.proofs.lemmas.Str.{IsUtf8-from_is_utf8, IsUtf8-nil}
use Rattle.entry_codec.specs.Spelling.{Part, byte, number, text, blob, number_bytes, with_length}
use Rattle.entry_codec.specs.Reading.{◌>>=◌, chosen, choice_at, number_at, length_at, blob_at, text_at}
use Rattle.entry_codec.proofs.Formats.{IsBytes, Any, left_of, Takes, IsFormat, bind_ok, bind_err, ok_is, Takes-then}
use Rattle.entry_codec.proofs.Texts.{text_reads}
use Rattle.entry_codec.proofs.Shapes.{IsFormat-part}

IsBytes-drop : (n : ℕ) (bytes : List ℕ) → IsBytes bytes → IsBytes (drop n bytes)
IsBytes-drop n bytes h i = rw get_or-drop (h (n + i))

IsBytes-take : (n : ℕ) (bytes : List ℕ) → IsBytes bytes → IsBytes (take n bytes)
IsBytes-take n bytes h i =
    elim (cases_lt i n) [
      | inl lt ↦ rw (get_or-take n bytes i 0 lt) (h i)
      | inr le ↦ rw (get_or_past (take n bytes) i 0 (omega (arith, length-take n bytes))) (omega arith)
    ]

IsBytes-rest : (b : ℕ) (bytes : List ℕ) → IsBytes (b ∷ bytes) → IsBytes bytes
IsBytes-rest b bytes h i = h (suc i)

-- a test, and what it chose
guard_ok : {A : Type 0} (b : Bool) (left : ℕ) (r : Result A ℕ) (y : A) → cond b (Err left) r ≡ Ok y → (b ≡ false) × (r ≡ Ok y)
guard_ok true left r y e = absurd cc
guard_ok false left r y e = (refl, e)

guard_err : {A : Type 0} (b : Bool) (left n : ℕ) (x : A) → cond b (Err left) (Ok x) ≡ Err n → left ≡ n
guard_err true left n x e = cc
guard_err false left n x e = absurd cc

-- ---- a byte of a choice

find_gives : {A : Type 0} (test : A → Bool) (xs : List A) (a : A) → find test xs ≡ Some a → test a ≡ true
find_gives test [] a e = absurd cc
find_gives {A = A} test (x ∷ xs) a e = here (test x) refl e (λ h. find_gives test xs a h)
  where
    here : (b : Bool) → test x ≡ b → cond b (Some x) (find test xs) ≡ Some a → (find test xs ≡ Some a → test a ≡ true) → test a ≡ true
    here true is h later = (let same : x ≡ a = cc in subst (λ (z : A). test z ≡ true) same is)
    here false is h later = later h

chosen_ok : {A : Type 0} (o : Option A) (bytes : List ℕ) (a : A) (rest : List ℕ) → chosen o bytes ≡ Ok (a, rest) → (o ≡ Some a) × (bytes ≡ rest)
chosen_ok {A = A} (Some x) bytes a rest e =
    let pair = ok_is (x, bytes) (a, rest) e in
    (ap (λ (p : A × List ℕ). Some p.0) pair, ap (λ (p : A × List ℕ). p.1) pair)
chosen_ok None bytes a rest e = absurd cc

chosen_err : {A : Type 0} (o : Option A) (bytes : List ℕ) (left : ℕ) → chosen o bytes ≡ Err left → length bytes + 1 ≡ left
chosen_err (Some x) bytes left e = absurd cc
chosen_err None bytes left e = cc

left_of-chosen : {A : Type 0} (o : Option A) (bytes : List ℕ) → left_of (chosen o bytes) ≤ length bytes + 1
left_of-chosen (Some x) bytes = omega arith
left_of-chosen None bytes = omega arith

choice_takes : {A : Type 0} (byte_of : A → ℕ) (all : List A) (bytes : List ℕ) (a : A) (rest : List ℕ) → IsBytes bytes → choice_at byte_of all bytes ≡ Ok (a, rest) → Takes bytes (byte_of a ∷ []) rest × Unit {0}
choice_takes byte_of all [] a rest is_bytes e = absurd cc
choice_takes byte_of all (b ∷ bytes) a rest is_bytes e =
    let c = chosen_ok (find (λ choice. eqb (byte_of choice) b) all) bytes a rest e in
    let same : byte_of a ≡ b = eqb-true _ _ (find_gives (λ choice. eqb (byte_of choice) b) all a c.0) in
    (record { parts = rw (same, c.1) refl; rest_fits = subst IsBytes c.1 (IsBytes-rest b bytes is_bytes) }, tt)

choice_stops : {A : Type 0} (byte_of : A → ℕ) (all : List A) (bytes : List ℕ) (left : ℕ) → choice_at byte_of all bytes ≡ Err left → length bytes ≡ left
choice_stops byte_of all [] left e = cc
choice_stops byte_of all (b ∷ bytes) left e = omega (arith, chosen_err (find (λ choice. eqb (byte_of choice) b) all) bytes left e)

choice_shrinks : {A : Type 0} (byte_of : A → ℕ) (all : List A) (bytes : List ℕ) → left_of (choice_at byte_of all bytes) ≤ length bytes
choice_shrinks byte_of all [] = omega arith
choice_shrinks byte_of all (b ∷ bytes) = omega (arith, left_of-chosen (find (λ choice. eqb (byte_of choice) b) all) bytes)

pub IsFormat-choice : {A : Type 0} (byte_of : A → ℕ) (all : List A) → A → ((a : A) → find (λ choice. eqb (byte_of choice) (byte_of a)) all ≡ Some a) → IsFormat Any (λ a. byte (byte_of a) ∷ []) (choice_at byte_of all)
IsFormat-choice {A = A} byte_of all some found =
    let part : A → Part = λ a. byte (byte_of a) in
    IsFormat-part part (choice_at byte_of all) (record {
      some = (some, tt);
      takes = choice_takes byte_of all;
      again = λ a rest fits. rw (found a) refl;
      stops = choice_stops byte_of all;
      shrinks = choice_shrinks byte_of all;
    })

-- ---- numbers

-- what is known of the numbers of one width
pub record IsWide (w : Width) (limit : ℕ) : Type 0 where
  pub len : (n : ℕ) → length (to_le_bytes w n) ≡ byte_len w
  pub back : (bytes : List ℕ) → length bytes ≡ byte_len w → IsBytes bytes → to_le_bytes w (from_le_bytes w bytes) ≡ bytes
  pub again : (n : ℕ) → n < limit → from_le_bytes w (to_le_bytes w n) ≡ n
  pub below : (bytes : List ℕ) → IsBytes bytes → from_le_bytes w bytes < limit

wide32 : IsWide w32 (2 ^ 32)
wide32 = record {
  len = λ n. refl;
  back = λ bytes len fits. le_bytes_4 bytes _ len fits refl;
  again = λ n lt. from_le_bytes-to_le_bytes_4 n lt;
  below = λ bytes fits. omega (arith, fits 0, fits 1, fits 2, fits 3);
}

wide64 : IsWide w64 (2 ^ 64)
wide64 = record {
  len = λ n. refl;
  back = λ bytes len fits. le_bytes_8 bytes _ len fits refl;
  again = λ n lt. from_le_bytes-to_le_bytes_8 n lt;
  below = λ bytes fits. omega (arith, fits 0, fits 1, fits 2, fits 3, fits 4, fits 5, fits 6, fits 7);
}

-- the number in the first bytes, and those bytes again
front_is : (w : Width) (limit : ℕ) → IsWide w limit → (bytes : List ℕ) → IsBytes bytes → byte_len w ≤ length bytes
    → Takes bytes (to_le_bytes w (from_le_bytes w (take (byte_len w) bytes))) (drop (byte_len w) bytes) × (from_le_bytes w (take (byte_len w) bytes) < limit)
front_is w limit wide bytes fits long =
    let front_fits = IsBytes-take (byte_len w) bytes fits in
    let text-is : to_le_bytes w (from_le_bytes w (take (byte_len w) bytes)) ≡ take (byte_len w) bytes = wide.back (take (byte_len w) bytes) (omega (arith, length-take (byte_len w) bytes)) front_fits in
    (record { parts = rw text-is (sym (take-append-drop (byte_len w) bytes)); rest_fits = IsBytes-drop (byte_len w) bytes fits }, wide.below (take (byte_len w) bytes) front_fits)

front_again : (w : Width) (limit : ℕ) → IsWide w limit → (n : ℕ) (rest : List ℕ) → n < limit
    → (from_le_bytes w (take (byte_len w) (to_le_bytes w n ++ rest)) ≡ n) × (drop (byte_len w) (to_le_bytes w n ++ rest) ≡ rest) × (ltb (length (to_le_bytes w n ++ rest)) (byte_len w) ≡ false)
front_again w limit wide n rest lt =
    let len = wide.len n in
    (rw (take_at (to_le_bytes w n) rest (byte_len w) len) (wide.again n lt), drop_at (to_le_bytes w n) rest (byte_len w) len, le-ltb _ _ (omega (arith, length-append (to_le_bytes w n) rest)))

number_takes : (bytes : List ℕ) (n : ℕ) (rest : List ℕ) → IsBytes bytes → number_at bytes ≡ Ok (n, rest) → Takes bytes (number_bytes n) rest × (n < 2 ^ 64)
unfolding number_bytes
number_takes bytes n rest fits e =
    let read : Result (ℕ × List ℕ) ℕ = Ok (from_le_bytes w64 (take 8 bytes), drop 8 bytes) in
    let g = guard_ok (ltb (length bytes) 8) (length bytes) read (n, rest) e in
    let same = ok_is (from_le_bytes w64 (take 8 bytes), drop 8 bytes) (n, rest) g.1 in
    subst (λ (p : ℕ × List ℕ). Takes bytes (number_bytes p.0) p.1 × (p.0 < 2 ^ 64)) same (front_is w64 (2 ^ 64) wide64 bytes fits (ltb-false _ _ g.0))

-- what a test lets through
number_read : (b : Bool) (left n m : ℕ) (rest after : List ℕ) → b ≡ false → n ≡ m → after ≡ rest → cond {A = Result (ℕ × List ℕ) ℕ} b (Err left) (Ok (n, after)) ≡ Ok (m, rest)
number_read true left n m rest after long e f = absurd cc
number_read false left n m rest after long e f = ap (λ (k : ℕ). Ok (k, after)) e ∙ ap (λ (t : List ℕ). Ok (m, t)) f

number_again : (n : ℕ) (rest : List ℕ) → n < 2 ^ 64 → number_at (number_bytes n ++ rest) ≡ Ok (n, rest)
unfolding number_bytes
number_again n rest lt =
    let f = front_again w64 (2 ^ 64) wide64 n rest lt in
    number_read _ (length (to_le_bytes w64 n ++ rest)) _ n rest _ f.2 f.0 f.1

left_of-cond : {A : Type 0} (b : Bool) (left : ℕ) (r : Result (A × List ℕ) ℕ) (n : ℕ) → left ≤ n → left_of r ≤ n → left_of (cond b (Err left) r) ≤ n
left_of-cond true left r n h k = h
left_of-cond false left r n h k = k

pub number_format : IsFormat Any (λ n. number n ∷ []) number_at
number_format = IsFormat-part number number_at (record {
  some = (0, lit< tt);
  takes = number_takes;
  again = number_again;
  stops = λ bytes left e. guard_err (ltb (length bytes) 8) (length bytes) left (from_le_bytes w64 (take 8 bytes), drop 8 bytes) e;
  shrinks = λ bytes. left_of-cond (ltb (length bytes) 8) (length bytes) (Ok (from_le_bytes w64 (take 8 bytes), drop 8 bytes)) (length bytes) (omega arith) (omega (arith, length-drop 8 bytes));
})

-- ---- blobs and texts

abbrev blob_read : List ℕ → Result (List ℕ × List ℕ) ℕ
blob_read bytes = Ok (take (length_at bytes) (drop 4 bytes), drop (length_at bytes) (drop 4 bytes))

blob_takes : (bytes b rest : List ℕ) → IsBytes bytes → blob_at bytes ≡ Ok (b, rest) → Takes bytes (with_length b) rest × (length b < 2 ^ 32) × IsBytes b
unfolding blob_at with_length
blob_takes bytes b rest fits e =
    let g = guard_ok (ltb (length bytes) 4) (length bytes) (cond (ltb (length (drop 4 bytes)) (length_at bytes)) (Err (length bytes)) (blob_read bytes)) (b, rest) e in
    let h = guard_ok (ltb (length (drop 4 bytes)) (length_at bytes)) (length bytes) (blob_read bytes) (b, rest) g.1 in
    let t = front_is w32 (2 ^ 32) wide32 bytes fits (ltb-false _ _ g.0) in
    let n = length_at bytes in
    let long : n ≤ length (drop 4 bytes) = ltb-false _ _ h.0 in
    let len : length (take n (drop 4 bytes)) ≡ n = omega (arith, length-take n (drop 4 bytes)) in
    let second : Takes (drop 4 bytes) (take n (drop 4 bytes)) (drop n (drop 4 bytes)) = record { parts = sym (take-append-drop n (drop 4 bytes)); rest_fits = IsBytes-drop n (drop 4 bytes) t.0.rest_fits } in
    let both = Takes-then bytes (to_le_bytes w32 n) (drop 4 bytes) (take n (drop 4 bytes)) (drop n (drop 4 bytes)) t.0 second in
    let whole : Takes bytes (with_length (take n (drop 4 bytes))) (drop n (drop 4 bytes)) = subst (λ (k : ℕ). Takes bytes (to_le_bytes w32 k ++ take n (drop 4 bytes)) (drop n (drop 4 bytes))) (sym len) both in
    let same = ok_is (take n (drop 4 bytes), drop n (drop 4 bytes)) (b, rest) h.1 in
    subst (λ (p : List ℕ × List ℕ). Takes bytes (with_length p.0) p.1 × (length p.0 < 2 ^ 32) × IsBytes p.0) same
    (whole, omega (arith, t.1), IsBytes-take n (drop 4 bytes) t.0.rest_fits)

-- what two tests let through
blob_found : (bytes b rest : List ℕ) → ltb (length bytes) 4 ≡ false → length_at bytes ≡ length b → drop 4 bytes ≡ b ++ rest → blob_at bytes ≡ Ok (b, rest)
unfolding blob_at
blob_found bytes b rest enough len after =
    let long : ltb (length (b ++ rest)) (length b) ≡ false = le-ltb _ _ (omega (arith, length-append b rest)) in
    rw (enough, len, after, long, take_at b rest (length b) refl, drop_at b rest (length b) refl) refl

blob_again : (b rest : List ℕ) → length b < 2 ^ 32 → blob_at (with_length b ++ rest) ≡ Ok (b, rest)
unfolding with_length
blob_again b rest lt =
    let regrouped : with_length b ++ rest ≡ to_le_bytes w32 (length b) ++ (b ++ rest) = append_assoc (to_le_bytes w32 (length b)) b rest in
    let f = front_again w32 (2 ^ 32) wide32 (length b) (b ++ rest) lt in
    ap blob_at regrouped ∙ blob_found (to_le_bytes w32 (length b) ++ (b ++ rest)) b rest f.2 f.0 f.1

blob_stops : (bytes : List ℕ) (left : ℕ) → blob_at bytes ≡ Err left → length bytes ≡ left
unfolding blob_at
blob_stops bytes left e = either (ltb (length bytes) 4) (ltb (length (drop 4 bytes)) (length_at bytes)) e
  where
    either : (a b : Bool) → cond a (Err (length bytes)) (cond b (Err (length bytes)) (blob_read bytes)) ≡ Err left → length bytes ≡ left
    either true b h = cc
    either false true h = cc
    either false false h = absurd cc

blob_shrinks : (bytes : List ℕ) → left_of (blob_at bytes) ≤ length bytes
unfolding blob_at
blob_shrinks bytes =
    left_of-cond (ltb (length bytes) 4) (length bytes) (cond (ltb (length (drop 4 bytes)) (length_at bytes)) (Err (length bytes)) (blob_read bytes)) (length bytes) (omega arith)
    (left_of-cond (ltb (length (drop 4 bytes)) (length_at bytes)) (length bytes) (blob_read bytes) (length bytes) (omega arith) (omega (arith, length-drop 4 bytes, length-drop (length_at bytes) (drop 4 bytes))))

pub blob_format : IsFormat Any (λ b. blob b ∷ []) blob_at
blob_format = IsFormat-part blob blob_at (record {
  some = ([], (lit< tt, λ i. lit< tt));
  takes = λ bytes b rest fits e. (let t = blob_takes bytes b rest fits e in (t.0, (t.1, t.2)));
  again = λ b rest fits. blob_again b rest fits.0;
  stops = blob_stops;
  shrinks = blob_shrinks;
})

text_guard : (b : Bool) (x : List ℕ × List ℕ) (left : ℕ) (y : List ℕ × List ℕ) → cond b (Ok x) (Err left) ≡ Ok y → (b ≡ true) × (x ≡ y)
text_guard true x left y e = (refl, ok_is x y e)
text_guard false x left y e = absurd cc

text_takes : (bytes t rest : List ℕ) → IsBytes bytes → text_at bytes ≡ Ok (t, rest) → Takes bytes (with_length t) rest × (length t < 2 ^ 32) × IsUtf8 t
unfolding text_at
text_takes bytes t rest fits e =
    let x = bind_ok (blob_at bytes) (λ x. cond (is_utf8 x.0) (Ok x) (Err (length bytes))) (t, rest) e in
    let g = text_guard (is_utf8 x.0.0) x.0 (length bytes) (t, rest) x.2 in
    let b = blob_takes bytes x.0.0 x.0.1 fits x.1 in
    subst (λ (p : List ℕ × List ℕ). Takes bytes (with_length p.0) p.1 × (length p.0 < 2 ^ 32) × IsUtf8 p.0) g.1 (b.0, b.1, IsUtf8-from_is_utf8 x.0.0 g.0)

text_again : (t rest : List ℕ) → length t < 2 ^ 32 → IsUtf8 t → text_at (with_length t ++ rest) ≡ Ok (t, rest)
text_again t rest lt utf8 = text_reads (with_length t ++ rest) t rest (blob_again t rest lt) utf8

text_stops_at : (bytes : List ℕ) (left : ℕ) → text_at bytes ≡ Err left → length bytes ≡ left
unfolding text_at
text_stops_at bytes left e =
    elim (bind_err (blob_at bytes) (λ x. cond (is_utf8 x.0) (Ok x) (Err (length bytes))) left e) [
      | inl h ↦ blob_stops bytes left h
      | inr x ↦ either (is_utf8 x.0.0) x.0 x.2
    ]
  where
    either : (b : Bool) (x : List ℕ × List ℕ) → cond b (Ok x) (Err (length bytes)) ≡ Err left → length bytes ≡ left
    either true x h = absurd cc
    either false x h = cc

text_shrinks : (bytes : List ℕ) → left_of (text_at bytes) ≤ length bytes
unfolding text_at
text_shrinks bytes = behind (blob_at bytes) (blob_shrinks bytes)
  where
    either : (b : Bool) (x : List ℕ × List ℕ) → length x.1 ≤ length bytes → left_of (cond b (Ok x) (Err (length bytes))) ≤ length bytes
    either true x h = h
    either false x h = omega arith

    behind : (r : Result (List ℕ × List ℕ) ℕ) → left_of r ≤ length bytes → left_of (r >>= λ x. cond (is_utf8 x.0) (Ok x) (Err (length bytes))) ≤ length bytes
    behind (Ok x) h = either (is_utf8 x.0) x h
    behind (Err left) h = h

pub text_format : IsFormat Any (λ t. text t ∷ []) text_at
text_format = IsFormat-part text text_at (record {
  some = ([], (lit< tt, IsUtf8-nil));
  takes = λ bytes t rest fits e. (let h = text_takes bytes t rest fits e in (h.0, (h.1, h.2)));
  again = λ t rest fits. text_again t rest fits.0 fits.1;
  stops = text_stops_at;
  shrinks = text_shrinks;
})
