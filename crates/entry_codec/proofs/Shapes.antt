-- Formats of one part, and how formats are put together.
use Rattle.std.proofs.Common.{◌≡◌, ℕ, ◌≤◌, List, [], ◌∷◌, ◌++◌, length, Result, Ok, Err, refl, sym, ap, subst, ◌∙◌, arith}
use Rattle.std.proofs.lemmas.List.{append-nil}
use Rattle.entry_codec.specs.Spelling.{Part, byte, part_bytes, bytes_of, PartFits}
use Rattle.entry_codec.specs.Reading.{◌>>=◌, choice_at}
use Rattle.entry_codec.proofs.Formats.{IsBytes, AllFit, Any, left_of, Takes, IsFormat, IsFormat-same, ok_is}
use Rattle.entry_codec.proofs.Then.{IsMade, then_read, IsFormat-then}

-- ---- one part

pub record IsPart {A : Type 0} (part : A → Part) (read : List ℕ → Result (A × List ℕ) ℕ) : Type 0 where
  pub some : (a : A) × PartFits (part a)
  pub takes : (bytes : List ℕ) (a : A) (rest : List ℕ) → IsBytes bytes → read bytes ≡ Ok (a, rest) → Takes bytes (part_bytes (part a)) rest × PartFits (part a)
  pub again : (a : A) (rest : List ℕ) → PartFits (part a) → read (part_bytes (part a) ++ rest) ≡ Ok (a, rest)
  pub stops : (bytes : List ℕ) (left : ℕ) → read bytes ≡ Err left → length bytes ≡ left
  pub shrinks : (bytes : List ℕ) → left_of (read bytes) ≤ length bytes

alone : (p : Part) (rest : List ℕ) → bytes_of (p ∷ []) ++ rest ≡ part_bytes p ++ rest
alone p rest = ap (λ (t : List ℕ). t ++ rest) (append-nil (part_bytes p))

furthest_alone : {A : Type 0} (part : A → Part) (read : List ℕ → Result (A × List ℕ) ℕ) → IsPart part read → (a : A) (front others : List Part) (rest : List ℕ) → PartFits (part a) → part a ∷ [] ≡ front ++ others → left_of (read (bytes_of front ++ rest)) ≤ length rest
furthest_alone part read h a [] others rest fits begins = h.shrinks rest
furthest_alone part read h a (p ∷ []) others rest fits begins =
    let same : p ≡ part a = cc in
    let reads : read (bytes_of (p ∷ []) ++ rest) ≡ Ok (a, rest) = ap read (alone p rest) ∙ ap (λ (q : Part). read (part_bytes q ++ rest)) same ∙ h.again a rest fits in
    rw reads (omega arith)
furthest_alone part read h a (p ∷ q ∷ ps) others rest fits begins = absurd cc

pub IsFormat-part : {A : Type 0} (part : A → Part) (read : List ℕ → Result (A × List ℕ) ℕ) → IsPart part read → IsFormat Any (λ a. part a ∷ []) read
IsFormat-part part read h = record {
  some = (h.some.0, tt, (h.some.1, tt));
  takes = λ bytes a rest is_bytes e.
      let t = h.takes bytes a rest is_bytes e in
      (subst (λ (text : List ℕ). Takes bytes text rest) (sym (append-nil (part_bytes (part a)))) t.0, tt, (t.1, tt));
  again = λ a rest of fits. ap read (alone (part a) rest) ∙ h.again a rest fits.0;
  reached = λ bytes left is_bytes e. record {
    value = h.some.0;
    of = tt;
    fits = (h.some.1, tt);
    front = [];
    others = part h.some.0 ∷ [];
    begins = refl;
    rest = bytes;
    stands = refl;
    left_is = h.stops bytes left e;
  };
  furthest = λ a front others rest of fits begins. furthest_alone part read h a front others rest fits.0 begins;
}

-- ---- no part

pub IsFormat-nothing : {A : Type 0} (Of : A → Type 0) (parts : A → List Part) (a : A) → Of a → ((b : A) → Of b → b ≡ a) → parts a ≡ [] → IsFormat Of parts (λ bytes. Ok (a, bytes))
IsFormat-nothing {A = A} Of parts a of only none =
    let empty : (b : A) → Of b → parts b ≡ [] = λ b h. ap parts (only b h) ∙ none in
    let fits : AllFit (parts a) = subst AllFit (sym none) tt in
    record {
      some = (a, of, fits);
      takes = λ bytes b rest is_bytes e.
          let pair = ok_is (a, bytes) (b, rest) e in
          let same : a ≡ b = ap (λ (p : A × List ℕ). p.0) pair in
          let after : bytes ≡ rest = ap (λ (p : A × List ℕ). p.1) pair in
          let text : bytes_of (parts b) ≡ [] = ap bytes_of (ap parts (sym same) ∙ none) in
          (record { parts = after ∙ ap (λ (t : List ℕ). t ++ rest) (sym text); rest_fits = subst IsBytes after is_bytes }, subst Of same of, subst (λ (z : A). AllFit (parts z)) same fits);
      again = λ b rest h bfits.
          let text : bytes_of (parts b) ≡ [] = ap bytes_of (empty b h) in
          rw text (ap (λ (z : A). Ok (z, rest)) (sym (only b h)));
      reached = λ bytes left is_bytes e. absurd cc;
      furthest = λ b front others rest h bfits begins.
          let nothing : front ++ others ≡ [] = sym begins ∙ empty b h in
          rw (front_is_nil front others nothing) (omega arith);
    }
  where
    front_is_nil : (front others : List Part) → front ++ others ≡ [] → front ≡ []
    front_is_nil [] others e = refl
    front_is_nil (p ∷ ps) others e = absurd cc

-- ---- one, and two

pub IsFormat-one : {A C : Type 0} (pa : A → List Part) (ra : List ℕ → Result (A × List ℕ) ℕ) (make : A → C) (Of : C → Type 0) (parts : C → List Part)
    → IsFormat Any pa ra → ((a : A) → parts (make a) ≡ pa a) → ((a : A) → Of (make a)) → ((c : C) → Of c → (a : A) × (c ≡ make a))
    → IsFormat Of parts (λ bytes. ra bytes >>= λ y. Ok (make y.0, y.1))
IsFormat-one {A = A} {C = C} pa ra make Of parts fa are of inverse =
    let nothing : Unit {0} → List Part = λ _. [] in
    let start : IsFormat Any nothing (λ bytes. Ok (tt, bytes)) = IsFormat-nothing Any nothing tt tt (λ _ _. refl) refl in
    let made : IsMade nothing (λ (u : Unit {0}) (a : A). Any a) (λ u a. pa a) (λ u a. make a) Of parts = record {
      parts_are = λ u a h. are a;
      of = λ u a h. of a;
      inverse = λ c h. (let i = inverse c h in (tt, i.0, i.1, tt));
    } in
    IsFormat-then nothing (λ bytes. Ok (tt, bytes)) (λ (u : Unit {0}) (a : A). Any a) (λ u a. pa a) (λ u. ra) (λ u a. make a) Of parts start (λ _. fa) made

pub IsFormat-two : {A B C : Type 0} (pa : A → List Part) (ra : List ℕ → Result (A × List ℕ) ℕ) (pb : B → List Part) (rb : List ℕ → Result (B × List ℕ) ℕ) (make : A → B → C) (Of : C → Type 0) (parts : C → List Part)
    → IsFormat Any pa ra → IsFormat Any pb rb → ((a : A) (b : B) → parts (make a b) ≡ pa a ++ pb b) → ((a : A) (b : B) → Of (make a b)) → ((c : C) → Of c → (a : A) × (b : B) × (c ≡ make a b))
    → IsFormat Of parts (λ bytes. ra bytes >>= λ x. rb x.1 >>= λ y. Ok (make x.0 y.0, y.1))
IsFormat-two {A = A} {B = B} pa ra pb rb make Of parts fa fb are of inverse =
    let made : IsMade pa (λ (a : A) (b : B). Any b) (λ a b. pb b) make Of parts = record {
      parts_are = λ a b h. are a b;
      of = λ a b h. of a b;
      inverse = λ c h. (let i = inverse c h in (i.0, i.1, i.2, tt));
    } in
    IsFormat-then pa ra (λ (a : A) (b : B). Any b) (λ a b. pb b) (λ a. rb) make Of parts fa (λ _. fb) made

-- ---- a byte that tells what follows

map_id : {C : Type 0} (r : Result (C × List ℕ) ℕ) → (r >>= λ y. Ok (y.0, y.1)) ≡ r
map_id (Ok y) = refl
map_id (Err left) = refl

bind_map_id : {K C : Type 0} (behind : K → List ℕ → Result (C × List ℕ) ℕ) (r : Result (K × List ℕ) ℕ) → (r >>= λ x. behind x.0 x.1 >>= λ y. Ok (y.0, y.1)) ≡ (r >>= λ x. behind x.0 x.1)
bind_map_id behind (Ok x) = map_id (behind x.0 x.1)
bind_map_id behind (Err left) = refl

pub IsFormat-tagged : {K C : Type 0} (byte_of : K → ℕ) (all : List K) (tag : C → K) (tail : C → List Part) (parts : C → List Part) (behind : K → List ℕ → Result (C × List ℕ) ℕ)
    → IsFormat Any (λ k. byte (byte_of k) ∷ []) (choice_at byte_of all) → ((k : K) → IsFormat (λ c. tag c ≡ k) tail (behind k)) → ((c : C) → parts c ≡ byte (byte_of (tag c)) ∷ tail c)
    → IsFormat Any parts (λ bytes. choice_at byte_of all bytes >>= λ k. behind k.0 k.1)
IsFormat-tagged {K = K} {C = C} byte_of all tag tail parts behind choice kinds are =
    let made : IsMade (λ (k : K). byte (byte_of k) ∷ []) (λ k c. tag c ≡ k) (λ k c. tail c) (λ k c. c) Any parts = record {
      parts_are = λ k c h. are c ∙ ap (λ (z : K). byte (byte_of z) ∷ tail c) h;
      of = λ k c h. tt;
      inverse = λ c h. (tag c, c, refl, refl);
    } in
    let kept : K → C → C = λ k c. c in
    let whole = IsFormat-then (λ (k : K). byte (byte_of k) ∷ []) (choice_at byte_of all) (λ k c. tag c ≡ k) (λ k c. tail c) behind kept Any parts choice kinds made in
    IsFormat-same Any parts (then_read (choice_at byte_of all) behind kept) (λ bytes. choice_at byte_of all bytes >>= λ k. behind k.0 k.1) (λ bytes. bind_map_id behind (choice_at byte_of all bytes)) whole
