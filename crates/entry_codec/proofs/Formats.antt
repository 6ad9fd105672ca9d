-- What a reader of some values owes: it takes their parts and nothing else, it reads back what stands before any
-- rest, and it stops at the first part that can't stand there.
use Rattle.std.proofs.Common.{◌≡◌, ℕ, ◌<◌, ◌≤◌, List, [], ◌∷◌, ◌++◌, length, get_or, Result, Ok, Err, refl, sym, ap, subst, ◌∙◌, append_assoc, inl, inr, ◌⊎◌}
use Rattle.std.specs.List.{AllByRecursion}
use Rattle.entry_codec.specs.Spelling.{Part, part_bytes, bytes_of, PartFits}
use Rattle.entry_codec.specs.Reading.{◌>>=◌}

abbrev pub IsBytes : List ℕ → Type 0
IsBytes bytes = (i : ℕ) → get_or bytes i 0 < 256

abbrev pub AllFit : List Part → Type 0
AllFit ps = AllByRecursion PartFits ps

abbrev pub Any : {A : Type 0} → A → Type 0
Any a = Unit {0}

-- how many bytes a reader leaves
abbrev pub left_of : {A : Type 0} → Result (A × List ℕ) ℕ → ℕ
left_of (Ok x) = length x.1
left_of (Err left) = left

-- what a reader took from the front
pub record Takes (bytes text rest : List ℕ) : Type 0 where
  pub parts : bytes ≡ text ++ rest
  pub rest_fits : IsBytes rest

-- whole parts with which some value begins, and behind them so many bytes
pub record StopsAt {A : Type 0} (Of : A → Type 0) (parts : A → List Part) (bytes : List ℕ) (left : ℕ) : Type 0 where
  pub value : A
  pub of : Of value
  pub fits : AllFit (parts value)
  pub front : List Part
  pub others : List Part
  pub begins : parts value ≡ front ++ others
  pub rest : List ℕ
  pub stands : bytes ≡ bytes_of front ++ rest
  pub left_is : length rest ≡ left

pub record IsFormat {A : Type 0} (Of : A → Type 0) (parts : A → List Part) (read : List ℕ → Result (A × List ℕ) ℕ) : Type 0 where
  pub some : (a : A) × Of a × AllFit (parts a)
  pub takes : (bytes : List ℕ) (a : A) (rest : List ℕ) → IsBytes bytes → read bytes ≡ Ok (a, rest) → Takes bytes (bytes_of (parts a)) rest × Of a × AllFit (parts a)
  pub again : (a : A) (rest : List ℕ) → Of a → AllFit (parts a) → read (bytes_of (parts a) ++ rest) ≡ Ok (a, rest)
  pub reached : (bytes : List ℕ) (left : ℕ) → IsBytes bytes → read bytes ≡ Err left → StopsAt Of parts bytes left
  pub furthest : (a : A) (front others : List Part) (rest : List ℕ) → Of a → AllFit (parts a) → parts a ≡ front ++ others → left_of (read (bytes_of front ++ rest)) ≤ length rest

-- ---- lists of parts

pub bytes_of-append : (ps qs : List Part) → bytes_of (ps ++ qs) ≡ bytes_of ps ++ bytes_of qs
bytes_of-append [] qs = refl
bytes_of-append (p ∷ ps) qs = ap (λ (t : List ℕ). part_bytes p ++ t) (bytes_of-append ps qs) ∙ sym (append_assoc (part_bytes p) (bytes_of ps) (bytes_of qs))

pub AllFit-append : (ps qs : List Part) → AllFit ps → AllFit qs → AllFit (ps ++ qs)
AllFit-append [] qs h k = k
AllFit-append (p ∷ ps) qs h k = (h.0, AllFit-append ps qs h.1 k)

pub AllFit-front : (ps qs : List Part) → AllFit (ps ++ qs) → AllFit ps
AllFit-front [] qs h = tt
AllFit-front (p ∷ ps) qs h = (h.0, AllFit-front ps qs h.1)

pub AllFit-back : (ps qs : List Part) → AllFit (ps ++ qs) → AllFit qs
AllFit-back [] qs h = h
AllFit-back (p ∷ ps) qs h = AllFit-back ps qs h.1

-- two ways to cut one list in two
pub split_append : {X : Type 0} (xs ys us vs : List X) → xs ++ ys ≡ us ++ vs → ((w : List X) × (xs ≡ us ++ w)) ⊎ ((w : List X) × (us ≡ xs ++ w) × (ys ≡ w ++ vs))
split_append [] ys us vs e = inr (us, refl, e)
split_append (x ∷ xs) ys [] vs e = inl (x ∷ xs, refl)
split_append (x ∷ xs) ys (u ∷ us) vs e =
    let heads : x ≡ u = cc in
    let tails : xs ++ ys ≡ us ++ vs = cc in
    elim (split_append xs ys us vs tails) [
      | inl w ↦ (let same = w.1 in inl (w.0, cc))
      | inr w ↦ (let same = w.1 in inr (w.0, cc, w.2))
    ]

-- ---- steps of reading

-- the value of a step that did not stop
pub bind_ok : {A B : Type 0} (r : Result A ℕ) (f : A → Result B ℕ) (y : B) → (r >>= f) ≡ Ok y → (x : A) × (r ≡ Ok x) × (f x ≡ Ok y)
bind_ok (Ok x) f y e = (x, refl, e)
bind_ok (Err left) f y e = absurd cc

-- which step stopped
pub bind_err : {A B : Type 0} (r : Result A ℕ) (f : A → Result B ℕ) (left : ℕ) → (r >>= f) ≡ Err left → (r ≡ Err left) ⊎ ((x : A) × (r ≡ Ok x) × (f x ≡ Err left))
bind_err (Ok x) f left e = inr (x, refl, e)
bind_err (Err n) f left e = inl cc

abbrev done : {A : Type 0} → A → Result A ℕ
done x = Ok x

pub ok_is : {A : Type 0} (x y : A) → done x ≡ done y → x ≡ y
ok_is x y e = cc

pub Takes-then : (a x b y c : List ℕ) → Takes a x b → Takes b y c → Takes a (x ++ y) c
Takes-then a x b y c p q = record { parts = p.parts ∙ ap (λ (t : List ℕ). x ++ t) q.parts ∙ sym (append_assoc x y c); rest_fits = q.rest_fits }

-- a reader leaves no more than it was given
pub shrinks : {A : Type 0} (Of : A → Type 0) (parts : A → List Part) (read : List ℕ → Result (A × List ℕ) ℕ) → IsFormat Of parts read → (bytes : List ℕ) → left_of (read bytes) ≤ length bytes
shrinks Of parts read format bytes = format.furthest format.some.0 [] (parts format.some.0) bytes format.some.1 format.some.2 refl

-- the same reader, written otherwise
pub IsFormat-same : {A : Type 0} (Of : A → Type 0) (parts : A → List Part) (read other : List ℕ → Result (A × List ℕ) ℕ) → ((bytes : List ℕ) → read bytes ≡ other bytes) → IsFormat Of parts read → IsFormat Of parts other
IsFormat-same Of parts read other same format = record {
  some = format.some;
  takes = λ bytes a rest is_bytes e. format.takes bytes a rest is_bytes (same bytes ∙ e);
  again = λ a rest of fits. sym (same (bytes_of (parts a) ++ rest)) ∙ format.again a rest of fits;
  reached = λ bytes left is_bytes e. format.reached bytes left is_bytes (same bytes ∙ e);
  furthest = λ a front others rest of fits begins. subst (λ r. left_of r ≤ length rest) (same (bytes_of front ++ rest)) (format.furthest a front others rest of fits begins);
}
