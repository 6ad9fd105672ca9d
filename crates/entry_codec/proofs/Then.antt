-- One format after another, which may depend on the first one's value.
use Rattle.std.proofs.Common.{◌≡◌, ℕ, ◌≤◌, List, ◌++◌, length, Result, Ok, Err, refl, sym, ap, subst, ◌∙◌, append_assoc, arith, inl, inr}
use Rattle.entry_codec.specs.Spelling.{Part, bytes_of}
use Rattle.entry_codec.specs.Reading.{◌>>=◌}
use Rattle.entry_codec.proofs.Formats.{IsBytes, AllFit, Any, left_of, Takes, StopsAt, IsFormat, bytes_of-append, AllFit-append, AllFit-front, AllFit-back, split_append, bind_ok, bind_err, ok_is, Takes-then, shrinks}

-- the values of C are those of A and B together
pub record IsMade {A B C : Type 0} (pa : A → List Part) (OfB : A → B → Type 0) (pb : A → B → List Part) (make : A → B → C) (Of : C → Type 0) (parts : C → List Part) : Type 0 where
  pub parts_are : (a : A) (b : B) → OfB a b → parts (make a b) ≡ pa a ++ pb a b
  pub of : (a : A) (b : B) → OfB a b → Of (make a b)
  pub inverse : (c : C) → Of c → (a : A) × (b : B) × (c ≡ make a b) × OfB a b

abbrev behind : {A B C : Type 0} → (A → List ℕ → Result (B × List ℕ) ℕ) → (A → B → C) → A × List ℕ → Result (C × List ℕ) ℕ
behind rb make x = rb x.0 x.1 >>= λ y. Ok (make x.0 y.0, y.1)

abbrev pub then_read : {A B C : Type 0} → (List ℕ → Result (A × List ℕ) ℕ) → (A → List ℕ → Result (B × List ℕ) ℕ) → (A → B → C) → List ℕ → Result (C × List ℕ) ℕ
then_read ra rb make bytes = ra bytes >>= λ x. rb x.0 x.1 >>= λ y. Ok (make x.0 y.0, y.1)

regroup : (ps qs : List Part) (rest : List ℕ) → bytes_of (ps ++ qs) ++ rest ≡ bytes_of ps ++ (bytes_of qs ++ rest)
regroup ps qs rest = ap (λ (t : List ℕ). t ++ rest) (bytes_of-append ps qs) ∙ append_assoc (bytes_of ps) (bytes_of qs) rest

left_of-map : {B C : Type 0} (f : B → C) (r : Result (B × List ℕ) ℕ) → left_of (r >>= λ y. Ok (f y.0, y.1)) ≡ left_of r
left_of-map f (Ok y) = refl
left_of-map f (Err left) = refl

left_of-then : {A B C : Type 0} (rb : A → List ℕ → Result (B × List ℕ) ℕ) (make : A → B → C) → ((a : A) (bytes : List ℕ) → left_of (rb a bytes) ≤ length bytes)
    → (r : Result (A × List ℕ) ℕ) → left_of (r >>= λ x. rb x.0 x.1 >>= λ y. Ok (make x.0 y.0, y.1)) ≤ left_of r
left_of-then rb make le (Ok x) = omega (arith, left_of-map (make x.0) (rb x.0 x.1), le x.0 x.1)
left_of-then rb make le (Err left) = omega arith

then_again : {A B C : Type 0} (ra : List ℕ → Result (A × List ℕ) ℕ) (rb : A → List ℕ → Result (B × List ℕ) ℕ) (make : A → B → C) (bytes middle rest : List ℕ) (a : A) (b : B)
    → ra bytes ≡ Ok (a, middle) → rb a middle ≡ Ok (b, rest) → then_read ra rb make bytes ≡ Ok (make a b, rest)
then_again ra rb make bytes middle rest a b e f = rw (e, f) refl

-- what holds of a value made of a and b, of those that fit
pub record Fitting {A B : Type 0} (pa : A → List Part) (OfB : A → B → Type 0) (pb : A → B → List Part) (a : A) (b : B) : Type 0 where
  pub first : AllFit (pa a)
  pub of : OfB a b
  pub second : AllFit (pb a b)

fitting : {A B C : Type 0} (pa : A → List Part) (OfB : A → B → Type 0) (pb : A → B → List Part) (make : A → B → C) (Of : C → Type 0) (parts : C → List Part)
    → IsMade pa OfB pb make Of parts → (a : A) (b : B) → OfB a b → AllFit (parts (make a b)) → Fitting pa OfB pb a b
fitting pa OfB pb make Of parts made a b of fits =
    let both = subst AllFit (made.parts_are a b of) fits in
    record { first = AllFit-front (pa a) (pb a b) both; of = of; second = AllFit-back (pa a) (pb a b) both }

fits_of : {A B C : Type 0} (pa : A → List Part) (OfB : A → B → Type 0) (pb : A → B → List Part) (make : A → B → C) (Of : C → Type 0) (parts : C → List Part)
    → IsMade pa OfB pb make Of parts → (a : A) (b : B) → OfB a b → AllFit (pa a) → AllFit (pb a b) → AllFit (parts (make a b))
fits_of pa OfB pb make Of parts made a b of first second = subst AllFit (sym (made.parts_are a b of)) (AllFit-append (pa a) (pb a b) first second)

furthest_of : {A B C : Type 0} (pa : A → List Part) (ra : List ℕ → Result (A × List ℕ) ℕ) (OfB : A → B → Type 0) (pb : A → B → List Part) (rb : A → List ℕ → Result (B × List ℕ) ℕ) (make : A → B → C)
    → IsFormat Any pa ra → ((a : A) → IsFormat (OfB a) (pb a) (rb a)) → (a : A) (b : B) (front others : List Part) (rest : List ℕ) → Fitting pa OfB pb a b → pa a ++ pb a b ≡ front ++ others
    → left_of (then_read ra rb make (bytes_of front ++ rest)) ≤ length rest
furthest_of pa ra OfB pb rb make fa fb a b front others rest fits cut =
    elim (split_append (pa a) (pb a b) front others cut) [
      | inl w ↦
          omega (
            arith,
            fa.furthest a front w.0 rest tt fits.first w.1,
            left_of-then rb make (λ x bytes. shrinks (OfB x) (pb x) (rb x) (fb x) bytes) (ra (bytes_of front ++ rest)),
          )
      | inr w ↦
          let bytes-are : bytes_of front ++ rest ≡ bytes_of (pa a) ++ (bytes_of w.0 ++ rest) = ap (λ (ps : List Part). bytes_of ps ++ rest) w.1 ∙ regroup (pa a) w.0 rest in
          let read : ra (bytes_of front ++ rest) ≡ Ok (a, bytes_of w.0 ++ rest) = ap ra bytes-are ∙ fa.again a (bytes_of w.0 ++ rest) tt fits.first in
          let le = (fb a).furthest b w.0 others rest fits.of fits.second w.2 in
          let left-is : left_of (then_read ra rb make (bytes_of front ++ rest)) ≡ left_of (rb a (bytes_of w.0 ++ rest)) = rw read (left_of-map (make a) (rb a (bytes_of w.0 ++ rest))) in
          omega (arith, le, left-is)
    ]

reached_of : {A B C : Type 0} (pa : A → List Part) (ra : List ℕ → Result (A × List ℕ) ℕ) (OfB : A → B → Type 0) (pb : A → B → List Part) (rb : A → List ℕ → Result (B × List ℕ) ℕ) (make : A → B → C) (Of : C → Type 0) (parts : C → List Part)
    → IsFormat Any pa ra → ((a : A) → IsFormat (OfB a) (pb a) (rb a)) → IsMade pa OfB pb make Of parts
    → (bytes : List ℕ) (left : ℕ) → IsBytes bytes → then_read ra rb make bytes ≡ Err left → StopsAt Of parts bytes left
reached_of {A = A} {B = B} pa ra OfB pb rb make Of parts fa fb made bytes left is_bytes e =
    elim (bind_err (ra bytes) (λ x. rb x.0 x.1 >>= λ y. Ok (make x.0 y.0, y.1)) left e) [
      | inl first ↦
          let s = fa.reached bytes left is_bytes first in
          let b = (fb s.value).some in
          record {
            value = make s.value b.0;
            of = made.of s.value b.0 b.1;
            fits = fits_of pa OfB pb make Of parts made s.value b.0 b.1 s.fits b.2;
            front = s.front;
            others = s.others ++ pb s.value b.0;
            begins = made.parts_are s.value b.0 b.1 ∙ ap (λ (ps : List Part). ps ++ pb s.value b.0) s.begins ∙ append_assoc s.front s.others (pb s.value b.0);
            rest = s.rest;
            stands = s.stands;
            left_is = s.left_is;
          }
      | inr x ↦ second x.0 x.1 x.2
    ]
  where
    at_second : (x : A × List ℕ) → ra bytes ≡ Ok x → rb x.0 x.1 ≡ Err left → StopsAt Of parts bytes left
    at_second x read stopped =
        let t = fa.takes bytes x.0 x.1 is_bytes read in
        let s = (fb x.0).reached x.1 left t.0.rest_fits stopped in
        record {
          value = make x.0 s.value;
          of = made.of x.0 s.value s.of;
          fits = fits_of pa OfB pb make Of parts made x.0 s.value s.of t.2 s.fits;
          front = pa x.0 ++ s.front;
          others = s.others;
          begins = made.parts_are x.0 s.value s.of ∙ ap (λ (ps : List Part). pa x.0 ++ ps) s.begins ∙ sym (append_assoc (pa x.0) s.front s.others);
          rest = s.rest;
          stands = t.0.parts ∙ ap (λ (text : List ℕ). bytes_of (pa x.0) ++ text) s.stands ∙ sym (regroup (pa x.0) s.front s.rest);
          left_is = s.left_is;
        }

    second : (x : A × List ℕ) → ra bytes ≡ Ok x → behind rb make x ≡ Err left → StopsAt Of parts bytes left
    second x read stopped =
        elim (bind_err (rb x.0 x.1) (λ y. Ok (make x.0 y.0, y.1)) left stopped) [
          | inl h ↦ at_second x read h
          | inr y ↦ (let wrong = y.2 in cc)
        ]

takes_of : {A B C : Type 0} (pa : A → List Part) (ra : List ℕ → Result (A × List ℕ) ℕ) (OfB : A → B → Type 0) (pb : A → B → List Part) (rb : A → List ℕ → Result (B × List ℕ) ℕ) (make : A → B → C) (Of : C → Type 0) (parts : C → List Part)
    → IsFormat Any pa ra → ((a : A) → IsFormat (OfB a) (pb a) (rb a)) → IsMade pa OfB pb make Of parts
    → (bytes : List ℕ) (c : C) (rest : List ℕ) → IsBytes bytes → then_read ra rb make bytes ≡ Ok (c, rest) → Takes bytes (bytes_of (parts c)) rest × Of c × AllFit (parts c)
takes_of {C = C} pa ra OfB pb rb make Of parts fa fb made bytes c rest is_bytes e =
    let x = bind_ok (ra bytes) (λ x. rb x.0 x.1 >>= λ y. Ok (make x.0 y.0, y.1)) (c, rest) e in
    let y = bind_ok (rb x.0.0 x.0.1) (λ y. Ok (make x.0.0 y.0, y.1)) (c, rest) x.2 in
    let s = fa.takes bytes x.0.0 x.0.1 is_bytes x.1 in
    let t = (fb x.0.0).takes x.0.1 y.0.0 y.0.1 s.0.rest_fits y.1 in
    let both = Takes-then bytes (bytes_of (pa x.0.0)) x.0.1 (bytes_of (pb x.0.0 y.0.0)) y.0.1 s.0 t.0 in
    let text-is : bytes_of (pa x.0.0) ++ bytes_of (pb x.0.0 y.0.0) ≡ bytes_of (parts (make x.0.0 y.0.0)) = sym (ap bytes_of (made.parts_are x.0.0 y.0.0 t.1) ∙ bytes_of-append (pa x.0.0) (pb x.0.0 y.0.0)) in
    let whole = subst (λ (text : List ℕ). Takes bytes text y.0.1) text-is both in
    let result : C × List ℕ = (make x.0.0 y.0.0, y.0.1) in
    subst (λ (z : C × List ℕ). Takes bytes (bytes_of (parts z.0)) z.1 × Of z.0 × AllFit (parts z.0)) (ok_is result (c, rest) y.2)
    (whole, made.of x.0.0 y.0.0 t.1, fits_of pa OfB pb make Of parts made x.0.0 y.0.0 t.1 s.2 t.2)

pub IsFormat-then : {A B C : Type 0} (pa : A → List Part) (ra : List ℕ → Result (A × List ℕ) ℕ) (OfB : A → B → Type 0) (pb : A → B → List Part) (rb : A → List ℕ → Result (B × List ℕ) ℕ) (make : A → B → C) (Of : C → Type 0) (parts : C → List Part)
    → IsFormat Any pa ra → ((a : A) → IsFormat (OfB a) (pb a) (rb a)) → IsMade pa OfB pb make Of parts → IsFormat Of parts (then_read ra rb make)
IsFormat-then {C = C} pa ra OfB pb rb make Of parts fa fb made =
    let a = fa.some in
    let b = (fb a.0).some in
    record {
      some = (make a.0 b.0, made.of a.0 b.0 b.1, fits_of pa OfB pb make Of parts made a.0 b.0 b.1 a.2 b.2);
      takes = takes_of pa ra OfB pb rb make Of parts fa fb made;
      again = λ c rest of fits.
          let i = made.inverse c of in
          let made-fits = subst (λ (z : C). AllFit (parts z)) i.2 fits in
          let f = fitting pa OfB pb make Of parts made i.0 i.1 i.3 made-fits in
          let bytes-are : bytes_of (parts c) ++ rest ≡ bytes_of (pa i.0) ++ (bytes_of (pb i.0 i.1) ++ rest) =
          ap (λ (z : C). bytes_of (parts z) ++ rest) i.2 ∙ ap (λ (ps : List Part). bytes_of ps ++ rest) (made.parts_are i.0 i.1 i.3) ∙ regroup (pa i.0) (pb i.0 i.1) rest in
          let read = then_again ra rb make (bytes_of (pa i.0) ++ (bytes_of (pb i.0 i.1) ++ rest)) (bytes_of (pb i.0 i.1) ++ rest) rest i.0 i.1 (fa.again i.0 (bytes_of (pb i.0 i.1) ++ rest) tt f.first) ((fb i.0).again i.1 rest f.of f.second) in
          ap (then_read ra rb make) bytes-are ∙ read ∙ ap (λ (z : C). Ok (z, rest)) (sym i.2);
      reached = reached_of pa ra OfB pb rb make Of parts fa fb made;
      furthest = λ c front others rest of fits begins.
          let i = made.inverse c of in
          let made-fits = subst (λ (z : C). AllFit (parts z)) i.2 fits in
          let f = fitting pa OfB pb make Of parts made i.0 i.1 i.3 made-fits in
          furthest_of pa ra OfB pb rb make fa fb i.0 i.1 front others rest f (sym (ap parts i.2 ∙ made.parts_are i.0 i.1 i.3) ∙ begins);
    }
