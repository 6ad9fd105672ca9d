-- Cutting as many things as stand one after the other.
use Rattle.std.proofs.Common.{◌≡◌, ℕ, zero, suc, ◌<◌, ◌≤◌, List, [], ◌∷◌, ◌++◌, length, Option, Some, None, refl, sym, ap, ◌∙◌, arith, append_assoc}
use Rattle.rosa_pieces.specs.Pieces.{Spelled}
use Rattle.rosa_pieces.specs.Reading.{cut_on, cuts}

-- what is read takes at least one character
pub record Shrinks {A : Type 0} (f : List ℕ → Option (A × List ℕ)) : Type 0 where
  pub shorter : (cs : List ℕ) (a : A) (rest : List ℕ) → f cs ≡ Some (a, rest) → length rest < length cs

abbrev pub next_cut : {A : Type 0} → A → List A × List ℕ → List A × List ℕ
next_cut a x = (a ∷ x.0, x.1)

abbrev pub no_cut : {A : Type 0} → List ℕ → List A × List ℕ
no_cut cs = ([], cs)

-- where nothing begins, nothing is cut
pub cuts_end : {A : Type 0} (f : List ℕ → Option (A × List ℕ)) (n : ℕ) (cs : List ℕ) → f cs ≡ None → cuts f n cs ≡ no_cut cs
cuts_end f zero cs e = refl
cuts_end f (suc n) cs e = rw e refl

cuts_both : {A : Type 0} (f : List ℕ → Option (A × List ℕ)) (s : Shrinks f) (n m : ℕ) (cs : List ℕ) (o : Option (A × List ℕ)) → f cs ≡ o → length cs ≤ suc n → length cs ≤ suc m
    → ((r : List ℕ) → length r ≤ n → length r ≤ m → cuts f n r ≡ cuts f m r)
    → cut_on (λ r. cuts f n r) cs o ≡ cut_on (λ r. cuts f m r) cs o
cuts_both f s n m cs None e hn hm ih = refl
cuts_both f s n m cs (Some x) e hn hm ih =
    let lt = s.shorter cs x.0 x.1 e in
    ap (next_cut x.0) (ih x.1 (omega arith) (omega arith))

cuts_nil_by : {A : Type 0} (f : List ℕ → Option (A × List ℕ)) (s : Shrinks f) (n : ℕ) (o : Option (A × List ℕ)) → f [] ≡ o → cut_on (λ r. cuts f n r) [] o ≡ no_cut []
cuts_nil_by f s n None e = refl
cuts_nil_by f s n (Some x) e = absurd (let lt = s.shorter [] x.0 x.1 e in omega arith)

cuts_nil : {A : Type 0} (f : List ℕ → Option (A × List ℕ)) (s : Shrinks f) (n : ℕ) → cuts f n [] ≡ no_cut []
cuts_nil f s zero = refl
cuts_nil f s (suc n) = cuts_nil_by f s n (f []) refl

pub cuts_more : {A : Type 0} (f : List ℕ → Option (A × List ℕ)) (s : Shrinks f) (n m : ℕ) (cs : List ℕ) → length cs ≤ n → length cs ≤ m → cuts f n cs ≡ cuts f m cs
cuts_more f s zero zero cs hn hm = refl
cuts_more f s zero (suc m) [] hn hm = sym (cuts_nil f s (suc m))
cuts_more f s zero (suc m) (c ∷ cs) hn hm = absurd (omega arith)
cuts_more f s (suc n) zero [] hn hm = cuts_nil f s (suc n)
cuts_more f s (suc n) zero (c ∷ cs) hn hm = absurd (omega arith)
cuts_more f s (suc n) (suc m) cs hn hm = cuts_both f s n m cs (f cs) refl hn hm (λ r a b. cuts_more f s n m r a b)

-- where one begins, it is cut, and then the others
pub cuts_next : {A : Type 0} (f : List ℕ → Option (A × List ℕ)) (s : Shrinks f) (cs : List ℕ) (a : A) (rest : List ℕ) → f cs ≡ Some (a, rest) → cuts f (length cs) cs ≡ next_cut a (cuts f (length rest) rest)
cuts_next f s [] a rest e = absurd (let lt = s.shorter [] a rest e in omega arith)
cuts_next f s (c ∷ cs) a rest e =
    let lt = s.shorter (c ∷ cs) a rest e in
    let one : cuts f (length (c ∷ cs)) (c ∷ cs) ≡ next_cut a (cuts f (length cs) rest) = rw e refl in
    one ∙ ap (next_cut a) (cuts_more f s (length cs) (length rest) rest (omega arith) (omega arith))

-- what f reads at the front is spelled as P says
pub record Takes {A : Type 0} (f : List ℕ → Option (A × List ℕ)) (P : A → List ℕ → Type 0) : Type 0 where
  pub spells : (cs : List ℕ) (a : A) (rest : List ℕ) → f cs ≡ Some (a, rest) → (x : List ℕ) × P a x × (cs ≡ x ++ rest)

abbrev pub SpelledFront : {A : Type 0} → (A → List ℕ → Type 0) → List ℕ → List A × List ℕ → Type 0
SpelledFront P cs cut = (x : List ℕ) × Spelled P cut.0 x × (cs ≡ x ++ cut.1)

spells_by : {A : Type 0} (f : List ℕ → Option (A × List ℕ)) (P : A → List ℕ → Type 0) (takes : Takes f P) (n : ℕ) (cs : List ℕ) (o : Option (A × List ℕ)) → f cs ≡ o
    → ((r : List ℕ) → SpelledFront P r (cuts f n r)) → SpelledFront P cs (cut_on (λ r. cuts f n r) cs o)
spells_by f P takes n cs None e ih = ([], refl, refl)
spells_by f P takes n cs (Some y) e ih =
    let t = takes.spells cs y.0 y.1 e in
    let u = ih y.1 in
    (t.0 ++ u.0, (t.0, u.0, t.1, u.1, refl), t.2 ∙ ap (λ (r : List ℕ). t.0 ++ r) u.2 ∙ sym (append_assoc t.0 u.0 (cuts f n y.1).1))

-- what is cut is spelled so
pub cuts_spell : {A : Type 0} (f : List ℕ → Option (A × List ℕ)) (P : A → List ℕ → Type 0) (takes : Takes f P) (n : ℕ) (cs : List ℕ) → SpelledFront P cs (cuts f n cs)
cuts_spell f P takes zero cs = ([], refl, refl)
cuts_spell f P takes (suc n) cs = spells_by f P takes n cs (f cs) refl (λ r. cuts_spell f P takes n r)

-- what is spelled before rest is read one by one
pub record Again {A : Type 0} (f : List ℕ → Option (A × List ℕ)) (P : A → List ℕ → Type 0) (rest : List ℕ) : Type 0 where
  pub reads : (a : A) (x : List ℕ) (others : List A) (y : List ℕ) → P a x → Spelled P others y → f (x ++ (y ++ rest)) ≡ Some (a, y ++ rest)

-- what is spelled, and then stops, is cut so
pub cuts_spelled : {A : Type 0} (f : List ℕ → Option (A × List ℕ)) (s : Shrinks f) (P : A → List ℕ → Type 0) (rest : List ℕ) (again : Again f P rest) → f rest ≡ None
    → (all : List A) (x : List ℕ) → Spelled P all x → cuts f (length (x ++ rest)) (x ++ rest) ≡ (all, rest)
cuts_spelled f s P rest again ends [] x h = let e : x ++ rest ≡ rest = ap (λ (t : List ℕ). t ++ rest) h in rw e (cuts_end f (length rest) rest ends)
cuts_spelled f s P rest again ends (a ∷ others) x (y, z, p, q, e) =
    let r : f (y ++ (z ++ rest)) ≡ Some (a, z ++ rest) = again.reads a y others z p q in
    let split : x ++ rest ≡ y ++ (z ++ rest) = ap (λ (t : List ℕ). t ++ rest) e ∙ append_assoc y z rest in
    rw split (cuts_next f s (y ++ (z ++ rest)) a (z ++ rest) r ∙ ap (next_cut a) (cuts_spelled f s P rest again ends others z q))
