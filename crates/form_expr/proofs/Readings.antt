-- Reading on, token by token.
use Rattle.std.proofs.Common.{◌≡◌, ℕ, zero, suc, ◌<◌, List, [], ◌∷◌, length, Option, Some, None, Ok, Err, refl, sym, ap, ◌∙◌, arith}
use Rattle.field_text.specs.Xml.{is_xml_space}
use Rattle.rosa_pieces.specs.Reading.{◌>>=◌, past}
use Rattle.rosa_pieces.proofs.Steps.{bind_some}
use Rattle.form_tokens.specs.declared.token.Token.{Token}
use Rattle.form_tokens.specs.Tokens.{token_at}
use Rattle.form_expr.specs.Machine.{State, step}
use Rattle.form_expr.specs.Reading.{taken, goes_on, read_on, read_from}
use Rattle.form_expr.proofs.Tokens.{token_is_long, past_fits}

-- a token is taken: the token, and what follows it
pub record IsTaken (s t : State) (cs rest : List ℕ) : Type 0 where
  pub token : Token
  pub after : List ℕ
  pub is_token : token_at cs ≡ Some (token, after)
  pub steps : step s token ≡ Some t
  pub rest_is : past is_xml_space after ≡ rest

pair_is : {A B : Type 0} (x y : A × B) → Some x ≡ Some y → x ≡ y
pair_is x y e = cc

taken_all : (s t : State) (cs rest : List ℕ) → taken s cs ≡ Some (t, rest) → IsTaken s t cs rest
unfolding taken
taken_all s t cs rest e =
    let one = bind_some (token_at cs) (λ (x : Token × List ℕ). step s x.0 >>= λ (next : State). Some (next, past is_xml_space x.1)) (t, rest) e in
    let two = bind_some (step s one.0.0) (λ (next : State). Some (next, past is_xml_space one.0.1)) (t, rest) one.2 in
    let same = pair_is (two.0, past is_xml_space one.0.1) (t, rest) two.2 in
    record {
      token = one.0.0;
      after = one.0.1;
      is_token = one.1;
      steps = two.1 ∙ ap (λ (x : State × List ℕ). Some x.0) same;
      rest_is = ap (λ (x : State × List ℕ). x.1) same;
    }

pub taken_is : (s t : State) (cs rest : List ℕ) → taken s cs ≡ Some (t, rest) → IsTaken s t cs rest
taken_is s t cs rest e = taken_all s t cs rest e

pub taken_is_long : (s t : State) (cs rest : List ℕ) → taken s cs ≡ Some (t, rest) → length rest < length cs
taken_is_long s t cs rest e =
    let h = taken_all s t cs rest e in
    let long = token_is_long cs h.after h.token h.is_token in
    let fits = past_fits is_xml_space h.after in
    omega (arith, long, fits, ap length h.rest_is)

goes_same : (n m : ℕ) (s : State) (cs : List ℕ) (o : Option (State × List ℕ)) → taken s cs ≡ o → length cs < suc n → length cs < suc m
    → ((t : State) (r : List ℕ) → length r < n → length r < m → read_on n t r ≡ read_on m t r)
    → goes_on (λ t r. read_on n t r) cs o ≡ goes_on (λ t r. read_on m t r) cs o
goes_same n m s cs None e hn hm ih = refl
goes_same n m s cs (Some x) e hn hm ih =
    let lt = taken_is_long s x.0 cs x.1 e in
    ih x.0 x.1 (omega arith) (omega arith)

read_same : (n m : ℕ) (s : State) (cs : List ℕ) → length cs < n → length cs < m → read_on n s cs ≡ read_on m s cs
read_same zero m s cs hn hm = absurd (omega arith)
read_same (suc n) zero s cs hn hm = absurd (omega arith)
read_same (suc n) (suc m) s [] hn hm = refl
read_same (suc n) (suc m) s (c ∷ cs) hn hm = goes_same n m s (c ∷ cs) (taken s (c ∷ cs)) refl hn hm (λ t r a b. read_same n m t r a b)

pub read_next : (s t : State) (cs rest : List ℕ) → taken s cs ≡ Some (t, rest) → read_from t rest ≡ read_from s cs
unfolding read_from
read_next s t [] rest e = absurd (let lt = taken_is_long s t [] rest e in omega arith)
read_next s t (c ∷ cs) rest e =
    let lt = taken_is_long s t (c ∷ cs) rest e in
    let one : read_on (suc (suc (length cs))) s (c ∷ cs) ≡ read_on (suc (length cs)) t rest = ap (λ (o : Option (State × List ℕ)). goes_on (λ u r. read_on (suc (length cs)) u r) (c ∷ cs) o) e in
    read_same (suc (length rest)) (suc (length cs)) t rest (omega arith) (omega arith) ∙ sym one

pub read_stops : (s : State) (c : ℕ) (cs : List ℕ) → taken s (c ∷ cs) ≡ None → read_from s (c ∷ cs) ≡ Err (c ∷ cs)
unfolding read_from
read_stops s c cs e = ap (λ (o : Option (State × List ℕ)). goes_on (λ u r. read_on (suc (length cs)) u r) (c ∷ cs) o) e

pub read_stops_at : (s : State) (cs : List ℕ) → (length cs ≡ 0 → ⊥) → taken s cs ≡ None → read_from s cs ≡ Err cs
read_stops_at s [] long e = absurd (long refl)
read_stops_at s (c ∷ cs) long e = read_stops s c cs e

pub read_ends : (s : State) (cs : List ℕ) → length cs ≡ 0 → read_from s cs ≡ Ok s
unfolding read_from
read_ends s [] none = refl
read_ends s (c ∷ cs) none = absurd (omega arith)
