-- Steps that may fail, and tests.
use Rattle.std.proofs.Common.{◌≡◌, ℕ, Bool, true, false, cond, ◌||◌, not, ◌==◌, List, [], ◌∷◌, ◌++◌, Option, Some, None, refl, sym, ap, ◌∙◌, ◌⊎◌, inl, inr}
use Rattle.std.specs.List.{list_all}
use Rattle.std.proofs.lemmas.Bool.{eqb-true, and_parts, not-true, or_cases, or_parts}
use Rattle.field_text.specs.Xml.{is_xml_char, is_xml_space, is_name_start, is_name_char, is_local_name}
use Rattle.rosa_pieces.specs.Pieces.{begins, is_literal, is_quote, AreSpaces}
use Rattle.rosa_pieces.specs.Reading.{◌>>=◌, past_one}
use Rattle.rosa_pieces.proofs.Fronts.{all_head}

-- the value of a step that did not fail
pub bind_some : {A B : Type 0} (o : Option A) (f : A → Option B) (y : B) → (o >>= f) ≡ Some y → (x : A) × (o ≡ Some x) × (f x ≡ Some y)
bind_some (Some x) f y e = (x, refl, e)
bind_some None f y e = absurd cc

-- a test that had to hold
pub chosen_some : {A : Type 0} (b : Bool) (o : Option A) (y : A) → cond b o None ≡ Some y → (b ≡ true) × (o ≡ Some y)
chosen_some true o y e = (refl, e)
chosen_some false o y e = absurd cc

-- which way a test went
pub chosen : {A : Type 0} (b : Bool) (x y z : A) → cond b x y ≡ z → ((b ≡ true) × (x ≡ z)) ⊎ ((b ≡ false) × (y ≡ z))
chosen true x y z e = inl (refl, e)
chosen false x y z e = inr (refl, e)

abbrev some : {A : Type 0} → A → Option A
some x = Some x

pub some_is : {A : Type 0} (x y : A) → some x ≡ some y → x ≡ y
some_is x y e = cc

pub none_is_not_some : {A : Type 0} (x : A) → None ≡ some x → ⊥
none_is_not_some x e = absurd cc

-- a test that passes one number and not another
pub apart : (p : ℕ → Bool) (k c : ℕ) → p k ≡ false → p c ≡ true → (c == k) ≡ false
apart p k c fails passes = elim (c == k) as (λ b. (c == k) ≡ b → b ≡ false) [
  | true ↦ λ e. absurd (let same = eqb-true c k e in let both : p k ≡ true = ap p (sym same) ∙ passes in cc)
  | false ↦ λ e. refl
] refl

pub start_is_char : (c : ℕ) → is_name_start c ≡ true → is_name_char c ≡ true
start_is_char c h = rw h refl

pub space_is : (c : ℕ) → is_xml_space c ≡ true → (c ≡ 32) ⊎ ((c ≡ 9) ⊎ ((c ≡ 10) ⊎ (c ≡ 13)))
space_is c h =
    elim (or_cases (((c == 32) || (c == 9)) || (c == 10)) (c == 13) h) [
      | inl h3 ↦ elim (or_cases ((c == 32) || (c == 9)) (c == 10) h3) [
        | inl h2 ↦ elim (or_cases (c == 32) (c == 9) h2) [
          | inl a ↦ inl (eqb-true c 32 a)
          | inr a ↦ inr (inl (eqb-true c 9 a))
        ]
        | inr a ↦ inr (inr (inl (eqb-true c 10 a)))
      ]
      | inr a ↦ inr (inr (inr (eqb-true c 13 a)))
    ]

-- what fails at each space fails at a space
pub record FailsAtSpaces (p : ℕ → Bool) : Type 0 where
  pub space : p 32 ≡ false
  pub tab : p 9 ≡ false
  pub feed : p 10 ≡ false
  pub return : p 13 ≡ false

pub fails_at_space : (p : ℕ → Bool) → FailsAtSpaces p → (c : ℕ) → is_xml_space c ≡ true → p c ≡ false
fails_at_space p f c h = elim (space_is c h) [
  | inl e ↦ ap p e ∙ f.space
  | inr (inl e) ↦ ap p e ∙ f.tab
  | inr (inr (inl e)) ↦ ap p e ∙ f.feed
  | inr (inr (inr e)) ↦ ap p e ∙ f.return
]

pub spaces_fail : (p : ℕ → Bool) → FailsAtSpaces p → (s r : List ℕ) → AreSpaces s → begins p r ≡ false → begins p (s ++ r) ≡ false
spaces_fail p f [] r h e = e
spaces_fail p f (c ∷ s) r h e = fails_at_space p f c (all_head is_xml_space c s h).0

pub past_one_cuts : (c : ℕ) (cs rest : List ℕ) → past_one c cs ≡ Some rest → cs ≡ c ∷ rest
past_one_cuts c [] rest e = absurd cc
past_one_cuts c (d ∷ cs) rest e =
    let g = chosen_some (d == c) (Some cs) rest e in
    let same = eqb-true d c g.0 in
    ap (λ (x : ℕ). x ∷ cs) same ∙ ap (λ (r : List ℕ). c ∷ r) (some_is cs rest g.1)

-- the first character of a name
pub name_head : (x : List ℕ) → is_local_name x ≡ true → (c : ℕ) × (cs : List ℕ) × (is_name_start c ≡ true) × (x ≡ c ∷ cs)
name_head [] h = absurd cc
name_head (c ∷ cs) h = (c, cs, (and_parts (is_name_start c) (list_all is_name_char (c ∷ cs)) h).0, refl)

pub literal_parts : (c : ℕ) → is_literal c ≡ true → (is_xml_char c ≡ true) × ((c == 60) ≡ false) × ((c == 38) ≡ false)
literal_parts c h =
    let a = and_parts (is_xml_char c) (not ((c == 60) || (c == 38))) h in
    let n = or_parts (c == 60) (c == 38) (not-true ((c == 60) || (c == 38)) a.1) in
    (a.0, n.0, n.1)

pub quote_is : (q : ℕ) → is_quote q ≡ true → (q ≡ 34) ⊎ (q ≡ 39)
quote_is q h = elim (or_cases (q == 34) (q == 39) h) [ inl a ↦ inl (eqb-true q 34 a) | inr a ↦ inr (eqb-true q 39 a) ]
