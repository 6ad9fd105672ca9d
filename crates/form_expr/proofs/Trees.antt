-- What waits behind operands and operators binds the last operand as the tree by precedence does.
use Rattle.std.proofs.Common.{◌≡◌, ℕ, ◌<◌, Bool, true, false, cond, List, [], ◌∷◌, ◌++◌, refl, ap, ◌∙◌, arith, inl, inr}
use Rattle.std.specs.Prelude.{nat_lt, nat_le}
use Rattle.std.specs.List.{list_all}
use Rattle.std.proofs.lemmas.Bool.{and_parts, and_from, leb-true, leb-false, le-leb, lt-leb, lt-ltb, ltb-true, cases_Bool}
use Rattle.form_def.specs.declared.expr.Op.{Op}
use Rattle.form_def.specs.declared.expr.Op.TheVariants.{Or, And, Equal, NotEqual, Less, LessEqual, Greater, GreaterEqual, Add, Subtract, Multiply, Modulo}
use Rattle.form_expr.specs.declared.syntax.Syntax.{Syntax}
use Rattle.form_expr.specs.declared.syntax.Syntax.TheVariants.{Pair}
use Rattle.form_expr.specs.declared.pending.Pending.{Pending}
use Rattle.form_expr.specs.declared.pending.Pending.TheVariants as pend
use Rattle.form_expr.specs.Precedence.{level, Link, IsTree, alone, pair}
use Rattle.form_expr.specs.Machine.{depth, is_inside, is_in_itemset, tightness, bound, bound_by}

-- ---- levels

pub level_low : (op : Op) → level op < 7
level_low Or = omega arith
level_low And = omega arith
level_low Equal = omega arith
level_low NotEqual = omega arith
level_low Less = omega arith
level_low LessEqual = omega arith
level_low Greater = omega arith
level_low GreaterEqual = omega arith
level_low Add = omega arith
level_low Subtract = omega arith
level_low Multiply = omega arith
level_low Modulo = omega arith

pub level_high : (op : Op) → 0 < level op
level_high Or = omega arith
level_high And = omega arith
level_high Equal = omega arith
level_high NotEqual = omega arith
level_high Less = omega arith
level_high LessEqual = omega arith
level_high Greater = omega arith
level_high GreaterEqual = omega arith
level_high Add = omega arith
level_high Subtract = omega arith
level_high Multiply = omega arith
level_high Modulo = omega arith

-- ---- what binds an operand

-- how tightly the innermost binds
abbrev pub top : List Pending → ℕ
top [] = 0
top (pending ∷ outer) = tightness pending

pub bound_stays : (n : ℕ) (k : List Pending) (x : Syntax) → top k < n → bound_by n k x ≡ (k, x)
bound_stays n [] x h = refl
bound_stays n (pending ∷ outer) x h = rw (lt-leb n (tightness pending) h) refl

-- what waits behind an operand and the operator behind it
abbrev pub push : Op → List Pending × Syntax → List Pending
push op x = pend.Left x.1 op ∷ x.0

abbrev pub after_links : List Pending → List Link → List Pending
after_links k [] = k
after_links k (l ∷ ls) = after_links (push l.op (bound_by (level l.op) k l.left)) ls

pub after_append : (k : List Pending) (a b : List Link) → after_links k (a ++ b) ≡ after_links (after_links k a) b
after_append k [] b = refl
after_append k (l ∷ a) b = after_append (push l.op (bound_by (level l.op) k l.left)) a b

-- ---- trees

-- the stack binds more loosely than each of the links
abbrev pub IsLooser : ℕ → List Link → Type 0
IsLooser n ls = list_all (λ (l : Link). nat_lt n (level l.op)) ls ≡ true

abbrev pub IsNoTighter : ℕ → List Link → Type 0
IsNoTighter n ls = list_all (λ (l : Link). nat_le n (level l.op)) ls ≡ true

pub all_parts : (p : Link → Bool) (a b : List Link) → list_all p (a ++ b) ≡ true → (list_all p a ≡ true) × (list_all p b ≡ true)
all_parts p [] b h = (refl, h)
all_parts p (l ∷ a) b h =
    let one = and_parts (p l) (list_all p (a ++ b)) h in
    let others = all_parts p a b one.1 in
    (and_from (p l) (list_all p a) one.0 others.0, others.1)

pub all_append : (p : Link → Bool) (a b : List Link) → list_all p a ≡ true → list_all p b ≡ true → list_all p (a ++ b) ≡ true
all_append p [] b h k = k
all_append p (l ∷ a) b h k =
    let one = and_parts (p l) (list_all p a) h in
    and_from (p l) (list_all p (a ++ b)) one.0 (all_append p a b one.1 k)

all_weaker : (p q : Link → Bool) → ((l : Link) → p l ≡ true → q l ≡ true) → (ls : List Link) → list_all p ls ≡ true → list_all q ls ≡ true
all_weaker p q weaker [] h = refl
all_weaker p q weaker (l ∷ ls) h =
    let one = and_parts (p l) (list_all p ls) h in
    and_from (q l) (list_all q ls) (weaker l one.0) (all_weaker p q weaker ls one.1)

pub zero_is_looser : (ls : List Link) → IsLooser 0 ls
zero_is_looser [] = refl
zero_is_looser (l ∷ ls) = and_from (nat_lt 0 (level l.op)) (list_all (λ (l : Link). nat_lt 0 (level l.op)) ls) (lt-ltb 0 (level l.op) (level_high l.op)) (zero_is_looser ls)

pub one_is_no_tighter : (ls : List Link) → IsNoTighter 1 ls
one_is_no_tighter [] = refl
one_is_no_tighter (l ∷ ls) = and_from (nat_le 1 (level l.op)) (list_all (λ (l : Link). nat_le 1 (level l.op)) ls) (le-leb 1 (level l.op) (let h = level_high l.op in omega (arith, h))) (one_is_no_tighter ls)

pub tree_bound : (ls : List Link) (last e : Syntax) → IsTree ls last e → (n : ℕ) (k : List Pending) → IsLooser (top k) ls → IsNoTighter n ls → bound_by n (after_links k ls) last ≡ bound_by n k e
tree_bound ls last e (alone operand) n k looser tight = refl
tree_bound ls last e (pair before after link _ left right no-tighter tighter l r) n k looser tight =
    let loose = all_parts (λ (x : Link). nat_lt (top k) (level x.op)) before (link ∷ after) looser in
    let loose-link = and_parts (nat_lt (top k) (level link.op)) (list_all (λ (x : Link). nat_lt (top k) (level x.op)) after) loose.1 in
    let tights = all_parts (λ (x : Link). nat_le n (level x.op)) before (link ∷ after) tight in
    let tight-link = and_parts (nat_le n (level link.op)) (list_all (λ (x : Link). nat_le n (level x.op)) after) tights.1 in
    let first : bound_by (level link.op) (after_links k before) link.left ≡ (k, left) =
    tree_bound before link.left left l (level link.op) k loose.0 no-tighter ∙ bound_stays (level link.op) k left (ltb-true (top k) (level link.op) loose-link.0) in
    let pushed : after_links k (before ++ link ∷ after) ≡ after_links (pend.Left left link.op ∷ k) after =
    after_append k before (link ∷ after) ∙ ap (λ (x : List Pending × Syntax). after_links (push link.op x) after) first in
    let rest : bound_by n (after_links (pend.Left left link.op ∷ k) after) last ≡ bound_by n (pend.Left left link.op ∷ k) right = tree_bound after last right r n (pend.Left left link.op ∷ k) tighter tight-link.1 in
    let one : bound_by n (pend.Left left link.op ∷ k) right ≡ bound_by n k (Pair link.op left right) = rw (tight-link.0) refl in
    ap (λ (x : List Pending). bound_by n x last) pushed ∙ rest ∙ one

-- ---- each operands and operators have a tree

insert : (x : Link) (ls : List Link) (last e : Syntax) → IsTree ls last e → (f : Syntax) × IsTree (x ∷ ls) last f
insert x ls last e (alone operand) = (Pair x.op x.left operand, pair [] [] x operand x.left operand refl refl (alone x.left) (alone operand))
insert x ls last e (pair before after link _ left right no-tighter tighter l r) =
    elim (cases_Bool (nat_le (level link.op) (level x.op))) [
      | inl low ↦ (let inner = insert x before link.left left l in
          (Pair link.op inner.0 right, pair (x ∷ before) after link last inner.0 right (and_from (nat_le (level link.op) (level x.op)) (list_all (λ (k : Link). nat_le (level link.op) (level k.op)) before) low no-tighter) tighter inner.1 r))
      | inr high ↦ (
          let less : level x.op < level link.op = leb-false (level link.op) (level x.op) high in
          let some-before = all_weaker (λ (k : Link). nat_le (level link.op) (level k.op)) (λ (k : Link). nat_lt (level x.op) (level k.op)) (λ k h. lt-ltb (level x.op) (level k.op) (let g = leb-true (level link.op) (level k.op) h in omega (arith, g, less))) before no-tighter in
          let some-after = all_weaker (λ (k : Link). nat_lt (level link.op) (level k.op)) (λ (k : Link). nat_lt (level x.op) (level k.op)) (λ k h. lt-ltb (level x.op) (level k.op) (let g = ltb-true (level link.op) (level k.op) h in omega (arith, g, less))) after tighter in
          let all = all_append (λ (k : Link). nat_lt (level x.op) (level k.op)) before (link ∷ after) some-before (and_from (nat_lt (level x.op) (level link.op)) (list_all (λ (k : Link). nat_lt (level x.op) (level k.op)) after) (lt-ltb (level x.op) (level link.op) less) some-after) in
          (Pair x.op x.left (Pair link.op left right), pair [] (before ++ link ∷ after) x last x.left (Pair link.op left right) refl all (alone x.left) (pair before after link last left right no-tighter tighter l r)))
    ]

pub some_tree : (ls : List Link) (last : Syntax) → (e : Syntax) × IsTree ls last e
some_tree [] last = (last, alone last)
some_tree (l ∷ ls) last = let rest = some_tree ls last in insert l ls last rest.0 rest.1

-- ---- what binds is neither a parenthesis nor a filter

-- where the operand is bound by one at least, as many stay open, and the same filters
pub record IsSame (a b : List Pending) : Type 0 where
  pub depths : depth a ≡ depth b
  pub insides : is_inside a ≡ is_inside b

same_bound : (n : ℕ) (k : List Pending) (x : Syntax) → 0 < n → IsSame (bound_by n k x).0 k
same_bound n [] x h = record { depths = refl; insides = refl }
same_bound n (pend.Minus ∷ k) x h = elim (nat_le n 7) as (λ b. IsSame (cond b (bound_by n k (bound pend.Minus x)) (pend.Minus ∷ k, x)).0 (pend.Minus ∷ k)) [
  | true ↦ (let rest = same_bound n k (bound pend.Minus x) h in record { depths = omega (arith, rest.depths); insides = rest.insides })
  | false ↦ record { depths = refl; insides = refl }
]
same_bound n (pend.Left left op ∷ k) x h = elim (nat_le n (level op)) as (λ b. IsSame (cond b (bound_by n k (bound (pend.Left left op) x)) (pend.Left left op ∷ k, x)).0 (pend.Left left op ∷ k)) [
  | true ↦ (let rest = same_bound n k (bound (pend.Left left op) x) h in record { depths = omega (arith, rest.depths); insides = rest.insides })
  | false ↦ record { depths = refl; insides = refl }
]
same_bound n (pend.Group ∷ k) x h = rw (lt-leb n 0 h) (record { depths = refl; insides = refl })
same_bound n (pend.Call func args ∷ k) x h = rw (lt-leb n 0 h) (record { depths = refl; insides = refl })
same_bound n (pend.Filter table ∷ k) x h = rw (lt-leb n 0 h) (record { depths = refl; insides = refl })
same_bound n (pend.Itemset ∷ k) x h = rw (lt-leb n 0 h) (record { depths = refl; insides = refl })

pub inside_bound : (n : ℕ) (k : List Pending) (x : Syntax) → 0 < n → is_inside (bound_by n k x).0 ≡ is_inside k
inside_bound n k x h = (same_bound n k x h).insides

pub same_links : (ls : List Link) (k : List Pending) → IsSame (after_links k ls) k
same_links [] k = record { depths = refl; insides = refl }
same_links (l ∷ ls) k =
    let one = same_bound (level l.op) k l.left (level_high l.op) in
    let rest = same_links ls (push l.op (bound_by (level l.op) k l.left)) in
    record { depths = omega (arith, one.depths, rest.depths); insides = rest.insides ∙ one.insides }

-- no minus sign waits behind an operator
pub links_top : (ls : List Link) (k : List Pending) → top k < 7 → top (after_links k ls) < 7
links_top [] k h = h
links_top (l ∷ ls) k h = links_top ls (push l.op (bound_by (level l.op) k l.left)) (level_low l.op)

pub links_outside : (ls : List Link) (k : List Pending) → is_in_itemset k ≡ false → is_in_itemset (after_links k ls) ≡ false
links_outside [] k h = h
links_outside (l ∷ ls) k h = links_outside ls (push l.op (bound_by (level l.op) k l.left)) refl
