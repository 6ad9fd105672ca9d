-- What the reader's stack stands for: the tokens so far, by the grammar.
use Rattle.std.proofs.Common.{◌≡◌, ℕ, suc, ◌-◌, ◌<◌, Bool, true, false, List, [], ◌∷◌, ◌++◌, codes, length, Some, refl, sym, ap, subst, ◌∙◌, arith, append_assoc}
use Rattle.std.specs.Prelude.{nat_lt}
use Rattle.std.specs.List.{list_all}
use Rattle.std.proofs.lemmas.Bool.{ltb-true}
use Rattle.std.proofs.lemmas.List.{append-nil}
use Rattle.form_def.specs.declared.expr.Func.{Func}
use Rattle.form_tokens.specs.declared.token.Token.{Token}
use Rattle.form_tokens.specs.declared.token.Token.TheVariants as tok
use Rattle.form_expr.specs.declared.syntax.Syntax.{Syntax}
use Rattle.form_expr.specs.declared.syntax.Syntax.TheVariants as syn
use Rattle.form_expr.specs.declared.pending.Pending.{Pending}
use Rattle.form_expr.specs.declared.pending.Pending.TheVariants as pend
use Rattle.form_expr.specs.declared.expected.Expected.{Expected}
use Rattle.form_expr.specs.declared.expected.Expected.TheVariants as want
use Rattle.form_expr.specs.Words.{function_of, may_take, takes_more}
use Rattle.form_expr.specs.Precedence.{level, Link}
use Rattle.form_expr.specs.Grammar.{rows_of, IsOperand, AreArgs, AreLinks, IsExpr, negative, first, next, none, grouped}
use Rattle.form_expr.specs.Machine.{State, depth, has_room, is_inside, is_in_itemset, bound_by, behind}
use Rattle.form_expr.proofs.Trees.{top, bound_stays, after_links, tree_bound, zero_is_looser, one_is_no_tighter, some_tree, same_links, links_top, links_outside}
use Rattle.form_expr.proofs.Complete.{stays_behind}

-- how many parentheses and brackets may still open
abbrev pub room : List Pending → ℕ
room k = 32 - depth k

-- arguments with a comma behind each
pub data AreArgsBefore : Bool → ℕ → List Token → List Syntax → Type 0 where
  no_args : (inside : Bool) (room : ℕ) → AreArgsBefore inside room [] []
  more_args : (inside : Bool) (room : ℕ) (ts us : List Token) (args : List Syntax) (e : Syntax) → AreArgsBefore inside room ts args → IsExpr inside room us e → AreArgsBefore inside room (ts ++ (us ++ tok.Comma ∷ [])) (args ++ e ∷ [])

pub all_args : (inside : Bool) (room : ℕ) (ts us : List Token) (args : List Syntax) (e : Syntax) → AreArgsBefore inside room ts args → IsExpr inside room us e → AreArgs inside room (ts ++ us) args e
all_args inside room ts us args e (no_args _ _) h = first inside room us e h
all_args inside room ts us args e (more_args _ _ before vs others f b g) h =
    let joined = next inside room (before ++ vs) us others f e (all_args inside room before vs others f b g) h in
    let assoc : (before ++ vs) ++ tok.Comma ∷ us ≡ (before ++ (vs ++ tok.Comma ∷ [])) ++ us =
    append_assoc before vs (tok.Comma ∷ us) ∙ sym (append_assoc before (vs ++ tok.Comma ∷ []) us ∙ ap (λ (x : List Token). before ++ x) (append_assoc vs (tok.Comma ∷ []) us)) in
    subst (λ (x : List Token). AreArgs inside room x (others ++ f ∷ []) e) assoc joined

-- The tokens up to where an expression begins, and up to where an operand comes; whether an itemset is read; and the stack there.
mutual
  pub data Based : Bool → List Pending → List Token → Type 0 where
    nothing : Based false [] []
    in_itemset : (table : List ℕ) → Based true (pend.Filter table ∷ pend.Itemset ∷ []) (rows_of table ++ tok.OpenBracket ∷ [])
    in_group : (set : Bool) (k : List Pending) (ts : List Token) → Before set k ts → has_room k ≡ true → Based set (pend.Group ∷ k) (ts ++ tok.Open ∷ [])
    in_call : (set : Bool) (k : List Pending) (ts us : List Token) (name : List ℕ) (func : Func) (args : List Syntax) → Before set k ts → has_room k ≡ true → function_of name ≡ Some func
        → AreArgsBefore (is_inside k) (room (pend.Group ∷ k)) us args → takes_more func (length args) ≡ true → Based set (pend.Call func args ∷ k) (ts ++ tok.Name name ∷ tok.Open ∷ us)
    in_filter : (set : Bool) (k : List Pending) (ts : List Token) (table : List ℕ) → Before set k ts → has_room k ≡ true → is_inside k ≡ false → Based set (pend.Filter table ∷ k) (ts ++ (rows_of table ++ tok.OpenBracket ∷ []))

  pub data Before : Bool → List Pending → List Token → Type 0 where
    operators : (set : Bool) (k : List Pending) (ts us : List Token) (ls : List Link) → Based set k ts → AreLinks (is_inside k) (room k) us ls → Before set (after_links k ls) (ts ++ us)
    minus : (set : Bool) (k : List Pending) (ts : List Token) → Before set k ts → Before set (pend.Minus ∷ k) (ts ++ tok.Minus ∷ [])

pub based_before : (set : Bool) (k : List Pending) (ts : List Token) → Based set k ts → Before set k ts
based_before set k ts b = subst (λ (x : List Token). Before set k x) (append-nil ts) (operators set k ts [] [] b (none (is_inside k) (room k)))

pub based_top : (set : Bool) (k : List Pending) (ts : List Token) → Based set k ts → top k ≡ 0
based_top set k ts nothing = refl
based_top set k ts (in_itemset table) = refl
based_top set k ts (in_group _ _ _ b r) = refl
based_top set k ts (in_call _ _ _ _ _ _ _ b r n a t) = refl
based_top set k ts (in_filter _ _ _ _ b r i) = refl

based_outside : (set : Bool) (k : List Pending) (ts : List Token) → Based set k ts → is_in_itemset k ≡ false
based_outside set k ts nothing = refl
based_outside set k ts (in_itemset table) = refl
based_outside set k ts (in_group _ _ _ b r) = refl
based_outside set k ts (in_call _ _ _ _ _ _ _ b r n a t) = refl
based_outside set k ts (in_filter _ _ _ _ b r i) = refl

pub before_outside : (set : Bool) (k : List Pending) (ts : List Token) → Before set k ts → is_in_itemset k ≡ false
before_outside set k ts (operators _ base _ _ ls b l) = links_outside ls base (based_outside set base _ b)
before_outside set k ts (minus _ _ _ b) = refl

-- ---- rooms

pub operand_at : (inside other : Bool) (n m : ℕ) (ts : List Token) (x : Syntax) → inside ≡ other → n ≡ m → IsOperand inside n ts x → IsOperand other m ts x
operand_at inside other n m ts x i r h = subst (λ (b : Bool). IsOperand b m ts x) i (subst (λ (j : ℕ). IsOperand inside j ts x) r h)

pub room_more : (k : List Pending) → has_room k ≡ true → suc (room (pend.Group ∷ k)) ≡ room k
room_more k h = let lt = ltb-true (depth k) 32 h in omega (arith, lt)

-- ---- where the reader stands

-- behind an operand
pub record IsBehind (set : Bool) (k : List Pending) (x : Syntax) (ts : List Token) : Type 0 where
  pub base : List Pending
  pub before : List Token
  pub us : List Token
  pub vs : List Token
  pub links : List Link
  pub based : Based set base before
  pub are_links : AreLinks (is_inside base) (room base) us links
  pub operand : IsOperand (is_inside base) (room base) vs x
  pub stack : k ≡ after_links base links
  pub tokens : ts ≡ before ++ (us ++ vs)

-- before the rows of a table
pub data RowsBefore : Bool → List Pending → List Token → Type 0 where
  rows_outside : (set : Bool) (k : List Pending) (ts : List Token) → Before set k ts → has_room k ≡ true → is_inside k ≡ false → RowsBefore set k ts
  rows_alone : RowsBefore true (pend.Itemset ∷ []) []

-- behind some first tokens of the rows of a table
abbrev pub IsInRows : Bool → List Pending → List Token → List Token → Type 0
IsInRows set k part ts = (before : List Token) × RowsBefore set k before × (ts ≡ before ++ part)

-- behind a function's name and what of its call has no argument
abbrev pub IsInCall : Bool → List Pending → Func → List Token → List Token → Type 0
IsInCall set k func part ts = (before : List Token) × (name : List ℕ) × Before set k before × (has_room k ≡ true) × (function_of name ≡ Some func) × (ts ≡ before ++ tok.Name name ∷ part)

abbrev pub IsNamed : Bool → List Pending → List ℕ → List Token → Type 0
IsNamed set k name ts = (before : List Token) × Before set k before × (is_inside k ≡ true) × (ts ≡ before ++ tok.Name name ∷ [])

abbrev pub IsAtValue : Bool → List Pending → List ℕ → Syntax → List Token → Type 0
IsAtValue set k table filter ts = (before : List Token) × (us : List Token) × RowsBefore set k before × IsExpr true (room (pend.Group ∷ k)) us filter × (ts ≡ before ++ (rows_of table ++ tok.OpenBracket ∷ (us ++ tok.CloseBracket ∷ [])))

abbrev pub name_of_rows : Token
name_of_rows = tok.Name (codes "instance")

abbrev pub StandsAt : Bool → Expected → List Pending → List Token → Type 0
StandsAt set want.Operand k ts = Before set k ts
StandsAt set (want.Operator x) k ts = IsBehind set k x ts
StandsAt set (want.Named name) k ts = IsNamed set k name ts
StandsAt set (want.CallOpening func) k ts = IsInCall set k func [] ts
StandsAt set (want.CallClosing func) k ts = IsInCall set k func (tok.Open ∷ []) ts × (may_take func 0 ≡ true)
StandsAt set want.Instance k ts = (set ≡ true) × (k ≡ pend.Itemset ∷ []) × (ts ≡ [])
StandsAt set want.TableOpening k ts = IsInRows set k (name_of_rows ∷ []) ts
StandsAt set want.Table k ts = IsInRows set k (name_of_rows ∷ tok.Open ∷ []) ts
StandsAt set (want.TableClosing table) k ts = IsInRows set k (name_of_rows ∷ tok.Open ∷ tok.Quoted table ∷ []) ts
StandsAt set (want.Rows table) k ts = IsInRows set k (name_of_rows ∷ tok.Open ∷ tok.Quoted table ∷ tok.Close ∷ []) ts
StandsAt set (want.FilterOpening table) k ts = IsInRows set k (rows_of table) ts
StandsAt set (want.Value table filter) k ts = IsAtValue set k table filter ts

abbrev pub Stands : Bool → State → List Token → Type 0
Stands set s ts = StandsAt set s.expected s.stack ts

-- ---- behind an operand

based_low : (set : Bool) (k : List Pending) (ts : List Token) → Based set k ts → top k < 7
based_low set k ts b = let h = based_top set k ts b in omega (arith, h)

pub operand_stands : (set : Bool) (k : List Pending) (ts : List Token) → Before set k ts → (vs : List Token) (x : Syntax) → IsOperand (is_inside k) (room k) vs x → Stands set (behind k x) (ts ++ vs)
operand_stands set k ts (operators _ base before us ls b l) vs x h =
    let same = same_links ls base in
    let low = links_top ls base (based_low set base before b) in
    let behind-it : IsBehind set (after_links base ls) x ((before ++ us) ++ vs) = record {
      base = base;
      before = before;
      us = us;
      vs = vs;
      links = ls;
      based = b;
      are_links = l;
      operand = operand_at (is_inside (after_links base ls)) (is_inside base) (room (after_links base ls)) (room base) vs x same.insides (ap (λ (n : ℕ). 32 - n) same.depths) h;
      stack = refl;
      tokens = append_assoc before us vs;
    } in
    subst (λ (s : State). Stands set s ((before ++ us) ++ vs)) (sym (stays_behind (after_links base ls) x low)) behind-it
operand_stands set k ts (minus _ outer before b) vs x h =
    let one = operand_at (is_inside outer) (is_inside outer) (room (pend.Minus ∷ outer)) (room outer) vs x refl (omega arith) h in
    let more = operand_stands set outer before b (tok.Minus ∷ vs) (syn.Negative x) (negative (is_inside outer) (room outer) vs x one) in
    subst (λ (y : List Token). Stands set (behind outer (syn.Negative x)) y) (sym (append_assoc before (tok.Minus ∷ []) vs)) more

-- an expression that may end
pub record IsEnded (set : Bool) (k : List Pending) (x : Syntax) (ts : List Token) : Type 0 where
  pub base : List Pending
  pub before : List Token
  pub inner : List Token
  pub whole : Syntax
  pub based : Based set base before
  pub expr : IsExpr (is_inside base) (room base) inner whole
  pub bound : bound_by 1 k x ≡ (base, whole)
  pub tokens : ts ≡ before ++ inner

pub may_be_ended : (set : Bool) (k : List Pending) (x : Syntax) (ts : List Token) → IsBehind set k x ts → IsEnded set k x ts
may_be_ended set k x ts b =
    let tree = some_tree b.links x in
    let base-top = based_top set b.base b.before b.based in
    let looser = subst (λ (n : ℕ). list_all (λ (l : Link). nat_lt n (level l.op)) b.links ≡ true) (sym base-top) (zero_is_looser b.links) in
    let bound = tree_bound b.links x tree.0 tree.1 1 b.base looser (one_is_no_tighter b.links) in
    record {
      base = b.base;
      before = b.before;
      inner = b.us ++ b.vs;
      whole = tree.0;
      based = b.based;
      expr = grouped (is_inside b.base) (room b.base) b.us b.vs b.links x tree.0 b.are_links b.operand tree.1;
      bound = ap (λ (l : List Pending). bound_by 1 l x) b.stack ∙ bound ∙ bound_stays 1 b.base tree.0 (omega (arith, base-top));
      tokens = b.tokens;
    }
