-- Something whole begins with the tokens of each state that the reader reaches.
use Rattle.std.proofs.Common.{◌≡◌, ℕ, zero, suc, pos, ◌+◌, ◌-◌, Bool, true, false, List, [], ◌∷◌, ◌++◌, codes, length, Option, Some, None, refl, sym, ap, subst, ◌∙◌, arith, append_assoc}
use Rattle.std.proofs.lemmas.Bool.{lt-ltb, ltb-true, eq-eqb}
use Rattle.std.proofs.lemmas.List.{length-append, append-nil}
use Rattle.form_def.specs.declared.expr.Func.{Func}
use Rattle.form_tokens.specs.declared.token.Token.{Token}
use Rattle.form_tokens.specs.declared.token.Token.TheVariants as tok
use Rattle.form_expr.specs.declared.syntax.Syntax.{Syntax}
use Rattle.form_expr.specs.declared.syntax.Syntax.TheVariants as syn
use Rattle.form_expr.specs.declared.pending.Pending.{Pending}
use Rattle.form_expr.specs.declared.pending.Pending.TheVariants as pend
use Rattle.form_expr.specs.declared.expected.Expected.{Expected}
use Rattle.form_expr.specs.declared.expected.Expected.TheVariants as want
use Rattle.form_expr.specs.Words.{function_of, arguments, is_number_taken, is_more_taken, may_take, takes_more}
use Rattle.form_expr.specs.Precedence.{Link, alone}
use Rattle.form_expr.specs.Grammar.{rows_of, IsOperand, AreArgs, AreLinks, IsExpr, IsWholeExpr, IsWholeItemset, Begins, number, column, negative, group, call_alone, call, item, first, next, none, grouped, all_rows, filtered}
use Rattle.form_expr.specs.Machine.{State, has_room, is_inside}
use Rattle.form_expr.proofs.Trees.{after_links, some_tree, same_links}
use Rattle.form_expr.proofs.Stands.{room, all_args, Based, Before, nothing, in_itemset, in_group, in_call, in_filter, operators, minus, operand_at, room_more, IsBehind, RowsBefore, rows_outside, rows_alone, IsInRows, IsInCall, StandsAt, Stands, may_be_ended}

abbrev pub WholeBegins : Bool → List Token → Type 0
WholeBegins false ts = Begins IsWholeExpr ts
WholeBegins true ts = Begins IsWholeItemset ts

pub front_begins : (set : Bool) (ts us : List Token) → WholeBegins set (ts ++ us) → WholeBegins set ts
front_begins false ts us b = record { more = us ++ b.more; whole = b.whole; is_whole = subst (λ (x : List Token). IsWholeExpr x b.whole) (append_assoc ts us b.more) b.is_whole }
front_begins true ts us b = record { more = us ++ b.more; whole = b.whole; is_whole = subst (λ (x : List Token). IsWholeItemset x b.whole) (append_assoc ts us b.more) b.is_whole }

begins_as : (set : Bool) (ts us : List Token) → ts ≡ us → WholeBegins set ts → WholeBegins set us
begins_as set ts us e b = subst (λ (x : List Token). WholeBegins set x) e b

-- ---- the shortest of what is missing

nought_operand : (inside : Bool) (n : ℕ) → IsOperand inside n (tok.Digits (pos 0) ∷ []) (syn.Number (pos 0))
nought_operand inside n = number inside n (pos 0)

nought_expr : (inside : Bool) (n : ℕ) → IsExpr inside n (tok.Digits (pos 0) ∷ []) (syn.Number (pos 0))
nought_expr inside n = grouped inside n [] (tok.Digits (pos 0) ∷ []) [] (syn.Number (pos 0)) (syn.Number (pos 0)) (none inside n) (nought_operand inside n) (alone (syn.Number (pos 0)))

-- arguments, and as many more as the function wants
pub record AreFilled (inside : Bool) (n : ℕ) (ts : List Token) (func : Func) : Type 0 where
  pub more : List Token
  pub args : List Syntax
  pub last : Syntax
  pub are_args : AreArgs inside n (ts ++ more) args last
  pub takes : may_take func (length args + 1) ≡ true

fill : (missing : ℕ) (inside : Bool) (n : ℕ) (ts : List Token) (args : List Syntax) (last : Syntax) (func : Func) → AreArgs inside n ts args last → may_take func ((length args + 1) + missing) ≡ true → AreFilled inside n ts func
fill zero inside n ts args last func a takes = record {
  more = [];
  args = args;
  last = last;
  are_args = subst (λ (x : List Token). AreArgs inside n x args last) (sym (append-nil ts)) a;
  takes = ap (λ (m : ℕ). may_take func m) (omega arith) ∙ takes;
}
fill (suc missing) inside n ts args last func a takes =
    let longer = next inside n ts (tok.Digits (pos 0) ∷ []) args last (syn.Number (pos 0)) a (nought_expr inside n) in
    let long : length (args ++ last ∷ []) ≡ length args + 1 = length-append args (last ∷ []) in
    let enough : may_take func ((length (args ++ last ∷ []) + 1) + missing) ≡ true = ap (λ (m : ℕ). may_take func m) (omega (arith, long)) ∙ takes in
    let rest = fill missing inside n (ts ++ tok.Comma ∷ tok.Digits (pos 0) ∷ []) (args ++ last ∷ []) (syn.Number (pos 0)) func longer enough in
    record {
      more = tok.Comma ∷ tok.Digits (pos 0) ∷ rest.more;
      args = rest.args;
      last = rest.last;
      are_args = subst (λ (x : List Token). AreArgs inside n x rest.args rest.last) (append_assoc ts (tok.Comma ∷ tok.Digits (pos 0) ∷ []) rest.more) rest.are_args;
      takes = rest.takes;
    }

missing_of : (o : Option ℕ) (n : ℕ) → is_more_taken o n ≡ true → (missing : ℕ) × (is_number_taken o ((n + 1) + missing) ≡ true)
missing_of None n h = (0, lt-ltb 0 ((n + 1) + 0) (omega arith))
missing_of (Some k) n h = let lt = ltb-true n k h in (k - (n + 1), eq-eqb ((n + 1) + (k - (n + 1))) k (omega (arith, lt)))

filled : (inside : Bool) (n : ℕ) (ts : List Token) (args : List Syntax) (last : Syntax) (func : Func) → AreArgs inside n ts args last → takes_more func (length args) ≡ true → AreFilled inside n ts func
filled inside n ts args last func a more = let m = missing_of (arguments func) (length args) more in fill m.0 inside n ts args last func a m.1

takes_from : (o : Option ℕ) → is_number_taken o 0 ≡ false → is_more_taken o 0 ≡ true
takes_from None h = refl
takes_from (Some zero) h = absurd cc
takes_from (Some (suc n)) h = lt-ltb 0 (suc n) (omega arith)

-- ---- closing

abbrev OperandsBegin : Bool → List Pending → List Token → Type 0
OperandsBegin set k ts = (vs : List Token) (x : Syntax) → IsOperand (is_inside k) (room k) vs x → WholeBegins set (ts ++ vs)

abbrev ExprsBegin : Bool → List Pending → List Token → Type 0
ExprsBegin set k ts = (us : List Token) (e : Syntax) → IsExpr (is_inside k) (room k) us e → WholeBegins set (ts ++ us)

-- an operand one level deeper
deeper : (k : List Pending) (vs : List Token) (x : Syntax) → has_room k ≡ true → IsOperand (is_inside k) (suc (room (pend.Group ∷ k))) vs x → IsOperand (is_inside k) (room k) vs x
deeper k vs x r h = operand_at (is_inside k) (is_inside k) (suc (room (pend.Group ∷ k))) (room k) vs x refl (room_more k r) h

group_begins : (set : Bool) (k : List Pending) (before us : List Token) (e : Syntax) → has_room k ≡ true → IsExpr (is_inside k) (room (pend.Group ∷ k)) us e → OperandsBegin set k before → WholeBegins set ((before ++ tok.Open ∷ []) ++ us)
group_begins set k before us e r h begin =
    let whole = begin (tok.Open ∷ (us ++ tok.Close ∷ [])) e (deeper k (tok.Open ∷ (us ++ tok.Close ∷ [])) e r (group (is_inside k) (room (pend.Group ∷ k)) us e h)) in
    let assoc : before ++ (tok.Open ∷ (us ++ tok.Close ∷ [])) ≡ ((before ++ tok.Open ∷ []) ++ us) ++ tok.Close ∷ [] =
    sym (append_assoc (before ++ tok.Open ∷ []) us (tok.Close ∷ []) ∙ append_assoc before (tok.Open ∷ []) (us ++ tok.Close ∷ [])) in
    front_begins set ((before ++ tok.Open ∷ []) ++ us) (tok.Close ∷ []) (begins_as set (before ++ (tok.Open ∷ (us ++ tok.Close ∷ []))) (((before ++ tok.Open ∷ []) ++ us) ++ tok.Close ∷ []) assoc whole)

call_begins : (set : Bool) (k : List Pending) (before vs us : List Token) (name : List ℕ) (func : Func) (args : List Syntax) (e : Syntax) → has_room k ≡ true → function_of name ≡ Some func
    → AreArgs (is_inside k) (room (pend.Group ∷ k)) (vs ++ us) args e → takes_more func (length args) ≡ true → OperandsBegin set k before → WholeBegins set ((before ++ tok.Name name ∷ tok.Open ∷ vs) ++ us)
call_begins set k before vs us name func args e r named a takes begin =
    let f = filled (is_inside k) (room (pend.Group ∷ k)) (vs ++ us) args e func a takes in
    let tokens = tok.Name name ∷ tok.Open ∷ (((vs ++ us) ++ f.more) ++ tok.Close ∷ []) in
    let whole = begin tokens (syn.Call func (f.args ++ f.last ∷ [])) (deeper k tokens (syn.Call func (f.args ++ f.last ∷ [])) r (call (is_inside k) (room (pend.Group ∷ k)) name func ((vs ++ us) ++ f.more) f.args f.last named f.are_args f.takes)) in
    let inner : ((vs ++ us) ++ f.more) ++ tok.Close ∷ [] ≡ vs ++ (us ++ (f.more ++ tok.Close ∷ [])) =
    append_assoc (vs ++ us) f.more (tok.Close ∷ []) ∙ append_assoc vs us (f.more ++ tok.Close ∷ []) in
    let assoc : before ++ tokens ≡ ((before ++ tok.Name name ∷ tok.Open ∷ vs) ++ us) ++ (f.more ++ tok.Close ∷ []) =
    ap (λ (x : List Token). before ++ (tok.Name name ∷ tok.Open ∷ x)) inner ∙ sym (append_assoc (before ++ tok.Name name ∷ tok.Open ∷ vs) us (f.more ++ tok.Close ∷ []) ∙ append_assoc before (tok.Name name ∷ tok.Open ∷ vs) (us ++ (f.more ++ tok.Close ∷ []))) in
    front_begins set ((before ++ tok.Name name ∷ tok.Open ∷ vs) ++ us) (f.more ++ tok.Close ∷ []) (begins_as set (before ++ tokens) (((before ++ tok.Name name ∷ tok.Open ∷ vs) ++ us) ++ (f.more ++ tok.Close ∷ [])) assoc whole)

-- the rows of a table with a filter and a column
item_begins : (set : Bool) (k : List Pending) (before us : List Token) (table : List ℕ) (e : Syntax) → has_room k ≡ true → is_inside k ≡ false → IsExpr true (room (pend.Group ∷ k)) us e → OperandsBegin set k before
    → WholeBegins set (before ++ (rows_of table ++ tok.OpenBracket ∷ (us ++ tok.CloseBracket ∷ tok.Absolute (47 ∷ 99 ∷ []) ∷ [])))
item_begins set k before us table e r i h begin =
    let tokens = rows_of table ++ tok.OpenBracket ∷ (us ++ tok.CloseBracket ∷ tok.Absolute (47 ∷ 99 ∷ []) ∷ []) in
    let operand = operand_at false (is_inside k) (suc (room (pend.Group ∷ k))) (room k) tokens (syn.Item table e (99 ∷ [])) (sym i) (room_more k r) (item (room (pend.Group ∷ k)) table us e (99 ∷ []) h refl) in
    begin tokens (syn.Item table e (99 ∷ [])) operand

filter_begins : (set : Bool) (k : List Pending) (before us : List Token) (table : List ℕ) (e : Syntax) → has_room k ≡ true → is_inside k ≡ false → IsExpr true (room (pend.Group ∷ k)) us e → OperandsBegin set k before
    → WholeBegins set ((before ++ (rows_of table ++ tok.OpenBracket ∷ [])) ++ us)
filter_begins set k before us table e r i h begin =
    let whole = item_begins set k before us table e r i h begin in
    let closes = tok.CloseBracket ∷ tok.Absolute (47 ∷ 99 ∷ []) ∷ [] in
    let assoc : before ++ (rows_of table ++ tok.OpenBracket ∷ (us ++ closes)) ≡ ((before ++ (rows_of table ++ tok.OpenBracket ∷ [])) ++ us) ++ closes =
    sym (append_assoc (before ++ (rows_of table ++ tok.OpenBracket ∷ [])) us closes ∙ append_assoc before (rows_of table ++ tok.OpenBracket ∷ []) (us ++ closes)) in
    front_begins set ((before ++ (rows_of table ++ tok.OpenBracket ∷ [])) ++ us) closes (begins_as set (before ++ (rows_of table ++ tok.OpenBracket ∷ (us ++ closes))) (((before ++ (rows_of table ++ tok.OpenBracket ∷ [])) ++ us) ++ closes) assoc whole)

links_begin : (set : Bool) (k : List Pending) (before us vs : List Token) (ls : List Link) (x : Syntax) → AreLinks (is_inside k) (room k) us ls → IsOperand (is_inside (after_links k ls)) (room (after_links k ls)) vs x → ExprsBegin set k before
    → WholeBegins set ((before ++ us) ++ vs)
links_begin set k before us vs ls x l h begin =
    let same = same_links ls k in
    let operand = operand_at (is_inside (after_links k ls)) (is_inside k) (room (after_links k ls)) (room k) vs x same.insides (ap (λ (n : ℕ). 32 - n) same.depths) h in
    let tree = some_tree ls x in
    begins_as set (before ++ (us ++ vs)) ((before ++ us) ++ vs) (sym (append_assoc before us vs)) (begin (us ++ vs) tree.0 (grouped (is_inside k) (room k) us vs ls x tree.0 l operand tree.1))

minus_begins : (set : Bool) (k : List Pending) (before vs : List Token) (x : Syntax) → IsOperand (is_inside (pend.Minus ∷ k)) (room (pend.Minus ∷ k)) vs x → OperandsBegin set k before → WholeBegins set ((before ++ tok.Minus ∷ []) ++ vs)
minus_begins set k before vs x h begin =
    let operand = operand_at (is_inside k) (is_inside k) (room (pend.Minus ∷ k)) (room k) vs x refl (omega arith) h in
    begins_as set (before ++ (tok.Minus ∷ vs)) ((before ++ tok.Minus ∷ []) ++ vs) (sym (append_assoc before (tok.Minus ∷ []) vs)) (begin (tok.Minus ∷ vs) (syn.Negative x) (negative (is_inside k) (room k) vs x operand))

mutual
  pub based_begins : (set : Bool) (k : List Pending) (ts : List Token) → Based set k ts → (us : List Token) (e : Syntax) → IsExpr (is_inside k) (room k) us e → WholeBegins set (ts ++ us)
  based_begins set k ts nothing us e h = record { more = []; whole = e; is_whole = subst (λ (x : List Token). IsWholeExpr x e) (sym (append-nil us)) h }
  based_begins set k ts (in_itemset table) us e h = record { more = tok.CloseBracket ∷ []; whole = record { table = table; filter = Some e }; is_whole = filtered 31 table us e h }
  based_begins set k ts (in_group _ outer before b r) us e h =
      group_begins set outer before us e r h (λ vs x o. before_begins set outer before b vs x o)
  based_begins set k ts (in_call _ outer before vs name func args b r named a takes) us e h =
      call_begins set outer before vs us name func args e r named (all_args (is_inside outer) (room (pend.Group ∷ outer)) vs us args e a h) takes (λ ws x o. before_begins set outer before b ws x o)
  based_begins set k ts (in_filter _ outer before table b r i) us e h =
      filter_begins set outer before us table e r i h (λ vs x o. before_begins set outer before b vs x o)

  pub before_begins : (set : Bool) (k : List Pending) (ts : List Token) → Before set k ts → (vs : List Token) (x : Syntax) → IsOperand (is_inside k) (room k) vs x → WholeBegins set (ts ++ vs)
  before_begins set k ts (operators _ base before us ls b l) vs x h =
      links_begin set base before us vs ls x l h (λ ws e g. based_begins set base before b ws e g)
  before_begins set k ts (minus _ outer before b) vs x h =
      minus_begins set outer before vs x h (λ ws y o. before_begins set outer before b ws y o)

-- ---- each state

-- some call with this name
pub record IsCallOf (inside : Bool) (n : ℕ) (name : List ℕ) : Type 0 where
  pub rest : List Token
  pub whole : Syntax
  pub operand : IsOperand inside (suc n) (tok.Name name ∷ tok.Open ∷ rest) whole

some_call : (inside : Bool) (n : ℕ) (name : List ℕ) (func : Func) → function_of name ≡ Some func → IsCallOf inside n name
some_call inside n name func named =
    elim (may_take func 0) as (λ (v : Bool). may_take func 0 ≡ v → IsCallOf inside n name) [
      | true ↦ λ takes. record { rest = tok.Close ∷ []; whole = syn.Call func []; operand = call_alone inside n name func named takes }
      | false ↦ λ takes. (
          let f = filled inside n (tok.Digits (pos 0) ∷ []) [] (syn.Number (pos 0)) func (first inside n (tok.Digits (pos 0) ∷ []) (syn.Number (pos 0)) (nought_expr inside n)) (takes_from (arguments func) takes) in
          record { rest = ((tok.Digits (pos 0) ∷ []) ++ f.more) ++ tok.Close ∷ []; whole = syn.Call func (f.args ++ f.last ∷ []); operand = call inside n name func ((tok.Digits (pos 0) ∷ []) ++ f.more) f.args f.last named f.are_args f.takes })
    ] refl

call_begins_at : (set : Bool) (k : List Pending) (func : Func) (ts : List Token) → IsInCall set k func [] ts → WholeBegins set ts
call_begins_at set k func ts (before, name, b, r, named, e) =
    let c = some_call (is_inside k) (room (pend.Group ∷ k)) name func named in
    let whole = before_begins set k before b (tok.Name name ∷ tok.Open ∷ c.rest) c.whole (deeper k (tok.Name name ∷ tok.Open ∷ c.rest) c.whole r c.operand) in
    let assoc : before ++ (tok.Name name ∷ tok.Open ∷ c.rest) ≡ ts ++ (tok.Open ∷ c.rest) = sym (append_assoc before (tok.Name name ∷ []) (tok.Open ∷ c.rest)) ∙ ap (λ (x : List Token). x ++ (tok.Open ∷ c.rest)) (sym e) in
    front_begins set ts (tok.Open ∷ c.rest) (begins_as set (before ++ (tok.Name name ∷ tok.Open ∷ c.rest)) (ts ++ (tok.Open ∷ c.rest)) assoc whole)

closing_begins : (set : Bool) (k : List Pending) (func : Func) (ts : List Token) → IsInCall set k func (tok.Open ∷ []) ts → may_take func 0 ≡ true → WholeBegins set ts
closing_begins set k func ts (before, name, b, r, named, e) takes =
    let tokens = tok.Name name ∷ tok.Open ∷ tok.Close ∷ [] in
    let whole = before_begins set k before b tokens (syn.Call func []) (deeper k tokens (syn.Call func []) r (call_alone (is_inside k) (room (pend.Group ∷ k)) name func named takes)) in
    let assoc : before ++ tokens ≡ ts ++ tok.Close ∷ [] = sym (append_assoc before (tok.Name name ∷ tok.Open ∷ []) (tok.Close ∷ [])) ∙ ap (λ (x : List Token). x ++ tok.Close ∷ []) (sym e) in
    front_begins set ts (tok.Close ∷ []) (begins_as set (before ++ tokens) (ts ++ tok.Close ∷ []) assoc whole)

rows_begin : (set : Bool) (k : List Pending) (before : List Token) (table : List ℕ) → RowsBefore set k before → WholeBegins set (before ++ rows_of table)
rows_begin set k before table (rows_outside _ _ _ b r i) =
    let closes = tok.OpenBracket ∷ tok.Digits (pos 0) ∷ tok.CloseBracket ∷ tok.Absolute (47 ∷ 99 ∷ []) ∷ [] in
    let whole = item_begins set k before (tok.Digits (pos 0) ∷ []) table (syn.Number (pos 0)) r i (nought_expr true (room (pend.Group ∷ k))) (λ vs x o. before_begins set k before b vs x o) in
    front_begins set (before ++ rows_of table) closes (begins_as set (before ++ (rows_of table ++ closes)) ((before ++ rows_of table) ++ closes) (sym (append_assoc before (rows_of table) closes)) whole)
rows_begin set k before table rows_alone = record { more = []; whole = record { table = table; filter = None }; is_whole = all_rows 31 table }

-- a part of the rows
part_begins : (set : Bool) (k : List Pending) (part rest : List Token) (table : List ℕ) (ts : List Token) → part ++ rest ≡ rows_of table → IsInRows set k part ts → WholeBegins set ts
part_begins set k part rest table ts whole (before, r, e) =
    let assoc : before ++ rows_of table ≡ ts ++ rest = ap (λ (x : List Token). before ++ x) (sym whole) ∙ sym (append_assoc before part rest) ∙ ap (λ (x : List Token). x ++ rest) (sym e) in
    front_begins set ts rest (begins_as set (before ++ rows_of table) (ts ++ rest) assoc (rows_begin set k before table r))

value_begins : (set : Bool) (k : List Pending) (before us : List Token) (table : List ℕ) (e : Syntax) → RowsBefore set k before → IsExpr true (room (pend.Group ∷ k)) us e
    → WholeBegins set (before ++ (rows_of table ++ tok.OpenBracket ∷ (us ++ tok.CloseBracket ∷ [])))
value_begins set k before us table e (rows_outside _ _ _ b r i) h =
    let closes = tok.Absolute (47 ∷ 99 ∷ []) ∷ [] in
    let whole = item_begins set k before us table e r i h (λ vs x o. before_begins set k before b vs x o) in
    let front = rows_of table ++ tok.OpenBracket ∷ (us ++ tok.CloseBracket ∷ []) in
    let assoc : before ++ (rows_of table ++ tok.OpenBracket ∷ (us ++ tok.CloseBracket ∷ closes)) ≡ (before ++ front) ++ closes =
    sym (append_assoc before front closes ∙ ap (λ (x : List Token). before ++ (rows_of table ++ tok.OpenBracket ∷ x)) (append_assoc us (tok.CloseBracket ∷ []) closes)) in
    front_begins set (before ++ front) closes (begins_as set (before ++ (rows_of table ++ tok.OpenBracket ∷ (us ++ tok.CloseBracket ∷ closes))) ((before ++ front) ++ closes) assoc whole)
value_begins set k before us table e rows_alone h = record { more = []; whole = record { table = table; filter = Some e }; is_whole = subst (λ (x : List Token). IsWholeItemset (rows_of table ++ tok.OpenBracket ∷ x) (record { table = table; filter = Some e })) (sym (append-nil (us ++ tok.CloseBracket ∷ []))) (filtered 31 table us e h) }

behind_begins : (set : Bool) (k : List Pending) (x : Syntax) (ts : List Token) → IsBehind set k x ts → WholeBegins set ts
behind_begins set k x ts b =
    let h = may_be_ended set k x ts b in
    begins_as set (h.before ++ h.inner) ts (sym h.tokens) (based_begins set h.base h.before h.based h.inner h.whole h.expr)

stands_begin_at : (set : Bool) (w : Expected) (k : List Pending) (ts : List Token) → StandsAt set w k ts → WholeBegins set ts
stands_begin_at set want.Operand k ts h = front_begins set ts (tok.Digits (pos 0) ∷ []) (before_begins set k ts h (tok.Digits (pos 0) ∷ []) (syn.Number (pos 0)) (nought_operand (is_inside k) (room k)))
stands_begin_at set (want.Operator x) k ts h = behind_begins set k x ts h
stands_begin_at set (want.Named name) k ts (before, b, i, e) =
    begins_as set (before ++ tok.Name name ∷ []) ts (sym e) (before_begins set k before b (tok.Name name ∷ []) (syn.Column name) (operand_at true (is_inside k) (room k) (room k) (tok.Name name ∷ []) (syn.Column name) (sym i) refl (column (room k) name)))
stands_begin_at set (want.CallOpening func) k ts h = call_begins_at set k func ts h
stands_begin_at set (want.CallClosing func) k ts (h, takes) = closing_begins set k func ts h takes
stands_begin_at set want.Instance k ts (is, stack, e) = subst (λ (b : Bool). WholeBegins b ts) (sym is) (subst (λ (x : List Token). WholeBegins true x) (sym e) (record { more = rows_of []; whole = record { table = []; filter = None }; is_whole = all_rows 31 [] }))
stands_begin_at set want.TableOpening k ts h = part_begins set k (tok.Name (codes "instance") ∷ []) (tok.Open ∷ tok.Quoted [] ∷ tok.Close ∷ tok.Absolute (codes "/root/item") ∷ []) [] ts refl h
stands_begin_at set want.Table k ts h = part_begins set k (tok.Name (codes "instance") ∷ tok.Open ∷ []) (tok.Quoted [] ∷ tok.Close ∷ tok.Absolute (codes "/root/item") ∷ []) [] ts refl h
stands_begin_at set (want.TableClosing table) k ts h = part_begins set k (tok.Name (codes "instance") ∷ tok.Open ∷ tok.Quoted table ∷ []) (tok.Close ∷ tok.Absolute (codes "/root/item") ∷ []) table ts refl h
stands_begin_at set (want.Rows table) k ts h = part_begins set k (tok.Name (codes "instance") ∷ tok.Open ∷ tok.Quoted table ∷ tok.Close ∷ []) (tok.Absolute (codes "/root/item") ∷ []) table ts refl h
stands_begin_at set (want.FilterOpening table) k ts h = part_begins set k (rows_of table) [] table ts refl h
stands_begin_at set (want.Value table filter) k ts (before, us, r, h, e) =
    begins_as set (before ++ (rows_of table ++ tok.OpenBracket ∷ (us ++ tok.CloseBracket ∷ []))) ts (sym e) (value_begins set k before us table filter r h)

pub stands_begin : (set : Bool) (s : State) (ts : List Token) → Stands set s ts → WholeBegins set ts
stands_begin set s ts h = stands_begin_at set s.expected s.stack ts h
