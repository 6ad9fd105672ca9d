-- A step keeps what the stack stands for, with one more token.
use Rattle.std.proofs.Common.{◌≡◌, ℕ, zero, suc, ◌+◌, ◌==◌, Bool, true, false, cond, List, [], ◌∷◌, ◌++◌, codes, length, Option, Some, None, refl, sym, ap, subst, ◌∙◌, arith, append_assoc}
use Rattle.std.specs.List.{list_all}
use Rattle.std.specs.Str.{bytes_eq}
use Rattle.std.proofs.lemmas.Bool.{eqb-true, lt-ltb}
use Rattle.std.proofs.lemmas.List.{length-append}
use Rattle.rosa_pieces.specs.Reading.{◌>>=◌}
use Rattle.rosa_pieces.proofs.Steps.{bind_some, chosen_some, some_is}
use Rattle.form_def.specs.declared.expr.Func.{Func}
use Rattle.form_def.specs.declared.expr.Op.{Op}
use Rattle.form_tokens.specs.declared.token.Token.{Token}
use Rattle.form_tokens.specs.declared.token.Token.TheVariants as tok
use Rattle.form_expr.specs.declared.syntax.Syntax.{Syntax}
use Rattle.form_expr.specs.declared.syntax.Syntax.TheVariants as syn
use Rattle.form_expr.specs.declared.syntax.Itemset.{Itemset}
use Rattle.form_expr.specs.declared.pending.Pending.{Pending}
use Rattle.form_expr.specs.declared.pending.Pending.TheVariants as pend
use Rattle.form_expr.specs.declared.expected.Expected.{Expected}
use Rattle.form_expr.specs.declared.expected.Expected.TheVariants as want
use Rattle.form_expr.specs.Words.{operator_of, function_of, arguments, is_number_taken, is_more_taken, may_take, takes_more, is_no_slash}
use Rattle.form_expr.specs.Precedence.{level}
use Rattle.form_expr.specs.Grammar.{rows_of, IsOperand, IsExpr, IsWholeExpr, IsWholeItemset, number, text, period, absolute, relative, column, group, call_alone, call, item, link, all_rows, filtered}
use Rattle.form_expr.specs.Machine.{State, at, has_room, is_inside, is_in_itemset, bound_by, behind, before_operand, with_operator, step, step_at, when, opened_call, word_step, name_step, outside_step, group_step, operand_step, close_step, comma_step, bracket_step, end_step, operator_or_end, operator_step, call_step, column_step, named_step, is_open, is_close, is_open_bracket, is_instance, is_rows, table_step, column_of_path, column_of, value_step, expr_start, expr_end, expr_end_at, itemset_start, itemset_end, itemset_end_at, when_alone}
use Rattle.form_expr.proofs.Trees.{push, after_links, after_append}
use Rattle.form_expr.proofs.Complete.{same_bytes}
use Rattle.form_expr.proofs.Stands.{room, no_args, more_args, all_args, Based, Before, nothing, in_itemset, in_group, in_call, in_filter, operators, minus, based_before, before_outside, operand_at, room_more, IsBehind, AreArgsBefore, RowsBefore, rows_outside, rows_alone, IsInRows, IsInCall, StandsAt, Stands, operand_stands, may_be_ended}

when_true : {A : Type 0} (b : Bool) (x y : A) → when b x ≡ Some y → (b ≡ true) × (x ≡ y)
when_true true x y e = (refl, some_is x y e)
when_true false x y e = absurd cc

given_some : {A : Type 0} (b : Bool) (x y : A) → cond b (Some x) None ≡ Some y → (b ≡ true) × (x ≡ y)
given_some true x y e = (refl, some_is x y e)
given_some false x y e = absurd cc

unless_some : {A : Type 0} (b : Bool) (x y : A) → cond b None (Some x) ≡ Some y → (b ≡ false) × (x ≡ y)
unless_some true x y e = absurd cc
unless_some false x y e = (refl, some_is x y e)

stands_as : (set : Bool) (s u : State) (ts us : List Token) → s ≡ u → ts ≡ us → Stands set s ts → Stands set u us
stands_as set s u ts us e f h = subst (λ (x : State). Stands set x us) e (subst (λ (x : List Token). Stands set s x) f h)

-- ---- calls

takes_from : (o : Option ℕ) → is_number_taken o 0 ≡ false → is_more_taken o 0 ≡ true
takes_from None h = refl
takes_from (Some zero) h = absurd cc
takes_from (Some (suc n)) h = lt-ltb 0 (suc n) (omega arith)

opened_stands : (set : Bool) (k : List Pending) (before : List Token) (name : List ℕ) (func : Func) → Before set k before → has_room k ≡ true → function_of name ≡ Some func → Stands set (opened_call func k) (before ++ tok.Name name ∷ tok.Open ∷ [])
opened_stands set k before name func b r named =
    elim (may_take func 0) as (λ (v : Bool). may_take func 0 ≡ v → Stands set (cond v (at k (want.CallClosing func)) (before_operand (pend.Call func []) k)) (before ++ tok.Name name ∷ tok.Open ∷ [])) [
      | true ↦ λ e. ((before, name, b, r, named, refl), e)
      | false ↦ λ e. based_before set (pend.Call func [] ∷ k) (before ++ tok.Name name ∷ tok.Open ∷ []) (in_call set k before [] name func [] b r named (no_args (is_inside k) (room (pend.Group ∷ k))) (takes_from (arguments func) e))
    ] refl

-- ---- operands

snoc_of : (before vs : List Token) (t : Token) → before ++ (vs ++ t ∷ []) ≡ (before ++ vs) ++ t ∷ []
snoc_of before vs t = sym (append_assoc before vs (t ∷ []))

operand_goes : (set : Bool) (k : List Pending) (ts : List Token) → Before set k ts → (t : Token) (x : Syntax) (u : State) → IsOperand (is_inside k) (room k) (t ∷ []) x → Some (behind k x) ≡ Some u → Stands set u (ts ++ t ∷ [])
operand_goes set k ts b t x u h e = subst (λ (s : State). Stands set s (ts ++ t ∷ [])) (some_is (behind k x) u e) (operand_stands set k ts b (t ∷ []) x h)

outside_goes : (set : Bool) (k : List Pending) (ts : List Token) → Before set k ts → (t : Token) (x : Syntax) (u : State) → IsOperand false (room k) (t ∷ []) x → outside_step k x ≡ Some u → Stands set u (ts ++ t ∷ [])
outside_goes set k ts b t x u h e =
    let g = unless_some (is_inside k) (behind k x) u e in
    operand_goes set k ts b t x u (operand_at false (is_inside k) (room k) (room k) (t ∷ []) x (sym g.0) refl h) (ap (λ (s : State). Some s) g.1)

word_goes : (set : Bool) (k : List Pending) (ts : List Token) → Before set k ts → is_inside k ≡ false → has_room k ≡ true → (name : List ℕ) (u : State) → word_step k name ≡ Some u → Stands set u (ts ++ tok.Name name ∷ [])
word_goes set k ts b i r name u e =
    elim (bytes_eq name (codes "instance")) as (λ (v : Bool). bytes_eq name (codes "instance") ≡ v → cond v (Some (at k want.TableOpening)) (function_of name >>= λ func. Some (at k (want.CallOpening func))) ≡ Some u → Stands set u (ts ++ tok.Name name ∷ [])) [
      | true ↦ λ is f. stands_as set (at k want.TableOpening) u (ts ++ tok.Name (codes "instance") ∷ []) (ts ++ tok.Name name ∷ []) (some_is (at k want.TableOpening) u f)
          (ap (λ (n : List ℕ). ts ++ tok.Name n ∷ []) (sym (same_bytes name (codes "instance") is))) (ts, rows_outside set k ts b r i, refl)
      | false ↦ λ is f. (let g = bind_some (function_of name) (λ (func : Func). Some (at k (want.CallOpening func))) u f in
          subst (λ (s : State). Stands set s (ts ++ tok.Name name ∷ [])) (some_is (at k (want.CallOpening g.0)) u g.2) (ts, name, b, r, g.1, refl))
    ] refl e

name_goes : (set : Bool) (k : List Pending) (ts : List Token) → Before set k ts → (name : List ℕ) (u : State) → name_step k name ≡ Some u → Stands set u (ts ++ tok.Name name ∷ [])
name_goes set k ts b name u e =
    elim (is_inside k) as (λ (v : Bool). is_inside k ≡ v → cond v (Some (at k (want.Named name))) (cond (has_room k) (word_step k name) None) ≡ Some u → Stands set u (ts ++ tok.Name name ∷ [])) [
      | true ↦ λ i f. subst (λ (s : State). Stands set s (ts ++ tok.Name name ∷ [])) (some_is (at k (want.Named name)) u f) (ts, b, i, refl)
      | false ↦ λ i f. (let g = chosen_some (has_room k) (word_step k name) u f in word_goes set k ts b i g.0 name u g.1)
    ] refl e

group_goes : (set : Bool) (k : List Pending) (ts : List Token) → Before set k ts → (u : State) → group_step k ≡ Some u → Stands set u (ts ++ tok.Open ∷ [])
group_goes set k ts b u e =
    let g = given_some (has_room k) (before_operand pend.Group k) u e in
    subst (λ (s : State). Stands set s (ts ++ tok.Open ∷ [])) g.1 (based_before set (pend.Group ∷ k) (ts ++ tok.Open ∷ []) (in_group set k ts b g.0))

operand_step_goes : (set : Bool) (k : List Pending) (ts : List Token) → Before set k ts → (t : Token) (u : State) → operand_step k t ≡ Some u → Stands set u (ts ++ t ∷ [])
operand_step_goes set k ts b (tok.Digits n) u e = operand_goes set k ts b (tok.Digits n) (syn.Number n) u (number (is_inside k) (room k) n) e
operand_step_goes set k ts b (tok.Quoted words) u e = operand_goes set k ts b (tok.Quoted words) (syn.Words words) u (text (is_inside k) (room k) words) e
operand_step_goes set k ts b (tok.Absolute path) u e = operand_goes set k ts b (tok.Absolute path) (syn.Path path) u (absolute (is_inside k) (room k) path) e
operand_step_goes set k ts b (tok.Relative path) u e = outside_goes set k ts b (tok.Relative path) (syn.Path path) u (relative (room k) path) e
operand_step_goes set k ts b tok.Dot u e = outside_goes set k ts b tok.Dot syn.Own u (period (room k)) e
operand_step_goes set k ts b (tok.Name name) u e = name_goes set k ts b name u e
operand_step_goes set k ts b tok.Minus u e = subst (λ (s : State). Stands set s (ts ++ tok.Minus ∷ [])) (some_is (before_operand pend.Minus k) u e) (minus set k ts b)
operand_step_goes set k ts b tok.Open u e = group_goes set k ts b u e
operand_step_goes set k ts b _ u e = absurd cc

-- ---- what ends an expression

abbrev EndGoes : Bool → List Pending → List Token → (List Pending × Syntax → Option State) → Token → Type 0
EndGoes set base before end t = (inner : List Token) (e : Syntax) → IsExpr (is_inside base) (room base) inner e → (u : State) → end (base, e) ≡ Some u → Stands set u ((before ++ inner) ++ t ∷ [])

group_closes : (set : Bool) (k : List Pending) (ts : List Token) → Before set k ts → has_room k ≡ true → EndGoes set (pend.Group ∷ k) (ts ++ tok.Open ∷ []) close_step tok.Close
group_closes set k ts b r inner e h u is =
    let operand = operand_at (is_inside k) (is_inside k) (suc (room (pend.Group ∷ k))) (room k) (tok.Open ∷ (inner ++ tok.Close ∷ [])) e refl (room_more k r) (group (is_inside k) (room (pend.Group ∷ k)) inner e h) in
    let assoc : ts ++ (tok.Open ∷ (inner ++ tok.Close ∷ [])) ≡ ((ts ++ tok.Open ∷ []) ++ inner) ++ tok.Close ∷ [] =
    sym (append_assoc ts (tok.Open ∷ []) (inner ++ tok.Close ∷ [])) ∙ snoc_of (ts ++ tok.Open ∷ []) inner tok.Close in
    stands_as set (behind k e) u (ts ++ (tok.Open ∷ (inner ++ tok.Close ∷ []))) (((ts ++ tok.Open ∷ []) ++ inner) ++ tok.Close ∷ []) (some_is (behind k e) u is) assoc (operand_stands set k ts b (tok.Open ∷ (inner ++ tok.Close ∷ [])) e operand)

long_by_one : (args : List Syntax) (e : Syntax) → length (args ++ e ∷ []) ≡ length args + 1
long_by_one args e = length-append args (e ∷ [])

call_assoc : (ts us inner : List Token) (name : List ℕ) (t : Token) → ts ++ (tok.Name name ∷ tok.Open ∷ ((us ++ inner) ++ t ∷ [])) ≡ ((ts ++ tok.Name name ∷ tok.Open ∷ us) ++ inner) ++ t ∷ []
call_assoc ts us inner name t =
    sym (ap (λ (x : List Token). x ++ t ∷ []) (append_assoc ts (tok.Name name ∷ tok.Open ∷ us) inner) ∙ append_assoc ts (tok.Name name ∷ tok.Open ∷ (us ++ inner)) (t ∷ []))

call_closes : (set : Bool) (k : List Pending) (ts us : List Token) (name : List ℕ) (func : Func) (args : List Syntax) → Before set k ts → has_room k ≡ true → function_of name ≡ Some func
    → AreArgsBefore (is_inside k) (room (pend.Group ∷ k)) us args → EndGoes set (pend.Call func args ∷ k) (ts ++ tok.Name name ∷ tok.Open ∷ us) close_step tok.Close
call_closes set k ts us name func args b r named a inner e h u is =
    let g = given_some (may_take func (length (args ++ e ∷ []))) (behind k (syn.Call func (args ++ e ∷ []))) u is in
    let takes : may_take func (length args + 1) ≡ true = ap (λ (n : ℕ). may_take func n) (sym (long_by_one args e)) ∙ g.0 in
    let whole = call (is_inside k) (room (pend.Group ∷ k)) name func (us ++ inner) args e named (all_args (is_inside k) (room (pend.Group ∷ k)) us inner args e a h) takes in
    let operand = operand_at (is_inside k) (is_inside k) (suc (room (pend.Group ∷ k))) (room k) (tok.Name name ∷ tok.Open ∷ ((us ++ inner) ++ tok.Close ∷ [])) (syn.Call func (args ++ e ∷ [])) refl (room_more k r) whole in
    stands_as set (behind k (syn.Call func (args ++ e ∷ []))) u (ts ++ (tok.Name name ∷ tok.Open ∷ ((us ++ inner) ++ tok.Close ∷ []))) (((ts ++ tok.Name name ∷ tok.Open ∷ us) ++ inner) ++ tok.Close ∷ []) g.1 (call_assoc ts us inner name tok.Close)
    (operand_stands set k ts b (tok.Name name ∷ tok.Open ∷ ((us ++ inner) ++ tok.Close ∷ [])) (syn.Call func (args ++ e ∷ [])) operand)

close_goes : (set : Bool) (base : List Pending) (before : List Token) → Based set base before → EndGoes set base before close_step tok.Close
close_goes set base before nothing = λ inner e h u is. absurd cc
close_goes set base before (in_itemset table) = λ inner e h u is. absurd cc
close_goes set base before (in_group _ k ts b r) = group_closes set k ts b r
close_goes set base before (in_call _ k ts us name func args b r named a takes) = call_closes set k ts us name func args b r named a
close_goes set base before (in_filter _ k ts table b r i) = λ inner e h u is. absurd cc

call_goes_on : (set : Bool) (k : List Pending) (ts us : List Token) (name : List ℕ) (func : Func) (args : List Syntax) → Before set k ts → has_room k ≡ true → function_of name ≡ Some func
    → AreArgsBefore (is_inside k) (room (pend.Group ∷ k)) us args → EndGoes set (pend.Call func args ∷ k) (ts ++ tok.Name name ∷ tok.Open ∷ us) comma_step tok.Comma
call_goes_on set k ts us name func args b r named a inner e h u is =
    let g = given_some (takes_more func (length (args ++ e ∷ []))) (before_operand (pend.Call func (args ++ e ∷ [])) k) u is in
    let more = more_args (is_inside k) (room (pend.Group ∷ k)) us inner args e a h in
    let based = in_call set k ts (us ++ (inner ++ tok.Comma ∷ [])) name func (args ++ e ∷ []) b r named more g.0 in
    let assoc : ts ++ (tok.Name name ∷ tok.Open ∷ (us ++ (inner ++ tok.Comma ∷ []))) ≡ ((ts ++ tok.Name name ∷ tok.Open ∷ us) ++ inner) ++ tok.Comma ∷ [] =
    ap (λ (x : List Token). ts ++ (tok.Name name ∷ tok.Open ∷ x)) (snoc_of us inner tok.Comma) ∙ call_assoc ts us inner name tok.Comma in
    stands_as set (before_operand (pend.Call func (args ++ e ∷ [])) k) u (ts ++ (tok.Name name ∷ tok.Open ∷ (us ++ (inner ++ tok.Comma ∷ [])))) (((ts ++ tok.Name name ∷ tok.Open ∷ us) ++ inner) ++ tok.Comma ∷ []) g.1 assoc
    (based_before set (pend.Call func (args ++ e ∷ []) ∷ k) (ts ++ (tok.Name name ∷ tok.Open ∷ (us ++ (inner ++ tok.Comma ∷ [])))) based)

comma_goes : (set : Bool) (base : List Pending) (before : List Token) → Based set base before → EndGoes set base before comma_step tok.Comma
comma_goes set base before nothing = λ inner e h u is. absurd cc
comma_goes set base before (in_itemset table) = λ inner e h u is. absurd cc
comma_goes set base before (in_group _ k ts b r) = λ inner e h u is. absurd cc
comma_goes set base before (in_call _ k ts us name func args b r named a takes) = call_goes_on set k ts us name func args b r named a
comma_goes set base before (in_filter _ k ts table b r i) = λ inner e h u is. absurd cc

itemset_closes : (table : List ℕ) → EndGoes true (pend.Filter table ∷ pend.Itemset ∷ []) (rows_of table ++ tok.OpenBracket ∷ []) bracket_step tok.CloseBracket
itemset_closes table inner e h u is = subst (λ (s : State). Stands true s (((rows_of table ++ tok.OpenBracket ∷ []) ++ inner) ++ tok.CloseBracket ∷ [])) (some_is (at (pend.Itemset ∷ []) (want.Value table e)) u is) ([], inner, rows_alone, h, refl)

filter_closes : (set : Bool) (k : List Pending) (ts : List Token) (table : List ℕ) → Before set k ts → has_room k ≡ true → is_inside k ≡ false → EndGoes set (pend.Filter table ∷ k) (ts ++ (rows_of table ++ tok.OpenBracket ∷ [])) bracket_step tok.CloseBracket
filter_closes set k ts table b r i inner e h u is =
    let assoc : ((ts ++ (rows_of table ++ tok.OpenBracket ∷ [])) ++ inner) ++ tok.CloseBracket ∷ [] ≡ ts ++ (rows_of table ++ tok.OpenBracket ∷ (inner ++ tok.CloseBracket ∷ [])) =
    append_assoc (ts ++ (rows_of table ++ tok.OpenBracket ∷ [])) inner (tok.CloseBracket ∷ []) ∙ append_assoc ts (rows_of table ++ tok.OpenBracket ∷ []) (inner ++ tok.CloseBracket ∷ []) in
    subst (λ (s : State). Stands set s (((ts ++ (rows_of table ++ tok.OpenBracket ∷ [])) ++ inner) ++ tok.CloseBracket ∷ [])) (some_is (at k (want.Value table e)) u is) (ts, inner, rows_outside set k ts b r i, h, assoc)

bracket_goes : (set : Bool) (base : List Pending) (before : List Token) → Based set base before → EndGoes set base before bracket_step tok.CloseBracket
bracket_goes set base before nothing = λ inner e h u is. absurd cc
bracket_goes set base before (in_itemset table) = itemset_closes table
bracket_goes set base before (in_group _ k ts b r) = λ inner e h u is. absurd cc
bracket_goes set base before (in_call _ k ts us name func args b r named a takes) = λ inner e h u is. absurd cc
bracket_goes set base before (in_filter _ k ts table b r i) = filter_closes set k ts table b r i

end_goes : (set : Bool) (base : List Pending) (before : List Token) → Based set base before → (t : Token) → EndGoes set base before (end_step t) t
end_goes set base before b tok.Close = close_goes set base before b
end_goes set base before b tok.Comma = comma_goes set base before b
end_goes set base before b tok.CloseBracket = bracket_goes set base before b
end_goes set base before b _ = λ inner e h u is. absurd cc

-- ---- operators

operator_goes : (set : Bool) (k : List Pending) (x : Syntax) (ts : List Token) → IsBehind set k x ts → (t : Token) (op : Op) → operator_of t ≡ Some op → (u : State) → Some (with_operator op k x) ≡ Some u → Stands set u (ts ++ t ∷ [])
operator_goes set k x ts b t op is u e =
    let more = link (is_inside b.base) (room b.base) b.us b.vs b.links x t op b.are_links b.operand is in
    let longer = operators set b.base b.before (b.us ++ (b.vs ++ t ∷ [])) (b.links ++ (record { left = x; op = op }) ∷ []) b.based more in
    let stack : after_links b.base (b.links ++ (record { left = x; op = op }) ∷ []) ≡ push op (bound_by (level op) k x) =
    after_append b.base b.links ((record { left = x; op = op }) ∷ []) ∙ ap (λ (l : List Pending). push op (bound_by (level op) l x)) (sym b.stack) in
    let tokens : b.before ++ (b.us ++ (b.vs ++ t ∷ [])) ≡ ts ++ t ∷ [] = ap (λ (y : List Token). b.before ++ y) (snoc_of b.us b.vs t) ∙ snoc_of b.before (b.us ++ b.vs) t ∙ ap (λ (y : List Token). y ++ t ∷ []) (sym b.tokens) in
    stands_as set (at (push op (bound_by (level op) k x)) want.Operand) u (ts ++ t ∷ []) (ts ++ t ∷ []) (some_is (with_operator op k x) u e) refl
    (subst (λ (l : List Pending). Before set l (ts ++ t ∷ [])) stack (subst (λ (y : List Token). Before set (after_links b.base (b.links ++ (record { left = x; op = op }) ∷ [])) y) tokens longer))

ended_goes : (set : Bool) (k : List Pending) (x : Syntax) (ts : List Token) → IsBehind set k x ts → (t : Token) (u : State) → end_step t (bound_by 1 k x) ≡ Some u → Stands set u (ts ++ t ∷ [])
ended_goes set k x ts b t u e =
    let h = may_be_ended set k x ts b in
    let one : end_step t (h.base, h.whole) ≡ Some u = ap (λ (y : List Pending × Syntax). end_step t y) (sym h.bound) ∙ e in
    subst (λ (y : List Token). Stands set u (y ++ t ∷ [])) (sym h.tokens) (end_goes set h.base h.before h.based t h.inner h.whole h.expr u one)

operator_step_goes : (set : Bool) (k : List Pending) (x : Syntax) (ts : List Token) → IsBehind set k x ts → (t : Token) (u : State) → operator_step k x t ≡ Some u → Stands set u (ts ++ t ∷ [])
operator_step_goes set k x ts b t u e =
    elim (operator_of t) as (λ (o : Option Op). operator_of t ≡ o → operator_or_end o k x t ≡ Some u → Stands set u (ts ++ t ∷ [])) [
      | Some op ↦ λ is f. operator_goes set k x ts b t op is u f
      | None ↦ λ is f. ended_goes set k x ts b t u f
    ] refl e

-- ---- names in a filter

named_call_goes : (set : Bool) (k : List Pending) (before : List Token) (name : List ℕ) → Before set k before → (u : State) → call_step k name ≡ Some u → Stands set u ((before ++ tok.Name name ∷ []) ++ tok.Open ∷ [])
named_call_goes set k before name b u e =
    let g = chosen_some (has_room k) (function_of name >>= λ (func : Func). Some (opened_call func k)) u e in
    let f = bind_some (function_of name) (λ (func : Func). Some (opened_call func k)) u g.1 in
    stands_as set (opened_call f.0 k) u (before ++ tok.Name name ∷ tok.Open ∷ []) ((before ++ tok.Name name ∷ []) ++ tok.Open ∷ []) (some_is (opened_call f.0 k) u f.2) (sym (append_assoc before (tok.Name name ∷ []) (tok.Open ∷ []))) (opened_stands set k before name f.0 b g.0 f.1)

named_column_goes : (set : Bool) (k : List Pending) (before : List Token) (name : List ℕ) → Before set k before → is_inside k ≡ true → (t : Token) (u : State) → column_step (bound_by 7 k (syn.Column name)) t ≡ Some u → Stands set u ((before ++ tok.Name name ∷ []) ++ t ∷ [])
named_column_goes set k before name b i t u e =
    let operand = operand_at true (is_inside k) (room k) (room k) (tok.Name name ∷ []) (syn.Column name) (sym i) refl (column (room k) name) in
    let bound = bound_by 7 k (syn.Column name) in
    operator_step_goes set bound.0 bound.1 (before ++ tok.Name name ∷ []) (operand_stands set k before b (tok.Name name ∷ []) (syn.Column name) operand) t u e

named_goes : (set : Bool) (k : List Pending) (before : List Token) (name : List ℕ) → Before set k before → is_inside k ≡ true → (t : Token) (u : State) → named_step k name t ≡ Some u → Stands set u ((before ++ tok.Name name ∷ []) ++ t ∷ [])
named_goes set k before name b i tok.Open u e = named_call_goes set k before name b u e
named_goes set k before name b i t u e = named_column_goes set k before name b i t u e

-- ---- the other parts of calls and of the rows of a table

open_is : (t : Token) → is_open t ≡ true → t ≡ tok.Open
open_is tok.Open h = refl
open_is _ h = absurd cc

close_is : (t : Token) → is_close t ≡ true → t ≡ tok.Close
close_is tok.Close h = refl
close_is _ h = absurd cc

open_bracket_is : (t : Token) → is_open_bracket t ≡ true → t ≡ tok.OpenBracket
open_bracket_is tok.OpenBracket h = refl
open_bracket_is _ h = absurd cc

instance_is : (t : Token) → is_instance t ≡ true → t ≡ tok.Name (codes "instance")
instance_is (tok.Name name) h = ap (λ (n : List ℕ). tok.Name n) (same_bytes name (codes "instance") h)
instance_is _ h = absurd cc

rows_is : (t : Token) → is_rows t ≡ true → t ≡ tok.Absolute (codes "/root/item")
rows_is (tok.Absolute path) h = ap (λ (n : List ℕ). tok.Absolute n) (same_bytes path (codes "/root/item") h)
rows_is _ h = absurd cc

-- one more token of the rows
rows_more : (set : Bool) (k : List Pending) (part : List Token) (ts : List Token) (t : Token) → IsInRows set k part ts → IsInRows set k (part ++ t ∷ []) (ts ++ t ∷ [])
rows_more set k part ts t (before, r, e) = (before, r, ap (λ (x : List Token). x ++ t ∷ []) e ∙ append_assoc before part (t ∷ []))

-- the token that was wanted
when_goes : (set : Bool) (ts : List Token) (p : Token → Bool) (t wanted : Token) (s u : State) → ((t : Token) → p t ≡ true → t ≡ wanted) → Stands set s (ts ++ wanted ∷ []) → when (p t) s ≡ Some u → Stands set u (ts ++ t ∷ [])
when_goes set ts p t wanted s u is h e =
    let g = when_true (p t) s u e in
    stands_as set s u (ts ++ wanted ∷ []) (ts ++ t ∷ []) g.1 (ap (λ (x : Token). ts ++ x ∷ []) (sym (is t g.0))) h

opening_goes : (set : Bool) (k : List Pending) (func : Func) (ts : List Token) → IsInCall set k func [] ts → Stands set (opened_call func k) (ts ++ tok.Open ∷ [])
opening_goes set k func ts (before, name, b, r, named, e) =
    subst (λ (x : List Token). Stands set (opened_call func k) x) (sym (ap (λ (x : List Token). x ++ tok.Open ∷ []) e ∙ append_assoc before (tok.Name name ∷ []) (tok.Open ∷ []))) (opened_stands set k before name func b r named)

closing_goes : (set : Bool) (k : List Pending) (func : Func) (ts : List Token) → IsInCall set k func (tok.Open ∷ []) ts → may_take func 0 ≡ true → Stands set (behind k (syn.Call func [])) (ts ++ tok.Close ∷ [])
closing_goes set k func ts (before, name, b, r, named, e) takes =
    let operand = operand_at (is_inside k) (is_inside k) (suc (room (pend.Group ∷ k))) (room k) (tok.Name name ∷ tok.Open ∷ tok.Close ∷ []) (syn.Call func []) refl (room_more k r) (call_alone (is_inside k) (room (pend.Group ∷ k)) name func named takes) in
    subst (λ (x : List Token). Stands set (behind k (syn.Call func [])) x) (sym (ap (λ (x : List Token). x ++ tok.Close ∷ []) e ∙ append_assoc before (tok.Name name ∷ tok.Open ∷ []) (tok.Close ∷ [])))
    (operand_stands set k before b (tok.Name name ∷ tok.Open ∷ tok.Close ∷ []) (syn.Call func []) operand)

table_goes : (set : Bool) (k : List Pending) (ts : List Token) → IsInRows set k (tok.Name (codes "instance") ∷ tok.Open ∷ []) ts → (t : Token) (u : State) → table_step k t ≡ Some u → Stands set u (ts ++ t ∷ [])
table_goes set k ts h (tok.Quoted table) u e = subst (λ (s : State). Stands set s (ts ++ tok.Quoted table ∷ [])) (some_is (at k (want.TableClosing table)) u e) (rows_more set k (tok.Name (codes "instance") ∷ tok.Open ∷ []) ts (tok.Quoted table) h)
table_goes set k ts h _ u e = absurd cc

rows_filter_by : (set : Bool) (k : List Pending) (before : List Token) (table : List ℕ) → RowsBefore set k before → Based set (pend.Filter table ∷ k) (before ++ (rows_of table ++ tok.OpenBracket ∷ []))
rows_filter_by set k before table (rows_outside _ _ _ b r i) = in_filter set k before table b r i
rows_filter_by set k before table rows_alone = in_itemset table

filter_goes : (set : Bool) (k : List Pending) (ts : List Token) (table : List ℕ) → IsInRows set k (rows_of table) ts → Stands set (before_operand (pend.Filter table) k) (ts ++ tok.OpenBracket ∷ [])
filter_goes set k ts table (before, r, e) =
    subst (λ (x : List Token). Before set (pend.Filter table ∷ k) x) (sym (ap (λ (x : List Token). x ++ tok.OpenBracket ∷ []) e ∙ append_assoc before (rows_of table) (tok.OpenBracket ∷ [])))
    (based_before set (pend.Filter table ∷ k) (before ++ (rows_of table ++ tok.OpenBracket ∷ [])) (rows_filter_by set k before table r))

-- the column of a path
pub record IsColumn (t : Token) (name : List ℕ) : Type 0 where
  pub is : t ≡ tok.Absolute (47 ∷ name)
  pub one : list_all is_no_slash name ≡ true

column_path_is : (path name : List ℕ) → column_of_path path ≡ Some name → IsColumn (tok.Absolute path) name
column_path_is [] name e = absurd cc
column_path_is (slash ∷ rest) name e =
    let g = chosen_some (slash == 47) (when (list_all is_no_slash rest) rest) name e in
    let h = when_true (list_all is_no_slash rest) rest name g.1 in
    record { is = ap (λ (c : ℕ). tok.Absolute (c ∷ rest)) (eqb-true slash 47 g.0) ∙ ap (λ (x : List ℕ). tok.Absolute (47 ∷ x)) h.1; one = ap (λ (x : List ℕ). list_all is_no_slash x) (sym h.1) ∙ h.0 }

column_is : (t : Token) (name : List ℕ) → column_of t ≡ Some name → IsColumn t name
column_is (tok.Absolute path) name e = column_path_is path name e
column_is _ name e = absurd cc

item_goes : (set : Bool) (k : List Pending) (before us : List Token) (table : List ℕ) (filter : Syntax) (name : List ℕ) → Before set k before → has_room k ≡ true → is_inside k ≡ false → IsExpr true (room (pend.Group ∷ k)) us filter
    → list_all is_no_slash name ≡ true → Stands set (behind k (syn.Item table filter name)) (before ++ (rows_of table ++ tok.OpenBracket ∷ (us ++ tok.CloseBracket ∷ tok.Absolute (47 ∷ name) ∷ [])))
item_goes set k before us table filter name b r i h one =
    let operand = operand_at false (is_inside k) (suc (room (pend.Group ∷ k))) (room k) (rows_of table ++ tok.OpenBracket ∷ (us ++ tok.CloseBracket ∷ tok.Absolute (47 ∷ name) ∷ [])) (syn.Item table filter name) (sym i) (room_more k r)
    (item (room (pend.Group ∷ k)) table us filter name h one) in
    operand_stands set k before b (rows_of table ++ tok.OpenBracket ∷ (us ++ tok.CloseBracket ∷ tok.Absolute (47 ∷ name) ∷ [])) (syn.Item table filter name) operand

value_assoc : (before us : List Token) (table : List ℕ) (t : Token) → (before ++ (rows_of table ++ tok.OpenBracket ∷ (us ++ tok.CloseBracket ∷ []))) ++ t ∷ [] ≡ before ++ (rows_of table ++ tok.OpenBracket ∷ (us ++ tok.CloseBracket ∷ t ∷ []))
value_assoc before us table t =
    append_assoc before (rows_of table ++ tok.OpenBracket ∷ (us ++ tok.CloseBracket ∷ [])) (t ∷ []) ∙ ap (λ (x : List Token). before ++ (rows_of table ++ tok.OpenBracket ∷ x)) (append_assoc us (tok.CloseBracket ∷ []) (t ∷ []))

value_goes_by : (set : Bool) (k : List Pending) (before us : List Token) (table : List ℕ) (filter : Syntax) (name : List ℕ) → RowsBefore set k before → IsExpr true (room (pend.Group ∷ k)) us filter → is_in_itemset k ≡ false
    → list_all is_no_slash name ≡ true → Stands set (behind k (syn.Item table filter name)) (before ++ (rows_of table ++ tok.OpenBracket ∷ (us ++ tok.CloseBracket ∷ tok.Absolute (47 ∷ name) ∷ [])))
value_goes_by set k before us table filter name (rows_outside _ _ _ b r i) h outside one = item_goes set k before us table filter name b r i h one
value_goes_by set k before us table filter name rows_alone h outside one = absurd cc

value_goes : (set : Bool) (k : List Pending) (table : List ℕ) (filter : Syntax) (ts : List Token) → StandsAt set (want.Value table filter) k ts → (t : Token) (u : State) → value_step k table filter t ≡ Some u → Stands set u (ts ++ t ∷ [])
value_goes set k table filter ts (before, us, r, h, e) t u is =
    elim (is_in_itemset k) as (λ (v : Bool). is_in_itemset k ≡ v → cond v None (column_of t >>= λ (name : List ℕ). Some (behind k (syn.Item table filter name))) ≡ Some u → Stands set u (ts ++ t ∷ [])) [
      | true ↦ λ inside f. absurd cc
      | false ↦ λ outside f. (
          let g = bind_some (column_of t) (λ (name : List ℕ). Some (behind k (syn.Item table filter name))) u f in
          let c = column_is t g.0 g.1 in
          let tokens : before ++ (rows_of table ++ tok.OpenBracket ∷ (us ++ tok.CloseBracket ∷ tok.Absolute (47 ∷ g.0) ∷ [])) ≡ ts ++ t ∷ [] =
          ap (λ (x : Token). before ++ (rows_of table ++ tok.OpenBracket ∷ (us ++ tok.CloseBracket ∷ x ∷ []))) (sym c.is) ∙ sym (value_assoc before us table t) ∙ ap (λ (x : List Token). x ++ t ∷ []) (sym e) in
          stands_as set (behind k (syn.Item table filter g.0)) u (before ++ (rows_of table ++ tok.OpenBracket ∷ (us ++ tok.CloseBracket ∷ tok.Absolute (47 ∷ g.0) ∷ []))) (ts ++ t ∷ []) (some_is (behind k (syn.Item table filter g.0)) u g.2) tokens
          (value_goes_by set k before us table filter g.0 r h outside c.one))
    ] refl is

instance_stands : (set : Bool) (k : List Pending) (ts : List Token) → StandsAt set want.Instance k ts → Stands set (at k want.TableOpening) (ts ++ tok.Name (codes "instance") ∷ [])
instance_stands set k ts (is, stack, e) = subst (λ (x : List Token). Stands set (at k want.TableOpening) (x ++ tok.Name (codes "instance") ∷ [])) (sym e) ([], rows_at, refl)
  where
    rows_at : RowsBefore set k []
    rows_at = subst (λ (b : Bool). RowsBefore b k []) (sym is) (subst (λ (l : List Pending). RowsBefore true l []) (sym stack) rows_alone)

-- ---- all steps

stands_at : (set : Bool) (w : Expected) (k : List Pending) (ts : List Token) → StandsAt set w k ts → (t : Token) (u : State) → step_at w k t ≡ Some u → Stands set u (ts ++ t ∷ [])
stands_at set want.Operand k ts h t u e = operand_step_goes set k ts h t u e
stands_at set (want.Operator x) k ts h t u e = operator_step_goes set k x ts h t u e
stands_at set (want.Named name) k ts (before, b, i, is) t u e = subst (λ (x : List Token). Stands set u (x ++ t ∷ [])) (sym is) (named_goes set k before name b i t u e)
stands_at set (want.CallOpening func) k ts h t u e = when_goes set ts is_open t tok.Open (opened_call func k) u open_is (opening_goes set k func ts h) e
stands_at set (want.CallClosing func) k ts (h, takes) t u e = when_goes set ts is_close t tok.Close (behind k (syn.Call func [])) u close_is (closing_goes set k func ts h takes) e
stands_at set want.Instance k ts h t u e = when_goes set ts is_instance t (tok.Name (codes "instance")) (at k want.TableOpening) u instance_is (instance_stands set k ts h) e
stands_at set want.TableOpening k ts h t u e = when_goes set ts is_open t tok.Open (at k want.Table) u open_is (rows_more set k (tok.Name (codes "instance") ∷ []) ts tok.Open h) e
stands_at set want.Table k ts h t u e = table_goes set k ts h t u e
stands_at set (want.TableClosing table) k ts h t u e = when_goes set ts is_close t tok.Close (at k (want.Rows table)) u close_is (rows_more set k (tok.Name (codes "instance") ∷ tok.Open ∷ tok.Quoted table ∷ []) ts tok.Close h) e
stands_at set (want.Rows table) k ts h t u e = when_goes set ts is_rows t (tok.Absolute (codes "/root/item")) (at k (want.FilterOpening table)) u rows_is
    (rows_more set k (tok.Name (codes "instance") ∷ tok.Open ∷ tok.Quoted table ∷ tok.Close ∷ []) ts (tok.Absolute (codes "/root/item")) h) e
stands_at set (want.FilterOpening table) k ts h t u e = when_goes set ts is_open_bracket t tok.OpenBracket (before_operand (pend.Filter table) k) u open_bracket_is (filter_goes set k ts table h) e
stands_at set (want.Value table filter) k ts h t u e = value_goes set k table filter ts h t u e

pub step_stands : (set : Bool) (s u : State) (ts : List Token) (t : Token) → Stands set s ts → step s t ≡ Some u → Stands set u (ts ++ t ∷ [])
unfolding step
step_stands set s u ts t h e = stands_at set s.expected s.stack ts h t u e

-- ---- beginning and end

pub expr_stands : Stands false expr_start []
expr_stands = based_before false [] [] nothing

pub itemset_stands : Stands true itemset_start []
itemset_stands = (refl, refl, refl)

alone_is : (base : List Pending) (before inner : List Token) (whole e : Syntax) → Based false base before → IsExpr (is_inside base) (room base) inner whole → when_alone (base, whole) ≡ Some e → IsWholeExpr (before ++ inner) e
alone_is base before inner whole e nothing h is = subst (λ (x : Syntax). IsWholeExpr inner x) (some_is whole e is) h
alone_is base before inner whole e (in_group _ k ts b r) h is = absurd cc
alone_is base before inner whole e (in_call _ k ts us name func args b r named a takes) h is = absurd cc
alone_is base before inner whole e (in_filter _ k ts table b r i) h is = absurd cc

operand_ends : (k : List Pending) (x e : Syntax) (ts : List Token) → IsBehind false k x ts → when_alone (bound_by 1 k x) ≡ Some e → IsWholeExpr ts e
operand_ends k x e ts b is =
    let h = may_be_ended false k x ts b in
    let one : when_alone (h.base, h.whole) ≡ Some e = ap (λ (y : List Pending × Syntax). when_alone y) (sym h.bound) ∙ is in
    subst (λ (y : List Token). IsWholeExpr y e) (sym h.tokens) (alone_is h.base h.before h.inner h.whole e h.based h.expr one)

expr_ends_at : (w : Expected) (k : List Pending) (ts : List Token) (e : Syntax) → StandsAt false w k ts → expr_end_at w k ≡ Some e → IsWholeExpr ts e
expr_ends_at (want.Operator x) k ts e h is = operand_ends k x e ts h is
expr_ends_at _ k ts e h is = absurd cc

pub expr_ends : (s : State) (ts : List Token) (e : Syntax) → Stands false s ts → expr_end s ≡ Some e → IsWholeExpr ts e
expr_ends s ts e h is = expr_ends_at s.expected s.stack ts e h is

rows_end : (k : List Pending) (before : List Token) (table : List ℕ) → RowsBefore true k before → is_in_itemset k ≡ true → IsWholeItemset (before ++ rows_of table) (record { table = table; filter = None })
rows_end k before table (rows_outside _ _ _ b r i) inside = absurd (let outside = before_outside true k before b in cc)
rows_end k before table rows_alone inside = all_rows 31 table

value_end : (k : List Pending) (before us : List Token) (table : List ℕ) (filter : Syntax) → RowsBefore true k before → IsExpr true (room (pend.Group ∷ k)) us filter → is_in_itemset k ≡ true
    → IsWholeItemset (before ++ (rows_of table ++ tok.OpenBracket ∷ (us ++ tok.CloseBracket ∷ []))) (record { table = table; filter = Some filter })
value_end k before us table filter (rows_outside _ _ _ b r i) h inside = absurd (let outside = before_outside true k before b in cc)
value_end k before us table filter rows_alone h inside = filtered 31 table us filter h

itemset_ends_at : (w : Expected) (k : List Pending) (ts : List Token) (set : Itemset) → StandsAt true w k ts → itemset_end_at w k ≡ Some set → IsWholeItemset ts set
itemset_ends_at (want.FilterOpening table) k ts set (before, r, e) is =
    let g = when_true (is_in_itemset k) (record { table = table; filter = None }) set is in
    subst (λ (x : Itemset). IsWholeItemset ts x) g.1 (subst (λ (y : List Token). IsWholeItemset y (record { table = table; filter = None })) (sym e) (rows_end k before table r g.0))
itemset_ends_at (want.Value table filter) k ts set (before, us, r, h, e) is =
    let g = when_true (is_in_itemset k) (record { table = table; filter = Some filter }) set is in
    subst (λ (x : Itemset). IsWholeItemset ts x) g.1 (subst (λ (y : List Token). IsWholeItemset y (record { table = table; filter = Some filter })) (sym e) (value_end k before us table filter r h g.0))
itemset_ends_at _ k ts set h is = absurd cc

pub itemset_ends : (s : State) (ts : List Token) (set : Itemset) → Stands true s ts → itemset_end s ≡ Some set → IsWholeItemset ts set
itemset_ends s ts set h is = itemset_ends_at s.expected s.stack ts set h is
