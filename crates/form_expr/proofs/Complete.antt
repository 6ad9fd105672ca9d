-- The tokens of each expression run to its end, and give it.
use Rattle.std.proofs.Common.{◌≡◌, ℕ, ℤ, suc, ◌+◌, ◌<◌, ◌≤◌, Bool, true, false, List, [], ◌∷◌, ◌++◌, codes, length, Option, Some, None, refl, sym, ap, subst, ◌∙◌, arith, append_assoc}
use Rattle.std.specs.Prelude.{nat_lt}
use Rattle.std.specs.List.{list_all}
use Rattle.std.specs.Str.{bytes_eq}
use Rattle.std.specs.Bool.{Decides}
use Rattle.std.proofs.lemmas.Slice.Eq.{bytes_eq-Decides}
use Rattle.std.proofs.lemmas.Bool.{lt-ltb, eqb-true, ne_eqb}
use Rattle.std.proofs.lemmas.List.{length-append, append-nil}
use Rattle.rosa_pieces.specs.Reading.{◌>>=◌}
use Rattle.form_def.specs.declared.expr.Func.{Func}
use Rattle.form_def.specs.declared.expr.Op.{Op}
use Rattle.form_tokens.specs.declared.token.Token.{Token}
use Rattle.form_tokens.specs.declared.token.Token.TheVariants as tok
use Rattle.form_expr.specs.declared.syntax.Syntax.{Syntax}
use Rattle.form_expr.specs.declared.syntax.Syntax.TheVariants as syn
use Rattle.form_expr.specs.declared.syntax.Itemset.{Itemset}
use Rattle.form_expr.specs.declared.pending.Pending.{Pending}
use Rattle.form_expr.specs.declared.pending.Pending.TheVariants as pend
use Rattle.form_expr.specs.declared.expected.Expected.TheVariants as want
use Rattle.form_expr.specs.Words.{operator_of, function_of, arguments, is_number_taken, is_more_taken, may_take, takes_more, is_no_slash}
use Rattle.form_expr.specs.Precedence.{level, Link, IsTree}
use Rattle.form_expr.specs.Grammar.{rows_of, IsOperand, AreArgs, AreLinks, IsExpr, number, text, period, absolute, relative, column, negative, group, call_alone, call, item, first, next, none, link, grouped, all_rows, filtered, IsItemset, IsWholeExpr, IsWholeItemset}
use Rattle.form_expr.specs.Machine.{State, at, depth, has_room, is_inside, is_in_itemset, bound_by, behind, step, opened_call, when_alone, expr_start, expr_end, itemset_start, itemset_end}
use Rattle.form_expr.proofs.Trees.{top, bound_stays, push, after_links, after_append, tree_bound, zero_is_looser, one_is_no_tighter, inside_bound, same_links, links_top, links_outside}

-- ---- runs

abbrev pub run : {A : Type 0} → (State → Option A) → List Token → State → Option A
run end [] s = end s
run end (token ∷ tokens) s = step s token >>= λ next. run end tokens next

-- what ends alike where the same is bound, and where a column stands for its name
pub record IsEnd {A : Type 0} (end : State → Option A) : Type 0 where
  pub alike : (k l : List Pending) (x y : Syntax) → bound_by 1 k x ≡ bound_by 1 l y → end (at k (want.Operator x)) ≡ end (at l (want.Operator y))
  pub named : (k : List Pending) (name : List ℕ) → is_inside k ≡ true → end (at k (want.Named name)) ≡ end (behind k (syn.Column name))

-- the stack of an operand in a filter or not, with so much room
pub record Fits (k : List Pending) (inside : Bool) (room : ℕ) : Type 0 where
  pub insides : is_inside k ≡ inside
  pub rooms : depth k + room ≡ 32
  pub outside : is_in_itemset k ≡ false

pub room_in : (k : List Pending) (inside : Bool) (room : ℕ) → Fits k inside (suc room) → has_room k ≡ true
room_in k inside room fits = lt-ltb (depth k) 32 (let h = fits.rooms in omega (arith, h))

-- what may stand behind an operand, and behind an expression
abbrev pub may_follow : List Token → Bool
may_follow [] = true
may_follow (tok.Open ∷ us) = false
may_follow (_ ∷ us) = true

abbrev pub may_end : List Token → Bool
may_end [] = true
may_end (tok.Close ∷ us) = true
may_end (tok.Comma ∷ us) = true
may_end (tok.CloseBracket ∷ us) = true
may_end (_ ∷ us) = false

pub ends_follow : (us : List Token) → may_end us ≡ true → may_follow us ≡ true
ends_follow [] h = refl
ends_follow (tok.Open ∷ us) h = absurd cc
ends_follow (_ ∷ us) h = refl

pub operator_follows : (sign : Token) (op : Op) (us : List Token) → operator_of sign ≡ Some op → may_follow (sign ∷ us) ≡ true
operator_follows tok.Open op us h = absurd cc
operator_follows _ op us h = refl

-- ---- functions

taken_alone : (o : Option ℕ) (n : ℕ) → is_number_taken o (n + 1) ≡ true → is_number_taken o 0 ≡ false
taken_alone None n h = refl
taken_alone (Some k) n h = let e = eqb-true (n + 1) k h in ne_eqb 0 k (λ same. absurd (omega (arith, e, same)))

-- a function that takes arguments takes none at no time
pub takes_some : (func : Func) (n : ℕ) → may_take func (n + 1) ≡ true → may_take func 0 ≡ false
takes_some func n h = taken_alone (arguments func) n h

more_of : (o : Option ℕ) (n m : ℕ) → is_number_taken o n ≡ true → m < n → is_more_taken o m ≡ true
more_of None n m h lt = refl
more_of (Some k) n m h lt = let e = eqb-true n k h in lt-ltb m k (omega (arith, e))

pub takes_more_below : (func : Func) (n m : ℕ) → may_take func n ≡ true → m < n → takes_more func m ≡ true
takes_more_below func n m h lt = more_of (arguments func) n m h lt

-- ---- names

pub same_bytes : (xs ys : List ℕ) → bytes_eq xs ys ≡ true → xs ≡ ys
same_bytes xs ys e = decided (bytes_eq xs ys) (xs ≡ ys) (bytes_eq-Decides xs ys) e
  where
    decided : (b : Bool) (P : Type 0) → Decides b P → b ≡ true → P
    decided b P d e = d.0 e

instance_is_no_function : function_of (codes "instance") ≡ None
unfolding function_of
instance_is_no_function = refl

pub function_is_no_instance : (name : List ℕ) (func : Func) → function_of name ≡ Some func → bytes_eq name (codes "instance") ≡ false
function_is_no_instance name func h =
    elim (bytes_eq name (codes "instance")) as (λ b. bytes_eq name (codes "instance") ≡ b → b ≡ false) [
      | true ↦ λ e. absurd (let none : None ≡ Some func = sym instance_is_no_function ∙ sym (ap function_of (same_bytes name (codes "instance") e)) ∙ h in cc)
      | false ↦ λ e. refl
    ] refl

-- ---- what is proved of each part of the grammar

abbrev pub OperandRuns : {A : Type 0} → (State → Option A) → Bool → ℕ → List Token → Syntax → Type 0
OperandRuns end inside room ts x = (k : List Pending) → Fits k inside room → (us : List Token) → may_follow us ≡ true → run end (ts ++ us) (at k want.Operand) ≡ run end us (behind k x)

abbrev pub ExprRuns : {A : Type 0} → (State → Option A) → Bool → ℕ → List Token → Syntax → Type 0
ExprRuns end inside room ts e = (k : List Pending) → Fits k inside room → top k ≡ 0 → (us : List Token) → may_end us ≡ true → run end (ts ++ us) (at k want.Operand) ≡ run end us (at k (want.Operator e))

abbrev pub LinksRun : {A : Type 0} → (State → Option A) → Bool → ℕ → List Token → List Link → Type 0
LinksRun end inside room ts ls = (k : List Pending) → Fits k inside room → top k ≡ 0 → (us : List Token) → run end (ts ++ us) (at k want.Operand) ≡ run end us (at (after_links k ls) want.Operand)

abbrev pub ArgsRun : {A : Type 0} → (State → Option A) → Bool → ℕ → List Token → List Syntax → Syntax → Type 0
ArgsRun end inside room ts args last = (k : List Pending) (func : Func) → Fits (pend.Call func [] ∷ k) inside room → ((n : ℕ) → n ≤ length args → 0 < n → takes_more func n ≡ true) → (us : List Token) → may_end us ≡ true
    → run end (ts ++ us) (at (pend.Call func [] ∷ k) want.Operand) ≡ run end us (at (pend.Call func args ∷ k) (want.Operator last))

-- ---- operands

own_runs : {A : Type 0} (end : State → Option A) (room : ℕ) → OperandRuns end false room (tok.Dot ∷ []) syn.Own
unfolding step
own_runs end room k fits us follow = rw (fits.insides) refl

relative_runs : {A : Type 0} (end : State → Option A) (room : ℕ) (path : List ℕ) → OperandRuns end false room (tok.Relative path ∷ []) (syn.Path path)
unfolding step
relative_runs end room path k fits us follow = rw (fits.insides) refl

number_runs : {A : Type 0} (end : State → Option A) (inside : Bool) (room : ℕ) (n : ℤ) → OperandRuns end inside room (tok.Digits n ∷ []) (syn.Number n)
unfolding step
number_runs end inside room n k fits us follow = refl

text_runs : {A : Type 0} (end : State → Option A) (inside : Bool) (room : ℕ) (words : List ℕ) → OperandRuns end inside room (tok.Quoted words ∷ []) (syn.Words words)
unfolding step
text_runs end inside room words k fits us follow = refl

absolute_runs : {A : Type 0} (end : State → Option A) (inside : Bool) (room : ℕ) (path : List ℕ) → OperandRuns end inside room (tok.Absolute path ∷ []) (syn.Path path)
unfolding step
absolute_runs end inside room path k fits us follow = refl

named_runs : {A : Type 0} (end : State → Option A) → IsEnd end → (k : List Pending) (name : List ℕ) → is_inside k ≡ true → (us : List Token) → may_follow us ≡ true → run end us (at k (want.Named name)) ≡ run end us (behind k (syn.Column name))
unfolding step
named_runs end is-end k name inside [] follow = is-end.named k name inside
named_runs end is-end k name inside (tok.Open ∷ us) follow = absurd cc
named_runs end is-end k name inside (_ ∷ us) follow = refl

column_runs : {A : Type 0} (end : State → Option A) → IsEnd end → (room : ℕ) (name : List ℕ) → OperandRuns end true room (tok.Name name ∷ []) (syn.Column name)
unfolding step
column_runs end is-end room name k fits us follow = rw (fits.insides) (named_runs end is-end k name fits.insides us follow)

negative_runs : {A : Type 0} (end : State → Option A) (inside : Bool) (room : ℕ) (ts : List Token) (x : Syntax) → OperandRuns end inside room ts x → OperandRuns end inside room (tok.Minus ∷ ts) (syn.Negative x)
unfolding step
negative_runs end inside room ts x runs k fits us follow = runs (pend.Minus ∷ k) (record { insides = fits.insides; rooms = omega (arith, fits.rooms); outside = refl }) us follow

group_runs : {A : Type 0} (end : State → Option A) (inside : Bool) (room : ℕ) (ts : List Token) (e : Syntax) → ExprRuns end inside room ts e → OperandRuns end inside (suc room) (tok.Open ∷ (ts ++ tok.Close ∷ [])) e
unfolding step
group_runs end inside room ts e runs k fits us follow =
    let inner : Fits (pend.Group ∷ k) inside room = record { insides = fits.insides; rooms = omega (arith, fits.rooms); outside = refl } in
    let assoc = append_assoc ts (tok.Close ∷ []) us in
    rw (room_in k inside room fits, assoc) (runs (pend.Group ∷ k) inner refl (tok.Close ∷ us) refl)

-- a call opens
opens_call : {A : Type 0} (end : State → Option A) (inside : Bool) (room : ℕ) (name : List ℕ) (func : Func) → function_of name ≡ Some func → (k : List Pending) → Fits k inside (suc room) → (us : List Token)
    → run end (tok.Name name ∷ tok.Open ∷ us) (at k want.Operand) ≡ run end us (opened_call func k)
unfolding step
opens_call end true room name func named k fits us = rw (fits.insides, room_in k true room fits, named) refl
opens_call end false room name func named k fits us = rw (fits.insides, room_in k false room fits, function_is_no_instance name func named, named) refl

alone_runs : {A : Type 0} (end : State → Option A) (inside : Bool) (room : ℕ) (name : List ℕ) (func : Func) → function_of name ≡ Some func → may_take func 0 ≡ true → OperandRuns end inside (suc room) (tok.Name name ∷ tok.Open ∷ tok.Close ∷ []) (syn.Call func [])
unfolding step
alone_runs end inside room name func named takes k fits us follow =
    let closes : run end (tok.Close ∷ us) (opened_call func k) ≡ run end us (behind k (syn.Call func [])) = rw takes refl in
    opens_call end inside room name func named k fits (tok.Close ∷ us) ∙ closes

call_runs : {A : Type 0} (end : State → Option A) (inside : Bool) (room : ℕ) (name : List ℕ) (func : Func) (ts : List Token) (args : List Syntax) (last : Syntax) → function_of name ≡ Some func → ArgsRun end inside room ts args last
    → may_take func (length args + 1) ≡ true → OperandRuns end inside (suc room) (tok.Name name ∷ tok.Open ∷ (ts ++ tok.Close ∷ [])) (syn.Call func (args ++ last ∷ []))
unfolding step
call_runs end inside room name func ts args last named runs takes k fits us follow =
    let inner : Fits (pend.Call func [] ∷ k) inside room = record { insides = fits.insides; rooms = omega (arith, fits.rooms); outside = refl } in
    let assoc = append_assoc ts (tok.Close ∷ []) us in
    let some = takes_some func (length args) takes in
    let opens : run end ((ts ++ tok.Close ∷ []) ++ us) (opened_call func k) ≡ run end (ts ++ (tok.Close ∷ us)) (at (pend.Call func [] ∷ k) want.Operand) = rw (some, assoc) refl in
    let inside-runs = runs k func inner (λ n low high. takes_more_below func (length args + 1) n takes (omega (arith, low))) (tok.Close ∷ us) refl in
    let long : length (args ++ last ∷ []) ≡ length args + 1 = length-append args (last ∷ []) in
    let taken : may_take func (length (args ++ last ∷ [])) ≡ true = ap (λ (n : ℕ). may_take func n) long ∙ takes in
    let closes : run end (tok.Close ∷ us) (at (pend.Call func args ∷ k) (want.Operator last)) ≡ run end us (behind k (syn.Call func (args ++ last ∷ []))) = rw taken refl in
    opens_call end inside room name func named k fits ((ts ++ tok.Close ∷ []) ++ us) ∙ opens ∙ inside-runs ∙ closes

rows_run : {A : Type 0} (end : State → Option A) (k : List Pending) (table : List ℕ) (us : List Token) → run end (tok.Open ∷ tok.Quoted table ∷ tok.Close ∷ tok.Absolute (codes "/root/item") ∷ us) (at k want.TableOpening) ≡ run end us (at k (want.FilterOpening table))
unfolding step
rows_run end k table us = refl

instance_runs : {A : Type 0} (end : State → Option A) (room : ℕ) (k : List Pending) → Fits k false (suc room) → (us : List Token) → run end (tok.Name (codes "instance") ∷ us) (at k want.Operand) ≡ run end us (at k want.TableOpening)
unfolding step
instance_runs end room k fits us = rw (fits.insides, room_in k false room fits) refl

value_runs : {A : Type 0} (end : State → Option A) (k : List Pending) (table name : List ℕ) (filter : Syntax) → is_in_itemset k ≡ false → list_all is_no_slash name ≡ true → (us : List Token)
    → run end (tok.CloseBracket ∷ tok.Absolute (47 ∷ name) ∷ us) (at (pend.Filter table ∷ k) (want.Operator filter)) ≡ run end us (behind k (syn.Item table filter name))
unfolding step
value_runs end k table name filter outside one-name us = rw (outside, one-name) refl

item_runs : {A : Type 0} (end : State → Option A) (room : ℕ) (table : List ℕ) (ts : List Token) (filter : Syntax) (name : List ℕ) → ExprRuns end true room ts filter → list_all is_no_slash name ≡ true
    → OperandRuns end false (suc room) (rows_of table ++ tok.OpenBracket ∷ (ts ++ tok.CloseBracket ∷ tok.Absolute (47 ∷ name) ∷ [])) (syn.Item table filter name)
unfolding step
item_runs end room table ts filter name runs one-name k fits us follow =
    let inner : Fits (pend.Filter table ∷ k) true room = record { insides = refl; rooms = omega (arith, fits.rooms); outside = refl } in
    let assoc = append_assoc ts (tok.CloseBracket ∷ tok.Absolute (47 ∷ name) ∷ []) us in
    let behind-rows = (ts ++ tok.CloseBracket ∷ tok.Absolute (47 ∷ name) ∷ []) ++ us in
    let opens : run end behind-rows (at (pend.Filter table ∷ k) want.Operand) ≡ run end (tok.CloseBracket ∷ tok.Absolute (47 ∷ name) ∷ us) (at (pend.Filter table ∷ k) (want.Operator filter)) =
    ap (λ (x : List Token). run end x (at (pend.Filter table ∷ k) want.Operand)) assoc ∙ runs (pend.Filter table ∷ k) inner refl (tok.CloseBracket ∷ tok.Absolute (47 ∷ name) ∷ us) refl in
    instance_runs end room k fits (tok.Open ∷ tok.Quoted table ∷ tok.Close ∷ tok.Absolute (codes "/root/item") ∷ tok.OpenBracket ∷ behind-rows) ∙ rows_run end k table (tok.OpenBracket ∷ behind-rows) ∙ opens
    ∙ value_runs end k table name filter fits.outside one-name us

-- ---- operators

sign_runs : {A : Type 0} (end : State → Option A) (k : List Pending) (x : Syntax) (sign : Token) (op : Op) → operator_of sign ≡ Some op → (us : List Token)
    → run end (sign ∷ us) (at k (want.Operator x)) ≡ run end us (at (push op (bound_by (level op) k x)) want.Operand)
unfolding step
sign_runs end k x sign op is us = rw is refl

pub stays_behind : (k : List Pending) (x : Syntax) → top k < 7 → behind k x ≡ at k (want.Operator x)
stays_behind k x low = rw (bound_stays 7 k x low) refl

pub fits_links : (k : List Pending) (inside : Bool) (room : ℕ) (ls : List Link) → Fits k inside room → Fits (after_links k ls) inside room
fits_links k inside room ls fits =
    let same = same_links ls k in
    record { insides = same.insides ∙ fits.insides; rooms = omega (arith, same.depths, fits.rooms); outside = links_outside ls k fits.outside }

link_runs : {A : Type 0} (end : State → Option A) (inside : Bool) (room : ℕ) (ts us : List Token) (ls : List Link) (left : Syntax) (sign : Token) (op : Op) → LinksRun end inside room ts ls → OperandRuns end inside room us left
    → operator_of sign ≡ Some op → LinksRun end inside room (ts ++ (us ++ sign ∷ [])) (ls ++ (record { left = left; op = op }) ∷ [])
link_runs end inside room ts us ls left sign op links operand is k fits base vs =
    let assoc : (ts ++ (us ++ sign ∷ [])) ++ vs ≡ ts ++ (us ++ (sign ∷ vs)) = append_assoc ts (us ++ sign ∷ []) vs ∙ ap (λ (x : List Token). ts ++ x) (append_assoc us (sign ∷ []) vs) in
    let before = links k fits base (us ++ (sign ∷ vs)) in
    let one = operand (after_links k ls) (fits_links k inside room ls fits) (sign ∷ vs) (operator_follows sign op vs is) in
    let low = links_top ls k (omega (arith, base)) in
    let stays = ap (λ (s : State). run end (sign ∷ vs) s) (stays_behind (after_links k ls) left low) in
    let stack = after_append k ls ((record { left = left; op = op }) ∷ []) in
    ap (λ (x : List Token). run end x (at k want.Operand)) assoc ∙ before ∙ one ∙ stays ∙ sign_runs end (after_links k ls) left sign op is vs ∙ sym (ap (λ (x : List Pending). run end vs (at x want.Operand)) stack)

-- ---- expressions

pub same_end : {A : Type 0} (end : State → Option A) → IsEnd end → (k l : List Pending) (x y : Syntax) → bound_by 1 k x ≡ bound_by 1 l y → (us : List Token) → may_end us ≡ true → run end us (at k (want.Operator x)) ≡ run end us (at l (want.Operator y))
unfolding step
same_end end is-end k l x y same [] ends = is-end.alike k l x y same
same_end end is-end k l x y same (tok.Close ∷ us) ends = rw same refl
same_end end is-end k l x y same (tok.Comma ∷ us) ends = rw same refl
same_end end is-end k l x y same (tok.CloseBracket ∷ us) ends = rw same refl
same_end end is-end k l x y same (_ ∷ us) ends = absurd cc

grouped_runs : {A : Type 0} (end : State → Option A) → IsEnd end → (inside : Bool) (room : ℕ) (ts us : List Token) (ls : List Link) (last e : Syntax) → LinksRun end inside room ts ls → OperandRuns end inside room us last → IsTree ls last e
    → ExprRuns end inside room (ts ++ us) e
grouped_runs end is-end inside room ts us ls last e links operand tree k fits base vs ends =
    let assoc = append_assoc ts us vs in
    let before = links k fits base (us ++ vs) in
    let one = operand (after_links k ls) (fits_links k inside room ls fits) vs (ends_follow vs ends) in
    let low = links_top ls k (omega (arith, base)) in
    let stays = ap (λ (s : State). run end vs s) (stays_behind (after_links k ls) last low) in
    let looser = subst (λ (n : ℕ). list_all (λ (l : Link). nat_lt n (level l.op)) ls ≡ true) (sym base) (zero_is_looser ls) in
    let bound = tree_bound ls last e tree 1 k looser (one_is_no_tighter ls) in
    ap (λ (x : List Token). run end x (at k want.Operand)) assoc ∙ before ∙ one ∙ stays ∙ same_end end is-end (after_links k ls) k last e bound vs ends

-- ---- arguments

first_runs : {A : Type 0} (end : State → Option A) (inside : Bool) (room : ℕ) (ts : List Token) (e : Syntax) → ExprRuns end inside room ts e → ArgsRun end inside room ts [] e
first_runs end inside room ts e runs k func fits takes us ends = runs (pend.Call func [] ∷ k) fits refl us ends

comma_runs : {A : Type 0} (end : State → Option A) (k : List Pending) (func : Func) (args : List Syntax) (e : Syntax) → takes_more func (length (args ++ e ∷ [])) ≡ true → (us : List Token)
    → run end (tok.Comma ∷ us) (at (pend.Call func args ∷ k) (want.Operator e)) ≡ run end us (at (pend.Call func (args ++ e ∷ []) ∷ k) want.Operand)
unfolding step
comma_runs end k func args e takes us = rw takes refl

next_runs : {A : Type 0} (end : State → Option A) (inside : Bool) (room : ℕ) (ts us : List Token) (args : List Syntax) (e last : Syntax) → ArgsRun end inside room ts args e → ExprRuns end inside room us last
    → ArgsRun end inside room (ts ++ tok.Comma ∷ us) (args ++ e ∷ []) last
next_runs end inside room ts us args e last before runs k func fits takes vs ends =
    let long : length (args ++ e ∷ []) ≡ length args + 1 = length-append args (e ∷ []) in
    let assoc = append_assoc ts (tok.Comma ∷ us) vs in
    let fewer = before k func fits (λ n low high. takes n (omega (arith, low, long)) high) (tok.Comma ∷ (us ++ vs)) refl in
    let more = comma_runs end k func args e (takes (length (args ++ e ∷ [])) (omega arith) (omega (arith, long))) (us ++ vs) in
    let inner : Fits (pend.Call func (args ++ e ∷ []) ∷ k) inside room = record { insides = fits.insides; rooms = fits.rooms; outside = refl } in
    ap (λ (x : List Token). run end x (at (pend.Call func [] ∷ k) want.Operand)) assoc ∙ fewer ∙ more ∙ runs (pend.Call func (args ++ e ∷ []) ∷ k) inner refl vs ends

-- ---- all of the grammar

mutual
  pub operand_runs : {A : Type 0} (end : State → Option A) → IsEnd end → (inside : Bool) (room : ℕ) (ts : List Token) (x : Syntax) → IsOperand inside room ts x → OperandRuns end inside room ts x
  operand_runs end is-end inside room ts x (number _ _ n) = number_runs end inside room n
  operand_runs end is-end inside room ts x (text _ _ words) = text_runs end inside room words
  operand_runs end is-end inside room ts x (period _) = own_runs end room
  operand_runs end is-end inside room ts x (absolute _ _ path) = absolute_runs end inside room path
  operand_runs end is-end inside room ts x (relative _ path) = relative_runs end room path
  operand_runs end is-end inside room ts x (column _ name) = column_runs end is-end room name
  operand_runs end is-end inside room ts x (negative _ _ us y o) = negative_runs end inside room us y (operand_runs end is-end inside room us y o)
  operand_runs end is-end inside room ts x (group _ less us _ e) = group_runs end inside less us x (expr_runs end is-end inside less us x e)
  operand_runs end is-end inside room ts x (call_alone _ less name func named takes) = alone_runs end inside less name func named takes
  operand_runs end is-end inside room ts x (call _ less name func us args last named a takes) = call_runs end inside less name func us args last named (args_run end is-end inside less us args last a) takes
  operand_runs end is-end inside room ts x (item less table us filter name e one-name) = item_runs end less table us filter name (expr_runs end is-end true less us filter e) one-name

  args_run : {A : Type 0} (end : State → Option A) → IsEnd end → (inside : Bool) (room : ℕ) (ts : List Token) (args : List Syntax) (last : Syntax) → AreArgs inside room ts args last → ArgsRun end inside room ts args last
  args_run end is-end inside room ts args last (first _ _ _ _ e) = first_runs end inside room ts last (expr_runs end is-end inside room ts last e)
  args_run end is-end inside room ts args last (next _ _ us vs before x _ a e) = next_runs end inside room us vs before x last (args_run end is-end inside room us before x a) (expr_runs end is-end inside room vs last e)

  links_run : {A : Type 0} (end : State → Option A) → IsEnd end → (inside : Bool) (room : ℕ) (ts : List Token) (ls : List Link) → AreLinks inside room ts ls → LinksRun end inside room ts ls
  links_run end is-end inside room ts ls (none _ _) = λ k fits base us. refl
  links_run end is-end inside room ts ls (link _ _ us vs before left sign op a o is) = link_runs end inside room us vs before left sign op (links_run end is-end inside room us before a) (operand_runs end is-end inside room vs left o) is

  pub expr_runs : {A : Type 0} (end : State → Option A) → IsEnd end → (inside : Bool) (room : ℕ) (ts : List Token) (e : Syntax) → IsExpr inside room ts e → ExprRuns end inside room ts e
  expr_runs end is-end inside room ts e (grouped _ _ us vs ls last _ a o tree) = grouped_runs end is-end inside room us vs ls last e (links_run end is-end inside room us ls a) (operand_runs end is-end inside room vs last o) tree

-- ---- whole expressions and itemsets

inside_alone : (x : List Pending × Syntax) → is_inside x.0 ≡ true → when_alone x ≡ None
inside_alone ([], whole) h = absurd cc
inside_alone (pending ∷ outer, whole) h = refl

expr_is_end : IsEnd expr_end
expr_is_end = record {
  alike = λ k l x y same. ap (λ (z : List Pending × Syntax). when_alone z) same;
  named = λ k name inside. sym (inside_alone (bound_by 1 (bound_by 7 k (syn.Column name)).0 (bound_by 7 k (syn.Column name)).1)
      (inside_bound 1 (bound_by 7 k (syn.Column name)).0 (bound_by 7 k (syn.Column name)).1 (omega arith) ∙ inside_bound 7 k (syn.Column name) (omega arith) ∙ inside));
}

itemset_is_end : IsEnd itemset_end
itemset_is_end = record { alike = λ k l x y same. refl; named = λ k name inside. refl }

pub expr_runs_whole : (ts : List Token) (e : Syntax) → IsWholeExpr ts e → run expr_end ts expr_start ≡ Some e
expr_runs_whole ts e h =
    let fits : Fits [] false 32 = record { insides = refl; rooms = refl; outside = refl } in
    ap (λ (x : List Token). run expr_end x expr_start) (sym (append-nil ts)) ∙ expr_runs expr_end expr_is_end false 32 ts e h [] fits refl [] refl

instance_opens : (us : List Token) → run itemset_end (tok.Name (codes "instance") ∷ us) itemset_start ≡ run itemset_end us (at (pend.Itemset ∷ []) want.TableOpening)
unfolding step
instance_opens us = refl

filter_opens : (table : List ℕ) (us : List Token) → run itemset_end (tok.OpenBracket ∷ us) (at (pend.Itemset ∷ []) (want.FilterOpening table)) ≡ run itemset_end us (at (pend.Filter table ∷ pend.Itemset ∷ []) want.Operand)
unfolding step
filter_opens table us = refl

filter_ends : (table : List ℕ) (filter : Syntax) → run itemset_end (tok.CloseBracket ∷ []) (at (pend.Filter table ∷ pend.Itemset ∷ []) (want.Operator filter)) ≡ Some (record { table = table; filter = Some filter })
unfolding step
filter_ends table filter = refl

itemset_opens : (table : List ℕ) (us : List Token) → run itemset_end (rows_of table ++ us) itemset_start ≡ run itemset_end us (at (pend.Itemset ∷ []) (want.FilterOpening table))
itemset_opens table us = instance_opens (tok.Open ∷ tok.Quoted table ∷ tok.Close ∷ tok.Absolute (codes "/root/item") ∷ us) ∙ rows_run itemset_end (pend.Itemset ∷ []) table us

itemset_runs_by : (n : ℕ) (ts : List Token) (set : Itemset) → IsItemset n ts set → n ≡ 32 → run itemset_end ts itemset_start ≡ Some set
itemset_runs_by n ts set (all_rows less table) is = itemset_opens table []
itemset_runs_by n ts set (filtered less table us filter h) is =
    let fits : Fits (pend.Filter table ∷ pend.Itemset ∷ []) true less = record { insides = refl; rooms = omega (arith, is); outside = refl } in
    itemset_opens table (tok.OpenBracket ∷ (us ++ tok.CloseBracket ∷ [])) ∙ filter_opens table (us ++ tok.CloseBracket ∷ []) ∙ expr_runs itemset_end itemset_is_end true less us filter h (pend.Filter table ∷ pend.Itemset ∷ []) fits refl (tok.CloseBracket ∷ []) refl
    ∙ filter_ends table filter

pub itemset_runs : (ts : List Token) (set : Itemset) → IsWholeItemset ts set → run itemset_end ts itemset_start ≡ Some set
itemset_runs ts set h = itemset_runs_by 32 ts set h refl
