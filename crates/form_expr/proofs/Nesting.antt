-- An expression with so much room has at most so many parentheses and brackets open at one place, and the other way round.
use Rattle.std.proofs.Common.{◌≡◌, ℕ, suc, ◌+◌, ◌-◌, ◌≤◌, Bool, true, List, [], ◌∷◌, ◌++◌, Some, refl, sym, subst, arith, append_assoc}
use Rattle.std.proofs.lemmas.List.{append-nil}
use Rattle.form_def.specs.declared.expr.Op.{Op}
use Rattle.form_tokens.specs.declared.token.Token.{Token}
use Rattle.form_tokens.specs.declared.token.Token.TheVariants as tok
use Rattle.form_expr.specs.declared.syntax.Syntax.{Syntax}
use Rattle.form_expr.specs.declared.syntax.Itemset.{Itemset}
use Rattle.form_expr.specs.Words.{operator_of}
use Rattle.form_expr.specs.Precedence.{Link}
use Rattle.form_expr.specs.Grammar.{rows_of, IsOperand, AreArgs, AreLinks, IsExpr, IsItemset, number, text, period, absolute, relative, column, negative, group, call_alone, call, item, first, next, none, link, grouped, all_rows, filtered}
use Rattle.form_expr.specs.Nesting.{depth_behind, IsWithin}

within_as : (most depth : ℕ) (ts us : List Token) → ts ≡ us → IsWithin most depth ts → IsWithin most depth us
within_as most depth ts us e h = subst (λ (x : List Token). IsWithin most depth x) e h

within_low : (most depth : ℕ) (ts : List Token) → IsWithin most depth ts → depth ≤ most
within_low most depth [] h = h
within_low most depth (t ∷ ts) h = h.0

-- operators open and close nothing
sign_opens : (sign : Token) (op : Op) (depth : ℕ) → operator_of sign ≡ Some op → depth_behind depth sign ≡ depth
sign_opens tok.Open op depth h = absurd cc
sign_opens tok.Close op depth h = absurd cc
sign_opens tok.OpenBracket op depth h = absurd cc
sign_opens tok.CloseBracket op depth h = absurd cc
sign_opens _ op depth h = refl

-- ---- at most so many

-- where so many more may open, and what follows is within, all is
abbrev Lows : ℕ → List Token → Type 0
Lows n ts = (most depth : ℕ) (us : List Token) → depth + n ≤ most → IsWithin most depth us → IsWithin most depth (ts ++ us)

both_low : (n : ℕ) (ts us : List Token) → Lows n ts → Lows n us → Lows n (ts ++ us)
both_low n ts us h k most depth vs le w = within_as most depth (ts ++ (us ++ vs)) ((ts ++ us) ++ vs) (sym (append_assoc ts us vs)) (h most depth (us ++ vs) le (k most depth vs le w))

plain_low : (n : ℕ) (t : Token) → ((depth : ℕ) → depth_behind depth t ≡ depth) → Lows n (t ∷ [])
plain_low n t plain most depth us le w = (omega (arith, le), subst (λ (m : ℕ). IsWithin most m us) (sym (plain depth)) w)

group_low : (n : ℕ) (ts : List Token) → Lows n ts → Lows (suc n) (tok.Open ∷ (ts ++ tok.Close ∷ []))
group_low n ts h most depth us le w =
    (omega (arith, le), within_as most (suc depth) (ts ++ (tok.Close ∷ us)) ((ts ++ tok.Close ∷ []) ++ us) (sym (append_assoc ts (tok.Close ∷ []) us)) (h most (suc depth) (tok.Close ∷ us) (omega (arith, le)) (omega (arith, le), w)))

call_low : (n : ℕ) (name : List ℕ) (ts : List Token) → Lows n ts → Lows (suc n) (tok.Name name ∷ tok.Open ∷ (ts ++ tok.Close ∷ []))
call_low n name ts h most depth us le w = (omega (arith, le), group_low n ts h most depth us le w)

nil_low : (n : ℕ) → Lows n []
nil_low n most depth us le w = w

rows_low : (n : ℕ) (table : List ℕ) → Lows (suc n) (rows_of table)
rows_low n table most depth us le w = (omega (arith, le), (omega (arith, le), (omega (arith, le), (omega (arith, le), (omega (arith, le), w)))))

filter_low : (n : ℕ) (ts us : List Token) → Lows n ts → Lows (suc n) us → Lows (suc n) (tok.OpenBracket ∷ (ts ++ tok.CloseBracket ∷ us))
filter_low n ts us h k most depth vs le w = (
  omega (arith, le),
  within_as most (suc depth) (ts ++ (tok.CloseBracket ∷ (us ++ vs))) ((ts ++ tok.CloseBracket ∷ us) ++ vs) (sym (append_assoc ts (tok.CloseBracket ∷ us) vs))
      (h most (suc depth) (tok.CloseBracket ∷ (us ++ vs)) (omega (arith, le)) (omega (arith, le), k most depth vs le w)),
)

mutual
  operand_low : (inside : Bool) (n : ℕ) (ts : List Token) (x : Syntax) → IsOperand inside n ts x → Lows n ts
  operand_low inside n ts x (number _ _ k) = plain_low n (tok.Digits k) (λ depth. refl)
  operand_low inside n ts x (text _ _ words) = plain_low n (tok.Quoted words) (λ depth. refl)
  operand_low inside n ts x (period _) = plain_low n tok.Dot (λ depth. refl)
  operand_low inside n ts x (absolute _ _ path) = plain_low n (tok.Absolute path) (λ depth. refl)
  operand_low inside n ts x (relative _ path) = plain_low n (tok.Relative path) (λ depth. refl)
  operand_low inside n ts x (column _ name) = plain_low n (tok.Name name) (λ depth. refl)
  operand_low inside n ts x (negative _ _ us y o) = both_low n (tok.Minus ∷ []) us (plain_low n tok.Minus (λ depth. refl)) (operand_low inside n us y o)
  operand_low inside n ts x (group _ m us _ e) = group_low m us (expr_low inside m us x e)
  operand_low inside n ts x (call_alone _ m name func named takes) = call_low m name [] (nil_low m)
  operand_low inside n ts x (call _ m name func us args last named a takes) = call_low m name us (args_low inside m us args last a)
  operand_low inside n ts x (item m table us filter name e one) =
      both_low (suc m) (rows_of table) (tok.OpenBracket ∷ (us ++ tok.CloseBracket ∷ tok.Absolute (47 ∷ name) ∷ [])) (rows_low m table)
      (filter_low m us (tok.Absolute (47 ∷ name) ∷ []) (expr_low true m us filter e) (plain_low (suc m) (tok.Absolute (47 ∷ name)) (λ depth. refl)))

  args_low : (inside : Bool) (n : ℕ) (ts : List Token) (args : List Syntax) (last : Syntax) → AreArgs inside n ts args last → Lows n ts
  args_low inside n ts args last (first _ _ _ _ e) = expr_low inside n ts last e
  args_low inside n ts args last (next _ _ us vs before x _ a e) = both_low n us (tok.Comma ∷ vs) (args_low inside n us before x a) (both_low n (tok.Comma ∷ []) vs (plain_low n tok.Comma (λ depth. refl)) (expr_low inside n vs last e))

  links_low : (inside : Bool) (n : ℕ) (ts : List Token) (ls : List Link) → AreLinks inside n ts ls → Lows n ts
  links_low inside n ts ls (none _ _) = nil_low n
  links_low inside n ts ls (link _ _ us vs before left sign op a o is) =
      both_low n us (vs ++ sign ∷ []) (links_low inside n us before a) (both_low n vs (sign ∷ []) (operand_low inside n vs left o) (plain_low n sign (λ depth. sign_opens sign op depth is)))

  expr_low : (inside : Bool) (n : ℕ) (ts : List Token) (e : Syntax) → IsExpr inside n ts e → Lows n ts
  expr_low inside n ts e (grouped _ _ us vs ls last _ a o tree) = both_low n us vs (links_low inside n us ls a) (operand_low inside n vs last o)

pub expr_within : (inside : Bool) (n : ℕ) (ts : List Token) (e : Syntax) → IsExpr inside n ts e → IsWithin n 0 ts
expr_within inside n ts e h = within_as n 0 (ts ++ []) ts (append-nil ts) (expr_low inside n ts e h n 0 [] (omega arith) (omega arith))

itemset_low : (n : ℕ) (ts : List Token) (set : Itemset) → IsItemset n ts set → Lows n ts
itemset_low n ts set (all_rows m table) = rows_low m table
itemset_low n ts set (filtered m table us filter e) =
    both_low (suc m) (rows_of table) (tok.OpenBracket ∷ (us ++ tok.CloseBracket ∷ [])) (rows_low m table) (filter_low m us [] (expr_low true m us filter e) (nil_low (suc m)))

pub itemset_within : (n : ℕ) (ts : List Token) (set : Itemset) → IsItemset n ts set → IsWithin n 0 ts
itemset_within n ts set h = within_as n 0 (ts ++ []) ts (append-nil ts) (itemset_low n ts set h n 0 [] (omega arith) (omega arith))

-- ---- room for so many is enough

-- where all is within, it has the room that is left, and what follows is within
abbrev Enough : (ℕ → Type 0) → List Token → Type 0
Enough P ts = (most depth n : ℕ) (us : List Token) → IsWithin most depth (ts ++ us) → depth + n ≡ most → P n × IsWithin most depth us

plain_enough : (P : ℕ → Type 0) (t : Token) → ((depth : ℕ) → depth_behind depth t ≡ depth) → ((n : ℕ) → P n) → Enough P (t ∷ [])
plain_enough P t plain p most depth n us w e = (p n, subst (λ (m : ℕ). IsWithin most m us) (plain depth) w.1)

both_enough : (P Q R : ℕ → Type 0) (ts us : List Token) → Enough P ts → Enough Q us → ((n : ℕ) → P n → Q n → R n) → Enough R (ts ++ us)
both_enough P Q R ts us h k join most depth n vs w e =
    let one = h most depth n (us ++ vs) (within_as most depth ((ts ++ us) ++ vs) (ts ++ (us ++ vs)) (append_assoc ts us vs) w) e in
    let two = k most depth n vs one.1 e in
    (join n one.0 two.0, two.1)

nil_enough : (P : ℕ → Type 0) → ((n : ℕ) → P n) → Enough P []
nil_enough P p most depth n us w e = (p n, w)

group_enough : (P Q : ℕ → Type 0) (ts : List Token) → Enough P ts → ((n : ℕ) → P n → Q (suc n)) → Enough Q (tok.Open ∷ (ts ++ tok.Close ∷ []))
group_enough P Q ts h join most depth n us w e =
    let deeper = within_as most (suc depth) ((ts ++ tok.Close ∷ []) ++ us) (ts ++ (tok.Close ∷ us)) (append_assoc ts (tok.Close ∷ []) us) w.1 in
    let low = within_low most (suc depth) (ts ++ (tok.Close ∷ us)) deeper in
    let rest = h most (suc depth) (n - 1) (tok.Close ∷ us) deeper (omega (arith, low, e)) in
    (subst Q (omega (arith, low, e)) (join (n - 1) rest.0), rest.1.1)

call_enough : (P Q : ℕ → Type 0) (name : List ℕ) (ts : List Token) → Enough P ts → ((n : ℕ) → P n → Q (suc n)) → Enough Q (tok.Name name ∷ tok.Open ∷ (ts ++ tok.Close ∷ []))
call_enough P Q name ts h join most depth n us w e = group_enough P Q ts h join most depth n us w.1 e

rows_enough : (P : ℕ → Type 0) (table : List ℕ) → ((n : ℕ) → P (suc n)) → Enough P (rows_of table)
rows_enough P table p most depth n us (a, (b, (c, (d, (f, w))))) e = (subst P (omega (arith, c, e)) (p (n - 1)), w)

filter_enough : (P Q : ℕ → Type 0) (ts us : List Token) → Enough P ts → Enough (λ n. Unit {0}) us → ((n : ℕ) → P n → Q (suc n)) → Enough Q (tok.OpenBracket ∷ (ts ++ tok.CloseBracket ∷ us))
filter_enough P Q ts us h k join most depth n vs w e =
    let deeper = within_as most (suc depth) ((ts ++ tok.CloseBracket ∷ us) ++ vs) (ts ++ (tok.CloseBracket ∷ (us ++ vs))) (append_assoc ts (tok.CloseBracket ∷ us) vs) w.1 in
    let low = within_low most (suc depth) (ts ++ (tok.CloseBracket ∷ (us ++ vs))) deeper in
    let rest = h most (suc depth) (n - 1) (tok.CloseBracket ∷ (us ++ vs)) deeper (omega (arith, low, e)) in
    let behind = k most depth n vs rest.1.1 e in
    (subst Q (omega (arith, low, e)) (join (n - 1) rest.0), behind.1)

mutual
  operand_enough : (inside : Bool) (n : ℕ) (ts : List Token) (x : Syntax) → IsOperand inside n ts x → Enough (λ m. IsOperand inside m ts x) ts
  operand_enough inside n ts x (number _ _ k) = plain_enough (λ m. IsOperand inside m ts x) (tok.Digits k) (λ depth. refl) (λ m. number inside m k)
  operand_enough inside n ts x (text _ _ words) = plain_enough (λ m. IsOperand inside m ts x) (tok.Quoted words) (λ depth. refl) (λ m. text inside m words)
  operand_enough inside n ts x (period _) = plain_enough (λ m. IsOperand inside m ts x) tok.Dot (λ depth. refl) (λ m. period m)
  operand_enough inside n ts x (absolute _ _ path) = plain_enough (λ m. IsOperand inside m ts x) (tok.Absolute path) (λ depth. refl) (λ m. absolute inside m path)
  operand_enough inside n ts x (relative _ path) = plain_enough (λ m. IsOperand inside m ts x) (tok.Relative path) (λ depth. refl) (λ m. relative m path)
  operand_enough inside n ts x (column _ name) = plain_enough (λ m. IsOperand inside m ts x) (tok.Name name) (λ depth. refl) (λ m. column m name)
  operand_enough inside n ts x (negative _ _ us y o) =
      both_enough (λ m. Unit {0}) (λ m. IsOperand inside m us y) (λ m. IsOperand inside m ts x) (tok.Minus ∷ []) us (plain_enough (λ m. Unit {0}) tok.Minus (λ depth. refl) (λ m. tt)) (operand_enough inside n us y o) (λ m p q. negative inside m us y q)
  operand_enough inside n ts x (group _ less us _ e) = group_enough (λ m. IsExpr inside m us x) (λ m. IsOperand inside m ts x) us (expr_enough inside less us x e) (λ m h. group inside m us x h)
  operand_enough inside n ts x (call_alone _ less name func named takes) = call_enough (λ m. Unit {0}) (λ m. IsOperand inside m ts x) name [] (nil_enough (λ m. Unit {0}) (λ m. tt)) (λ m h. call_alone inside m name func named takes)
  operand_enough inside n ts x (call _ less name func us args last named a takes) =
      call_enough (λ m. AreArgs inside m us args last) (λ m. IsOperand inside m ts x) name us (args_enough inside less us args last a) (λ m h. call inside m name func us args last named h takes)
  operand_enough inside n ts x (item less table us filter name e one) =
      both_enough (λ m. Unit {0}) (λ m. IsOperand inside m ts x) (λ m. IsOperand inside m ts x) (rows_of table) (tok.OpenBracket ∷ (us ++ tok.CloseBracket ∷ tok.Absolute (47 ∷ name) ∷ [])) (rows_enough (λ m. Unit {0}) table (λ m. tt))
      (filter_enough (λ m. IsExpr true m us filter) (λ m. IsOperand inside m ts x) us (tok.Absolute (47 ∷ name) ∷ []) (expr_enough true less us filter e) (plain_enough (λ m. Unit {0}) (tok.Absolute (47 ∷ name)) (λ depth. refl) (λ m. tt)) (λ m h. item m table us filter name h one))
      (λ m p q. q)

  args_enough : (inside : Bool) (n : ℕ) (ts : List Token) (args : List Syntax) (last : Syntax) → AreArgs inside n ts args last → Enough (λ m. AreArgs inside m ts args last) ts
  args_enough inside n ts args last (first _ _ _ _ e) = λ most depth m us w eq. (let h = expr_enough inside n ts last e most depth m us w eq in (first inside m ts last h.0, h.1))
  args_enough inside n ts args last (next _ _ us vs before x _ a e) =
      both_enough (λ m. AreArgs inside m us before x) (λ m. IsExpr inside m vs last) (λ m. AreArgs inside m ts args last) us (tok.Comma ∷ vs) (args_enough inside n us before x a)
      (both_enough (λ m. Unit {0}) (λ m. IsExpr inside m vs last) (λ m. IsExpr inside m vs last) (tok.Comma ∷ []) vs (plain_enough (λ m. Unit {0}) tok.Comma (λ depth. refl) (λ m. tt)) (expr_enough inside n vs last e) (λ m p q. q))
      (λ m p q. next inside m us vs before x last p q)

  links_enough : (inside : Bool) (n : ℕ) (ts : List Token) (ls : List Link) → AreLinks inside n ts ls → Enough (λ m. AreLinks inside m ts ls) ts
  links_enough inside n ts ls (none _ _) = nil_enough (λ m. AreLinks inside m ts ls) (λ m. none inside m)
  links_enough inside n ts ls (link _ _ us vs before left sign op a o is) =
      both_enough (λ m. AreLinks inside m us before) (λ m. IsOperand inside m vs left) (λ m. AreLinks inside m ts ls) us (vs ++ sign ∷ []) (links_enough inside n us before a)
      (both_enough (λ m. IsOperand inside m vs left) (λ m. Unit {0}) (λ m. IsOperand inside m vs left) vs (sign ∷ []) (operand_enough inside n vs left o) (plain_enough (λ m. Unit {0}) sign (λ depth. sign_opens sign op depth is) (λ m. tt)) (λ m p q. p))
      (λ m p q. link inside m us vs before left sign op p q is)

  expr_enough : (inside : Bool) (n : ℕ) (ts : List Token) (e : Syntax) → IsExpr inside n ts e → Enough (λ m. IsExpr inside m ts e) ts
  expr_enough inside n ts e (grouped _ _ us vs ls last _ a o tree) =
      both_enough (λ m. AreLinks inside m us ls) (λ m. IsOperand inside m vs last) (λ m. IsExpr inside m ts e) us vs (links_enough inside n us ls a) (operand_enough inside n vs last o) (λ m p q. grouped inside m us vs ls last e p q tree)

pub expr_has_room : (inside : Bool) (n m : ℕ) (ts : List Token) (e : Syntax) → IsExpr inside m ts e → IsWithin n 0 ts → IsExpr inside n ts e
expr_has_room inside n m ts e h w = (expr_enough inside m ts e h n 0 n [] (within_as n 0 ts (ts ++ []) (sym (append-nil ts)) w) (omega arith)).0

itemset_enough : (n : ℕ) (ts : List Token) (set : Itemset) → IsItemset n ts set → Enough (λ m. IsItemset m ts set) ts
itemset_enough n ts set (all_rows less table) = rows_enough (λ m. IsItemset m ts set) table (λ m. all_rows m table)
itemset_enough n ts set (filtered less table us filter e) =
    both_enough (λ m. Unit {0}) (λ m. IsItemset m ts set) (λ m. IsItemset m ts set) (rows_of table) (tok.OpenBracket ∷ (us ++ tok.CloseBracket ∷ [])) (rows_enough (λ m. Unit {0}) table (λ m. tt))
    (filter_enough (λ m. IsExpr true m us filter) (λ m. IsItemset m ts set) us [] (expr_enough true less us filter e) (nil_enough (λ m. Unit {0}) (λ m. tt)) (λ m h. filtered m table us filter h)) (λ m p q. q)

pub itemset_has_room : (n m : ℕ) (ts : List Token) (set : Itemset) → IsItemset m ts set → IsWithin n 0 ts → IsItemset n ts set
itemset_has_room n m ts set h w = (itemset_enough m ts set h n 0 n [] (within_as n 0 ts (ts ++ []) (sym (append-nil ts)) w) (omega arith)).0
