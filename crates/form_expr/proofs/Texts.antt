-- What a text is read as is what the grammar says of its tokens.
use Rattle.std.proofs.Common.{◌≡◌, ℕ, zero, suc, ◌<◌, ◌≤◌, Bool, true, false, cond, List, [], ◌∷◌, ◌++◌, length, Option, Some, None, Result, Ok, Err, refl, sym, ap, subst, ◌∙◌, arith, append_assoc}
use Rattle.std.specs.Prelude.{nat_lt, IfOk, IfErr}
use Rattle.std.specs.Str.{chars, IsUtf8}
use Rattle.std.proofs.lemmas.Bool.{ltb-true, ltb-false, le-ltb}
use Rattle.std.proofs.lemmas.List.{append-nil}
use Rattle.field_text.specs.Xml.{is_xml_space}
use Rattle.rosa_pieces.specs.Reading.{◌>>=◌, past}
use Rattle.rosa_pieces.proofs.Steps.{bind_some, some_is}
use Rattle.form_tokens.specs.declared.token.Token.{Token}
use Rattle.form_tokens.specs.Tokens.{token_at}
use Rattle.form_expr.specs.declared.syntax.Syntax.{Syntax}
use Rattle.form_expr.specs.declared.syntax.Itemset.{Itemset}
use Rattle.form_expr.specs.declared.syntax.ExprFault.{ExprFault}
use Rattle.form_expr.specs.declared.syntax.ExprFault.TheVariants.{BadExpr, NoMemory}
use Rattle.form_expr.specs.Grammar.{Begins, IsWholeExpr, IsWholeItemset}
use Rattle.form_expr.specs.Machine.{State, step, expr_start, expr_end, itemset_start, itemset_end}
use Rattle.form_expr.specs.Reading.{taken, goes_on, read_on, read_from, read_all, placed, place_before, ended, or_place, longest_text, expr_of, itemset_of, Reads}
use Rattle.form_expr.specs.Laws.{AreFirst, Spells, CantGoOn, long, stops, ReadsAs, RefusedAs}
use Rattle.form_expr.proofs.Readings.{taken_is, taken_is_long, read_next, read_ends}
use Rattle.form_expr.proofs.Complete.{run, expr_runs_whole, itemset_runs}
use Rattle.form_expr.proofs.Stands.{Stands}
use Rattle.form_expr.proofs.Steps.{step_stands, expr_stands, expr_ends, itemset_stands, itemset_ends}
use Rattle.form_expr.proofs.Viable.{stands_begin}
use Rattle.form_expr.proofs.Ends.{rest_fits}

-- ---- steps

abbrev steps : List Token → State → Option State
steps [] s = Some s
steps (token ∷ tokens) s = step s token >>= λ next. steps tokens next

bind_at : {A B : Type 0} (o : Option A) (f : A → Option B) (x : A) → o ≡ Some x → (o >>= f) ≡ f x
bind_at o f x e = rw e refl

run_steps : {A : Type 0} (end : State → Option A) (tokens us : List Token) (s t : State) → steps tokens s ≡ Some t → run end (tokens ++ us) s ≡ run end us t
run_steps end [] us s t e = ap (λ (u : State). run end us u) (some_is s t e)
run_steps end (token ∷ tokens) us s t e =
    let g = bind_some (step s token) (λ (next : State). steps tokens next) t e in
    bind_at (step s token) (λ (next : State). run end (tokens ++ us) next) g.0 g.1 ∙ run_steps end tokens us g.0 t g.2

-- ---- from the text to its tokens

record IsRead (set : Bool) (done : List Token) (s : State) (cs : List ℕ) (t : State) (rest : List ℕ) : Type 0 where
  tokens : List Token
  are_first : AreFirst tokens cs rest
  stands : Stands set t (done ++ tokens)
  goes : steps tokens s ≡ Some t

abbrev IsStuck : State → List ℕ → Type 0
IsStuck t [] = ⊥
IsStuck t (c ∷ cs) = taken t (c ∷ cs) ≡ None

abbrev Outcome : Bool → List Token → State → List ℕ → Result State (List ℕ) → Type 0
Outcome set done s cs (Ok t) = IsRead set done s cs t []
Outcome set done s cs (Err rest) = (t : State) × IsRead set done s cs t rest × IsStuck t rest

stays : (set : Bool) (done : List Token) (s : State) (cs rest : List ℕ) → Stands set s done → past is_xml_space cs ≡ rest → IsRead set done s cs s rest
stays set done s cs rest h e = record { tokens = []; are_first = e; stands = subst (λ (x : List Token). Stands set s x) (sym (append-nil done)) h; goes = refl }

one_more : (set : Bool) (done : List Token) (s u t : State) (cs after rest : List ℕ) (token : Token) → token_at (past is_xml_space cs) ≡ Some (token, after) → step s token ≡ Some u → IsRead set (done ++ token ∷ []) u after t rest → IsRead set done s cs t rest
one_more set done s u t cs after rest token is e h = record {
  tokens = token ∷ h.tokens;
  are_first = (after, is, h.are_first);
  stands = subst (λ (x : List Token). Stands set t x) (append_assoc done (token ∷ []) h.tokens) h.stands;
  goes = bind_at (step s token) (λ (next : State). steps h.tokens next) u e ∙ h.goes;
}

outcome_more : (set : Bool) (done : List Token) (s u : State) (cs after : List ℕ) (token : Token) → token_at (past is_xml_space cs) ≡ Some (token, after) → step s token ≡ Some u
    → (r : Result State (List ℕ)) → Outcome set (done ++ token ∷ []) u after r → Outcome set done s cs r
outcome_more set done s u cs after token is e (Ok t) h = one_more set done s u t cs after [] token is e h
outcome_more set done s u cs after token is e (Err rest) (t, h, stuck) = (t, one_more set done s u t cs after rest token is e h, stuck)

abbrev OutcomeOn : Bool → ℕ → Type 0
OutcomeOn set n = (done : List Token) (s : State) (cs : List ℕ) → length (past is_xml_space cs) < n → Stands set s done → Outcome set done s cs (read_on n s (past is_xml_space cs))

outcome_taken : (set : Bool) (n : ℕ) (done : List Token) (s : State) (cs : List ℕ) (c : ℕ) (qs : List ℕ) → past is_xml_space cs ≡ c ∷ qs → length (c ∷ qs) < suc n → Stands set s done → OutcomeOn set n
    → (o : Option (State × List ℕ)) → taken s (c ∷ qs) ≡ o → Outcome set done s cs (goes_on (λ u r. read_on n u r) (c ∷ qs) o)
outcome_taken set n done s cs c qs is short h ih None e = (s, stays set done s cs (c ∷ qs) h is, e)
outcome_taken set n done s cs c qs is short h ih (Some x) e =
    let took = taken_is s x.0 (c ∷ qs) x.1 e in
    let lt = taken_is_long s x.0 (c ∷ qs) x.1 e in
    let token-is : token_at (past is_xml_space cs) ≡ Some (took.token, took.after) = ap token_at is ∙ took.is_token in
    let stands = step_stands set s x.0 done took.token h took.steps in
    let rest = ih (done ++ took.token ∷ []) x.0 took.after (omega (arith, lt, short, ap length took.rest_is)) stands in
    let here : Outcome set (done ++ took.token ∷ []) x.0 took.after (read_on n x.0 x.1) = subst (λ (r : List ℕ). Outcome set (done ++ took.token ∷ []) x.0 took.after (read_on n x.0 r)) took.rest_is rest in
    outcome_more set done s x.0 cs took.after took.token token-is took.steps (read_on n x.0 x.1) here

outcome_at : (set : Bool) (n : ℕ) (done : List Token) (s : State) (cs qs : List ℕ) → past is_xml_space cs ≡ qs → length qs < suc n → Stands set s done → OutcomeOn set n → Outcome set done s cs (read_on (suc n) s qs)
outcome_at set n done s cs [] is short h ih = stays set done s cs [] h is
outcome_at set n done s cs (c ∷ qs) is short h ih = outcome_taken set n done s cs c qs is short h ih (taken s (c ∷ qs)) refl

outcome_on : (set : Bool) (n : ℕ) → OutcomeOn set n
outcome_on set zero done s cs short h = absurd (omega arith)
outcome_on set (suc n) done s cs short h = outcome_at set n done s cs (past is_xml_space cs) refl short h (λ d t r l g. outcome_on set n d t r l g)

outcome : (set : Bool) (s : State) (cs : List ℕ) → Stands set s [] → Outcome set [] s cs (read_from s (past is_xml_space cs))
unfolding read_from
outcome set s cs h = outcome_on set (suc (length (past is_xml_space cs))) [] s cs (omega arith) h

-- ---- from the tokens to the text

taken_from : (s u : State) (cs after : List ℕ) (token : Token) → token_at cs ≡ Some (token, after) → step s token ≡ Some u → taken s cs ≡ Some (u, past is_xml_space after)
unfolding taken
taken_from s u cs after token is e = rw (is, e) refl

no_step : (s : State) (cs after : List ℕ) (token : Token) → token_at cs ≡ Some (token, after) → taken s cs ≡ None → step s token ≡ None
no_step s cs after token is e =
    elim (step s token) as (λ (o : Option State). step s token ≡ o → o ≡ None) [
      | None ↦ λ f. refl
      | Some u ↦ λ f. absurd (let some = taken_from s u cs after token is f in let both : None ≡ Some (u, past is_xml_space after) = sym e ∙ some in cc)
    ] refl

record IsReadTo {A : Type 0} (end : State → Option A) (whole : A) (r : Result State (List ℕ)) : Type 0 where
  state : State
  reads : r ≡ Ok state
  ends : end state ≡ Some whole

reads_to : {A : Type 0} (end : State → Option A) (whole : A) (tokens : List Token) (s : State) (cs : List ℕ) → AreFirst tokens cs [] → run end tokens s ≡ Some whole → IsReadTo end whole (read_from s (past is_xml_space cs))
reads_to end whole [] s cs first e = record { state = s; reads = read_ends s (past is_xml_space cs) (ap length first); ends = e }
reads_to end whole (token ∷ tokens) s cs (after, is, others) e =
    let g = bind_some (step s token) (λ (next : State). run end tokens next) whole e in
    let rest = reads_to end whole tokens g.0 after others g.2 in
    let took = taken_from s g.0 (past is_xml_space cs) after token is g.1 in
    record { state = rest.state; reads = sym (read_next s g.0 (past is_xml_space cs) (past is_xml_space after) took) ∙ rest.reads; ends = rest.ends }

-- ---- any reader

record IsReader {A : Type 0} (IsWhole : List Token → A → Type 0) (set : Bool) (start : State) (end : State → Option A) : Type 0 where
  starts : Stands set start []
  ends : (s : State) (tokens : List Token) (whole : A) → Stands set s tokens → end s ≡ Some whole → IsWhole tokens whole
  runs : (tokens : List Token) (whole : A) → IsWhole tokens whole → run end tokens start ≡ Some whole
  begins : (s : State) (tokens : List Token) → Stands set s tokens → Begins IsWhole tokens

no_whole : {A : Type 0} (IsWhole : List Token → A → Type 0) (set : Bool) (start : State) (end : State → Option A) → IsReader IsWhole set start end → (tokens : List Token) (t : State) → steps tokens start ≡ Some t → end t ≡ None
    → (whole : A) → IsWhole tokens whole → ⊥
no_whole IsWhole set start end reader tokens t e none whole is =
    let all = reader.runs tokens whole is in
    let there : run end tokens start ≡ end t = ap (λ (x : List Token). run end x start) (sym (append-nil tokens)) ∙ run_steps end tokens [] start t e in
    let both : None ≡ Some whole = sym none ∙ sym there ∙ all in
    cc

went : {A : Type 0} (IsWhole : List Token → A → Type 0) (set : Bool) (start : State) (end : State → Option A) → IsReader IsWhole set start end → (tokens : List Token) (t : State) → steps tokens start ≡ Some t
    → (c : ℕ) (cs : List ℕ) → taken t (c ∷ cs) ≡ None → (token : Token) (after : List ℕ) → token_at (c ∷ cs) ≡ Some (token, after) → Begins IsWhole (tokens ++ token ∷ []) → ⊥
went IsWhole set start end reader tokens t e c cs stuck token after is b =
    let none = no_step t (c ∷ cs) after token is stuck in
    let all = reader.runs ((tokens ++ token ∷ []) ++ b.more) b.whole b.is_whole in
    let there : run end ((tokens ++ token ∷ []) ++ b.more) start ≡ run end (token ∷ b.more) t = ap (λ (x : List Token). run end x start) (append_assoc tokens (token ∷ []) b.more) ∙ run_steps end tokens (token ∷ b.more) start t e in
    let nowhere : run end (token ∷ b.more) t ≡ None = ap (λ (o : Option State). o >>= λ next. run end b.more next) none in
    let both : None ≡ Some b.whole = sym nowhere ∙ sym there ∙ all in
    cc

cant_go_on : {A : Type 0} (IsWhole : List Token → A → Type 0) (set : Bool) (start : State) (end : State → Option A) → IsReader IsWhole set start end → (tokens : List Token) (t : State) → steps tokens start ≡ Some t
    → (rest : List ℕ) → IsStuck t rest → CantGoOn IsWhole tokens rest
cant_go_on IsWhole set start end reader tokens t e [] stuck = absurd stuck
cant_go_on IsWhole set start end reader tokens t e (c ∷ cs) stuck = λ token after is b. went IsWhole set start end reader tokens t e c cs stuck token after is b

ended_is : {A : Type 0} (IsWhole : List Token → A → Type 0) (set : Bool) (start : State) (end : State → Option A) → IsReader IsWhole set start end → (text : List ℕ) → length text ≤ longest_text → (t : State) → IsRead set [] start (chars text) t []
    → (o : Option A) → end t ≡ o → ReadsAs IsWhole text (or_place (length text) o)
ended_is IsWhole set start end reader text short t h (Some whole) e = record { short = short; tokens = h.tokens; first = h.are_first; is_whole = reader.ends t h.tokens whole h.stands e }
ended_is IsWhole set start end reader text short t h None e = stops (length text) (record {
  short = short;
  tokens = h.tokens;
  rest = [];
  first = h.are_first;
  begin = reader.begins t h.tokens h.stands;
  end = no_whole IsWhole set start end reader h.tokens t h.goes e;
  place = omega arith;
})

placed_is : {A : Type 0} (IsWhole : List Token → A → Type 0) (set : Bool) (start : State) (end : State → Option A) → IsReader IsWhole set start end → (text : List ℕ) → IsUtf8 text → length text ≤ longest_text
    → (r : Result State (List ℕ)) → Outcome set [] start (chars text) r → ReadsAs IsWhole text (ended end text (placed text r))
placed_is IsWhole set start end reader text utf8 short (Ok t) h = ended_is IsWhole set start end reader text short t h (end t) refl
placed_is IsWhole set start end reader text utf8 short (Err rest) (t, h, stuck) = stops (place_before text rest) (record {
  short = short;
  tokens = h.tokens;
  rest = rest;
  first = h.are_first;
  begin = reader.begins t h.tokens h.stands;
  end = cant_go_on IsWhole set start end reader h.tokens t h.goes rest stuck;
  place = (let fits = rest_fits h.tokens text rest utf8 h.are_first in omega (arith, fits));
})

reading_is : {A : Type 0} (IsWhole : List Token → A → Type 0) (set : Bool) (start : State) (end : State → Option A) → IsReader IsWhole set start end → (text : List ℕ) → IsUtf8 text → ReadsAs IsWhole text (ended end text (read_all start text))
unfolding read_all
reading_is IsWhole set start end reader text utf8 =
    elim (nat_lt longest_text (length text)) as (λ (b : Bool). nat_lt longest_text (length text) ≡ b → ReadsAs IsWhole text (ended end text (cond b (Err longest_text) (placed text (read_from start (past is_xml_space (chars text))))))) [
      | true ↦ λ e. long (ltb-true longest_text (length text) e)
      | false ↦ λ e. placed_is IsWhole set start end reader text utf8 (ltb-false longest_text (length text) e) (read_from start (past is_xml_space (chars text))) (outcome set start (chars text) reader.starts)
    ] refl

spelled_is_read : {A : Type 0} (IsWhole : List Token → A → Type 0) (set : Bool) (start : State) (end : State → Option A) → IsReader IsWhole set start end → (text : List ℕ) (whole : A) → Spells IsWhole text whole → ended end text (read_all start text) ≡ Ok whole
unfolding read_all
spelled_is_read {A = A} IsWhole set start end reader text whole h =
    let to = reads_to end whole h.tokens start (chars text) h.first (reader.runs h.tokens whole h.is_whole) in
    let short = le-ltb longest_text (length text) h.short in
    rw short (ap (λ (r : Result State (List ℕ)). ended end text (placed text r)) to.reads ∙ ap (λ (o : Option A). or_place (length text) o) to.ends)

-- ---- expressions and itemsets

expr_reader : IsReader IsWholeExpr false expr_start expr_end
expr_reader = record {
  starts = expr_stands;
  ends = λ s tokens whole h e. expr_ends s tokens whole h e;
  runs = λ tokens whole is. expr_runs_whole tokens whole is;
  begins = λ s tokens h. stands_begin false s tokens h;
}

itemset_reader : IsReader IsWholeItemset true itemset_start itemset_end
itemset_reader = record {
  starts = itemset_stands;
  ends = λ s tokens whole h e. itemset_ends s tokens whole h e;
  runs = λ tokens whole is. itemset_runs tokens whole is;
  begins = λ s tokens h. stands_begin true s tokens h;
}

pub expr_reading_is : (text : List ℕ) → IsUtf8 text → ReadsAs IsWholeExpr text (expr_of text)
unfolding expr_of
expr_reading_is text utf8 = reading_is IsWholeExpr false expr_start expr_end expr_reader text utf8

pub itemset_reading_is : (text : List ℕ) → IsUtf8 text → ReadsAs IsWholeItemset text (itemset_of text)
unfolding itemset_of
itemset_reading_is text utf8 = reading_is IsWholeItemset true itemset_start itemset_end itemset_reader text utf8

pub expr_is_read : (text : List ℕ) (whole : Syntax) → Spells IsWholeExpr text whole → expr_of text ≡ Ok whole
unfolding expr_of
expr_is_read text whole h = spelled_is_read IsWholeExpr false expr_start expr_end expr_reader text whole h

pub itemset_is_read : (text : List ℕ) (whole : Itemset) → Spells IsWholeItemset text whole → itemset_of text ≡ Ok whole
unfolding itemset_of
itemset_is_read text whole h = spelled_is_read IsWholeItemset true itemset_start itemset_end itemset_reader text whole h

-- ---- what the code returns

found_from : {A : Type 0} (IsWhole : List Token → A → Type 0) (text : List ℕ) (reading : Result A ℕ) → ReadsAs IsWhole text reading → (r : Result A ExprFault) → Reads (λ x. x) r reading → IfOk r (λ whole. Spells IsWhole text whole)
found_from {A = A} IsWhole text reading h (Ok x) e = subst (λ (y : Result A ℕ). ReadsAs IsWhole text y) e h
found_from {A = A} IsWhole text reading h (Err fault) e = tt

refused_from : {A : Type 0} (IsWhole : List Token → A → Type 0) (text : List ℕ) (reading : Result A ℕ) → ReadsAs IsWhole text reading → (r : Result A ExprFault) → Reads (λ x. x) r reading → IfErr r (λ fault. RefusedAs IsWhole text fault)
refused_from {A = A} IsWhole text reading h (Ok x) e = tt
refused_from {A = A} IsWhole text reading h (Err (BadExpr at)) e = subst (λ (y : Result A ℕ). ReadsAs IsWhole text y) e h
refused_from {A = A} IsWhole text reading h (Err NoMemory) e = tt

pub expr_found : (text : List ℕ) → IsUtf8 text → (r : Result Syntax ExprFault) → Reads (λ x. x) r (expr_of text) → IfOk r (λ whole. Spells IsWholeExpr text whole)
expr_found text utf8 r e = found_from IsWholeExpr text (expr_of text) (expr_reading_is text utf8) r e

pub expr_refused : (text : List ℕ) → IsUtf8 text → (r : Result Syntax ExprFault) → Reads (λ x. x) r (expr_of text) → IfErr r (λ fault. RefusedAs IsWholeExpr text fault)
expr_refused text utf8 r e = refused_from IsWholeExpr text (expr_of text) (expr_reading_is text utf8) r e

pub itemset_found : (text : List ℕ) → IsUtf8 text → (r : Result Itemset ExprFault) → Reads (λ x. x) r (itemset_of text) → IfOk r (λ whole. Spells IsWholeItemset text whole)
itemset_found text utf8 r e = found_from IsWholeItemset text (itemset_of text) (itemset_reading_is text utf8) r e

pub itemset_refused : (text : List ℕ) → IsUtf8 text → (r : Result Itemset ExprFault) → Reads (λ x. x) r (itemset_of text) → IfErr r (λ fault. RefusedAs IsWholeItemset text fault)
itemset_refused text utf8 r e = refused_from IsWholeItemset text (itemset_of text) (itemset_reading_is text utf8) r e
