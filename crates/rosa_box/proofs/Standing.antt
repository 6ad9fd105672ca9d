-- Where a server stands behind each call of its dialer.
use Rattle.std.proofs.Common.{◌≡◌, ◌≢◌, ℕ, ◌≤◌, ◌==◌, ◌||◌, Bool, true, false, true≢false, List, [], ◌∷◌, ◌++◌, take, drop}
use Rattle.std.proofs.Common.{length, Option, Some, None, Result, Ok, Err, IfOk, IfSome, inl, inr, zero, suc, refl, sym, ap, subst, ◌∙◌, arith}
use Rattle.std.specs.Prelude.{is_ok, MatchOption, OnOk}
use Rattle.std.specs.Option.{is_some}
use Rattle.std.proofs.Math.Seq.{drop-length, take-add}
use Rattle.std.proofs.lemmas.Bool.{cases_Bool, eqb-true}
use Rattle.std.proofs.lemmas.List.{take-append-drop, take-append-le, take_all, length-append}
use Rattle.std.proofs.lemmas.Option.{same_Some}
use Rattle.field_io.specs.declared.dialer.Stage.{Stage}
use Rattle.field_io.specs.declared.dialer.Stage.TheVariants.{Dial, Send, Take}
use Rattle.field_io.specs.declared.exchange.Exchange.{Exchange}
use Rattle.field_io.specs.Exchanges.{Makes, change_last, dialed, sent_on, taken_on, failed_at, first_failed}
use Rattle.field_io.proofs.LastItem.{change_last_snoc}
use Rattle.rosa_box.specs.declared.state.BoxState.{BoxState}
use Rattle.rosa_box.specs.Answering.{HasAnswered, Moves, sent_behind}
use Rattle.rosa_box.specs.Answering.HasAnswered.{just_now, already}
use Rattle.rosa_box.specs.Carried.{IsUntaken, MayBeTaken, IsFront, Exchanged, Leads}
use Rattle.rosa_box.specs.Carried.MayBeTaken.{gave, ended, failed, unmarked}
use Rattle.rosa_box.specs.Carried.Exchanged.{untaken, answered}
use Rattle.rosa_box.specs.Carried.Leads.{at_rest, onward}
use Rattle.rosa_box.specs.Served.{Serves}
use Rattle.rosa_box.specs.Laws.{IsLater}
use Rattle.rosa_box.specs.Sessions.{Stands, first_state}
use Rattle.rosa_box.specs.Sessions.Stands.{before_all, asking, answering}
use Rattle.rosa_box.proofs.Later.{later, unchanged}

pub on_ok : {T E P : Type 0} (result : Result T E) → is_ok result ≡ true → OnOk result P → P
on_ok (Ok x) fine holds = holds
on_ok (Err e) fine holds = absurd (let f : false ≡ true = fine in cc)

-- ---- one exchange more

pub leads_one : (a b c : BoxState) (xs : List Exchange) (x : Exchange) → Leads a xs b → Exchanged b x c
    → Leads a (xs ++ x ∷ []) c
leads_one a b c _ x at_rest is = onward is at_rest
leads_one a b c _ x (onward {middle = m} {others = ys} first rest) is = onward first (leads_one m b c ys x rest is)

-- what was taken is a front of the reply
front_at : (x : Exchange) (reply : List ℕ) (count : ℕ) → x.taken ≡ take count reply
    → (x.ended ≡ true → count ≡ length reply) → IsFront x reply
front_at x reply count taken whole = record {
  rest = drop count reply;
  parts = sym (take-append-drop count reply) ∙ ap (λ t. t ++ drop count reply) (sym taken);
  whole = λ is. ap (λ n. drop n reply) (whole is) ∙ drop-length reply;
}

module _ (start state : BoxState) (is_open : Bool) (sent : List ℕ) (count : ℕ) where
  -- the exchanges lead to where the server stands
  pub leads : (reply : Option (List ℕ)) (xs : List Exchange) → Stands start state is_open sent count reply xs
      → Leads start xs state
  leads _ _ (before_all same shut) = subst (λ s. Leads start [] s) (sym same) at_rest
  leads _ _ (asking past x led none same at_start reached) = leads_one start state state past x led (untaken none refl)
  leads _ _ (answering past x middle reply led serves may taken whole) =
      leads_one start middle state past x led (answered may reply serves (front_at x reply count taken whole))

-- ---- a dial

none_no_some : (stage : Stage) → None ≢ Some stage
none_no_some stage is = cc

dial_no_take : Some Dial ≢ Some Take
dial_no_take is = cc

send_no_take : Send ≢ Take
send_no_take is = cc

send_no_dial : Send ≢ Dial
send_no_dial is = cc

stands_dialed : {T E : Type 0} (start state : BoxState) (authority : List ℕ) (reached : Result T E)
    (xs : List Exchange) → Leads start xs state
    → Stands start state (is_ok reached) [] 0 None (xs ++ dialed authority reached ∷ [])
stands_dialed start state authority (Ok t) xs led =
    asking xs _ led (record { nothing = refl; open_end = refl; none_failed = none_no_some Take }) refl refl
    (λ _. none_no_some Dial)
stands_dialed start state authority (Err e) xs led =
    asking xs _ led (record { nothing = refl; open_end = refl; none_failed = dial_no_take }) refl refl
    (λ is. absurd (true≢false (sym is)))

-- ---- a send

first_kept : (stage : Stage) (o : Option Stage) (other : Stage) → o ≢ Some other → stage ≢ other
    → first_failed stage o ≢ Some other
first_kept stage None other not_it differ is = differ (same_Some stage other is)
first_kept stage (Some first) other not_it differ is = not_it is

stands_sent : {E : Type 0} (start state : BoxState) (is_open : Bool) (sent : List ℕ) (count : ℕ) (bytes : List ℕ)
    (call : Result ℕ E) (reply : Option (List ℕ)) (xs : List Exchange) → is_open ≡ true → reply ≡ None
    → Stands start state is_open sent count reply xs
    → Stands start state is_open (sent_behind sent bytes call) count reply (change_last (sent_on bytes call) xs)
stands_sent start state is_open sent count bytes call _ _ now none_yet (before_all same shut) =
    absurd (true≢false (sym now ∙ shut))
stands_sent {E = E} start state is_open sent count bytes (Ok n) _ _ now none_yet (asking past x led none same at_start reached) =
    subst (Stands start state is_open (sent ++ take n bytes) count None)
    (sym (change_last_snoc (sent_on {E = E} bytes (Ok n)) past x))
    (asking past (sent_on {E = E} bytes (Ok n) x) led
    (record { nothing = none.nothing; open_end = none.open_end; none_failed = none.none_failed })
    (ap (λ s. s ++ take n bytes) same) at_start reached)
stands_sent start state is_open sent count bytes (Err e) _ _ now none_yet (asking past x led none same at_start reached) =
    subst (Stands start state is_open sent count None) (sym (change_last_snoc (sent_on bytes (Err e)) past x))
    (asking past (failed_at Send x) led (record {
      nothing = none.nothing;
      open_end = none.open_end;
      none_failed = first_kept Send x.failed Take none.none_failed send_no_take;
    }) same at_start (λ still. first_kept Send x.failed Dial (reached still) send_no_dial))
stands_sent start state is_open sent count bytes call _ _ now none_yet (answering past x m reply led serves may taken whole) =
    absurd (let e : Some reply ≡ None = none_yet in cc)

-- ---- a take

both_empty : (xs ys : List ℕ) → xs ++ ys ≡ [] → (xs ≡ []) × (ys ≡ [])
both_empty [] ys is = (refl, is)
both_empty (x ∷ xs) ys is = absurd (let e : x ∷ (xs ++ ys) ≡ [] = is in cc)

some_taken : (n : ℕ) (buffer : List ℕ) → suc n ≤ length buffer → take (suc n) buffer ≢ []
some_taken n [] within is = absurd (omega (arith, within))
some_taken n (b ∷ rest) within is = absurd (let e : b ∷ take n rest ≡ [] = is in cc)

or_true : (b : Bool) → (b || true) ≡ true
or_true false = refl
or_true true = refl

may_gone : {E : Type 0} (x : Exchange) (buffer : List ℕ) (call : Result ℕ E) → MayBeTaken x
    → MayBeTaken (taken_on buffer call x)
may_gone x buffer (Ok n) (gave some) = gave (λ none. some (both_empty x.taken (take n buffer) none).0)
may_gone x buffer (Ok n) (ended is) = ended (ap (λ b. b || (n == 0)) is)
may_gone x buffer (Ok n) (failed is) = failed is
may_gone x buffer (Ok n) (unmarked is) = unmarked is
may_gone x buffer (Err e) (gave some) = gave some
may_gone x buffer (Err e) (ended is) = ended is
may_gone x buffer (Err e) (failed is) = failed (ap (first_failed Take) is)
may_gone x buffer (Err e) (unmarked is) = unmarked (ap (first_failed Take) is)

may_begin : {E : Type 0} (x : Exchange) (buffer : List ℕ) (call : Result ℕ E) → IsUntaken x → x.failed ≢ Some Dial
    → IfOk call (λ n. n ≤ length buffer) → MayBeTaken (taken_on buffer call x)
may_begin x buffer (Ok zero) none reached within = ended (or_true x.ended)
may_begin x buffer (Ok (suc n)) none reached within = gave (λ is. some_taken n buffer within (both_empty x.taken (take (suc n) buffer) is).1)
may_begin x buffer (Err e) none reached within = begin_failed x.failed refl
  where
    begin_failed : (o : Option Stage) → x.failed ≡ o → MayBeTaken (failed_at Take x)
    begin_failed None is = failed (ap (first_failed Take) is)
    begin_failed (Some Dial) is = absurd (reached is)
    begin_failed (Some Send) is = unmarked (ap (first_failed Take) is)
    begin_failed (Some Take) is = failed (ap (first_failed Take) is)

-- the end is given where nothing is left
end_told : (x : Exchange) (n : ℕ) (P : Type 0) → (x.ended || (n == 0)) ≡ true → (x.ended ≡ true → P) → (n ≡ 0 → P) → P
end_told x n P is before now = elim (cases_Bool x.ended) [
  | inl was ↦ before was
  | inr reached ↦ now (eqb-true n 0 (subst (λ b. (b || (n == 0)) ≡ true) reached is))
]

module _ {E : Type 0} (start : BoxState) (is_open : Bool) (past : List Exchange) (x : Exchange)
    (middle state : BoxState) (sent reply buffer : List ℕ) (led : Leads start past middle) (serves : Serves middle x.sent state reply) where
  -- the last exchange behind a take of what the server answers
  taken_then : (at behind : ℕ) (call : Result ℕ E) → x.taken ≡ take at reply → (x.ended ≡ true → at ≡ length reply)
      → MayBeTaken (taken_on {E = E} buffer call x) → Moves (Some reply) at behind buffer call
      → Stands start state is_open sent behind (Some reply) (past ++ taken_on {E = E} buffer call x ∷ [])
  taken_then at behind (Ok n) taken whole may (moved, place) =
      answering past (taken_on {E = E} buffer (Ok n) x) middle reply led serves may
      (
      ap (λ t. t ++ take n buffer) taken
      ∙ ap (λ t. take at reply ++ t) moved.bytes
      ∙ sym (take-add at n reply)
      ∙ ap (λ k. take k reply) (sym place)
      )
      (λ is. end_told x n (behind ≡ length reply) is
      (λ was. let w = whole was in let within = moved.within in omega (arith, place, w, within))
      (λ none. let e = moved.end none in omega (arith, place, none, e)))
  taken_then at behind (Err e) taken whole may place =
      answering past (taken_on {E = E} buffer (Err e) x) middle reply led serves may
      (taken ∙ ap (λ k. take k reply) (sym place)) (λ is. place ∙ whole is)

module _ {E : Type 0} (start before after : BoxState) (is_open : Bool) (sent : List ℕ) (at behind : ℕ)
    (buffer : List ℕ) (call : Result ℕ E) (room : IfOk call (λ n. n ≤ length buffer)) (now : is_open ≡ true) where
  stands_taken : (reply given : Option (List ℕ)) (xs : List Exchange) → Stands start before is_open sent at reply xs
      → HasAnswered before sent after reply given → Moves given at behind buffer call
      → Stands start after is_open sent behind given (change_last (taken_on buffer call) xs)
  stands_taken _ _ _ (before_all same shut) has moves = absurd (true≢false (sym now ∙ shut))
  stands_taken _ _ _ (asking past x led none same at_start reached) (just_now reply serves) moves =
      let here : Serves before x.sent after reply = subst (λ s. Serves before s after reply) (sym same) serves in
      let taken : x.taken ≡ take at reply = none.nothing ∙ ap (λ k. take k reply) (sym at_start) in
      let may : MayBeTaken (taken_on buffer call x) = may_begin x buffer call none (reached now) room in
      subst (Stands start after is_open sent behind (Some reply)) (sym (change_last_snoc (taken_on buffer call) past x))
      (taken_then start is_open past x before after sent reply buffer led here at behind call taken
      (λ is. absurd (true≢false (sym is ∙ none.open_end))) may moves)
  stands_taken _ _ _ (answering past x middle reply led serves may taken whole) (already _ kept) moves =
      let here : Serves middle x.sent after reply = subst (λ s. Serves middle x.sent s reply) (sym kept) serves in
      subst (Stands start after is_open sent behind (Some reply)) (sym (change_last_snoc (taken_on buffer call) past x))
      (taken_then start is_open past x middle after sent reply buffer led here at behind call taken whole
      (may_gone x buffer call may) moves)

-- ---- the exchanges that are told

-- what holds of them goes on by a change
moved : (old new : Option (List Exchange)) (change : List Exchange → List Exchange)
    (P Q : List Exchange → Type 0) → IfSome old P → Makes old new change → ((xs : List Exchange) → P xs → Q (change xs))
    → IfSome new Q
moved old None change P Q holds makes step = tt
moved None (Some now) change P Q holds makes step = absurd (let e : None ≡ Some now = makes in cc)
moved (Some xs) (Some now) change P Q holds makes step =
    subst Q (same_Some (change xs) now makes) (step xs holds)

module _ (start state : BoxState) (is_open : Bool) (sent : List ℕ) (count : ℕ) (reply : Option (List ℕ))
    (old new : Option (List Exchange)) (stood : IfSome old (Stands start state is_open sent count reply)) where
  pub told_lead : IfSome old (λ xs. Leads start xs state)
  told_lead = moved old old (λ xs. xs) (Stands start state is_open sent count reply) (λ xs. Leads start xs state) stood
      (same_told old) (leads start state is_open sent count reply)
    where
      same_told : (o : Option (List Exchange)) → Makes o o (λ xs. xs)
      same_told None = tt
      same_told (Some xs) = refl

  pub dial_stands : {T E : Type 0} (authority : List ℕ) (reached : Result T E) (opens : Bool) (fresh : List ℕ)
      → Makes old new (λ xs. xs ++ dialed authority reached ∷ []) → opens ≡ is_ok reached → fresh ≡ []
      → IfSome new (Stands start state opens fresh 0 None)
  dial_stands authority reached opens fresh makes opened none =
      moved old new (λ xs. xs ++ dialed authority reached ∷ []) (Stands start state is_open sent count reply)
      (Stands start state opens fresh 0 None) stood makes (λ xs stands.
      subst (λ b. Stands start state b fresh 0 None (xs ++ dialed authority reached ∷ [])) (sym opened)
      (subst (λ s. Stands start state (is_ok reached) s 0 None (xs ++ dialed authority reached ∷ [])) (sym none)
      (stands_dialed start state authority reached xs (leads start state is_open sent count reply xs stands))))

  pub send_stands : {E : Type 0} (bytes behind : List ℕ) (call : Result ℕ E)
      → Makes old new (change_last (sent_on bytes call)) → is_open ≡ true → reply ≡ None
      → behind ≡ sent_behind sent bytes call → IfSome new (Stands start state is_open behind count reply)
  send_stands bytes behind call makes now none is =
      subst (λ s. IfSome new (Stands start state is_open s count reply)) (sym is)
      (moved old new (change_last (sent_on bytes call)) (Stands start state is_open sent count reply)
      (Stands start state is_open (sent_behind sent bytes call) count reply) stood makes
      (λ xs. stands_sent start state is_open sent count bytes call reply xs now none))

  pub take_stands : {E : Type 0} (after : BoxState) (given : Option (List ℕ)) (behind : ℕ) (buffer : List ℕ)
      (call : Result ℕ E) → Makes old new (change_last (taken_on buffer call)) → is_open ≡ true
      → IfOk call (λ n. n ≤ length buffer) → HasAnswered state sent after reply given
      → Moves given count behind buffer call → IfSome new (Stands start after is_open sent behind given)
  take_stands after given behind buffer call makes now room has moves =
      moved old new (change_last (taken_on buffer call)) (Stands start state is_open sent count reply)
      (Stands start after is_open sent behind given) stood makes (λ xs stands.
      stands_taken start state after is_open sent count behind buffer call room now reply given xs stands has moves)

-- ---- what the server had at first

pub first_all : (first : ℕ) (state : BoxState) → first ≡ length state.kept → first_state first state ≡ state
first_all first state is =
    ap (λ kept. record state { kept = kept })
    (ap (λ n. take n state.kept) is ∙ take_all (length state.kept) state.kept (omega arith))

first_later : (first : ℕ) (before after : BoxState) → first ≤ length before.kept → IsLater before after
    → first_state first after ≡ first_state first before
first_later first before after begun is =
    ap (first_state first) is.grown
    ∙ ap (λ kept. record before { kept = kept }) (take-append-le first before.kept is.more begun)

kept_later : (first : ℕ) (before after : BoxState) → first ≤ length before.kept → IsLater before after
    → first ≤ length after.kept
kept_later first before after begun is =
    let grown : length after.kept ≡ length (before.kept ++ is.more) = ap (λ (s : BoxState). length s.kept) is.grown in
    omega (arith, begun, grown, length-append before.kept is.more)

answered_later : (before after : BoxState) (sent : List ℕ) (reply given : Option (List ℕ))
    → HasAnswered before sent after reply given → IsLater before after
answered_later before after sent _ _ (just_now reply serves) = later before after sent reply serves
answered_later before after sent _ _ (already reply same) = subst (IsLater before) (sym same) (unchanged before)

module _ {T E : Type 0} (first : ℕ) (before after : BoxState) (sent : List ℕ) (reply given : Option (List ℕ))
    (asked : Result T E) (fine : is_ok asked ≡ true) (has : OnOk asked (HasAnswered before sent after reply given)) where
  answered_so : HasAnswered before sent after reply given
  answered_so = on_ok asked fine has

  pub first_answered : first ≤ length before.kept → first_state first after ≡ first_state first before
  first_answered begun =
      first_later first before after begun (answered_later before after sent reply given answered_so)

  pub kept_answered : first ≤ length before.kept → first ≤ length after.kept
  kept_answered begun = kept_later first before after begun (answered_later before after sent reply given answered_so)

  pub within_answered : (count : ℕ) → MatchOption reply (count ≡ 0) (λ r. count ≤ length r)
      → IfSome given (λ r. count ≤ length r)
  within_answered count = within_so count reply given answered_so
    where
      within_so : (count : ℕ) (reply given : Option (List ℕ)) → HasAnswered before sent after reply given
          → MatchOption reply (count ≡ 0) (λ r. count ≤ length r) → IfSome given (λ r. count ≤ length r)
      within_so count _ _ (just_now reply serves) none = omega (arith, none)
      within_so count _ _ (already reply same) within = within

  pub within_moved : {F : Type 0} (at behind : ℕ) (buffer : List ℕ) (call : Result ℕ F)
      → MatchOption reply (at ≡ 0) (λ r. at ≤ length r) → Moves given at behind buffer call
      → MatchOption given (behind ≡ 0) (λ r. behind ≤ length r)
  within_moved {F = F} at behind buffer call within moves =
      moved_so given call (within_answered at within) (some_given reply given answered_so) moves
    where
      some_given : (reply given : Option (List ℕ)) → HasAnswered before sent after reply given → given ≢ None
      some_given _ _ (just_now reply serves) is = cc
      some_given _ _ (already reply same) is = cc

      moved_so : (given : Option (List ℕ)) (call : Result ℕ F) → IfSome given (λ r. at ≤ length r) → given ≢ None
          → Moves given at behind buffer call → MatchOption given (behind ≡ 0) (λ r. behind ≤ length r)
      moved_so None call within some moves = absurd (some refl)
      moved_so (Some r) (Ok n) within some (moved, place) = let w = moved.within in omega (arith, w, place)
      moved_so (Some r) (Err e) within some place = omega (arith, within, place)

-- ---- the end of a connection

shut : (start state : BoxState) (is_open : Bool) (sent : List ℕ) (count : ℕ) (reply : Option (List ℕ))
    (xs : List Exchange) → Stands start state is_open sent count reply xs
    → Stands start state false sent count reply xs
shut start state is_open sent count _ _ (before_all same closed) = before_all same refl
shut start state is_open sent count _ _ (asking past x led none same at_start fine) =
    asking past x led none same at_start (λ is. absurd (true≢false (sym is)))
shut start state is_open sent count _ _ (answering past x m reply led serves may taken whole) =
    answering past x m reply led serves may taken whole

pub shut_stands : (start state : BoxState) (is_open : Bool) (sent : List ℕ) (count : ℕ) (reply : Option (List ℕ))
    (log : Option (List Exchange)) → IfSome log (Stands start state is_open sent count reply)
    → IfSome log (Stands start state false sent count reply)
shut_stands start state is_open sent count reply None stands = tt
shut_stands start state is_open sent count reply (Some xs) stands = shut start state is_open sent count reply xs stands

-- ---- whether the server was asked

pub asked_now : (before after : BoxState) (sent : List ℕ) (reply : Option (List ℕ)) (new : List ℕ)
    → is_some reply ≡ false → Serves before sent after new → HasAnswered before sent after reply (Some new)
asked_now before after sent None new none serves = just_now new serves
asked_now before after sent (Some old) new none serves = absurd (true≢false none)

pub asked_before : (state : BoxState) (sent : List ℕ) (reply : Option (List ℕ)) → is_some reply ≡ true
    → HasAnswered state sent state reply reply
asked_before state sent None some = absurd (true≢false (sym some))
asked_before state sent (Some old) some = already old refl

pub no_log : (log : Option (List Exchange)) (P : List Exchange → Type 0) → log ≡ None → IfSome log P
no_log None P none = tt
no_log (Some xs) P none = absurd (cc)
