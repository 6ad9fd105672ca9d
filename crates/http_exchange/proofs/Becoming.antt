-- The last exchange of a dialer, call by call.
use Rattle.std.proofs.Common.{◌≡◌, ◌≢◌, ℕ, ◌+◌, ◌-◌, ◌≤◌, ◌==◌, ◌||◌, Bool, true, false, List, [], ◌∷◌, ◌++◌, take, drop, length, Option, Some, None, Ok, Err, refl, ap, sym, ◌∙◌, subst, append_assoc, arith}
use Rattle.std.proofs.lemmas.List.{append-nil, take-append-drop, take_all, take-append-le, drop_all, drop_at, length-take-le}
use borrow.Rule.Slice.PartMut.{post_of}
use Rattle.std.proofs.lemmas.Bool.{ne_eqb}
use Rattle.std.proofs.Math.ListN.{length-drop}
use Rattle.std.proofs.Math.Seq.{take-add}
use Rattle.field_io.specs.Causes.{Rose}
use Rattle.field_io.specs.Exchanges.{Makes, change_last, failed_at}
use Rattle.field_io.specs.declared.dialer.Stage.TheVariants.{Send, Take}
use Rattle.field_io.specs.declared.exchange.Exchange.{Exchange}
use Rattle.field_io.proofs.LastItem.{change_last_snoc}
use Rattle.http_exchange.specs.Exchange.{DialerView, Gains, NeedsMore, IsEnough, IsFramedAs, Carries, sound, broken, HasFailed, IsCalm, HasEnded}
use Rattle.http_exchange.specs.Exchange.IsEnough.{framed}
use Rattle.http_exchange.specs.Exchange.Carries.{send_failed, take_failed, enough, ended}
use Rattle.http_reply.specs.Bodies.{most_kept}
use Rattle.http_exchange.specs.Carrying.{Becomes, IsDoneAs, SendsAll, SendsFront, Taking, TakesAll, TakesFront}
use Rattle.http_exchange.specs.Carrying.TakesAll.{enough as enough_taken, ended as ended_taken}

became : (start before after : Option (List Exchange)) (change : Exchange → Exchange) (x : Exchange) → Makes before after (change_last change) → Gains start before x → Gains start after (change x)
became start before None change x makes gains = tt
became start None (Some now) change x makes gains = absurd (cc)
became None (Some between) (Some now) change x makes gains = absurd (cc)
became (Some old) (Some between) (Some now) change x makes gains =
    let e : old ++ x ∷ [] ≡ between = cc in
    let m : change_last change between ≡ now = cc in
    ap Some (sym (change_last_snoc change old x) ∙ ap (change_last change) e ∙ m)

-- a call that changes the last exchange
pub last_becomes : (before after : DialerView) (change : Exchange → Exchange) (x : Exchange) → Makes before.carried after.carried (change_last change) → Becomes before after x (change x)
last_becomes before after change x makes = λ start gains. became start before.carried after.carried change x makes gains

pub then_becomes : (a b c : DialerView) (x y z : Exchange) → Becomes a b x y → Becomes b c y z → Becomes a c x z
then_becomes a b c x y z first second = λ start gains. second start (first start gains)

-- nothing has happened yet
pub calm_at_first : (a : DialerView) → IsCalm a a
calm_at_first a = record { faults = refl; ends = refl }

pub calm_then : (a b c : DialerView) → IsCalm a b → IsCalm b c → IsCalm a c
calm_then a b c first second = record { faults = second.faults ∙ first.faults; ends = second.ends ∙ first.ends }

pub failed_then : (a b c : DialerView) → IsCalm a b → HasFailed b c → HasFailed a c
failed_then a b c first second =
    record { faults = subst (λ n. Rose n c.faults) first.faults second.faults; ends = second.ends ∙ first.ends }

pub ended_then : (a b c : DialerView) → IsCalm a b → HasEnded b c → HasEnded a c
ended_then a b c first second =
    record { faults = second.faults ∙ first.faults; ends = subst (λ n. Rose n c.ends) first.ends second.ends }

-- more was sent
abbrev pub sent_more : List ℕ → ℕ → Exchange → Exchange
sent_more rest n x = record x { sent = x.sent ++ take n rest }

-- more was taken, or the end has come
abbrev pub taken_more : List ℕ → ℕ → Exchange → Exchange
taken_more buffer n x = record x { taken = x.taken ++ take n buffer; ended = x.ended || (n == 0) }

-- what is left behind a place
pub range_to_end : (n : ℕ) (xs : List ℕ) → take (length xs - n) (drop n xs) ≡ drop n xs
range_to_end n xs = take_all _ _ (let e = length-drop n xs in omega arith)

-- the front of a request was sent, and this is left
pub record Sending (request rest : List ℕ) (before after : DialerView) : Type 0 where
  pub sent : List ℕ
  pub joined : request ≡ sent ++ rest
  pub calm : IsCalm before after
  pub becomes : (authority : List ℕ) → Becomes before after (sound authority [] [] false) (sound authority sent [] false)

pub sending_nothing : (request : List ℕ) (a : DialerView) → Sending request request a a
sending_nothing request a =
    record { sent = []; joined = refl; calm = calm_at_first a; becomes = λ authority start gains. gains }

pub sending_more : (request rest left : List ℕ) (a b c : DialerView) (n : ℕ) → Sending request rest a b → IsCalm b c → left ≡ drop n rest → Makes b.carried c.carried (change_last (sent_more rest n)) → Sending request left a c
sending_more request rest left a b c n h calm left_is makes = record {
  sent = h.sent ++ take n rest;
  joined = h.joined ∙ ap (λ xs. h.sent ++ xs) (sym (take-append-drop n rest)) ∙ sym (append_assoc h.sent (take n rest) (drop n rest)) ∙ ap (λ xs. (h.sent ++ take n rest) ++ xs) (sym left_is);
  calm = calm_then a b c h.calm calm;
  becomes = λ authority start gains. last_becomes b c (sent_more rest n) (sound authority h.sent [] false) makes start (h.becomes authority start gains);
}

pub sending_failed : (request rest : List ℕ) (a b c : DialerView) → Sending request rest a b → rest ≢ [] → HasFailed b c → Makes b.carried c.carried (change_last (failed_at Send)) → SendsFront request a c
sending_failed request rest a b c h some failed makes = record {
  sent = h.sent;
  unsent = rest;
  joined = h.joined;
  some = some;
  failed = failed_then a b c h.calm failed;
  becomes = λ authority start gains. last_becomes b c (failed_at Send) (sound authority h.sent [] false) makes start (h.becomes authority start gains);
}

pub sending_done : (request rest : List ℕ) (a b : DialerView) → rest ≡ [] → Sending request rest a b → SendsAll request a b
sending_done request rest a b none h =
    let e : h.sent ≡ request = sym (append-nil h.sent) ∙ ap (λ xs. h.sent ++ xs) (sym none) ∙ sym h.joined in
    record {
      calm = h.calm;
      becomes = λ authority. subst (λ sent. Becomes a b (sound authority [] [] false) (sound authority sent [] false)) e (h.becomes authority);
    }

pub taking_nothing : (a : DialerView) → Taking [] a a
taking_nothing a = record { calm = calm_at_first a; becomes = λ authority request start gains. gains }

pub taking_more : (taken buffer more : List ℕ) (a b c : DialerView) (n : ℕ) → Taking taken a b → IsCalm b c → n ≢ 0 → more ≡ taken ++ take n buffer → Makes b.carried c.carried (change_last (taken_more buffer n)) → Taking more a c
taking_more taken buffer more a b c n h calm some more_is makes = record {
  calm = calm_then a b c h.calm calm;
  becomes = λ authority request start gains.
      let y = last_becomes b c (taken_more buffer n) (sound authority request taken false) makes start (h.becomes authority request start gains) in
      let z = subst (λ e. Gains start c.carried (sound authority request (taken ++ take n buffer) e)) (ne_eqb n 0 some) y in
      subst (λ t. Gains start c.carried (sound authority request t false)) (sym more_is) z;
}

pub taking_failed : (taken : List ℕ) (a b c : DialerView) → Taking taken a b → NeedsMore taken → HasFailed b c → Makes b.carried c.carried (change_last (failed_at Take)) → TakesFront a c
taking_failed taken a b c h needed failed makes = record {
  taken = taken;
  needed = needed;
  failed = failed_then a b c h.calm failed;
  becomes = λ authority request start gains. last_becomes b c (failed_at Take) (sound authority request taken false) makes start (h.becomes authority request start gains);
}

pub taking_ended : (taken front buffer : List ℕ) (a b c : DialerView) (n : ℕ) → front ≡ taken → Taking taken a b → NeedsMore taken → n ≡ 0 → HasEnded b c → Makes b.carried c.carried (change_last (taken_more buffer n)) → TakesAll front a c
taking_ended taken front buffer a b c n same h needed none at_end makes =
    subst (λ t. TakesAll t a c) (sym same) (ended_taken needed (ended_then a b c h.calm at_end)
    (λ authority request start gains.
    let y = last_becomes b c (taken_more buffer n) (sound authority request taken false) makes start (h.becomes authority request start gains) in
    let z = subst (λ m. Gains start c.carried (taken_more buffer m (sound authority request taken false))) none y in
    subst (λ t. Gains start c.carried (sound authority request t true)) (append-nil taken) z))

-- the parts of an exchange, joined
pub carry_send_failed : (authority request : List ℕ) (a b c : DialerView) → SendsFront request b c → Gains a.carried b.carried (sound authority [] [] false) → IsCalm a b → Carries authority request a c (Err Send)
carry_send_failed authority request a b c h gains calm =
    send_failed h.sent h.unsent h.joined h.some (h.becomes authority a.carried gains) (failed_then a b c calm h.failed)

pub carry_take_failed : (authority request : List ℕ) (a b c d : DialerView) → SendsAll request b c → TakesFront c d → Gains a.carried b.carried (sound authority [] [] false) → IsCalm a b → Carries authority request a d (Err Take)
carry_take_failed authority request a b c d sends h gains calm =
    take_failed h.taken h.needed (h.becomes authority request a.carried (sends.becomes authority a.carried gains))
    (failed_then a c d (calm_then a b c calm sends.calm) h.failed)

pub carry_taken : (authority request taken : List ℕ) (a b c d : DialerView) → SendsAll request b c → TakesAll taken c d → Gains a.carried b.carried (sound authority [] [] false) → IsCalm a b → Carries authority request a d (Ok taken)
carry_taken authority request taken a b c d sends (enough_taken is_enough h) gains calm =
    enough taken is_enough (h.becomes authority request a.carried (sends.becomes authority a.carried gains))
    (calm_then a c d (calm_then a b c calm sends.calm) h.calm)
carry_taken authority request taken a b c d sends (ended_taken needed at_end becomes) gains calm =
    ended taken needed (becomes authority request a.carried (sends.becomes authority a.carried gains))
    (ended_then a c d (calm_then a b c calm sends.calm) at_end)

-- what is known of the bytes so far, where they don't fill the room
pub done_as : (taken : List ℕ) (answer : Bool) → length taken ≤ most_kept → length taken ≢ most_kept → IsFramedAs taken answer → IsDoneAs taken answer
done_as taken true within other is_framed = framed is_framed
done_as taken false within other is_framed = record { room = omega arith; unframed = is_framed }

-- the bytes behind more of a room
pub front_more : (old new : List ℕ) (len n : ℕ) → take len new ≡ take len old → take (len + n) new ≡ take len old ++ take n (drop len new)
front_more old new len n same = take-add len n new ∙ ap (λ xs. xs ++ take n (drop len new)) same

-- what stands behind a place where a part was put back
pub behind_front : (s part : List ℕ) (len : ℕ) → len ≤ length s → drop len (take len s ++ (part ++ post_of len (length s - len) s)) ≡ part
behind_front s part len within =
    let none : post_of len (length s - len) s ≡ [] = drop_all (length s - len) (drop len s) (omega (arith, length-drop len s)) in
    drop_at (take len s) (part ++ post_of len (length s - len) s) len (length-take-le len s within)
    ∙ ap (λ xs. part ++ xs) none ∙ append-nil part

-- the front of a room that was written as a slice of its own
pub front_kept : (room old : List ℕ) (size len : ℕ) → length room ≡ size → len ≤ size → take len (take size room ++ drop (length room) old) ≡ take len room
front_kept room old size len full within =
    let all : take size room ≡ room = take_all size room (omega arith) in
    ap (λ xs. take len (xs ++ drop (length room) old)) all ∙ take-append-le len room (drop (length room) old) (omega arith)

pub not_empty : (rest : List ℕ) → false ≡ (length rest == 0) → rest ≢ []
not_empty [] test = λ none. absurd (cc)
not_empty (b ∷ rest) test = λ none. absurd (cc)
