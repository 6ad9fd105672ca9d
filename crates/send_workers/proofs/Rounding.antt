-- What a round's sends come to, and how it ends.
use Rattle.std.proofs.Common.{◌≡◌, ◌≢◌, ℕ, suc, ◌+◌, ◌-◌, ◌≤◌, List, [], ◌∷◌, ◌++◌, Bool, true, false, not, cond, count_by, length, Option, None, Result, Ok, refl, ap, sym, ◌∙◌, subst, arith, length-append}
use Rattle.std.proofs.lemmas.List.Sums.{sum_by-append}
use Rattle.entry_form.specs.declared.command.Command.{Command}
use Rattle.entry_form.specs.declared.command.Command.TheVariants.{Release}
use Rattle.entry_form.specs.declared.entry.Entry.{Entry}
use Rattle.entry_form.specs.declared.entry.Entry.TheVariants.{Done}
use Rattle.entry_form.specs.declared.hand.Lock.TheVariants.{Instances}
use Rattle.field_io.specs.declared.exchange.Exchange.{Exchange}
use Rattle.device_rules.specs.declared.told.SubmitFault.{SubmitFault}
use Rattle.device_rules.specs.declared.told.Told.{Told}
use Rattle.device_rules.specs.Caller.{CallerView, Accepts, IsCallFault}
use Rattle.send_workers.specs.declared.one_send.Turn.{Turn}
use Rattle.send_workers.specs.declared.one_send.Turn.TheVariants as kinds
use Rattle.send_workers.specs.declared.round.RoundEnd.{RoundEnd}
use Rattle.send_workers.specs.declared.round.RoundEnd.TheVariants as ends
use Rattle.send_workers.specs.declared.round.Tally.{Tally}
use Rattle.send_workers.specs.Sends.{Sending}
use Rattle.send_workers.specs.Rounds.{AllSent, Fails, HasRun, HasSent, Names, NoneLeft, Rounds, RoundView, Stops, Turned, most_sends, view, was_taken, with_one}
use Rattle.send_workers.specs.Rounds.NoneLeft.{none, tired}
use Rattle.send_workers.specs.Rounds.Stops.{at_release}
use Rattle.send_workers.proofs.Steps.{before_it, behind_it, comes, on_accepted, on_then, up_to, waits_then}

-- ---- one send after another

-- the sends so far, as the tally counts them, with so many tries left
pub record SoFar (old now : RoundView) (tally : Tally) (left : ℕ) : Type 0 where
  pub sends : List Sending
  pub refused : ℕ
  pub sent : HasSent old now sends refused
  pub tries : length sends + refused + left ≡ most_sends
  pub good_is : tally.good ≡ count_by was_taken sends
  pub bad_is : tally.bad ≡ count_by (λ s. not (was_taken s)) sends

-- What stands between two turns: what leads from the caller before the first to the one now, that the peer is the same,
-- a bound on what is counted, and the sends so far of each round that begins there.
pub record Turns (On Same : Type 0) (start now : RoundView) (tally : Tally) (left : ℕ) : Type 0 where
  pub on : On
  pub same : Same
  pub bound : tally.good + tally.bad + left ≤ most_sends
  pub so_far : (old : RoundView) → HasSent old start [] 0 → SoFar old now tally left

pub none_so_far : (On Same : Type 0) (start : RoundView) → On → Same
    → Turns On Same start start (record { good = 0; bad = 0 }) most_sends
none_so_far On Same start on same = record {
  on = on;
  same = same;
  bound = omega arith;
  so_far = λ old sent. record {
    sends = [];
    refused = 0;
    sent = sent;
    tries = refl;
    good_is = refl;
    bad_is = refl;
  };
}

counted : (p : Sending → Bool) (sends : List Sending) (s : Sending)
    → count_by p (sends ++ s ∷ []) ≡ count_by p sends + cond (p s) 1 0
counted p sends s = let e = sum_by-append (λ x. cond (p x) 1 0) sends (s ∷ []) in omega (arith, e)

good_with : (tally : Tally) (taken : Bool) → (with_one tally taken).good ≡ tally.good + cond taken 1 0
good_with tally true = refl
good_with tally false = omega arith

bad_with : (tally : Tally) (taken : Bool) → (with_one tally taken).bad ≡ tally.bad + cond (not taken) 1 0
bad_with tally true = omega arith
bad_with tally false = refl

module _ (old now new : RoundView) (tally : Tally) (left : ℕ) (so : SoFar old now tally left) where
  -- what was due isn't any more
  so_refused : left ≢ 0 → HasSent old new so.sends (suc so.refused) → SoFar old new tally (left - 1)
  so_refused some sent = record {
    sends = so.sends;
    refused = suc so.refused;
    sent = sent;
    tries = (let e = so.tries in omega (arith, e));
    good_is = so.good_is;
    bad_is = so.bad_is;
  }

  -- one more is sent
  so_sent : left ≢ 0 → (s : Sending) (taken : Bool) → HasSent old new (so.sends ++ s ∷ []) so.refused
      → taken ≡ was_taken s → SoFar old new (with_one tally taken) (left - 1)
  so_sent some s taken sent is = record {
    sends = so.sends ++ s ∷ [];
    refused = so.refused;
    sent = sent;
    tries = (let e = so.tries in let f = length-append so.sends (s ∷ []) in omega (arith, e, f));
    good_is = good_with tally taken ∙ ap (λ (n : ℕ). n + cond taken 1 0) so.good_is
        ∙ ap (λ (t : Bool). count_by was_taken so.sends + cond t 1 0) is ∙ sym (counted was_taken so.sends s);
    bad_is = bad_with tally taken ∙ ap (λ (n : ℕ). n + cond (not taken) 1 0) so.bad_is
        ∙ ap (λ (t : Bool). count_by (λ x. not (was_taken x)) so.sends + cond (not t) 1 0) is
        ∙ sym (counted (λ x. not (was_taken x)) so.sends s);
  }

module _ (old now new : RoundView) (tally : Tally) (left : ℕ) (so : SoFar old now tally left) where
  -- nothing is due any more
  pub all_at_none : (turn : Turn) → turn ≡ kinds.NoneLeft → Turned old new so.sends so.refused (Ok turn)
      → AllSent old new tally
  all_at_none turn is turned =
      let names : Names old new so.sends so.refused None =
      subst (λ (t : Turn). Turned old new so.sends so.refused (Ok t)) is turned in
      record {
        sends = so.sends;
        refused = so.refused;
        sent = names.0;
        none_left = none names.1;
        good_is = so.good_is;
        bad_is = so.bad_is;
      }

-- as many sends were tried as a round tries
pub all_when_tired : (old now : RoundView) (tally : Tally) (left : ℕ) → SoFar old now tally left → left ≡ 0
    → AllSent old now tally
all_when_tired old now tally left so none_left = record {
  sends = so.sends;
  refused = so.refused;
  sent = so.sent;
  none_left = tired (let e = so.tries in omega (arith, e, none_left));
  good_is = so.good_is;
  bad_is = so.bad_is;
}

bound_with : (tally : Tally) (taken : Bool) (left : ℕ) → left ≢ 0 → tally.good + tally.bad + left ≤ most_sends
    → (with_one tally taken).good + (with_one tally taken).bad + (left - 1) ≤ most_sends
bound_with tally true left some bound = omega (arith, some, bound)
bound_with tally false left some bound = omega (arith, some, bound)

module _ (On Same Onto Still : Type 0) (start now new : RoundView) (tally after : Tally) (left : ℕ)
    (turns : Turns On Same start now tally left) (some : left ≢ 0) (onto : Onto) (still : Still)
    (result : Result Turn RoundEnd) (turned : (old : RoundView) (sends : List Sending) (refused : ℕ)
    → HasSent old now sends refused → Turned old new sends refused result) where
  turned_as : (told : Result Turn RoundEnd) → result ≡ told → (old : RoundView) (so : SoFar old now tally left)
      → Turned old new so.sends so.refused told
  turned_as told is old so =
      subst (λ (r : Result Turn RoundEnd). Turned old new so.sends so.refused r) is (turned old so.sends so.refused so.sent)

  pub turns_refused : after ≡ tally → result ≡ Ok kinds.NotDue → Turns Onto Still start new after (left - 1)
  turns_refused same is = subst (λ (t : Tally). Turns Onto Still start new t (left - 1)) (sym same) (record {
    on = onto;
    same = still;
    bound = (let b = turns.bound in omega (arith, b));
    so_far = λ old sent.
        let so = turns.so_far old sent in
        so_refused old now new tally left so some (turned_as (Ok kinds.NotDue) is old so);
  })

  pub turns_sent : (taken : Bool) → after ≡ with_one tally taken → result ≡ Ok (kinds.Sent taken)
      → Turns Onto Still start new after (left - 1)
  turns_sent taken same is = subst (λ (t : Tally). Turns Onto Still start new t (left - 1)) (sym same) (record {
    on = onto;
    same = still;
    bound = bound_with tally taken left some turns.bound;
    so_far = λ old sent.
        let so = turns.so_far old sent in
        let one = turned_as (Ok (kinds.Sent taken)) is old so in
        so_sent old now new tally left so some one.0 taken one.1 one.2;
  })

-- ---- the lock is given back

length_up_to : (earlier before : List Entry) (entry : Entry)
    → length ((earlier ++ before) ++ entry ∷ []) ≡ length earlier + length before + 1
length_up_to earlier before entry =
    let e = length-append (earlier ++ before) (entry ∷ []) in
    let f = length-append earlier before in
    e ∙ ap (λ n. n + 1) f

-- nothing is left to send up to the command that comes next, where nothing was
none_left_on : (old a b : CallerView) (command : Command) (told : Told) (same : a.hand ≡ old.hand)
    → (x : Accepts a b command told) (sends : List Sending) (refused : ℕ) (last : List Entry)
    → NoneLeft old.start old.hand sends refused last a.trail
    → NoneLeft old.start old.hand sends refused last (a.trail ++ x.before)
none_left_on old a b command told same x sends refused last (none next) = none (record {
  seen = next.seen;
  since = next.since;
  upto = waits_then old.hand next.seen a.trail (a.trail ++ x.before) next.upto (before_it old a b command told same x);
  state = next.state;
  reached = next.reached;
  is_next = next.is_next;
})
none_left_on old a b command told same x sends refused last (tired tries) = tired tries

module _ (old : RoundView) (a b : CallerView) (carried : Option (List Exchange)) (tally : Tally)
    (all : AllSent old (view a carried) tally) where
  pub ran : (told : Told) → Accepts a b (Release Instances) told
      → HasRun old (view b carried) told.position tally.good tally.bad
  ran told x =
      let command : Command = Release Instances in
      let sent = all.sent in
      let hand = sent.on.grows.hand in
      record {
        mid = view a carried;
        sends = all.sends;
        refused = all.refused;
        sent = sent;
        none_left = none_left_on old.caller a b command told hand x all.sends all.refused sent.last all.none_left;
        on = on_then old.caller a b sent.on (on_accepted a b command told x);
        released = up_to old.caller.hand a b command told x;
        releases = comes old.caller a b command told sent.last hand sent.waits x;
        waits = behind_it old.caller a b command told hand x;
        gained = sent.gained;
        place = x.place ∙ sym (length_up_to a.trail x.before (Done old.caller.hand command));
        good_is = all.good_is;
        bad_is = all.bad_is;
      }

  pub stops_at_release : (fault : SubmitFault) → IsCallFault a b (Release Instances) fault → Stops old (view b carried) fault
  stops_at_release fault x = at_release (view a carried) all.sends all.refused all.sent all.none_left x refl

-- ---- the whole round

pub ends_so : (old new : RoundView) (sends : List Sending) (refused : ℕ) (end : RoundEnd)
    → Fails old new sends refused end → Rounds old new end
ends_so old new sends refused (ends.Stopped fault) fails = fails
ends_so old new sends refused ends.NoMemory fails = fails
ends_so old new sends refused (ends.Busy position held) fails = absurd fails
ends_so old new sends refused (ends.Ran position good bad hidden) fails = absurd fails
