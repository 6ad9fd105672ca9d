-- What a round looks for next, and how a send ends.
use Rattle.std.proofs.Common.{◌≡◌, ℕ, ◌+◌, ◌-◌, ◌≤◌, Bool, not, List, [], ◌∷◌, ◌++◌, length, take, drop, Option, Some, None, option_map, Result, Ok, Err, refl, ap, sym, ◌∙◌, subst, arith, append_assoc, take-append-drop}
use Rattle.std.specs.Prelude.{true, false, if◌then◌else◌}
use Rattle.std.proofs.Math.Seq.{take-append-add}
use Rattle.std.proofs.lemmas.List.{map-append}
use Rattle.std.proofs.lemmas.List.Elements.{filter-append}
use Rattle.entry_form.specs.declared.command.Command.{Command}
use Rattle.entry_form.specs.declared.command.Command.TheVariants.{SendEnded}
use Rattle.entry_form.specs.declared.command.Outcome.{Outcome}
use Rattle.entry_form.specs.declared.entry.Entry.{Entry}
use Rattle.entry_form.specs.declared.entry.Entry.TheVariants.{Done}
use Rattle.entry_form.specs.declared.hand.Hand.{Hand}
use Rattle.field_io.specs.declared.exchange.Exchange.{Exchange}
use Rattle.field_text.proofs.StepLemmas.{then_ok}
use Rattle.device_state.specs.Flights.{is_flight}
use Rattle.device_state.specs.declared.state.State.{State}
use Rattle.std.specs.List.{list_any}
use Rattle.device_rules.specs.declared.answer.Answer.{Answer}
use Rattle.device_rules.specs.declared.answer.Answer.TheVariants.{Number}
use Rattle.device_rules.specs.declared.answer.NextSend.{NextSend}
use Rattle.device_rules.specs.declared.answer.Query.TheVariants as queries
use Rattle.device_rules.specs.declared.refused.Refused.{Refused}
use Rattle.device_rules.specs.declared.refused.Refused.TheVariants.{BadValue, NotInFlight}
use Rattle.device_rules.specs.declared.told.SubmitFault.{SubmitFault}
use Rattle.device_rules.specs.declared.told.Told.{Told}
use Rattle.device_rules.specs.Answers.{next_send}
use Rattle.device_rules.specs.Caller.{CallerView, Accepts, IsLookFault, LooksOn, Shows, is_of, of_hand}
use Rattle.device_rules.specs.Due.{next_due}
use Rattle.device_rules.specs.Limits.{is_within_limits}
use Rattle.device_rules.specs.SendEnded.{is_taken}
use Rattle.device_rules.specs.Step.{entered, step}
use Rattle.device_rules.specs.Tests.{not_full, refused_if}
use Rattle.device_rules.specs.Trail.{replay}
use Rattle.send_workers.specs.Exchanges.{Agrees, GainsAll}
use Rattle.send_workers.specs.Sends.{AreSent, IsNext, IsSent, Sending, Waits}
use Rattle.send_workers.specs.Rounds.{HasBegun, HasCarried, HasSent, Names, RoundView, Starves, Stops, exchanges_of, is_one, named_in, view, was_taken}
use Rattle.send_workers.specs.Rounds.Starves.{begun}
use Rattle.send_workers.specs.Rounds.Stops.{at_look}
use Rattle.submission_wire.specs.Posts.{IsPost}
use Rattle.send_workers.proofs.Steps.{behind_it, comes, on_accepted, on_others, on_then, others_wait, up_to, waits_then}

-- ---- a look

-- two lists that are nothing together
both_nothing : {A : Type 0} (xs ys : List A) → xs ++ ys ≡ [] → (xs ≡ []) × (ys ≡ [])
both_nothing [] ys e = (refl, e)
both_nothing (x ∷ xs) ys e = absurd cc

-- a history up to a position behind its front
cut_behind : (front added : List Entry) (n : ℕ) → length front ≤ n
    → take n (front ++ added) ≡ front ++ take (n - length front) added
cut_behind front added n low =
    ap (λ (k : ℕ). take k (front ++ added)) (let same : n ≡ length front + (n - length front) = omega (arith, low) in same)
    ∙ take-append-add front added (n - length front)

-- where nothing of the hand was added, there is nothing of it in a part of that
parts_wait : (hand : Hand) (added : List Entry) (n : ℕ) → of_hand hand added ≡ []
    → (of_hand hand (take n added) ≡ []) × (of_hand hand (drop n added) ≡ [])
parts_wait hand added n none =
    both_nothing (of_hand hand (take n added)) (of_hand hand (drop n added))
    (sym (filter-append (is_of hand) (take n added) (drop n added))
    ∙ ap (λ (xs : List Entry). of_hand hand xs) (take-append-drop n added) ∙ none)

-- a state that is reached between two histories says what is next between them
next_there : (start : State) (hand : Hand) (earlier middle later : List Entry) (n : ℕ) (state : State)
    → Waits hand earlier middle → (w : Waits hand middle later) → length middle ≤ n
    → replay start (take n later) ≡ Some state
    → IsNext start hand earlier later (option_map (next_send state) (next_due state hand))
next_there start hand earlier middle later n state since w low reached =
    let k : ℕ = n - length middle in
    let parts = parts_wait hand w.others k w.none in
    let seen : List Entry = middle ++ take k w.others in
    let is_seen : take n later ≡ seen = ap (λ (h : List Entry). take n h) w.joined ∙ cut_behind middle w.others n low in
    record {
      seen = seen;
      since = waits_then hand earlier middle seen since (record { others = take k w.others; joined = refl; none = parts.0 });
      upto = record {
        others = drop k w.others;
        joined = w.joined ∙ ap (λ (xs : List Entry). middle ++ xs) (sym (take-append-drop k w.others))
            ∙ sym (append_assoc middle (take k w.others) (drop k w.others));
        none = parts.1;
      };
      state = state;
      reached = subst (λ (h : List Entry). replay start h ≡ Some state) is_seen reached;
      is_next = refl;
    }

-- what an answer names, where there is one
abbrev names_of : Result Answer Refused → Option NextSend
names_of (Ok answer) = named_in answer
names_of (Err why) = None

module _ (old : RoundView) (a b : CallerView) (carried : Option (List Exchange)) (sends : List Sending) (refused : ℕ) where
  -- a look makes nothing of the round's own
  abbrev looks_on : (sent : HasSent old (view a carried) sends refused) → LooksOn a b → HasSent old (view b carried) sends refused
  looks_on sent x = record {
    on = on_then old.caller a b sent.on (on_others a b x.others x.rest);
    last = sent.last;
    went = sent.went;
    waits = waits_then old.caller.hand sent.last a.trail b.trail sent.waits
        (others_wait old.caller a b sent.on.grows.hand x.others);
    gained = sent.gained;
    refusals = x.refusals ∙ sent.refusals;
  }

  pub looked : (told : Told) → HasSent old (view a carried) sends refused → Shows a b queries.NextSend told
      → Names old (view b carried) sends refused (named_in told.answer)
  looked told sent x =
      let hand = sent.on.grows.hand in
      let reached = subst (λ (s : State). replay s (take told.position b.trail) ≡ Some x.state) sent.on.grows.start
      x.reaches.reached in
      let next = next_there old.caller.start old.caller.hand sent.last a.trail b.trail told.position x.state sent.waits
      (others_wait old.caller a b hand x.looks.others) x.reaches.low reached in
      let answer : option_map (next_send x.state) (next_due x.state old.caller.hand) ≡ named_in told.answer =
      subst (λ (h : Hand). option_map (next_send x.state) (next_due x.state h) ≡ named_in told.answer) hand
      (ap names_of x.answered) in (
        looks_on sent x.looks,
        subst (λ (o : Option NextSend). IsNext old.caller.start old.caller.hand sent.last b.trail o)
            answer next,
      )

  pub stops_at_look : (fault : SubmitFault) → HasSent old (view a carried) sends refused
      → IsLookFault a b queries.NextSend fault → Stops old (view b carried) fault
  stops_at_look fault sent x = at_look (view a carried) sends refused sent x refl

-- ---- the end of a send

-- what is recorded of an exchange is told by the answer
answered_one : Result (State × Answer) Refused → Bool
answered_one (Ok made) = is_one made.1
answered_one (Err why) = false

one_or_none : (taken : Bool) → is_one (Number (if taken then 1 else 0)) ≡ taken
one_or_none true = refl
one_or_none false = refl

ended_answer : (state next : State) (hand : Hand) (number : ℕ) (outcome : Outcome) (answer : Answer)
    → step state (Done hand (SendEnded number outcome)) ≡ Ok (next, answer) → is_one answer ≡ is_taken outcome
unfolding answered_one
ended_answer state next hand number outcome answer is =
    let came = then_ok (entered state (Done hand (SendEnded number outcome))) _ (next, answer) is in
    let within = then_ok (refused_if (not (is_within_limits (SendEnded number outcome))) BadValue) _ came.0 came.1 in
    let room = then_ok (not_full state) _ came.0 within.2 in
    let flown = then_ok (refused_if (not (list_any (is_flight hand number) state.flights.items)) NotInFlight) _ came.0
    room.2 in
    sym (ap answered_one came.2) ∙ sym (ap answered_one flown.2) ∙ one_or_none (is_taken outcome)

-- one send more at the end
sent_then : (start : State) (hand : Hand) (earlier : List Entry) (sends : List Sending) (s : Sending)
    (last later : List Entry) → AreSent start hand earlier sends last → IsSent start hand last s later
    → AreSent start hand earlier (sends ++ s ∷ []) later
sent_then start hand earlier [] s last later same is =
    (later, subst (λ (h : List Entry). IsSent start hand h s later) same is, refl)
sent_then start hand earlier (x ∷ sends) s last later sent is =
    (sent.0, sent.1, sent_then start hand sent.0 sends s last later sent.2 is)

module _ (old : RoundView) (a b : CallerView) (carried : Option (List Exchange)) (sends : List Sending) (refused : ℕ) where
  pub ended : (s : Sending) (number : ℕ) (outcome : Outcome) (told : Told)
      → HasCarried old (view a carried) sends refused s → number ≡ s.named.number → outcome ≡ s.outcome
      → Accepts a b (SendEnded number outcome) told
      → HasSent old (view b carried) (sends ++ s ∷ []) refused × (is_one told.answer ≡ was_taken s)
  ended s number outcome told has same is accepts =
      let command : Command = SendEnded s.named.number s.outcome in
      let x : Accepts a b command told =
      subst (λ (o : Outcome). Accepts a b (SendEnded s.named.number o) told) is
      (subst (λ (n : ℕ). Accepts a b (SendEnded n outcome) told) same accepts) in
      let hand = has.on.grows.hand in
      let last : List Entry = up_to old.caller.hand a b command told x in (
        record {
          on = on_then old.caller a b has.on (on_accepted a b command told x);
          last = last;
          went = record {
            taken = has.went.taken;
            takes = has.went.takes;
            sent = sent_then old.caller.start old.caller.hand has.went.taken sends s has.last last has.went.sent (record {
              begun = has.begun;
              begins = has.begins;
              carried = has.carried;
              ends = comes old.caller a b command told has.begun hand has.waits x;
            });
          };
          waits = behind_it old.caller a b command told hand x;
          gained = has.gained;
          refusals = x.refusals ∙ has.refusals;
        },
        ended_answer x.state x.next a.hand s.named.number s.outcome told.answer x.stepped,
      )

-- ---- the exchange of a send

abbrev pub sending : NextSend → ℕ → Exchange → Outcome → Sending
sending named at exchange outcome = record { named = named; at = at; exchange = exchange; outcome = outcome }

-- what two calls added
pub gains_then : (before between after : Option (List Exchange)) (xs ys : List Exchange) → GainsAll before between xs
    → GainsAll between after ys → GainsAll before after (xs ++ ys)
gains_then before between None xs ys one other = tt
gains_then before None (Some now) xs ys one other = absurd cc
gains_then None (Some middle) (Some now) xs ys one other = absurd cc
gains_then (Some carried) (Some middle) (Some now) xs ys one other =
    ap Some (sym (append_assoc carried xs ys)) ∙ ap (option_map (λ (zs : List Exchange). zs ++ ys)) one ∙ other

module _ (old : RoundView) (now : CallerView) (before after : Option (List Exchange)) (sends : List Sending) (refused : ℕ)
    (named : NextSend) (at : ℕ) (has : HasBegun old (view now before) sends refused named at) where
  pub carried_on : (request : List ℕ) (outcome : Outcome) (x : Exchange) → IsPost named.base at named.doc request
      → Agrees named.base.authority request x outcome → GainsAll before after (x ∷ [])
      → HasCarried old (view now after) sends refused (sending named at x outcome)
  carried_on request outcome x posts agrees gains = record {
    on = has.on;
    last = has.last;
    went = has.went;
    begun = has.begun;
    begins = has.begins;
    waits = has.waits;
    carried = record { request = request; posts = posts; agrees = agrees };
    gained = subst (λ (xs : List Exchange). GainsAll old.carried after xs)
        (sym (map-append (λ (s : Sending). s.exchange) sends (sending named at x outcome ∷ [])))
        (gains_then old.carried before after (exchanges_of sends) (x ∷ []) has.gained gains);
    refusals = has.refusals;
  }

  -- memory ran out before the exchange
  pub starved : after ≡ before → Starves old (view now after)
  starved same = begun sends refused named at
      (subst (λ (c : Option (List Exchange)). HasBegun old (view now c) sends refused named at) (sym same) has)
