-- Which exchanges a round has made, by how far it came.
use Rattle.std.proofs.Common.{◌≡◌, ℕ, List, [], ◌∷◌, ◌++◌, map, Option, refl, ap, sym, ◌∙◌, subst, append_assoc, append-nil}
use Rattle.std.specs.Prelude.{Bool, true, false, ◌&&◌}
use Rattle.std.specs.List.{filter}
use Rattle.std.proofs.lemmas.Grind.{flat_map-append}
use Rattle.std.proofs.lemmas.List.Elements.{filter-append}
use Rattle.entry_form.specs.declared.command.Command.{Command}
use Rattle.entry_form.specs.declared.command.Command.TheVariants.{TakeLock, Release}
use Rattle.entry_form.specs.declared.entry.Entry.{Entry}
use Rattle.entry_form.specs.declared.entry.Entry.TheVariants.{Done}
use Rattle.entry_form.specs.declared.hand.Hand.{Hand}
use Rattle.entry_form.specs.declared.hand.Lock.TheVariants.{Instances}
use Rattle.entry_form.specs.declared.hand.Round.TheVariants as rounds
use Rattle.field_io.specs.declared.exchange.Exchange.{Exchange}
use Rattle.device_state.specs.declared.state.State.{State}
use Rattle.device_rules.specs.declared.answer.NextSend.{NextSend}
use Rattle.device_rules.specs.declared.answer.Query.{Query}
use Rattle.device_rules.specs.declared.told.SubmitFault.{SubmitFault}
use Rattle.device_rules.specs.declared.told.SubmitFault.TheVariants as faults
use Rattle.device_rules.specs.Caller.{CallerView, AddsOthers, IsCallFault, IsLookFault, is_of}
use Rattle.send_workers.specs.Agreement.{AreExchanged, GoesBy, HasExchanged, Takes, Turn, ended, exchanges_in, exchanges_of_turn, is_send_command, is_send_entry, is_send_of, unended, unmade}
use Rattle.send_workers.specs.Exchanges.{GainsAll}
use Rattle.send_workers.specs.Rounds.{HasBegun, HasCarried, HasRun, HasSent, RoundView, Rounds, Starves, Stops, Went, at_begin, at_end, at_lock, at_look, at_release, exchanges_of}
use Rattle.send_workers.specs.Rounds as round
use Rattle.send_workers.specs.Sends.{AreSent, Comes, Sending, Waits}
use Rattle.send_workers.specs.declared.round.RoundEnd.{RoundEnd}
use Rattle.send_workers.specs.declared.round.RoundEnd.TheVariants as ends
use Rattle.send_workers.proofs.Sending.{gains_then}
use Rattle.send_workers.proofs.Steps.{no_gain, others_wait}

-- ---- entries that go by

none_of : {X : Type 0} (p q : X → Bool) (x : X) (xs : List X) (a b : Bool) → p x ≡ a → q x ≡ b → filter p (x ∷ xs) ≡ []
    → (filter p xs ≡ [] → filter (λ y. p y && q y) xs ≡ []) → filter (λ y. p y && q y) (x ∷ xs) ≡ []
none_of p q x xs true b one other none go = absurd (let e : x ∷ filter p xs ≡ [] = (rw one at none) in cc e)
none_of p q x xs false b one other none go = rw one (go (rw one at none))

filter_none : {X : Type 0} (p q : X → Bool) (xs : List X) → filter p xs ≡ [] → filter (λ y. p y && q y) xs ≡ []
filter_none p q [] none = refl
filter_none p q (x ∷ xs) none = none_of p q x xs (p x) (q x) refl refl none (filter_none p q xs)

pub goes_none : (hand : Hand) (h : List Entry) → GoesBy hand h h
goes_none hand h = record { others = []; joined = sym (append-nil h); none = refl }

pub goes_then : (hand : Hand) (a b c : List Entry) → GoesBy hand a b → GoesBy hand b c → GoesBy hand a c
goes_then hand a b c x y = record {
  others = x.others ++ y.others;
  joined = y.joined ∙ ap (λ (h : List Entry). h ++ y.others) x.joined ∙ append_assoc a x.others y.others;
  none = filter-append (is_send_of hand) x.others y.others
      ∙ ap (λ (es : List Entry). es ++ filter (is_send_of hand) y.others) x.none ∙ y.none;
}

pub waits_go : (hand : Hand) (a b : List Entry) → Waits hand a b → GoesBy hand a b
waits_go hand a b x = record {
  others = x.others;
  joined = x.joined;
  none = filter_none (is_of hand) is_send_entry x.others x.none;
}

both_false : (a b : Bool) → b ≡ false → (a && b) ≡ false
both_false true b is = is
both_false false b is = refl

pub comes_go : (hand : Hand) (a : List Entry) (command : Command) (b : List Entry) → Comes hand a command b
    → is_send_command command ≡ false → GoesBy hand a b
comes_go hand a command b x free = goes_then hand a x.before b (waits_go hand a x.before x.waits) (record {
  others = Done hand command ∷ [];
  joined = x.joined;
  none = rw (both_false (is_of hand (Done hand command)) (is_send_command command) free) refl;
})

-- ---- lists of sends

module _ (start : State) (hand : Hand) where
  pub exchanged_before : (a b : List Entry) (turns : List Turn) (c : List Entry) → GoesBy hand a b
      → AreExchanged start hand b turns c → AreExchanged start hand a turns c
  exchanged_before a b [] c x y = goes_then hand a b c x y
  exchanged_before a b (turn ∷ turns) c x y = (y.0, y.1, goes_then hand a b y.0 x y.2, y.3, y.4)

  pub exchanged_then : (a : List Entry) (xs : List Turn) (b : List Entry) (ys : List Turn) (c : List Entry)
      → AreExchanged start hand a xs b → AreExchanged start hand b ys c → AreExchanged start hand a (xs ++ ys) c
  exchanged_then a [] b ys c x y = exchanged_before a b ys c x y
  exchanged_then a (turn ∷ xs) b ys c x y = (x.0, x.1, x.2, x.3, exchanged_then x.1 xs b ys c x.4 y)

  pub sent_exchanged : (a : List Entry) (sends : List Sending) (b : List Entry) → AreSent start hand a sends b
      → AreExchanged start hand a (map ended sends) b
  sent_exchanged a [] b same = subst (λ (h : List Entry). GoesBy hand a h) (sym same) (goes_none hand a)
  sent_exchanged a (s ∷ sends) b x = (a, x.0, goes_none hand a, x.1, sent_exchanged x.0 sends b x.2)

  -- one more turn
  one_turn : (a : List Entry) (turn : Turn) (b c : List Entry) → Takes start hand a turn b → Waits hand b c
      → AreExchanged start hand a (turn ∷ []) c
  one_turn a turn b c takes waits = (a, b, goes_none hand a, takes, waits_go hand b c waits)

pub exchanges_then : (xs ys : List Turn) → exchanges_in (xs ++ ys) ≡ exchanges_in xs ++ exchanges_in ys
exchanges_then xs ys = flat_map-append exchanges_of_turn xs ys

sent_exchanges : (sends : List Sending) → exchanges_in (map ended sends) ≡ exchanges_of sends
sent_exchanges [] = refl
sent_exchanges (s ∷ sends) = ap (λ (xs : List Exchange). s.exchange ∷ xs) (sent_exchanges sends)

sends_then : (sends : List Sending) (s : Sending) → exchanges_of (sends ++ s ∷ []) ≡ exchanges_of sends ++ s.exchange ∷ []
sends_then [] s = refl
sends_then (first ∷ sends) s = ap (λ (xs : List Exchange). first.exchange ∷ xs) (sends_then sends s)

unended_exchanges : (sends : List Sending) (s : Sending)
    → exchanges_of (sends ++ s ∷ []) ≡ exchanges_in (map ended sends ++ unended s ∷ [])
unended_exchanges sends s =
    sends_then sends s ∙ sym (exchanges_then (map ended sends) (unended s ∷ [])
    ∙ ap (λ (xs : List Exchange). xs ++ s.exchange ∷ []) (sent_exchanges sends))

-- ---- rounds

module _ (old : RoundView) where
  abbrev Exchanges : List Entry → List Turn → List Entry → Type 0
  Exchanges earlier turns later = AreExchanged old.caller.start old.caller.hand earlier turns later

  -- up to the last send
  went_exchanged : (sends : List Sending) (last : List Entry) → Went old.caller sends last
      → Exchanges old.caller.trail (map ended sends) last
  went_exchanged sends last went =
      exchanged_before old.caller.start old.caller.hand old.caller.trail went.taken (map ended sends) last
      (comes_go old.caller.hand old.caller.trail (TakeLock rounds.Send) went.taken went.takes refl)
      (sent_exchanged old.caller.start old.caller.hand went.taken sends last went.sent)

  -- and on, while nothing more is sent
  exchanged_on : (a b c : List Entry) (turns : List Turn) → Exchanges a turns b → GoesBy old.caller.hand b c
      → Exchanges a turns c
  exchanged_on a b c turns x goes = subst (λ (ts : List Turn). Exchanges a ts c) (append-nil turns)
      (exchanged_then old.caller.start old.caller.hand a turns b [] c x goes)

  -- and one turn more
  exchanged_turn : (sends : List Sending) (last : List Entry) (turn : Turn) (upto later : List Entry)
      → Went old.caller sends last → Takes old.caller.start old.caller.hand last turn upto
      → Waits old.caller.hand upto later → Exchanges old.caller.trail (map ended sends ++ turn ∷ []) later
  exchanged_turn sends last turn upto later went takes waits =
      exchanged_then old.caller.start old.caller.hand old.caller.trail (map ended sends) last (turn ∷ []) later
      (went_exchanged sends last went) (one_turn old.caller.start old.caller.hand last turn upto later takes waits)

  module _ (now : RoundView) (sends : List Sending) (refused : ℕ) where
    gains_sent : (x : GainsAll old.carried now.carried (exchanges_of sends))
        → GainsAll old.carried now.carried (exchanges_in (map ended sends))
    gains_sent x = subst (GainsAll old.carried now.carried) (sym (sent_exchanges sends)) x

    pub has_sent : HasSent old now sends refused → HasExchanged old now
    has_sent x = record {
      turns = map ended sends;
      exchanged = exchanged_on old.caller.trail x.last now.caller.trail (map ended sends)
          (went_exchanged sends x.last x.went) (waits_go old.caller.hand x.last now.caller.trail x.waits);
      gained = gains_sent x.gained;
    }

    pub has_begun : (named : NextSend) (at : ℕ) → HasBegun old now sends refused named at → HasExchanged old now
    has_begun named at x = record {
      turns = map ended sends ++ unmade named at ∷ [];
      exchanged = exchanged_turn sends x.last (unmade named at) x.begun now.caller.trail x.went x.begins x.waits;
      gained = subst (GainsAll old.carried now.carried) (sym (exchanges_then (map ended sends) (unmade named at ∷ [])
          ∙ append-nil (exchanges_in (map ended sends)) ∙ sent_exchanges sends)) x.gained;
    }

    pub has_carried : (s : Sending) → HasCarried old now sends refused s → HasExchanged old now
    has_carried s x = record {
      turns = map ended sends ++ unended s ∷ [];
      exchanged = exchanged_turn sends x.last (unended s) x.begun now.caller.trail x.went (x.begins, x.carried) x.waits;
      gained = subst (GainsAll old.carried now.carried) (unended_exchanges sends s) x.gained;
    }

  pub has_run : (now : RoundView) (position good bad : ℕ) → HasRun old now position good bad → HasExchanged old now
  has_run now position good bad x = record {
    turns = map ended x.sends;
    exchanged = exchanged_on old.caller.trail x.sent.last now.caller.trail (map ended x.sends)
        (went_exchanged x.sends x.sent.last x.sent.went)
        (goes_then old.caller.hand x.sent.last x.released now.caller.trail
        (comes_go old.caller.hand x.sent.last (Release Instances) x.released x.releases refl)
        (waits_go old.caller.hand x.released now.caller.trail x.waits));
    gained = gains_sent now x.sends x.refused x.gained;
  }

  -- others' entries behind it
  module _ (mid new : RoundView) (same_hand : mid.caller.hand ≡ old.caller.hand) where
    others_exchanged : AddsOthers mid.caller new.caller → new.carried ≡ mid.carried → HasExchanged old mid
        → HasExchanged old new
    others_exchanged others same x = record {
      turns = x.turns;
      exchanged = exchanged_on old.caller.trail mid.caller.trail new.caller.trail x.turns x.exchanged
          (waits_go old.caller.hand mid.caller.trail new.caller.trail (others_wait old.caller mid.caller new.caller same_hand others));
      gained = subst (λ (c : Option (List Exchange)). GainsAll old.carried c (exchanges_in x.turns)) (sym same) x.gained;
    }

  fault_others : (mid new : CallerView) (command : Command) (fault : SubmitFault) → IsCallFault mid new command fault
      → AddsOthers mid new
  fault_others mid new command (faults.Refused position why) x = x.others
  fault_others mid new command (faults.Full size) x = x.others
  fault_others mid new command faults.DiskFault x = x.others
  fault_others mid new command (faults.Failed count) x = x.others

  look_others : (mid new : CallerView) (query : Query) (fault : SubmitFault) → IsLookFault mid new query fault
      → AddsOthers mid new
  look_others mid new query (faults.Refused position why) x = x.looks.others
  look_others mid new query (faults.Full size) x = absurd x
  look_others mid new query faults.DiskFault x = x.0.others
  look_others mid new query (faults.Failed count) x = x.0.others

  none_exchanged : (new : RoundView) → AddsOthers old.caller new.caller → new.carried ≡ old.carried
      → HasExchanged old new
  none_exchanged new others same = others_exchanged old new refl others same (record {
    turns = [];
    exchanged = goes_none old.caller.hand old.caller.trail;
    gained = no_gain old.carried;
  })

  module _ (new : RoundView) where
    pub has_stopped : (fault : SubmitFault) → Stops old new fault → HasExchanged old new
    has_stopped fault (at_lock free h same) = none_exchanged new (fault_others old.caller new.caller _ fault h) same
    has_stopped fault (at_look mid sends refused sent h same) =
        others_exchanged mid new sent.on.grows.hand (look_others mid.caller new.caller _ fault h) same
        (has_sent mid sends refused sent)
    has_stopped fault (at_begin mid sends refused named at sent next due h same) =
        others_exchanged mid new sent.on.grows.hand (fault_others mid.caller new.caller _ fault h) same
        (has_sent mid sends refused sent)
    has_stopped fault (at_end mid sends refused s carried h same) =
        others_exchanged mid new carried.on.grows.hand (fault_others mid.caller new.caller _ fault h) same
        (has_carried mid sends refused s carried)
    has_stopped fault (at_release mid sends refused sent none_left h same) =
        others_exchanged mid new sent.on.grows.hand (fault_others mid.caller new.caller _ fault h) same
        (has_sent mid sends refused sent)

    pub has_starved : Starves old new → HasExchanged old new
    has_starved (round.unbegun sends refused sent) = has_sent new sends refused sent
    has_starved (round.begun sends refused named at x) = has_begun new sends refused named at x

    pub rounds_exchanged : (end : RoundEnd) → Rounds old new end → HasExchanged old new
    rounds_exchanged (ends.Busy position held) x = none_exchanged new x.0.others x.1
    rounds_exchanged (ends.Ran position good bad hidden) x = has_run new position good bad x.0
    rounds_exchanged (ends.Stopped fault) x = has_stopped fault x
    rounds_exchanged ends.NoMemory x = has_starved x

-- ---- one behind the other

pub exchanged_more : (old mid new : RoundView) → mid.caller.start ≡ old.caller.start → mid.caller.hand ≡ old.caller.hand
    → HasExchanged old mid → HasExchanged mid new → HasExchanged old new
exchanged_more old mid new same_start same_hand x y = record {
  turns = x.turns ++ y.turns;
  exchanged = exchanged_then old.caller.start old.caller.hand old.caller.trail x.turns mid.caller.trail y.turns
      new.caller.trail x.exchanged
      (subst (λ (s : State). AreExchanged s old.caller.hand mid.caller.trail y.turns new.caller.trail) same_start
      (subst (λ (h : Hand). AreExchanged mid.caller.start h mid.caller.trail y.turns new.caller.trail) same_hand y.exchanged));
  gained = subst (GainsAll old.carried new.carried) (sym (exchanges_then x.turns y.turns))
      (gains_then old.carried mid.carried new.carried (exchanges_in x.turns) (exchanges_in y.turns) x.gained y.gained);
}

pub went_by : (old new : RoundView) → GoesBy old.caller.hand old.caller.trail new.caller.trail
    → new.carried ≡ old.carried → HasExchanged old new
went_by old new goes same = record {
  turns = [];
  exchanged = goes;
  gained = subst (λ (c : Option (List Exchange)). GainsAll old.carried c []) (sym same) (no_gain old.carried);
}
