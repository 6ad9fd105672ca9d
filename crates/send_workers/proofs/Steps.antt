-- What a caller's calls make of a round, step by step.
use Rattle.std.proofs.Common.{◌≡◌, ℕ, suc, List, [], ◌∷◌, ◌++◌, Option, Some, None, refl, ap, sym, ◌∙◌, subst, arith, append_assoc, append-nil}
use Rattle.std.specs.Prelude.{true, false}
use Rattle.std.specs.List.{AllByRecursion}
use Rattle.std.proofs.lemmas.List.Elements.{filter-append}
use Rattle.entry_form.specs.declared.command.Command.{Command}
use Rattle.entry_form.specs.declared.command.Command.TheVariants.{SendBegun, SendEnded, TakeLock}
use Rattle.entry_form.specs.declared.command.Outcome.{Outcome}
use Rattle.entry_form.specs.declared.hand.Round.TheVariants.{Send}
use Rattle.entry_form.specs.declared.entry.Entry.{Entry}
use Rattle.entry_form.specs.declared.entry.Entry.TheVariants.{Done}
use Rattle.entry_form.specs.declared.hand.Hand.{Hand}
use Rattle.field_io.specs.declared.exchange.Exchange.{Exchange}
use Rattle.http_exchange.specs.Exchange.{DialerView, Exchanges}
use Rattle.http_exchange.specs.Exchange.Carries.{dial_failed, send_failed, take_failed, enough, ended}
use Rattle.http_exchange.specs.declared.got.Got.{Got}
use Rattle.http_exchange.specs.declared.got.Got.TheVariants as got
use Rattle.device_rules.specs.declared.answer.NextSend.{NextSend}
use Rattle.device_rules.specs.declared.refused.Refused.{Refused}
use Rattle.device_rules.specs.declared.told.SubmitFault.{SubmitFault}
use Rattle.device_rules.specs.declared.told.SubmitFault.TheVariants as faults
use Rattle.device_rules.specs.declared.told.Told.{Told}
use Rattle.device_rules.specs.Caller.{CallerView, Accepts, AddsOthers, Grows, IsCallFault, IsCommand, Refuses, SameRest, is_of, of_hand, raised}
use Rattle.send_workers.specs.Exchanges as agrees
use Rattle.send_workers.specs.Exchanges.{GainsAll}
use Rattle.send_workers.specs.Sends.{Waits, Comes, Sending}
use Rattle.send_workers.specs.Rounds.{CarriesOut, GoesOn, HasBegun, HasCarried, HasSent, Names, RoundView, Stops, is_not_due, outcome_of, view}
use Rattle.send_workers.specs.Rounds.Stops.{at_begin, at_end}

-- ---- the exchange

pub carried_out : (authority request : List ℕ) (before after : DialerView) (result : Got)
    → Exchanges authority request before after result
    → CarriesOut authority request before.carried after.carried (outcome_of result)
carried_out authority request before after got.NoMemory same = ap (λ (v : DialerView). v.carried) same
carried_out authority request before after (got.Fault stage) (dial_failed gains failed) = (_, agrees.dial_failed, gains)
carried_out authority request before after (got.Fault stage) (send_failed sent unsent joined some gains failed) =
    (_, agrees.send_failed sent unsent joined some, gains)
carried_out authority request before after (got.Fault stage) (take_failed taken needed gains failed) =
    (_, agrees.take_failed taken needed, gains)
carried_out authority request before after (got.Reply bytes) (enough taken is gains calm) = (_, agrees.enough taken is, gains)
carried_out authority request before after (got.Reply bytes) (ended taken needed gains over) = (_, agrees.ended taken needed, gains)

-- ---- histories

pub waits_none : (hand : Hand) (h : List Entry) → Waits hand h h
waits_none hand h = record { others = []; joined = sym (append-nil h); none = refl }

pub waits_then : (hand : Hand) (a b c : List Entry) → Waits hand a b → Waits hand b c → Waits hand a c
waits_then hand a b c x y = record {
  others = x.others ++ y.others;
  joined = y.joined ∙ ap (λ (h : List Entry). h ++ y.others) x.joined ∙ append_assoc a x.others y.others;
  none = filter-append (is_of hand) x.others y.others ∙ ap (λ (xs : List Entry). xs ++ of_hand hand y.others) x.none ∙ y.none;
}

all_then : (xs ys : List Entry) → AllByRecursion IsCommand xs → AllByRecursion IsCommand ys
    → AllByRecursion IsCommand (xs ++ ys)
all_then [] ys one other = other
all_then (x ∷ xs) ys one other = (one.0, all_then xs ys one.1 other)

pub grows_then : (a b c : CallerView) (xs ys : List Entry) → Grows a b xs → Grows b c ys → Grows a c (xs ++ ys)
grows_then a b c xs ys x y = record {
  hand = y.hand ∙ x.hand;
  start = y.start ∙ x.start;
  trail = y.trail ∙ ap (λ (h : List Entry). h ++ ys) x.trail ∙ append_assoc a.trail xs ys;
  commands = all_then xs ys x.commands y.commands;
  faults = (let p = x.faults in let q = y.faults in omega (arith, p, q));
  length = (let p = x.length in let q = y.length in omega (arith, p, q));
  refusals = (let p = x.refusals in let q = y.refusals in omega (arith, p, q));
  closings = (let p = x.closings in let q = y.closings in omega (arith, p, q));
}

-- the hand that a view has, in a fact that speaks of the hand before
moved : (P : Hand → Type 0) (old now : CallerView) → now.hand ≡ old.hand → P now.hand → P old.hand
moved P old now same is = subst P same is

pub on_then : (a b c : CallerView) → GoesOn a b → GoesOn b c → GoesOn a c
on_then a b c x y = record {
  added = x.added ++ y.added;
  grows = grows_then a b c x.added y.added x.grows y.grows;
  rest = moved (λ (h : Hand). of_hand h c.rest ≡ of_hand h b.rest) a b x.grows.hand y.rest ∙ x.rest;
}

pub on_others : (a b : CallerView) → AddsOthers a b → SameRest a b → GoesOn a b
on_others a b x rest = record { added = x.added; grows = x.grows; rest = rest }

pub on_accepted : (a b : CallerView) (command : Command) (told : Told) → Accepts a b command told → GoesOn a b
on_accepted a b command told x =
    record { added = x.before ++ Done a.hand command ∷ x.after; grows = x.grows; rest = x.rest }

pub others_wait : (old a b : CallerView) → a.hand ≡ old.hand → AddsOthers a b → Waits old.hand a.trail b.trail
others_wait old a b same x = record {
  others = x.added;
  joined = x.grows.trail;
  none = moved (λ (h : Hand). of_hand h x.added ≡ []) old a same x.others;
}

-- the history up to a command that was accepted
abbrev pub up_to : (hand : Hand) (a b : CallerView) (command : Command) (told : Told) → Accepts a b command told
    → List Entry
up_to hand a b command told x = (a.trail ++ x.before) ++ Done hand command ∷ []

pub before_it : (old a b : CallerView) (command : Command) (told : Told) → a.hand ≡ old.hand
    → (x : Accepts a b command told) → Waits old.hand a.trail (a.trail ++ x.before)
before_it old a b command told same x = record {
  others = x.before;
  joined = refl;
  none = moved (λ (h : Hand). of_hand h x.before ≡ []) old a same x.others_before;
}

abbrev pub comes : (old a b : CallerView) (command : Command) (told : Told) (last : List Entry) → a.hand ≡ old.hand
    → Waits old.hand last a.trail → (x : Accepts a b command told)
    → Comes old.hand last command (up_to old.hand a b command told x)
comes old a b command told last same waits x = record {
  before = a.trail ++ x.before;
  waits = waits_then old.hand last a.trail (a.trail ++ x.before) waits (before_it old a b command told same x);
  joined = refl;
}

pub behind_it : (old a b : CallerView) (command : Command) (told : Told) → a.hand ≡ old.hand
    → (x : Accepts a b command told) → Waits old.hand (up_to old.hand a b command told x) b.trail
behind_it old a b command told same x = record {
  others = x.after;
  joined = moved (λ (h : Hand). b.trail ≡ ((a.trail ++ x.before) ++ Done h command ∷ []) ++ x.after) old a same
      (x.grows.trail ∙ sym (append_assoc a.trail x.before (Done a.hand command ∷ x.after))
      ∙ sym (append_assoc (a.trail ++ x.before) (Done a.hand command ∷ []) x.after));
  none = moved (λ (h : Hand). of_hand h x.after ≡ []) old a same x.others_after;
}

-- ---- the round

pub no_gain : (carried : Option (List Exchange)) → GainsAll carried carried []
no_gain None = tt
no_gain (Some xs) = ap Some (append-nil xs)

pub locked : (a b : CallerView) (carried : Option (List Exchange)) (told : Told) → Accepts a b (TakeLock Send) told
    → HasSent (view a carried) (view b carried) [] 0
locked a b carried told x =
    let taken : List Entry = up_to a.hand a b (TakeLock Send) told x in
    record {
      on = on_accepted a b (TakeLock Send) told x;
      last = taken;
      went = record {
        taken = taken;
        takes = comes a a b (TakeLock Send) told a.trail refl (waits_none a.hand a.trail) x;
        sent = refl;
      };
      waits = behind_it a a b (TakeLock Send) told refl x;
      gained = no_gain carried;
      refusals = x.refusals;
    }

module _ (old : RoundView) (a b : CallerView) (carried : Option (List Exchange)) (sends : List Sending) (refused : ℕ) where
  -- the instance that is named is begun
  pub begun : (named : NextSend) (at number : ℕ) (told : Told) → Names old (view a carried) sends refused (Some named)
      → number ≡ named.number → Accepts a b (SendBegun number at) told
      → HasBegun old (view b carried) sends refused named at
  begun named at number told names same accepts =
      let sent = names.0 in
      let next = names.1 in
      let command : Command = SendBegun named.number at in
      let x : Accepts a b command told = subst (λ (n : ℕ). Accepts a b (SendBegun n at) told) same accepts in
      let hand = sent.on.grows.hand in
      record {
        on = on_then old.caller a b sent.on (on_accepted a b command told x);
        last = sent.last;
        went = sent.went;
        begun = up_to old.caller.hand a b command told x;
        begins = record {
          before = a.trail ++ x.before;
          is_named = record {
            seen = next.seen;
            since = next.since;
            upto = waits_then old.caller.hand next.seen a.trail (a.trail ++ x.before) next.upto
                (before_it old.caller a b command told hand x);
            state = next.state;
            reached = next.reached;
            is_next = next.is_next;
          };
          joined = refl;
        };
        waits = behind_it old.caller a b command told hand x;
        gained = sent.gained;
        refusals = x.refusals ∙ sent.refusals;
      }

  -- the call was refused, and the round goes on
  pub not_begun : (command : Command) (position : ℕ) (why : Refused) → HasSent old (view a carried) sends refused
      → Refuses a b command position why → HasSent old (view b carried) sends (suc refused)
  not_begun command position why sent x = record {
    on = on_then old.caller a b sent.on (on_others a b x.others x.rest);
    last = sent.last;
    went = sent.went;
    waits = waits_then old.caller.hand sent.last a.trail b.trail sent.waits
        (others_wait old.caller a b sent.on.grows.hand x.others);
    gained = sent.gained;
    refusals = x.refusals ∙ ap raised sent.refusals;
  }

  pub was_not_due : (command : Command) (fault : SubmitFault) → is_not_due fault ≡ true
      → HasSent old (view a carried) sends refused → IsCallFault a b command fault
      → HasSent old (view b carried) sends (suc refused)
  was_not_due command (faults.Refused position why) is sent x = not_begun command position why sent x
  was_not_due command (faults.Full size) is sent x = absurd cc
  was_not_due command faults.DiskFault is sent x = absurd cc
  was_not_due command (faults.Failed count) is sent x = absurd cc

  pub stops_at_begin : (named : NextSend) (at number : ℕ) (fault : SubmitFault) → is_not_due fault ≡ false
      → Names old (view a carried) sends refused (Some named) → number ≡ named.number
      → IsCallFault a b (SendBegun number at) fault → Stops old (view b carried) fault
  stops_at_begin named at number fault due names same x =
      at_begin (view a carried) sends refused named at names.0 names.1 due
      (subst (λ (n : ℕ). IsCallFault a b (SendBegun n at) fault) same x) refl

  -- another send is whole
  pub stops_at_end : (s : Sending) (number : ℕ) (outcome : Outcome) (fault : SubmitFault)
      → HasCarried old (view a carried) sends refused s → number ≡ s.named.number → outcome ≡ s.outcome
      → IsCallFault a b (SendEnded number outcome) fault → Stops old (view b carried) fault
  stops_at_end s number outcome fault has same is x =
      at_end (view a carried) sends refused s has
      (subst (λ (o : Outcome). IsCallFault a b (SendEnded s.named.number o) fault) is
      (subst (λ (n : ℕ). IsCallFault a b (SendEnded n outcome) fault) same x)) refl
