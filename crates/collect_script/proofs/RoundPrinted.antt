-- A round's line stands in the transcript.
use Rattle.std.proofs.Common.{◌≡◌, ◌≢◌, ℕ, ◌+◌, ◌-◌, ◌≤◌, List, [], ◌∷◌, ◌++◌, length, take, drop, count_by, Option, Some, Err, inl, inr, refl, ap, sym, ◌∙◌, subst, arith, length-append, append_assoc}
use Rattle.std.proofs.Math.Seq.{take-append-add, take-append_seam}
use Rattle.std.proofs.lemmas.List.{drop_at, take-append-drop, take-append-le}
use Rattle.std.proofs.lemmas.List.Elements.{filter-append}
use Rattle.field_text.specs.Steps.{Tells}
use Rattle.entry_form.specs.declared.command.Command.{Command}
use Rattle.entry_form.specs.declared.command.Command.TheVariants.{TakeLock, Release, SendBegun, SendEnded}
use Rattle.entry_form.specs.declared.entry.Entry.{Entry}
use Rattle.entry_form.specs.declared.entry.Entry.TheVariants.{Done}
use Rattle.entry_form.specs.declared.hand.Hand.TheVariants.{Script}
use Rattle.entry_form.specs.declared.hand.Lock.TheVariants.{Instances}
use Rattle.entry_form.specs.declared.hand.Round.TheVariants as rounds
use Rattle.field_io.specs.declared.exchange.Exchange.{Exchange}
use Rattle.device_state.specs.declared.state.State.{State}
use Rattle.device_rules.specs.declared.answer.Query.TheVariants as queries
use Rattle.device_rules.specs.declared.refused.Refused.{Refused}
use Rattle.device_rules.specs.declared.refused.Refused.TheVariants as refusals
use Rattle.device_rules.specs.declared.told.SubmitFault.{SubmitFault}
use Rattle.device_rules.specs.declared.told.SubmitFault.TheVariants as faults
use Rattle.device_rules.specs.Answers.{answer_to}
use Rattle.device_rules.specs.Caller.{CallerView, AddsOthers, Reaches, Refuses, SameRest, is_of, of_hand}
use Rattle.device_rules.specs.Refused.{rule_of}
use Rattle.device_rules.specs.Step.{step, IsRefused}
use Rattle.device_rules.specs.Trail.{replay}
use Rattle.collect_text.specs.Refusals.{printed_refused}
use Rattle.collect_text.specs.Rounds.{printed_round}
use Rattle.collect_text.specs.declared.line.Line.TheVariants.{Send}
use Rattle.collect_script.specs.Answering.{FaultText}
use Rattle.collect_script.specs.Rounds.{IsAmid, IsRefusedBehind, IsRound, IsStoppedRound}
use Rattle.collect_script.specs.Rounds as behind
use Rattle.collect_script.specs.Transcript.{AllAnswered, of_script}
use Rattle.collect_script.proofs.Histories.{answered_later, none_taken}
use Rattle.collect_script.proofs.Printed.{IsPrinted, told_by_rules}
use Rattle.collect_script.proofs.RoundEntries.{Reached, reached_carried, reached_none, reached_on, reached_run, reached_sent, released_behind, run_entries, script_sent, script_takes, to_script}
use Rattle.send_workers.specs.Rounds.{HasRun, NoneLeft, Stops, Went, at_begin, at_end, at_lock, at_look, at_release, view, was_taken}
use Rattle.send_workers.specs.Sends.{AreSent, Begins, Comes, Sending, Waits}
use Rattle.send_workers.proofs.Steps.{waits_then}

-- a history that waits goes on waiting up to a place among what others add
waits_to : (a mid new added : List Entry) (position : ℕ) → new ≡ mid ++ added → of_script added ≡ []
    → length mid ≤ position → Waits Script a mid → Waits Script a (take position new)
waits_to a mid new added position joined none low waits =
    let more : ℕ = position - length mid in
    let place : position ≡ length mid + more = omega arith in
    record {
      others = waits.others ++ take more added;
      joined = ap (take position) joined ∙ ap (λ n. take n (mid ++ added)) place ∙ take-append-add mid added more
          ∙ ap (λ (es : List Entry). es ++ take more added) waits.joined ∙ append_assoc a waits.others (take more added);
      none = filter-append (is_of Script) waits.others (take more added)
          ∙ ap (λ (es : List Entry). es ++ of_script (take more added)) waits.none ∙ none_taken more added none;
    }

module _ (old new : CallerView) (is_script : old.hand ≡ Script) (last : ℕ) (within : last ≤ length old.trail)
    (settled : AllAnswered old.start old.trail last) where
  base_waits : Waits Script (take last old.trail) old.trail
  base_waits = record { others = drop last old.trail; joined = sym (take-append-drop last old.trail); none = settled }

  module _ (own : List Entry) (reached : Reached old new own) where
    same_front : take last new.trail ≡ take last old.trail
    same_front = ap (take last) reached.on.grows.trail ∙ take-append-le last old.trail reached.on.added within

    takes_on : (taken : List Entry) → Comes Script old.trail (TakeLock rounds.Send) taken
        → Comes Script (take last new.trail) (TakeLock rounds.Send) taken
    takes_on taken x = subst (λ (h : List Entry). Comes Script h (TakeLock rounds.Send) taken) (sym same_front) (record {
      before = x.before;
      waits = waits_then Script (take last old.trail) old.trail x.before base_waits x.waits;
      joined = x.joined;
    })

    amid : (sends : List Sending) (upto : List Entry) → Went old sends upto
        → IsAmid new.start new.trail (take last new.trail) upto
    amid sends upto went = record {
      taken = went.taken;
      takes = takes_on went.taken (script_takes old is_script sends upto went);
      sends = sends;
      are_sent = subst (λ s. AreSent s Script went.taken sends upto) (sym reached.on.grows.start)
          (script_sent old is_script sends upto went);
    }

  -- ---- a round that came to its end

  module _ (c d : Option (List Exchange)) (position good bad : ℕ) (run : HasRun (view old c) (view new d) position good bad) where
    run_reached : Reached old new (run_entries old is_script new c d position good bad run)
    run_reached = reached_run old is_script new c d position good bad run

    others_behind : Waits Script run.released new.trail
    others_behind = to_script old is_script run.released new.trail run.waits

    is_front : take position new.trail ≡ run.released
    is_front = ap (λ n. take n new.trail) run.place ∙ ap (take (length run.released)) run.waits.joined
        ∙ take-append_seam run.released run.waits.others

    long : length old.trail ≤ length run.released
    long =
        let b = released_behind old is_script new c d position good bad run in
        let e = ap length b.joined in
        let l = length-append old.trail b.added in
        omega (arith, e, l)

    pub ran_printed : (text : List ℕ) → text ≡ printed_round position good bad → IsPrinted new last Send text
    ran_printed text printed = record {
      position = position;
      within = short;
      printed = inl (record {
        no_lower = (let l = long in let p = run.place in omega (arith, l, p, within));
        within = short;
        taken = run.sent.went.taken;
        takes = takes_on _ run_reached run.sent.went.taken (script_takes old is_script run.sends run.sent.last run.sent.went);
        sends = run.sends;
        sent = run.sent.last;
        are_sent = subst (λ s. AreSent s Script run.sent.went.taken run.sends run.sent.last) (sym run.on.grows.start)
            (script_sent old is_script run.sends run.sent.last run.sent.went);
        releases = record {
          before = run.releases.before;
          waits = to_script old is_script run.sent.last run.releases.before run.releases.waits;
          joined = is_front ∙ subst (λ h. run.released ≡ run.releases.before ++ Done h (Release Instances) ∷ [])
              is_script run.releases.joined;
        };
        refused = run.refused;
        none_left = subst (λ s. NoneLeft s Script run.sends run.refused run.sent.last run.releases.before)
            (sym run.on.grows.start)
            (subst (λ h. NoneLeft old.start h run.sends run.refused run.sent.last run.releases.before) is_script
            run.none_left);
        printed = printed ∙ ap (λ n. printed_round position n bad) run.good_is
            ∙ ap (λ n. printed_round position (count_by was_taken run.sends) n) run.bad_is;
      });
      settled = ap of_script (ap (λ n. drop n new.trail) run.place ∙ ap (drop (length run.released)) others_behind.joined
          ∙ drop_at run.released others_behind.others (length run.released) refl) ∙ others_behind.none;
    }
      where
        short : position ≤ length new.trail
        short =
            let e = ap length others_behind.joined in
            let l = length-append run.released others_behind.others in
            let p = run.place in
            omega (arith, e, l, p)

  -- ---- a round with a refusal

  module _ (mid : CallerView) (own : List Entry) (reached : Reached old mid own) (others : AddsOthers mid new)
      (rest : SameRest mid new) where
    mid_is_script : mid.hand ≡ Script
    mid_is_script = reached.on.grows.hand ∙ is_script

    none_added : of_script others.added ≡ []
    none_added = subst (λ h. of_hand h others.added ≡ []) mid_is_script others.others

    pub all_reached : Reached old new own
    all_reached = reached_on old is_script mid new own reached others rest

    refused_printed : (upto : List Entry) (position : ℕ) (state : State) (why : Refused) (text : List ℕ)
        → Waits Script upto mid.trail → Reaches mid new position state
        → IsRefusedBehind new.start new.trail (take last new.trail) upto state why
        → text ≡ printed_refused position why → IsPrinted new last Send text
    refused_printed upto position state why text waits reaches refused printed = record {
      position = position;
      within = reaches.high;
      printed = inr (record {
        no_lower = (let l = reaches.low in let m = mid_long in omega (arith, l, m, within));
        within = reaches.high;
        reached = upto;
        waits = waits_to upto mid.trail new.trail others.added position others.grows.trail none_added reaches.low waits;
        old = state;
        state = subst (λ s. replay s (take position new.trail) ≡ Some state) (sym others.grows.start) reaches.reached;
        why = why;
        refused = refused;
        printed = printed;
      });
      settled = answered_later new.start new.trail (length mid.trail) position reaches.low settled_mid;
    }
      where
        mid_long : length old.trail ≤ length mid.trail
        mid_long =
            let e = ap length reached.on.grows.trail in
            let l = length-append old.trail reached.on.added in
            omega (arith, e, l)

        settled_mid : AllAnswered new.start new.trail (length mid.trail)
        settled_mid = ap of_script (ap (drop (length mid.trail)) others.grows.trail
            ∙ drop_at mid.trail others.added (length mid.trail) refl) ∙ none_added

    pub command_refused : (command : Command) (state : State) (why : Refused) → why ≢ refusals.NoMemory
        → IsRefused state (Done mid.hand command) why → step state (Done Script command) ≡ Err why
    command_refused command state why other refused =
        told_by_rules why _ other (subst (λ h. IsRefused state (Done h command) why) mid_is_script refused)

  pub lock_printed : (position : ℕ) (why : Refused) (text : List ℕ) → why ≢ refusals.NoMemory
      → Refuses old new (TakeLock rounds.Send) position why → text ≡ printed_refused position why
      → IsPrinted new last Send text
  lock_printed position why text other h printed =
      let none : Reached old old [] = reached_none old is_script in
      let front = same_front [] (all_reached old [] none h.others h.rest) in
      refused_printed old [] none h.others h.rest (take last new.trail) position h.state why text
      (subst (λ (es : List Entry). Waits Script es old.trail) (sym front) base_waits) h.reaches
      (behind.at_lock refl (command_refused old [] none h.others h.rest (TakeLock rounds.Send) h.state why other h.refused))
      printed

  module _ (c d : Option (List Exchange)) where
    stopped_at : (position : ℕ) (why : Refused) (text : List ℕ) → why ≢ refusals.NoMemory
        → Stops (view old c) (view new d) (faults.Refused position why) → text ≡ printed_refused position why
        → IsPrinted new last Send text
    stopped_at position why text other (at_lock free h same) printed = lock_printed position why text other h printed
    stopped_at position why text other (at_look mid sends refused sent h same) printed =
        let reached = reached_sent old is_script mid.caller c mid.carried sends refused sent in
        let all = all_reached mid.caller _ reached h.looks.others h.looks.rest in
        refused_printed mid.caller _ reached h.looks.others h.looks.rest sent.last position h.state why text
        (to_script old is_script sent.last mid.caller.trail sent.waits) h.reaches
        (behind.at_look (amid _ all sends sent.last sent.went) (told_by_rules why _ other
        (subst (λ hand. Tells (rule_of why) (answer_to h.state hand queries.NextSend))
        (mid_is_script mid.caller _ reached h.looks.others h.looks.rest) h.refused)))
        printed
    stopped_at position why text other (at_begin mid sends refused named at sent next due h same) printed =
        let reached = reached_sent old is_script mid.caller c mid.carried sends refused sent in
        let all = all_reached mid.caller _ reached h.others h.rest in
        refused_printed mid.caller _ reached h.others h.rest sent.last position h.state why text
        (to_script old is_script sent.last mid.caller.trail sent.waits) h.reaches
        (behind.at_begin named.number at (amid _ all sends sent.last sent.went)
        (command_refused mid.caller _ reached h.others h.rest (SendBegun named.number at) h.state why other h.refused))
        printed
    stopped_at position why text other (at_end mid sends refused s carried h same) printed =
        let reached = reached_carried old is_script mid.caller c mid.carried sends refused s carried in
        let all = all_reached mid.caller _ reached h.others h.rest in
        refused_printed mid.caller _ reached h.others h.rest carried.begun position h.state why text
        (to_script old is_script carried.begun mid.caller.trail carried.waits) h.reaches
        (behind.at_end s.named s.at s.outcome carried.last (amid _ all sends carried.last carried.went)
        (subst (λ start. Begins start Script carried.last s.named s.at carried.begun) (sym all.on.grows.start)
        (subst (λ hand. Begins old.start hand carried.last s.named s.at carried.begun) is_script carried.begins))
        (command_refused mid.caller _ reached h.others h.rest (SendEnded s.named.number s.outcome) h.state why other h.refused))
        printed
    stopped_at position why text other (at_release mid sends refused sent none_left h same) printed =
        let reached = reached_sent old is_script mid.caller c mid.carried sends refused sent in
        let all = all_reached mid.caller _ reached h.others h.rest in
        refused_printed mid.caller _ reached h.others h.rest sent.last position h.state why text
        (to_script old is_script sent.last mid.caller.trail sent.waits) h.reaches
        (behind.at_release (amid _ all sends sent.last sent.went)
        (command_refused mid.caller _ reached h.others h.rest (Release Instances) h.state why other h.refused))
        printed

    pub stopped_printed : (fault : SubmitFault) (text : List ℕ) → Stops (view old c) (view new d) fault
        → FaultText fault text → IsPrinted new last Send text
    stopped_printed (faults.Refused position why) text h is = stopped_at position why text is.0 h is.1
    stopped_printed (faults.Full size) text h is = absurd is
    stopped_printed faults.DiskFault text h is = absurd is
    stopped_printed (faults.Failed count) text h is = absurd is
