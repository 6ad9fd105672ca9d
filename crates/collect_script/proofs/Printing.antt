-- One line over a caller: its piece stands in the transcript, or its entry may stand without an answer.
use Rattle.std.proofs.Common.{◌≡◌, ℕ, ◌+◌, ◌≤◌, List, [], ◌∷◌, ◌++◌, length, take, drop, Some, Ok, suc, inl, inr, refl, ap, sym, ◌∙◌, subst, arith, length-append, append_assoc}
use Rattle.std.specs.List.{slice_get}
use Rattle.std.proofs.lemmas.List.{drop_at, take-append-le, take_all}
use Rattle.entry_form.specs.declared.command.Command.{Command}
use Rattle.entry_form.specs.declared.entry.Entry.{Entry}
use Rattle.entry_form.specs.declared.entry.Entry.TheVariants.{Done}
use Rattle.entry_form.specs.declared.hand.Hand.TheVariants.{Script}
use Rattle.device_rules.specs.declared.refused.Refused.TheVariants as refusals
use Rattle.device_state.specs.declared.state.State.{State}
use Rattle.device_rules.specs.declared.told.Told.{Told}
use Rattle.field_text.specs.Steps.{Tells}
use Rattle.device_rules.specs.declared.answer.Query.{Query}
use Rattle.device_rules.specs.Answers.{answer_to}
use Rattle.collect_text.specs.Answers.{printed_answer}
use Rattle.collect_text.specs.Line.{line_shape}
use Rattle.device_rules.specs.Caller.{CallerView, Accepts, AddsOthers, Reaches, Shows, of_hand}
use Rattle.device_rules.specs.Refused.{rule_of}
use Rattle.device_rules.specs.Step.{step, IsRefused}
use Rattle.device_rules.specs.Trail.{replay}
use Rattle.collect_text.specs.declared.line.Line.{Line}
use Rattle.collect_text.specs.declared.line.Line.TheVariants.{Skipped, Bad, NotBuilt, Quit, Send, Look, Give}
use Rattle.collect_script.specs.Answering.{Adds, Says, skips, accepts, refuses, shows, hides, quits, bad, not_built, ran, busy, stopped}
use Rattle.collect_script.specs.Transcript.{of_script, MayAdd, AllAnswered, Follows, HasPrinted, IsStateAt}
use Rattle.collect_script.proofs.RoundPrinted.{lock_printed, ran_printed, stopped_printed}
use Rattle.collect_script.proofs.Printed.{IsPrinted, told_by_rules}
use Rattle.collect_script.proofs.Histories.{answered_grow, answered_later, behind_added, follows_grow, follows_quiet, slice_get_middle}

-- what is behind the front of a history, where nothing of the script's is in the front
follows_in : (start : State) (front more : List Entry) (last : ℕ) → last ≤ length front → AllAnswered start front last → Follows start (front ++ more) last (length front)
follows_in start front more last low quiet = follows_grow start front more last (length front) (follows_quiet start front last (length front) low (omega arith) quiet)

module _ (old new : CallerView) (hand : old.hand ≡ Script) (last : ℕ) (within : last ≤ length old.trail) (settled : AllAnswered old.start old.trail last) where
  script_only : (entries xs : List Entry) → of_hand old.hand entries ≡ xs → of_script entries ≡ xs
  script_only entries xs is = subst (λ h. of_hand h entries ≡ xs) hand is

  module _ (others : AddsOthers old new) where
    same_start : new.start ≡ old.start
    same_start = others.grows.start

    -- nothing of the script's was added
    pub settled_on : AllAnswered new.start new.trail last
    settled_on = subst (λ es. of_script (drop last es) ≡ []) (sym others.grows.trail)
        (answered_grow old.start old.trail others.added last within settled (script_only others.added [] others.others))

    pub within_on : last ≤ length new.trail
    within_on = let e = ap length others.grows.trail in let l = length-append old.trail others.added in omega arith

    follows_at : (position : ℕ) (state : State) → Reaches old new position state → Follows new.start new.trail last position
    follows_at position state reaches = follows_quiet new.start new.trail last position (let l = reaches.low in omega arith) reaches.high settled_on

    state_at : (position : ℕ) (state : State) → Reaches old new position state → IsStateAt new.start new.trail position state
    state_at position state reaches = subst (λ s. replay s (take position new.trail) ≡ Some state) (sym same_start) reaches.reached

    printed_at : (line : Line) (text : List ℕ) (position : ℕ) (state : State) → Reaches old new position state
        → HasPrinted new.start new.trail last line position text → IsPrinted new last line text
    printed_at line text position state reaches printed = record {
      position = position;
      within = reaches.high;
      printed = printed;
      settled = answered_later new.start new.trail last position (let l = reaches.low in omega arith) settled_on;
    }

  -- the entries up to the command's
  accepted_trail : (command : Command) (told : Told) (h : Accepts old new command told) → new.trail ≡ (old.trail ++ h.before) ++ Done Script command ∷ h.after
  accepted_trail command told h =
      h.grows.trail ∙ ap (λ d. old.trail ++ (h.before ++ Done d command ∷ h.after)) hand ∙ sym (append_assoc old.trail h.before (Done Script command ∷ h.after))

  accepted_at : (command : Command) (told : Told) (text : List ℕ) → Accepts old new command told → text ≡ printed_answer told.position (line_shape (Give command)) told.answer → IsPrinted new last (Give command) text
  accepted_at command told text h printed =
      let front : List Entry = old.trail ++ h.before in
      let trail = accepted_trail command told h in
      let long : length front ≡ length old.trail + length h.before = length-append old.trail h.before in
      let all : length new.trail ≡ length front + suc (length h.after) = ap length trail ∙ length-append front (Done Script command ∷ h.after) in
      let quiet : AllAnswered old.start front last = answered_grow old.start old.trail h.before last within settled (script_only h.before [] h.others_before) in
      let follows : Follows old.start (front ++ Done Script command ∷ h.after) last (length front) =
      follows_in old.start front (Done Script command ∷ h.after) last (omega (arith, within, long)) quiet in
      let place : told.position ≡ length front + 1 = h.place ∙ (let l = long in omega arith) in
      let behind : drop told.position new.trail ≡ h.after =
      ap (λ n. drop n new.trail) place ∙ ap (drop (length front + 1)) (trail ∙ sym (append_assoc front (Done Script command ∷ []) h.after))
      ∙ drop_at (front ++ Done Script command ∷ []) h.after (length front + 1) (length-append front (Done Script command ∷ [])) in
      record {
        position = told.position;
        within = (let a = all in let p = place in omega arith);
        printed = inl (record {
          before = length front;
          position_is = place;
          follows = subst (λ es. Follows new.start es last (length front)) (sym trail) (subst (λ s. Follows s (front ++ Done Script command ∷ h.after) last (length front)) (sym h.grows.start) follows);
          entry = ap (λ es. slice_get es (length front)) trail ∙ slice_get_middle front h.after (Done Script command);
          old = h.state;
          new = h.next;
          answer = told.answer;
          state = subst (λ s. replay s (take (length front) new.trail) ≡ Some h.state) (sym h.grows.start)
              (ap (λ es. replay old.start (take (length front) es)) trail
              ∙ ap (replay old.start) (take-append-le (length front) front (Done Script command ∷ h.after) (omega arith) ∙ take_all (length front) front (omega arith)) ∙ h.reached);
          stepped = subst (λ d. step h.state (Done d command) ≡ Ok (h.next, told.answer)) hand h.stepped;
          printed = printed;
        });
        settled = ap of_script behind ∙ script_only h.after [] h.others_after;
      }

  -- a look's answer
  module _ (query : Query) (told : Told) (h : Shows old new query told) where
    shown_at : (line : Line) (text : List ℕ) → HasPrinted new.start new.trail last line told.position text → IsPrinted new last line text
    shown_at line text printed = printed_at h.looks.others line text told.position h.state h.reaches printed

    shown_follows : Follows new.start new.trail last told.position
    shown_follows = follows_at h.looks.others told.position h.state h.reaches

  -- the text of a line stands in the transcript
  pub says_printed : (line : Line) (text : List ℕ) → Says old new text line → IsPrinted new last line text
  says_printed Skipped text (skips same none) = subst (λ v. IsPrinted v last Skipped text) (sym same)
      (record { position = last; within = within; printed = (refl, none); settled = settled })
  says_printed (Give command) text (accepts _ told h printed) = accepted_at command told text h printed
  says_printed (Give command) text (refuses _ position why h other printed) =
      printed_at h.others (Give command) text position h.state h.reaches (inr (record {
        follows = follows_at h.others position h.state h.reaches;
        old = h.state;
        why = why;
        state = state_at h.others position h.state h.reaches;
        stepped = told_by_rules why _ other (subst (λ d. IsRefused h.state (Done d command) why) hand h.refused);
        printed = printed;
      }))
  says_printed (Look query) text (shows _ told h printed) = shown_at query told h (Look query) text (inl (record {
    follows = shown_follows query told h;
    old = h.state;
    answer = told.answer;
    state = state_at h.looks.others told.position h.state h.reaches;
    answered = subst (λ d. answer_to h.state d query ≡ Ok told.answer) hand h.answered;
    printed = printed;
  }))
  says_printed (Look query) text (hides _ position why h other printed) =
      printed_at h.looks.others (Look query) text position h.state h.reaches (inr (record {
        follows = follows_at h.looks.others position h.state h.reaches;
        old = h.state;
        why = why;
        state = state_at h.looks.others position h.state h.reaches;
        refused = told_by_rules why _ other (subst (λ d. Tells (rule_of why) (answer_to h.state d query)) hand h.refused);
        printed = printed;
      }))
  says_printed Send text (ran c d position good failed_sends run printed) =
      ran_printed old new hand last within settled c d position good failed_sends run text printed
  says_printed Send text (busy position since holder h printed) =
      lock_printed old new hand last within settled position (refusals.Busy holder since) text (λ e. absurd (cc e)) h printed
  says_printed Send text (stopped c d fault h is) = stopped_printed old new hand last within settled c d fault text h is
  says_printed Quit text (quits query told h printed) = shown_at query told h Quit text (record { follows = shown_follows query told h; printed = printed })
  says_printed Bad text (bad query told h printed) = shown_at query told h Bad text (record { follows = shown_follows query told h; printed = printed })
  says_printed NotBuilt text (not_built query told h printed) = shown_at query told h NotBuilt text (record { follows = shown_follows query told h; printed = printed })

  -- what a line that isn't answered adds is all that is the script's behind the last answer
  pub adds_behind : (line : Line) → Adds old new line → MayAdd line (of_script (drop last new.trail))
  adds_behind line adds = subst (MayAdd line) (sym (ap (λ es. of_script (drop last es)) adds.grows.trail ∙ behind_added old.start old.trail adds.added last within settled))
      (subst (λ h. MayAdd line (of_hand h adds.added)) hand adds.own)
