-- Why a line has no text, by what the caller's call did.
use Rattle.std.proofs.Common.{◌≡◌, ℕ, List, [], ◌∷◌, ◌++◌, Result, Ok, Err, IfOk, IfErr, inl, inr, refl, ap, sym, ◌∙◌, subst}
use Rattle.std.proofs.lemmas.List.Elements.{filter-append}
use Rattle.entry_form.specs.declared.command.Command.{Command}
use Rattle.entry_form.specs.declared.entry.Entry.{Entry}
use Rattle.entry_form.specs.declared.entry.Entry.TheVariants.{Done}
use Rattle.entry_form.specs.declared.hand.Hand.TheVariants.{Script}
use Rattle.device_rules.specs.declared.answer.Query.{Query}
use Rattle.device_rules.specs.declared.told.SubmitFault.{SubmitFault}
use Rattle.device_rules.specs.declared.told.SubmitFault.TheVariants as faults
use Rattle.device_rules.specs.declared.told.Told.{Told}
use Rattle.device_rules.specs.Caller.{CallerView, Accepts, AddsOthers, IsCallFault, IsLookFault, SameRest, Shows, is_of, of_hand}
use Rattle.collect_text.specs.Answers.{IsWord, printed_word}
use Rattle.collect_text.specs.declared.line.Line.{Line}
use Rattle.collect_text.specs.declared.line.Line.TheVariants.{Skipped, Bad, NotBuilt, Quit, Send, Look, Give}
use Rattle.collect_script.specs.declared.stop.ScriptStop.{ScriptStop}
use Rattle.collect_script.specs.declared.stop.ScriptStop.TheVariants as stops
use Rattle.collect_script.specs.Answering.{Adds, FaultStop, FaultText, Says, SaysNothing, refuses, hides, quits, bad, not_built, starved, full, faulted, failed}
use Rattle.collect_script.proofs.Growing.{grows_none}
use Rattle.collect_script.specs.Rounds.{IsFrontOfRound, round_entries}
use Rattle.collect_script.specs.Transcript.{MayAdd}

pub if_err : {T E : Type 0} (result : Result T E) (P Q : E → Type 0) → ((e : E) → P e → Q e) → IfErr result P → IfErr result Q
if_err (Ok value) P Q f holds = tt
if_err (Err e) P Q f holds = f e holds

pub if_ok : {T E : Type 0} (result : Result T E) (P Q : T → Type 0) → ((x : T) → P x → Q x) → IfOk result P → IfOk result Q
if_ok (Ok value) P Q f holds = f value holds
if_ok (Err e) P Q f holds = tt

-- a line may add nothing
pub may_none : (line : Line) (added : List Entry) → added ≡ [] → MayAdd line added
may_none Skipped added none = none
may_none Quit added none = none
may_none Bad added none = none
may_none NotBuilt added none = none
may_none Send added none = subst IsFrontOfRound (sym none) (record { sends = []; more = round_entries []; joined = refl })
may_none (Look query) added none = none
may_none (Give command) added none = inl none

-- the script's one entry among others
pub own_alone : (before after : List Entry) (command : Command) → of_hand Script before ≡ [] → of_hand Script after ≡ []
    → of_hand Script (before ++ Done Script command ∷ after) ≡ Done Script command ∷ []
own_alone before after command none_before none_after =
    filter-append (is_of Script) before (Done Script command ∷ after) ∙ ap (λ xs. xs ++ (Done Script command ∷ of_hand Script after)) none_before
    ∙ ap (λ xs. Done Script command ∷ xs) none_after

-- words that a line says
pub word_says : (old new : CallerView) (query : Query) (told : Told) (line : Line) (text : List ℕ) → IsWord line → Shows old new query told
    → text ≡ printed_word told.position line → Says old new text line
word_says old new query told Quit text word h printed = quits query told h printed
word_says old new query told Bad text word h printed = bad query told h printed
word_says old new query told NotBuilt text word h printed = not_built query told h printed
word_says old new query told Skipped text word h printed = absurd word
word_says old new query told Send text word h printed = absurd word
word_says old new query told (Look other) text word h printed = absurd word
word_says old new query told (Give command) text word h printed = absurd word

module _ (old new : CallerView) where
  -- nothing of the hand's was added
  pub adds_none : (line : Line) → AddsOthers old new → SameRest old new → Adds old new line
  adds_none line others rest = record { added = others.added; grows = others.grows; own = may_none line _ others.others; rest = rest }

  -- a look without an answer
  pub look_stops : (query : Query) (line : Line) (fault : SubmitFault) (stop : ScriptStop) → IsLookFault old new query fault → FaultStop fault stop → SaysNothing old new line stop
  look_stops query line (faults.Refused position why) stop h is = subst (SaysNothing old new line) (sym is) (starved (adds_none line h.looks.others h.looks.rest))
  look_stops query line (faults.Full size) stop h is = absurd h
  look_stops query line faults.DiskFault stop h is = subst (SaysNothing old new line) (sym is) (failed (adds_none line h.0.others h.0.rest) h.1)
  look_stops query line (faults.Failed count) stop h is = subst (SaysNothing old new line) (sym is) (failed (adds_none line h.0.others h.0.rest) h.1)

  pub look_says : (query : Query) (fault : SubmitFault) (text : List ℕ) → IsLookFault old new query fault → FaultText fault text → Says old new text (Look query)
  look_says query (faults.Refused position why) text h is = hides query position why h is.0 is.1
  look_says query (faults.Full size) text h is = absurd is
  look_says query faults.DiskFault text h is = absurd is
  look_says query (faults.Failed count) text h is = absurd is

  -- an answered look whose text memory ran out for
  pub shown_starved : (query : Query) (line : Line) (told : Told) → Shows old new query told → SaysNothing old new line stops.NoMemory
  shown_starved query line told h = starved (adds_none line h.looks.others h.looks.rest)

  module _ (command : Command) where
    -- a command without an answer
    pub call_stops : (fault : SubmitFault) (stop : ScriptStop) → IsCallFault old new command fault → FaultStop fault stop → SaysNothing old new (Give command) stop
    call_stops (faults.Refused position why) stop h is = subst (SaysNothing old new (Give command)) (sym is) (starved (adds_none (Give command) h.others h.rest))
    call_stops (faults.Full size) stop h is = subst (SaysNothing old new (Give command)) (sym is) (full command size refl h)
    call_stops faults.DiskFault stop h is = subst (SaysNothing old new (Give command)) (sym is) (faulted command refl h)
    call_stops (faults.Failed count) stop h is = subst (SaysNothing old new (Give command)) (sym is) (failed (adds_none (Give command) h.others h.rest) h.failed)

    pub call_says : (fault : SubmitFault) (text : List ℕ) → IsCallFault old new command fault → FaultText fault text → Says old new text (Give command)
    call_says (faults.Refused position why) text h is = refuses command position why h is.0 is.1
    call_says (faults.Full size) text h is = absurd is
    call_says faults.DiskFault text h is = absurd is
    call_says (faults.Failed count) text h is = absurd is

    -- a command that was carried out, and memory ran out for its text
    pub accepted_starved : (told : Told) → old.hand ≡ Script → Accepts old new command told → SaysNothing old new (Give command) stops.NoMemory
    accepted_starved told hand h = starved (record {
      added = h.before ++ Done old.hand command ∷ h.after;
      grows = h.grows;
      own = inr (subst (λ d. of_hand d h.before ≡ [] → of_hand d h.after ≡ [] → of_hand d (h.before ++ Done d command ∷ h.after) ≡ Done Script command ∷ [])
          (sym hand) (own_alone h.before h.after command) h.others_before h.others_after);
      rest = h.rest;
    })

-- nothing was called, and memory ran out
pub starved_at_once : (view : CallerView) (line : Line) → SaysNothing view view line stops.NoMemory
starved_at_once view line = starved (record {
  added = [];
  grows = grows_none view;
  own = may_none line [] refl;
  rest = refl;
})
