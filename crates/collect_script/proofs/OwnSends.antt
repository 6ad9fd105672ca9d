-- What a line adds that makes no round: no send of the hand.
use Rattle.std.proofs.Common.{◌≡◌, ℕ, List, [], ◌∷◌, ◌++◌, Result, Ok, Err, IfOk, IfErr, inl, inr, refl, ap, sym, ◌∙◌, subst, append-nil}
use Rattle.std.specs.Prelude.{Bool, true, false, not, ◌&&◌}
use Rattle.std.specs.List.{filter}
use Rattle.entry_form.specs.declared.command.Command.{Command}
use Rattle.entry_form.specs.declared.entry.Entry.{Entry}
use Rattle.entry_form.specs.declared.entry.Entry.TheVariants.{Done}
use Rattle.entry_form.specs.declared.hand.Hand.TheVariants.{Script}
use Rattle.device_rules.specs.declared.told.Told.{Told}
use Rattle.device_rules.specs.Caller.{CallerView, Accepts, AddsOthers, is_of, of_hand}
use Rattle.collect_text.specs.declared.line.Line.{Line}
use Rattle.collect_text.specs.declared.line.Line.TheVariants.{Skipped, Bad, NotBuilt, Quit, Send, Look, Give}
use Rattle.collect_script.specs.declared.stop.ScriptStop.{ScriptStop}
use Rattle.collect_script.specs.Answering.{Says, SaysNothing, accepts, bad, busy, failed, faulted, faulted_round, full, full_round, hides, not_built, quits, ran, refuses, shows, skips, starved, stopped}
use Rattle.collect_script.specs.Exchanged.{is_plain}
use Rattle.collect_script.specs.Transcript.{MayAdd}
use Rattle.collect_script.proofs.Saying.{may_none, own_alone}
use Rattle.send_workers.specs.Agreement.{GoesBy, is_send_command, is_send_entry}

-- ---- filters

and_step : {X : Type 0} (p q : X → Bool) (x : X) (xs : List X) (a b : Bool) → p x ≡ a → q x ≡ b
    → filter (λ y. p y && q y) xs ≡ filter q (filter p xs)
    → filter (λ y. p y && q y) (x ∷ xs) ≡ filter q (filter p (x ∷ xs))
and_step p q x xs true true one other same = rw (one, other) (ap (λ ys. x ∷ ys) same)
and_step p q x xs true false one other same = rw (one, other) same
and_step p q x xs false b one other same = rw one same

filter_and : {X : Type 0} (p q : X → Bool) (xs : List X) → filter (λ y. p y && q y) xs ≡ filter q (filter p xs)
filter_and p q [] = refl
filter_and p q (x ∷ xs) = and_step p q x xs (p x) (q x) refl refl (filter_and p q xs)

one_out : (command : Command) → is_send_command command ≡ false
    → filter is_send_entry (Done Script command ∷ []) ≡ []
one_out command none = rw none refl

-- ---- lines

plain_adds : (line : Line) (own : List Entry) → is_plain line ≡ true → (line ≡ Send → ⊥) → MayAdd line own
    → filter is_send_entry own ≡ []
plain_adds Skipped own plain other none = ap (filter is_send_entry) none
plain_adds Bad own plain other none = ap (filter is_send_entry) none
plain_adds NotBuilt own plain other none = ap (filter is_send_entry) none
plain_adds Quit own plain other none = ap (filter is_send_entry) none
plain_adds (Look query) own plain other none = ap (filter is_send_entry) none
plain_adds (Give command) own plain other (inl none) = ap (filter is_send_entry) none
plain_adds (Give command) own plain other (inr one) =
    ap (filter is_send_entry) one ∙ one_out command (no_send (is_send_command command) plain)
  where
    no_send : (b : Bool) → not b ≡ true → b ≡ false
    no_send true e = absurd (cc e)
    no_send false e = refl
plain_adds Send own plain other front = absurd (other refl)

-- what a line added, and which of it is its own
record Own (old new : CallerView) (line : Line) : Type 0 where
  added : List Entry
  trail : new.trail ≡ old.trail ++ added
  own : MayAdd line (of_hand old.hand added)

own_others : (old new : CallerView) (line : Line) → AddsOthers old new → Own old new line
own_others old new line x = record { added = x.added; trail = x.grows.trail; own = may_none line _ x.others }

own_accepted : (old new : CallerView) (command : Command) (told : Told) → old.hand ≡ Script
    → Accepts old new command told → Own old new (Give command)
own_accepted old new command told hand h = record {
  added = h.before ++ Done old.hand command ∷ h.after;
  trail = h.grows.trail;
  own = inr (subst (λ d. of_hand d h.before ≡ [] → of_hand d h.after ≡ [] → of_hand d (h.before ++ Done d command ∷ h.after) ≡ Done Script command ∷ [])
      (sym hand) (own_alone h.before h.after command) h.others_before h.others_after);
}

module _ (old new : CallerView) (is_script : old.hand ≡ Script) where
  said_own : (line : Line) (text : List ℕ) → (line ≡ Send → ⊥) → Says old new text line → Own old new line
  said_own line text other (skips same none) =
      subst (λ v. Own old v Skipped) (sym same) (record { added = []; trail = sym (append-nil old.trail); own = refl })
  said_own line text other (accepts command told h printed) = own_accepted old new command told is_script h
  said_own line text other (refuses command position why h no_memory printed) = own_others old new line h.others
  said_own line text other (shows query told h printed) = own_others old new line h.looks.others
  said_own line text other (hides query position why h no_memory printed) = own_others old new line h.looks.others
  said_own line text other (quits query told h printed) = own_others old new line h.looks.others
  said_own line text other (bad query told h printed) = own_others old new line h.looks.others
  said_own line text other (not_built query told h printed) = own_others old new line h.looks.others
  said_own line text other (ran c d position good lost run printed) = absurd (other refl)
  said_own line text other (busy position since holder h printed) = absurd (other refl)
  said_own line text other (stopped c d fault h is) = absurd (other refl)

  nothing_own : (line : Line) (stop : ScriptStop) → (line ≡ Send → ⊥) → SaysNothing old new line stop → Own old new line
  nothing_own line stop other (starved adds) = record { added = adds.added; trail = adds.grows.trail; own = adds.own }
  nothing_own line stop other (full command size is h) = own_others old new line h.others
  nothing_own line stop other (faulted command is h) = own_others old new line h.others
  nothing_own line stop other (full_round command size is adds known length_is past) = absurd (other is)
  nothing_own line stop other (faulted_round command is left) = absurd (other is)
  nothing_own line stop other (failed adds ne) = record { added = adds.added; trail = adds.grows.trail; own = adds.own }

  goes_of_own : (line : Line) → is_plain line ≡ true → (line ≡ Send → ⊥) → Own old new line
      → GoesBy old.hand old.trail new.trail
  goes_of_own line plain other x = record {
    others = x.added;
    joined = x.trail;
    none = filter_and (is_of old.hand) is_send_entry x.added ∙ plain_adds line _ plain other x.own;
  }

  -- a line that makes no round goes by
  pub line_goes : {T : Type 0} (bytes : T → List ℕ) (line : Line) (result : Result T ScriptStop) → is_plain line ≡ true
      → (line ≡ Send → ⊥) → IfOk result (λ text. Says old new (bytes text) line) → IfErr result (SaysNothing old new line)
      → GoesBy old.hand old.trail new.trail
  line_goes bytes line (Ok text) plain other says stops = goes_of_own line plain other (said_own line _ other says)
  line_goes bytes line (Err stop) plain other says stops = goes_of_own line plain other (nothing_own line stop other stops)
