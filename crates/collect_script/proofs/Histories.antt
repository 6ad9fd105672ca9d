-- What the script's hand and the others add to a history, and the transcript over it.
use Rattle.std.proofs.Common.{◌≡◌, ℕ, zero, suc, ◌+◌, ◌-◌, ◌≤◌, List, [], ◌∷◌, ◌++◌, length, take, drop, Some, inl, inr, refl, ap, sym, ◌∙◌, subst, arith, length-append, append_assoc}
use Rattle.std.specs.List.{slice_get}
use Rattle.std.proofs.lemmas.List.{append-nil, drop-append-le, take-append-drop, take-append-le}
use Rattle.std.proofs.lemmas.List.Elements.{filter-append}
use Rattle.std.proofs.Math.ListN.{length-drop}
use Rattle.entry_form.specs.declared.command.Command.TheVariants.{TakeLock}
use Rattle.entry_form.specs.declared.entry.Entry.{Entry}
use Rattle.entry_form.specs.declared.hand.Round.TheVariants as rounds
use Rattle.entry_form.specs.declared.hand.Hand.TheVariants.{Script}
use Rattle.device_state.specs.declared.state.State.{State}
use Rattle.device_rules.specs.declared.refused.Refused.{Refused}
use Rattle.device_rules.specs.Caller.{is_of}
use Rattle.device_rules.specs.Trail.{replay}
use Rattle.collect_text.specs.declared.line.Line.{Line}
use Rattle.collect_text.specs.declared.line.Line.TheVariants.{Skipped, Bad, NotBuilt, Quit, Send, Look, Give}
use Rattle.collect_script.specs.Rounds.{IsAmid, IsRefusedBehind, at_begin, at_end, at_lock, at_look, at_release}
use Rattle.send_workers.specs.Sends.{Comes, Waits}
use Rattle.collect_script.specs.Transcript.{of_script, AllAnswered, Follows, HasPrinted, IsStateAt, Transcript}

-- ---- entries of the script among those of all hands

pub of_script-append : (xs ys : List Entry) → of_script (xs ++ ys) ≡ of_script xs ++ of_script ys
of_script-append xs ys = filter-append (is_of Script) xs ys

none_left : (xs ys : List Entry) → xs ++ ys ≡ [] → xs ≡ []
none_left [] ys none = refl
none_left (x ∷ xs) ys none = absurd (cc (none))

none_right : (xs ys : List Entry) → xs ++ ys ≡ [] → ys ≡ []
none_right [] ys none = none
none_right (x ∷ xs) ys none = absurd (cc (none))

-- where none of the entries is the script's, none of the first is, and none behind them
pub none_taken : (n : ℕ) (xs : List Entry) → of_script xs ≡ [] → of_script (take n xs) ≡ []
none_taken n xs none = none_left (of_script (take n xs)) (of_script (drop n xs)) (sym (of_script-append (take n xs) (drop n xs)) ∙ ap of_script (take-append-drop n xs) ∙ none)

none_dropped : (n : ℕ) (xs : List Entry) → of_script xs ≡ [] → of_script (drop n xs) ≡ []
none_dropped n xs none = none_right (of_script (take n xs)) (of_script (drop n xs)) (sym (of_script-append (take n xs) (drop n xs)) ∙ ap of_script (take-append-drop n xs) ∙ none)

drop_none : (k : ℕ) (xs : List Entry) → xs ≡ [] → drop k xs ≡ []
drop_none zero xs none = none
drop_none (suc k) xs none = ap (drop (suc k)) none

drop_further : (n k : ℕ) (xs : List Entry) → drop (n + k) xs ≡ drop k (drop n xs)
drop_further zero k xs = let e : 0 + k ≡ k = omega arith in ap (λ m. drop m xs) e
drop_further (suc n) k [] = (let e : suc n + k ≡ suc (n + k) = omega arith in ap (λ m. drop {A = Entry} m []) e) ∙ sym (drop_none k [] refl)
drop_further (suc n) k (x ∷ xs) = let e : suc n + k ≡ suc (n + k) = omega arith in ap (λ m. drop m (x ∷ xs)) e ∙ drop_further n k xs

module _ (start : State) (entries : List Entry) where
  -- what is behind a later position is behind an earlier one
  pub answered_later : (last position : ℕ) → last ≤ position → AllAnswered start entries last → AllAnswered start entries position
  answered_later last position later none =
      let e : position ≡ last + (position - last) = omega arith in
      ap (λ n. of_script (drop n entries)) e ∙ ap of_script (drop_further last (position - last) entries) ∙ none_dropped (position - last) (drop last entries) none

  pub follows_quiet : (last position : ℕ) → last ≤ position → position ≤ length entries → AllAnswered start entries last → Follows start entries last position
  follows_quiet last position low high none = record { no_lower = low; within = high; none_between = none_taken (position - last) (drop last entries) none }

module _ (start : State) (entries more : List Entry) where
  -- what is added is all that is the script's behind a position behind which nothing was
  pub behind_added : (last : ℕ) → last ≤ length entries → AllAnswered start entries last → of_script (drop last (entries ++ more)) ≡ of_script more
  behind_added last within none =
      ap of_script (drop-append-le last entries more within) ∙ of_script-append (drop last entries) more ∙ ap (λ xs. xs ++ of_script more) none

  pub answered_grow : (last : ℕ) → last ≤ length entries → AllAnswered start entries last → of_script more ≡ [] → AllAnswered start (entries ++ more) last
  answered_grow last within none others = behind_added last within none ∙ others

  pub follows_grow : (last position : ℕ) → Follows start entries last position → Follows start (entries ++ more) last position
  follows_grow last position follows =
      let low = follows.no_lower in
      let high = follows.within in
      record {
        no_lower = low;
        within = (let e = length-append entries more in omega arith);
        none_between =
            ap (λ es. of_script (take (position - last) es)) (drop-append-le last entries more (omega arith))
            ∙ ap of_script (take-append-le (position - last) (drop last entries) more (let e = length-drop last entries in omega arith))
            ∙ follows.none_between;
      }

  pub state_grow : (position : ℕ) (state : State) → position ≤ length entries → IsStateAt start entries position state → IsStateAt start (entries ++ more) position state
  state_grow position state within is = ap (replay start) (take-append-le position entries more within) ∙ is

  pub slice_get-grow : (xs ys : List Entry) (i : ℕ) (x : Entry) → slice_get xs i ≡ Some x → slice_get (xs ++ ys) i ≡ Some x
  slice_get-grow [] ys zero x h = absurd (cc)
  slice_get-grow [] ys (suc i) x h = absurd (cc)
  slice_get-grow (y ∷ xs) ys zero x h = h
  slice_get-grow (y ∷ xs) ys (suc i) x h = slice_get-grow xs ys i x h

  longer : (position : ℕ) → position ≤ length entries → position ≤ length (entries ++ more)
  longer position within = let e = length-append entries more in omega (arith, e, within)

  front_grow : (position : ℕ) → position ≤ length entries → take position (entries ++ more) ≡ take position entries
  front_grow position within = take-append-le position entries more within

  amid_grow : (earlier reached : List Entry) → IsAmid start entries earlier reached
      → IsAmid start (entries ++ more) earlier reached
  amid_grow earlier reached x = record { taken = x.taken; takes = x.takes; sends = x.sends; are_sent = x.are_sent }

  refused_same : (earlier reached : List Entry) (old : State) (why : Refused)
      → IsRefusedBehind start entries earlier reached old why → IsRefusedBehind start (entries ++ more) earlier reached old why
  refused_same earlier reached old why (at_lock same stepped) = at_lock same stepped
  refused_same earlier reached old why (at_look x told) = at_look (amid_grow earlier reached x) told
  refused_same earlier reached old why (at_begin number at x stepped) = at_begin number at (amid_grow earlier reached x) stepped
  refused_same earlier reached old why (at_end named at outcome before x begins stepped) =
      at_end named at outcome before (amid_grow earlier before x) begins stepped
  refused_same earlier reached old why (at_release x stepped) = at_release (amid_grow earlier reached x) stepped

  refused_grow : (earlier later reached : List Entry) (old : State) (why : Refused) → earlier ≡ later
      → IsRefusedBehind start entries earlier reached old why → IsRefusedBehind start (entries ++ more) later reached old why
  refused_grow earlier later reached old why same x =
      subst (λ (es : List Entry). IsRefusedBehind start (entries ++ more) es reached old why) same
      (refused_same earlier reached old why x)

  printed_grow : (last : ℕ) (line : Line) (position : ℕ) (piece : List ℕ) → HasPrinted start entries last line position piece → HasPrinted start (entries ++ more) last line position piece
  printed_grow last Skipped position piece h = h
  printed_grow last (Give command) position piece (inl h) = inl (record {
    before = h.before;
    position_is = h.position_is;
    follows = follows_grow last h.before h.follows;
    entry = slice_get-grow entries more h.before _ h.entry;
    old = h.old;
    new = h.new;
    answer = h.answer;
    state = state_grow h.before h.old h.follows.within h.state;
    stepped = h.stepped;
    printed = h.printed;
  })
  printed_grow last (Give command) position piece (inr h) = inr (record {
    follows = follows_grow last position h.follows;
    old = h.old;
    why = h.why;
    state = state_grow position h.old h.follows.within h.state;
    stepped = h.stepped;
    printed = h.printed;
  })
  printed_grow last (Look query) position piece (inl h) = inl (record {
    follows = follows_grow last position h.follows;
    old = h.old;
    answer = h.answer;
    state = state_grow position h.old h.follows.within h.state;
    answered = h.answered;
    printed = h.printed;
  })
  printed_grow last (Look query) position piece (inr h) = inr (record {
    follows = follows_grow last position h.follows;
    old = h.old;
    why = h.why;
    state = state_grow position h.old h.follows.within h.state;
    refused = h.refused;
    printed = h.printed;
  })
  printed_grow last Send position piece (inl h) = inl (record {
    no_lower = h.no_lower;
    within = longer position h.within;
    taken = h.taken;
    takes = subst (λ (es : List Entry). Comes Script es (TakeLock rounds.Send) h.taken)
        (sym (front_grow last (let l = h.no_lower in let w = h.within in omega (arith, l, w)))) h.takes;
    sends = h.sends;
    sent = h.sent;
    are_sent = h.are_sent;
    releases = record {
      before = h.releases.before;
      waits = h.releases.waits;
      joined = front_grow position h.within ∙ h.releases.joined;
    };
    refused = h.refused;
    none_left = h.none_left;
    printed = h.printed;
  })
  printed_grow last Send position piece (inr h) = inr (record {
    no_lower = h.no_lower;
    within = longer position h.within;
    reached = h.reached;
    waits = subst (Waits Script h.reached) (sym (front_grow position h.within)) h.waits;
    old = h.old;
    state = state_grow position h.old h.within h.state;
    why = h.why;
    refused = refused_grow (take last entries) (take last (entries ++ more)) h.reached h.old h.why
        (sym (front_grow last (let l = h.no_lower in let w = h.within in omega (arith, l, w)))) h.refused;
    printed = h.printed;
  })
  printed_grow last Quit position piece h = record { follows = follows_grow last position h.follows; printed = h.printed }
  printed_grow last Bad position piece h = record { follows = follows_grow last position h.follows; printed = h.printed }
  printed_grow last NotBuilt position piece h = record { follows = follows_grow last position h.follows; printed = h.printed }

  -- a transcript stays one when entries come behind
  pub transcript_grow : (last : ℕ) (lines : List Line) (text : List ℕ) (position : ℕ) → Transcript start entries last lines text position → Transcript start (entries ++ more) last lines text position
  transcript_grow last [] text position h = h
  transcript_grow last (line ∷ lines) text position h =
      (h.0, h.1, h.2, printed_grow last line h.0 h.1 h.3, h.4, transcript_grow h.0 lines h.2 position h.5)

-- a transcript goes on by one line
pub transcript_then : (start : State) (entries : List Entry) (last : ℕ) (lines : List Line) (text : List ℕ) (position : ℕ) (line : Line) (next : ℕ) (piece : List ℕ)
    → Transcript start entries last lines text position → HasPrinted start entries position line next piece
    → Transcript start entries last (lines ++ line ∷ []) (text ++ piece) next
transcript_then start entries last [] text position line next piece h printed =
    let P : ℕ → Type 0 = λ p. HasPrinted start entries p line next piece in
    (next, piece, [], subst P h.1 printed, ap (λ t. t ++ piece) h.0 ∙ sym (append-nil piece), (refl, refl))
transcript_then start entries last (l ∷ lines) text position line next piece h printed =
    (h.0, h.1, h.2 ++ piece, h.3, ap (λ t. t ++ piece) h.4 ∙ append_assoc h.1 h.2 piece, transcript_then start entries h.0 lines h.2 position line next piece h.5 printed)

-- an entry in the middle
pub slice_get_middle : (xs ys : List Entry) (x : Entry) → slice_get (xs ++ x ∷ ys) (length xs) ≡ Some x
slice_get_middle [] ys x = refl
slice_get_middle (y ∷ xs) ys x = slice_get_middle xs ys x
