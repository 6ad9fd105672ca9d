-- One line more is answered, or isn't answered whole.
use Rattle.std.proofs.Common.{◌≡◌, ◌≢◌, ℕ, ◌+◌, ◌≤◌, List, [], ◌∷◌, ◌++◌, length, drop, map, Option, inr, refl, ap, sym, ◌∙◌, subst, arith, length-append, ◌<◌}
use Rattle.std.proofs.lemmas.List.{append-nil, drop-append-le}
use Rattle.field_io.specs.Causes.{Rose}
use Rattle.entry_form.specs.declared.entry.Entry.{Entry}
use Rattle.entry_form.specs.declared.entry.Entry.TheVariants.{Done}
use Rattle.entry_form.specs.declared.hand.Hand.TheVariants.{Script}
use Rattle.entry_codec.specs.Spelling.{spelling}
use Rattle.device_rules.specs.Caller.{CallerView, Grows, SameRest, of_hand}
use Rattle.device_rules.specs.Limits.{largest_journal}
use Rattle.device_rules.specs.declared.refused.Refused.{Refused}
use Rattle.device_rules.specs.declared.told.SubmitFault.{SubmitFault}
use Rattle.device_rules.specs.declared.told.SubmitFault.TheVariants as faults
use Rattle.field_io.specs.declared.exchange.Exchange.{Exchange}
use Rattle.send_workers.specs.Rounds.{GoesOn, Stops, at_begin, at_end, at_lock, at_look, at_release, view}
use Rattle.send_workers.proofs.Steps.{grows_then, on_others, on_then}
use Rattle.line_io.specs.Output.{Gained}
use Rattle.line_io.proofs.Gains.{gained_then}
use Rattle.collect_text.specs.Line.{meaning}
use Rattle.collect_text.specs.declared.line.Line.{Line}
use Rattle.collect_script.specs.declared.stop.ScriptStop.{ScriptStop}
use Rattle.collect_script.specs.declared.stop.ScriptStop.TheVariants as stops
use Rattle.collect_script.specs.Answering.{FaultText, LineAnswered, LineStops, Says, SaysNothing, accepts, bad, cut, failed, faulted, full, hides, not_built, quits, refuses, shows, silent, skips, starved, ran, busy, stopped, full_round, faulted_round}
use Rattle.collect_script.specs.Ends.{CantAnswer, IsFullLine, IsSettled, Puts, Streams}
use Rattle.collect_script.specs.Ends as ends
use Rattle.collect_script.specs.Rounds.{IsFrontOfRound}
use Rattle.collect_script.specs.Transcript.{MayAdd, Transcript, of_script}
use Rattle.collect_script.proofs.Growing.{grows_none}
use Rattle.collect_script.proofs.Histories.{behind_added, of_script-append, transcript_grow, transcript_then}
use Rattle.collect_script.proofs.Printed.{IsPrinted}
use Rattle.collect_script.proofs.Printing.{adds_behind, says_printed, settled_on, within_on}
use Rattle.collect_script.proofs.SoFar.{HasAnswered}

-- what a line adds of all hands
pub record Moves (old new : CallerView) : Type 0 where
  pub added : List Entry
  pub grows : Grows old new added

on_moves : (old new : CallerView) → GoesOn old new → Moves old new × SameRest old new
on_moves old new on = (record { added = on.added; grows = on.grows }, on.rest)

-- a round with a refusal
stopped_by : (old new : CallerView) (c d : Option (List Exchange)) (position : ℕ) (why : Refused)
    → Stops (view old c) (view new d) (faults.Refused position why) → GoesOn old new
stopped_by old new c d position why (at_lock free h same) = on_others old new h.others h.rest
stopped_by old new c d position why (at_look mid sends refused sent h same) =
    on_then old mid.caller new sent.on (on_others mid.caller new h.looks.others h.looks.rest)
stopped_by old new c d position why (at_begin mid sends refused named at sent next due h same) =
    on_then old mid.caller new sent.on (on_others mid.caller new h.others h.rest)
stopped_by old new c d position why (at_end mid sends refused s carried h same) =
    on_then old mid.caller new carried.on (on_others mid.caller new h.others h.rest)
stopped_by old new c d position why (at_release mid sends refused sent none_left h same) =
    on_then old mid.caller new sent.on (on_others mid.caller new h.others h.rest)

stopped_moves : (old new : CallerView) (c d : Option (List Exchange)) (fault : SubmitFault) (text : List ℕ)
    → Stops (view old c) (view new d) fault → FaultText fault text → Moves old new × SameRest old new
stopped_moves old new c d (faults.Refused position why) text h is = on_moves old new (stopped_by old new c d position why h)
stopped_moves old new c d (faults.Full size) text h is = absurd is
stopped_moves old new c d faults.DiskFault text h is = absurd is
stopped_moves old new c d (faults.Failed count) text h is = absurd is

pub says_moves : (old new : CallerView) (line : Line) (text : List ℕ) → Says old new text line → Moves old new × SameRest old new
says_moves old new line text (skips same none) = subst (λ v. Moves old v × SameRest old v) (sym same) (record { added = []; grows = grows_none old }, refl)
says_moves old new line text (accepts command told h printed) = (record { added = h.before ++ Done old.hand command ∷ h.after; grows = h.grows }, h.rest)
says_moves old new line text (refuses command position why h other printed) = (record { added = h.others.added; grows = h.others.grows }, h.rest)
says_moves old new line text (shows query told h printed) = (record { added = h.looks.others.added; grows = h.looks.others.grows }, h.looks.rest)
says_moves old new line text (hides query position why h other printed) = (record { added = h.looks.others.added; grows = h.looks.others.grows }, h.looks.rest)
says_moves old new line text (quits query told h printed) = (record { added = h.looks.others.added; grows = h.looks.others.grows }, h.looks.rest)
says_moves old new line text (bad query told h printed) = (record { added = h.looks.others.added; grows = h.looks.others.grows }, h.looks.rest)
says_moves old new line text (not_built query told h printed) = (record { added = h.looks.others.added; grows = h.looks.others.grows }, h.looks.rest)
says_moves old new line text (ran c d position good failed_sends run printed) = (record { added = run.on.added; grows = run.on.grows }, run.on.rest)
says_moves old new line text (busy position since holder h printed) = (record { added = h.others.added; grows = h.others.grows }, h.rest)
says_moves old new line text (stopped c d fault h is) = stopped_moves old new c d fault text h is

pub nothing_moves : (old new : CallerView) (line : Line) (stop : ScriptStop) → SaysNothing old new line stop → Moves old new
nothing_moves old new line stop (starved adds) = record { added = adds.added; grows = adds.grows }
nothing_moves old new line stop (full command size is h) = record { added = h.others.added; grows = h.others.grows }
nothing_moves old new line stop (faulted command is h) = record { added = h.others.added; grows = h.others.grows }
nothing_moves old new line stop (full_round command size is adds known length past) = record { added = adds.added; grows = adds.grows }
nothing_moves old new line stop (faulted_round command is left) = record { added = left.added; grows = left.grows }
nothing_moves old new line stop (failed adds ne) = record { added = adds.added; grows = adds.grows }

map_more : (lines : List (List ℕ)) (raw : List ℕ) → map meaning (lines ++ raw ∷ []) ≡ map meaning lines ++ meaning raw ∷ []
map_more [] raw = refl
map_more (l ∷ lines) raw = ap (λ ls. meaning l ∷ ls) (map_more lines raw)

module _ (old now next : CallerView) (before mid after : Streams) (lines : List (List ℕ)) (text : List ℕ) (position : ℕ) (so : HasAnswered old now before mid lines text position) where
  -- none of the script's entries is behind the history
  rest_on : SameRest now next → of_script next.rest ≡ []
  rest_on same = subst (λ h. of_hand h next.rest ≡ of_hand h now.rest) so.hand same ∙ so.none_left

  -- the transcript over the history as it is now
  pub transcript_on : Moves now next → Transcript next.start next.trail (length old.trail) (map meaning lines) text position
  transcript_on moves = subst (λ s. Transcript s next.trail (length old.trail) (map meaning lines) text position) (sym moves.grows.start)
      (subst (λ es. Transcript now.start es (length old.trail) (map meaning lines) text position) (sym moves.grows.trail)
      (transcript_grow now.start now.trail moves.added (length old.trail) (map meaning lines) text position so.transcript))

  -- one line more
  pub answered_more : (raw : List ℕ) (answered : LineAnswered now next (meaning raw) mid.held after.held mid.sink_faults after.sink_faults)
      → (printed : IsPrinted next position (meaning raw) answered.text)
      → HasAnswered old next before after (lines ++ raw ∷ []) (text ++ answered.text) printed.position
  answered_more raw answered printed =
      let moves = says_moves now next (meaning raw) answered.text answered.says in
      record {
        transcript = subst (λ ls. Transcript next.start next.trail (length old.trail) ls (text ++ answered.text) printed.position) (sym (map_more lines raw))
            (transcript_then next.start next.trail (length old.trail) (map meaning lines) text position (meaning raw) printed.position answered.text
            (transcript_on moves.0) printed.printed);
        within = printed.within;
        settled = printed.settled;
        hand = moves.0.grows.hand ∙ so.hand;
        none_left = rest_on moves.1;
        added = so.added ++ moves.0.added;
        grows = grows_then old now next so.added moves.0.added so.grows moves.0.grows;
        gained = gained_then before.held mid.held after.held text answered.text so.gained answered.gained;
        sound = answered.sound ∙ so.sound;
      }

  pub printed_of : (line : Line) (piece : List ℕ) → Says now next piece line → IsPrinted next position line piece
  printed_of line piece says = says_printed now next so.hand position so.within so.settled line piece says

  puts_nothing : Gained mid.held after.held [] → after.sink_faults ≡ mid.sink_faults → Puts next.start next.trail next.rest before after text
  puts_nothing gained same = record {
    gained = subst (Gained before.held after.held) (append-nil text) (gained_then before.held mid.held after.held text [] so.gained gained);
    sound = same ∙ so.sound;
  }

  grown_long : (added : List Entry) → Grows now next added → position ≤ length next.trail
  grown_long added grows = let e = ap length grows.trail in let l = length-append now.trail added in let w = so.within in omega arith

  -- why a line isn't answered whole
  cant_say : (line : Line) (stop : ScriptStop) → SaysNothing now next line stop → Puts next.start next.trail next.rest before after text
      → CantAnswer next.start next.trail next.rest before after text position line stop
  cant_say line stop (starved adds) puts =
      ends.starved_at (adds_behind now next so.hand position so.within so.settled line adds) (rest_on adds.rest) puts
  cant_say line stop (full command size is h) puts = subst (λ l. CantAnswer next.start next.trail next.rest before after text position l (stops.JournalFull size)) (sym is)
      (ends.full size (subst (λ d. largest_journal < size + 5 + length (spelling (Done d command))) so.hand h.past)
      (record { answered = settled_on now next so.hand position so.within so.settled h.others; none_left = rest_on h.rest }) puts)
  cant_say line stop (faulted command is h) puts = subst (λ l. CantAnswer next.start next.trail next.rest before after text position l stops.DiskFault) (sym is)
      (ends.faulted (inr (
      behind_added next.start next.trail next.rest position (within_on now next so.hand position so.within so.settled h.others)
      (settled_on now next so.hand position so.within so.settled h.others)
      ∙ subst (λ d. of_hand d next.rest ≡ of_hand d now.rest ++ Done d command ∷ []) so.hand h.rest
      ∙ ap (λ es. es ++ Done Script command ∷ []) so.none_left
      )) puts)
  cant_say line stop (full_round command size is adds known length_is past) puts =
      ends.full_round command size is known
      (subst (λ d. largest_journal < size + 5 + length (spelling (Done d command))) so.hand past)
      (adds_behind now next so.hand position so.within so.settled line adds) (rest_on adds.rest) puts
  cant_say line stop (faulted_round command is left) puts =
      let long : position ≤ length next.trail = grown_long left.added left.grows in
      ends.faulted (subst (λ l. MayAdd l (of_script (drop position (next.trail ++ next.rest)))) (sym is)
      (subst IsFrontOfRound (sym (
      ap of_script (drop-append-le position next.trail next.rest long)
      ∙ of_script-append (drop position next.trail) next.rest
      ∙ ap (λ es. es ++ of_script next.rest) (ap (λ es. of_script (drop position es)) left.grows.trail
      ∙ behind_added now.start now.trail left.added position so.within so.settled)
      ∙ ap (λ es. of_script left.added ++ es) (subst (λ d. of_hand d next.rest ≡ of_hand d now.rest ++ Done d command ∷ []) so.hand left.rest
      ∙ ap (λ es. es ++ Done Script command ∷ []) so.none_left)
      )) (subst (λ d. IsFrontOfRound (of_hand d left.added ++ Done d command ∷ [])) so.hand left.own))) puts
  cant_say line stop (failed adds ne) puts =
      let long : position ≤ length next.trail = grown_long adds.added adds.grows in
      ends.faulted (subst (MayAdd line) (sym (
      ap of_script (drop-append-le position next.trail next.rest long) ∙ of_script-append (drop position next.trail) next.rest
      ∙ ap (λ es. of_script (drop position next.trail) ++ es) (rest_on adds.rest) ∙ append-nil (of_script (drop position next.trail))
      )) (adds_behind now next so.hand position so.within so.settled line adds)) puts

  pub cant_answer : (line : Line) (stop : ScriptStop) → LineStops now next line mid.held after.held mid.sink_faults after.sink_faults stop
      → CantAnswer next.start next.trail next.rest before after text position line stop
  cant_answer line stop (silent _ nothing gained same) = cant_say line stop nothing (puts_nothing gained same)
  cant_answer line stop (cut piece front says is_cut gained rose) =
      let printed = printed_of line piece says in
      ends.cut printed.position piece front printed.printed (record { answered = printed.settled; none_left = rest_on (says_moves now next line piece says).1 }) is_cut
      (gained_then before.held mid.held after.held text front so.gained gained) (subst (λ n. Rose n after.sink_faults) so.sound rose)

  pub stops_move : (line : Line) (stop : ScriptStop) → LineStops now next line mid.held after.held mid.sink_faults after.sink_faults stop → Moves now next
  stops_move line stop (silent _ nothing gained same) = nothing_moves now next line stop nothing
  stops_move line stop (cut piece front says is_cut gained rose) = (says_moves now next line piece says).0

  -- the length of a full journal
  pub stops_full : (line : Line) (stop : ScriptStop) (size : ℕ) → LineStops now next line mid.held after.held mid.sink_faults after.sink_faults stop → stop ≡ stops.JournalFull size → size ≡ next.length
  stops_full line stop size (silent _ nothing gained same) is = full_nothing line stop size nothing is
    where
      full_nothing : (line : Line) (stop : ScriptStop) (size : ℕ) → SaysNothing now next line stop → stop ≡ stops.JournalFull size → size ≡ next.length
      full_nothing line stop size (starved adds) is = absurd (cc (is))
      full_nothing line stop size (full command other same h) is = (let e : other ≡ size = cc in sym e) ∙ h.is_length
      full_nothing line stop size (faulted command same h) is = absurd (cc (is))
      full_nothing line stop size (full_round command other same adds known length_is past) is =
          (let e : other ≡ size = cc in sym e) ∙ length_is
      full_nothing line stop size (faulted_round command same left) is = absurd (cc (is))
      full_nothing line stop size (failed adds ne) is = absurd (cc (is))
  stops_full line stop size (cut piece front says is_cut gained rose) is = absurd (cc (is))

  -- the disk's count at a fault of the disk
  pub stops_failed : (line : Line) (stop : ScriptStop) → LineStops now next line mid.held after.held mid.sink_faults after.sink_faults stop → stop ≡ stops.DiskFault → next.faults ≢ 0
  stops_failed line stop (silent _ nothing gained same) is = failed_nothing line stop nothing is
    where
      failed_nothing : (line : Line) (stop : ScriptStop) → SaysNothing now next line stop → stop ≡ stops.DiskFault → next.faults ≢ 0
      failed_nothing line stop (starved adds) is = absurd (cc (is))
      failed_nothing line stop (full command other same h) is = absurd (cc (is))
      failed_nothing line stop (faulted command same h) is = h.failed
      failed_nothing line stop (full_round command other same adds known length_is past) is = absurd (cc (is))
      failed_nothing line stop (faulted_round command same left) is = left.failed
      failed_nothing line stop (failed adds ne) is = ne
  stops_failed line stop (cut piece front says is_cut gained rose) is = absurd (cc (is))
