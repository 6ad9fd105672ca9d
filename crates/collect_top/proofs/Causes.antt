-- The causes of each end.
use Rattle.std.proofs.Common.{◌≡◌, ◌≢◌, ◌⊎◌, ⊎_elim, inl, inr, ℕ, ◌≤◌, List, ◌++◌, length, Option, Some, None, Result, Ok, Err, refl, ap, ◌∙◌, subst, arith, append_assoc, length-append}
use Rattle.std.specs.Prelude.{IfSome, take}
use Rattle.field_io.specs.Causes.{Rose}
use Rattle.entry_form.specs.declared.entry.Entry.{Entry}
use Rattle.device_journal.specs.declared.fault.OpenFault.{OpenFault}
use Rattle.device_journal.specs.declared.fault.OpenFault.TheVariants as opening
use Rattle.device_rules.specs.declared.trail.Trail.{Trail}
use Rattle.device_rules.specs.Trail.{entries_of}
use Rattle.device_core.specs.Faults.{ContentReadsAs, IsOpenFault}
use Rattle.device_core.specs.Images.{ReadsAs}
use Rattle.device_core.proofs.Once.{reads_once}
use Rattle.line_io.specs.Script.{Taken}
use Rattle.device_state.specs.declared.state.State.{State}
use Rattle.collect_text.specs.declared.line.Line.{Line}
use Rattle.collect_script.specs.declared.stop.ScriptStop.{ScriptStop}
use Rattle.collect_script.specs.declared.stop.ScriptStop.TheVariants as script
use Rattle.collect_script.specs.Ends.{CantAnswer, CantRead, Ends, ScriptEnd, Streams}
use Rattle.collect_script.specs.Ends as ends
use Rattle.collect_script.specs.Script.{IsPastLimit, IsTooLong, Reads, Spells, by_end, by_feeds, ended}
use Rattle.collect_top.specs.declared.stop.Stop.TheVariants.{Opening, Script, Usage}
use Rattle.collect_top.specs.declared.words.Work.{Work}
use Rattle.collect_top.specs.Shown.{Shows}
use Rattle.collect_top.specs.Shown as show
use Rattle.collect_top.specs.Outside.{Images}
use Rattle.collect_top.specs.Parts.{Begins, Continues, Prints, PutsStop, own_opening}
use Rattle.collect_top.specs.Parts as parts
use Rattle.collect_top.specs.Run.{HasRun}
use Rattle.collect_top.specs.Status.{IsWithinLimits}
use Rattle.collect_top.specs.Stop.{End, end_of_script}

-- ---- the script

module _ (start : State) (entries rest : List Entry) (before after : Streams) where
  unread_source : (taken behind : List ℕ) (stop : ScriptStop) → CantRead start entries rest before after taken behind stop → stop ≡ script.ReadFault
      → Rose before.source_faults after.source_faults
  unread_source taken behind stop (ends.failed uncut rose) is = rose
  unread_source taken behind stop (ends.long_line long calm) is = absurd (cc (is))
  unread_source taken behind stop (ends.long_script long calm) is = absurd (cc (is))
  unread_source taken behind stop (ends.starved calm) is = absurd (cc (is))

  unread_sink : (taken behind : List ℕ) (stop : ScriptStop) → CantRead start entries rest before after taken behind stop → stop ≡ script.WriteFault → ⊥
  unread_sink taken behind stop (ends.failed uncut rose) is = cc (is)
  unread_sink taken behind stop (ends.long_line long calm) is = cc (is)
  unread_sink taken behind stop (ends.long_script long calm) is = cc (is)
  unread_sink taken behind stop (ends.starved calm) is = cc (is)

  unanswered_source : (text : List ℕ) (last : ℕ) (line : Line) (stop : ScriptStop) → CantAnswer start entries rest before after text last line stop → stop ≡ script.ReadFault → ⊥
  unanswered_source text last line stop (ends.faulted may puts) is = cc (is)
  unanswered_source text last line stop (ends.full_round command size line_is known past may none puts) is = cc (is)
  unanswered_source text last line stop (ends.starved_at may none puts) is = cc (is)
  unanswered_source text last line stop (ends.full size past settled puts) is = cc (is)
  unanswered_source text last line stop (ends.cut position piece front printed settled is_cut gained rose) is = cc (is)

  unanswered_sink : (text : List ℕ) (last : ℕ) (line : Line) (stop : ScriptStop) → CantAnswer start entries rest before after text last line stop → stop ≡ script.WriteFault
      → Rose before.sink_faults after.sink_faults
  unanswered_sink text last line stop (ends.faulted may puts) is = absurd (cc (is))
  unanswered_sink text last line stop (ends.full_round command size line_is known past may none puts) is = absurd (cc (is))
  unanswered_sink text last line stop (ends.starved_at may none puts) is = absurd (cc (is))
  unanswered_sink text last line stop (ends.full size past settled puts) is = absurd (cc (is))
  unanswered_sink text last line stop (ends.cut position piece front printed settled is_cut gained rose) is = rose

  module _ (answered : List (List ℕ)) (text : List ℕ) (last : ℕ) where
    pub ends_source : (end : ScriptEnd) → Ends start entries rest before after answered text last end → end ≡ Err script.ReadFault
        → Rose before.source_faults after.source_faults
    ends_source end (ends.finished behind reads whole settled puts calm) is = absurd (cc (is))
    ends_source end (ends.unread behind stop reads on cause settled puts) is = unread_source reads.script behind stop cause (cc (is))
    ends_source end (ends.unanswered line behind stop reads on cause calm) is = absurd (unanswered_source text last _ stop cause (cc (is)))

    pub ends_sink : (end : ScriptEnd) → Ends start entries rest before after answered text last end → end ≡ Err script.WriteFault
        → Rose before.sink_faults after.sink_faults
    ends_sink end (ends.finished behind reads whole settled puts calm) is = absurd (cc (is))
    ends_sink end (ends.unread behind stop reads on cause settled puts) is = absurd (unread_sink reads.script behind stop cause (cc (is)))
    ends_sink end (ends.unanswered line behind stop reads on cause calm) is = unanswered_sink text last _ stop cause (cc (is))

  -- a script that was taken of one within its limits
  too_long : (whole taken behind left : List ℕ) (lines : List (List ℕ)) (source : Option (List ℕ)) → IsWithinLimits whole → whole ≡ taken ++ left
      → Spells source taken lines behind → IsTooLong behind → ⊥
  too_long whole taken behind left lines source within is (by_feeds spelled) long =
      let front : List ℕ = ended lines in
      let all : whole ≡ front ++ (long.front ++ (long.more ++ left)) =
      is ∙ ap (λ xs. xs ++ left) (spelled ∙ ap (λ xs. front ++ xs) long.joined) ∙ append_assoc front (long.front ++ long.more) left
      ∙ ap (λ xs. front ++ xs) (append_assoc long.front long.more left) in
      let short = within.lines front long.front (long.more ++ left) all long.uncut in
      let l = long.long in omega arith
  too_long whole taken behind left lines source within is (by_end spelled none end) long =
      let e : length behind ≡ 0 = ap length none in
      let f : length behind ≡ length (long.front ++ long.more) = ap length long.joined in
      let g = length-append long.front long.more in let l = long.long in omega arith

  past_limit : (whole taken behind left : List ℕ) → IsWithinLimits whole → whole ≡ taken ++ left → IsPastLimit taken behind → ⊥
  past_limit whole taken behind left within is long =
      let e : length whole ≡ length (taken ++ left) = ap length is in let f = length-append taken left in
      let s = within.short in let l = long.long in let p = long.some in omega arith

  taken_of : (whole left taken : List ℕ) (source_before source_after : Option (List ℕ)) → source_before ≡ Some whole → source_after ≡ Some left
      → Taken source_before source_after taken → whole ≡ taken ++ left
  taken_of whole left taken source_before source_after was now took =
      let t : source_before ≡ Some (taken ++ left) = subst (λ (s : Option (List ℕ)). IfSome s (λ rest. source_before ≡ Some (taken ++ rest))) now took in
      cc (was, t)

  module _ (whole left : List ℕ) (was : before.left ≡ Some whole) (now : after.left ≡ Some left) (within : IsWithinLimits whole) (answered : List (List ℕ)) where
    unread_within : (behind : List ℕ) (stop : ScriptStop) (reads : Reads before.left after.left answered behind) → CantRead start entries rest before after reads.script behind stop
        → (stop ≢ script.LineTooLong) × (stop ≢ script.ScriptTooLong)
    unread_within behind stop reads (ends.failed uncut rose) = (λ e. cc (e), λ e. cc (e))
    unread_within behind stop reads (ends.long_line long calm) =
        (λ e. too_long whole reads.script behind left answered after.left within (taken_of whole left reads.script before.left after.left was now reads.taken) reads.spells long, λ e. cc (e))
    unread_within behind stop reads (ends.long_script long calm) =
        (λ e. cc (e), λ e. past_limit whole reads.script behind left within (taken_of whole left reads.script before.left after.left was now reads.taken) long)
    unread_within behind stop reads (ends.starved calm) = (λ e. cc (e), λ e. cc (e))

    unanswered_within : (text : List ℕ) (last : ℕ) (line : Line) (stop : ScriptStop) → CantAnswer start entries rest before after text last line stop
        → (stop ≢ script.LineTooLong) × (stop ≢ script.ScriptTooLong)
    unanswered_within text last line stop (ends.faulted may puts) = (λ e. cc (e), λ e. cc (e))
    unanswered_within text last line stop (ends.full_round command size line_is known past may none puts) = (λ e. cc (e), λ e. cc (e))
    unanswered_within text last line stop (ends.starved_at may none puts) = (λ e. cc (e), λ e. cc (e))
    unanswered_within text last line stop (ends.full size past settled puts) = (λ e. cc (e), λ e. cc (e))
    unanswered_within text last line stop (ends.cut position piece front printed settled is_cut gained rose) = (λ e. cc (e), λ e. cc (e))

    pub ends_within : (text : List ℕ) (last : ℕ) (end : ScriptEnd) → Ends start entries rest before after answered text last end
        → (end ≢ Err script.LineTooLong) × (end ≢ Err script.ScriptTooLong)
    ends_within text last end (ends.finished behind reads all settled puts calm) = (λ e. cc (e), λ e. cc (e))
    ends_within text last end (ends.unread behind stop reads on cause settled puts) =
        let w = unread_within behind stop reads cause in (λ e. w.0 (cc (e)), λ e. w.1 (cc (e)))
    ends_within text last end (ends.unanswered line behind stop reads on cause calm) =
        let w = unanswered_within text last _ stop cause in (λ e. w.0 (cc (e)), λ e. w.1 (cc (e)))

-- ---- what a command prints that reads no script

shown_source : (text : List ℕ) (before after : Streams) (end : ScriptEnd) → Shows text before after end
    → end ≡ Err script.ReadFault → ⊥
shown_source text before after end (show.shown gained same) is = cc (is)
shown_source text before after end (show.cut front is_cut gained rose) is = cc (is)
shown_source text before after end (show.starved gained same) is = cc (is)

shown_sink : (text : List ℕ) (before after : Streams) (end : ScriptEnd) → Shows text before after end
    → end ≡ Err script.WriteFault → Rose before.sink_faults after.sink_faults
shown_sink text before after end (show.shown gained same) is = absurd (cc (is))
shown_sink text before after end (show.cut front is_cut gained rose) is = rose
shown_sink text before after end (show.starved gained same) is = absurd (cc (is))

shown_within : (text : List ℕ) (before after : Streams) (end : ScriptEnd) → Shows text before after end
    → (end ≢ Err script.LineTooLong) × (end ≢ Err script.ScriptTooLong)
shown_within text before after end (show.shown gained same) = (λ e. cc (e), λ e. cc (e))
shown_within text before after end (show.cut front is_cut gained rose) = (λ e. cc (e), λ e. cc (e))
shown_within text before after end (show.starved gained same) = (λ e. cc (e), λ e. cc (e))

-- ---- the whole call

script_end : (end : ScriptEnd) (stop : ScriptStop) → end_of_script end ≡ Err (Script stop) → end ≡ Err stop
script_end (Ok done) stop is = absurd (cc (is))
script_end (Err other) stop is = let e : other ≡ stop = cc (is) in ap Err e

no_opening : (end : ScriptEnd) (fault : OpenFault) → end_of_script end ≡ Err (Opening fault) → ⊥
no_opening (Ok done) fault is = cc (is)
no_opening (Err other) fault is = cc (is)

module _ (work : Work) (before between : Streams) (entries rest : List Entry) where
  abbrev P : End → Option ℕ → Type 0
  P = Prints (Some work) before between entries rest

  pub prints_usage : (end : End) (found : Option ℕ) → P end found → end ≡ Err Usage → ⊥
  prints_usage end found (parts.usage none same) is = absurd (cc (none))
  prints_usage end found (parts.unopened asked fault w same) is = cc (is)
  prints_usage end found (parts.answers n e w answers full) is = no_usage e is
    where
      no_usage : (e : ScriptEnd) → end_of_script e ≡ Err Usage → ⊥
      no_usage (Ok done) is = cc (is)
      no_usage (Err other) is = cc (is)
  prints_usage end found (parts.shows asked text n e w shown long none shows left faults) is = no_use e is
    where
      no_use : (e : ScriptEnd) → end_of_script e ≡ Err Usage → ⊥
      no_use (Ok done) is = cc (is)
      no_use (Err other) is = cc (is)

  pub prints_source : (end : End) (found : Option ℕ) → P end found → end ≡ Err (Script script.ReadFault) → Rose before.source_faults between.source_faults
  prints_source end found (parts.usage none same) is = absurd (cc (is))
  prints_source end found (parts.unopened asked fault w same) is = absurd (cc (is))
  prints_source end found (parts.answers n e w answers full) is = ends_source _ entries rest before between answers.answered answers.text answers.last e answers.ends (script_end e script.ReadFault is)
  prints_source end found (parts.shows asked text n e w shown long none shows left faults) is = absurd (shown_source text before between e shows (script_end e script.ReadFault is))

  pub prints_sink : (end : End) (found : Option ℕ) → P end found → end ≡ Err (Script script.WriteFault) → Rose before.sink_faults between.sink_faults
  prints_sink end found (parts.usage none same) is = absurd (cc (is))
  prints_sink end found (parts.unopened asked fault w same) is = absurd (cc (is))
  prints_sink end found (parts.answers n e w answers full) is = ends_sink _ entries rest before between answers.answered answers.text answers.last e answers.ends (script_end e script.WriteFault is)
  prints_sink end found (parts.shows asked text n e w shown long none shows left faults) is = shown_sink text before between e shows (script_end e script.WriteFault is)

  pub prints_within : (end : End) (found : Option ℕ) (whole left : List ℕ) → before.left ≡ Some whole → between.left ≡ Some left → IsWithinLimits whole → P end found
      → (end ≢ Err (Script script.LineTooLong)) × (end ≢ Err (Script script.ScriptTooLong))
  prints_within end found whole left was now within (parts.usage none same) = (λ e. cc (e), λ e. cc (e))
  prints_within end found whole left was now within (parts.unopened asked fault w same) = (λ e. cc (e), λ e. cc (e))
  prints_within end found whole left was now within (parts.answers n e w answers full) =
      let r = ends_within _ entries rest before between whole left was now within answers.answered answers.text answers.last e answers.ends in
      (λ i. r.0 (script_end e script.LineTooLong i), λ i. r.1 (script_end e script.ScriptTooLong i))
  prints_within end found whole left was now within (parts.shows asked text n e w shown long none shows same faults) =
      let r = shown_within text before between e shows in
      (λ i. r.0 (script_end e script.LineTooLong i), λ i. r.1 (script_end e script.ScriptTooLong i))

  -- where the device was opened, opening found entries
  pub prints_found : (end : End) (found : Option ℕ) → P end found → (fault : OpenFault) → end ≡ Err (Opening fault) → found ≡ None
  prints_found end found (parts.usage none same) fault is = refl
  prints_found end found (parts.unopened asked other w same) fault is = refl
  prints_found end found (parts.answers n e w answers full) fault is = absurd (no_opening e fault is)
  prints_found end found (parts.shows asked text n e w shown long none shows left faults) fault is = absurd (no_opening e fault is)

-- the streams behind the line of a stop
pub stop_left : (between after : Streams) (end : End) → PutsStop between after end → after.left ≡ between.left
stop_left between after end (parts.none same) = ap (λ s. s.left) same
stop_left between after end (parts.sink same) = ap (λ s. s.left) same
stop_left between after end (parts.whole stop gained same left faults) = left
stop_left between after end (parts.cut stop front is_cut gained rose later left faults) = left

pub stop_source : (between after : Streams) (end : End) → PutsStop between after end → after.source_faults ≡ between.source_faults
stop_source between after end (parts.none same) = ap (λ s. s.source_faults) same
stop_source between after end (parts.sink same) = ap (λ s. s.source_faults) same
stop_source between after end (parts.whole stop gained same left faults) = faults
stop_source between after end (parts.cut stop front is_cut gained rose later left faults) = faults

pub stop_sink : (between after : Streams) (end : End) → PutsStop between after end → between.sink_faults ≤ after.sink_faults
stop_sink between after end (parts.none same) = let e = ap (λ (s : Streams). s.sink_faults) same in omega arith
stop_sink between after end (parts.sink same) = let e = ap (λ (s : Streams). s.sink_faults) same in omega arith
stop_sink between after end (parts.whole stop gained same left faults) = omega (arith, same)
stop_sink between after end (parts.cut stop front is_cut gained rose later left faults) = later

-- a count that has risen and doesn't fall
pub rose_on : (a b c : ℕ) → Rose a b → b ≤ c → Rose a c
rose_on a b c rose le = omega (arith, rose, le)

module _ {D : Type 0} (images : Images D) (content : D → Option (List ℕ)) (faults : D → ℕ) (work : Work) (old new : D) (before between : Streams) (trail : Trail) (end : End)
    (run : HasRun images content faults work old new before between trail end) where
  pub run_read : (at : OpenFault) (image : List ℕ) → content old ≡ Some image → end ≡ Err (Opening at) → IsOpenFault content faults own_opening old new at
  run_read at image told is = run.fault at is

  pub told_reading : (image : List ℕ) (reading : Result (List Entry) OpenFault) → content old ≡ Some image → ContentReadsAs content old reading → ReadsAs image reading
  told_reading image reading told reads = subst (λ (o : Option (List ℕ)). IfSome o (λ bytes. ReadsAs bytes reading)) told reads

  -- an image that doesn't stand for entries isn't opened
  opened_reads : (found : Option ℕ) (image : List ℕ) → content old ≡ Some image → Begins (content old) (entries_of trail.entries) found → (n : ℕ) → found ≡ Some n
      → (entries : List Entry) × ReadsAs image (Ok entries)
  opened_reads None image told begins n is = absurd (cc (is))
  opened_reads (Some m) image told begins n is = (take m (entries_of trail.entries), told_reading image (Ok (take m (entries_of trail.entries))) told begins.read)

  fault_told : (image : List ℕ) (fault other : OpenFault) → content old ≡ Some image → ReadsAs image (Err fault) → (Rose (faults old) (faults new) → ⊥)
      → IsOpenFault content faults own_opening old new other → (other ≡ fault) ⊎ (other ≡ opening.NoMemory)
  fault_told image fault opening.DiskFault told reads calm h = absurd (calm h)
  fault_told image fault (opening.BadJournal at) told reads calm h = inl (cc (reads_once image (Err (opening.BadJournal at)) (Err fault) (told_reading image (Err (opening.BadJournal at)) told h.1) reads))
  fault_told image fault (opening.BadEntry at) told reads calm h = inl (cc (reads_once image (Err (opening.BadEntry at)) (Err fault) (told_reading image (Err (opening.BadEntry at)) told h.1) reads))
  fault_told image fault (opening.IllegalEntry at) told reads calm h = inl (cc (reads_once image (Err (opening.IllegalEntry at)) (Err fault) (told_reading image (Err (opening.IllegalEntry at)) told h.1) reads))
  fault_told image fault (opening.Full size) told reads calm h = absurd (cc (reads_once image (Ok h.1.found) (Err fault) (told_reading image (Ok h.1.found) told h.1.reads) reads))
  fault_told image fault opening.NoMemory told reads calm h = inr refl

  pub run_told : (image : List ℕ) (fault : OpenFault) → content old ≡ Some image → ReadsAs image (Err fault) → (Rose (faults old) (faults new) → ⊥)
      → (end ≡ Err (Opening fault)) ⊎ (end ≡ Err (Opening opening.NoMemory))
  run_told image fault told reads calm = by end run.found refl refl run.prints
    where
      by : (e : End) (o : Option ℕ) → end ≡ e → run.found ≡ o → Prints (Some work) before between (entries_of trail.entries) run.rest e o
          → (end ≡ Err (Opening fault)) ⊎ (end ≡ Err (Opening opening.NoMemory))
      by e o is found (parts.usage none same) = absurd (cc (none))
      by e o is found (parts.unopened asked other w same) = ⊎_elim (λ f. inl (is ∙ ap (λ x. Err (Opening x)) f)) (λ f. inr (is ∙ ap (λ x. Err (Opening x)) f))
          (fault_told image fault other told reads calm (run.fault other is))
      by e o is found (parts.answers n s w answers fits) =
          let r = opened_reads run.found image told run.begins n found in absurd (cc (reads_once image (Ok r.0) (Err fault) r.1 reads))
      by e o is found (parts.shows asked text n s w shown long none shows left same) =
          let r = opened_reads run.found image told run.begins n found in absurd (cc (reads_once image (Ok r.0) (Err fault) r.1 reads))
