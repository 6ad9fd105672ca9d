-- The headline of a call, from its parts.
use Rattle.std.proofs.Common.{◌≡◌, ◌≢◌, ⊎_elim, inl, ℕ, List, [], ◌++◌, Option, Some, None, Ok, Err, refl, ap, sym, ◌∙◌, subst}
use Rattle.std.specs.Prelude.{IsSome}
use Rattle.field_io.specs.Causes.{Rose}
use Rattle.entry_form.specs.declared.entry.Entry.{Entry}
use Rattle.device_journal.specs.declared.fault.OpenFault.{OpenFault}
use Rattle.device_journal.specs.declared.fault.OpenFault.TheVariants as opening
use Rattle.device_rules.specs.declared.trail.Trail.{Trail}
use Rattle.device_state.specs.State.{initial}
use Rattle.device_rules.specs.Trail.{entries_of, replay}
use Rattle.device_core.specs.Faults.{IsOpenFault}
use Rattle.device_core.specs.Images.{ReadsAs}
use Rattle.device_core.proofs.Once.{reads_once}
use Rattle.collect_script.specs.declared.stop.ScriptStop.TheVariants as script
use Rattle.collect_script.specs.Ends.{ScriptEnd, Streams}
use Rattle.collect_top.specs.declared.stop.Stop.TheVariants.{Opening, Script, Usage}
use Rattle.collect_top.specs.declared.words.Work.{Work}
use Rattle.collect_top.specs.Crash.{untouched}
use Rattle.collect_top.specs.Headline.{Headline}
use Rattle.collect_top.specs.Outside.{Images, Outside}
use Rattle.collect_top.specs.Parts.{Prints, PutsStop, own_opening}
use Rattle.collect_top.specs.Parts as parts
use Rattle.collect_top.specs.Run.{HasRun}
use Rattle.collect_top.specs.Status.{Completes, EndCauses, IsCalm, IsWithinLimits, full, full_opening, long_line, long_script, starved, starved_opening, whole}
use Rattle.collect_top.specs.Stop.{End, end_of_script, end_status}
use Rattle.collect_top.proofs.Causes.{prints_sink, prints_source, prints_usage, prints_within, rose_on, run_told, stop_left, stop_sink, stop_source, told_reading}

-- the outside of these streams and a disk
abbrev pub outside_of : Streams → Option (List ℕ) → ℕ → Outside
outside_of streams image faults = record {
  left = streams.left;
  held = streams.held;
  image = image;
  source_faults = streams.source_faults;
  sink_faults = streams.sink_faults;
  disk_faults = faults;
}

completes_script : (end : ScriptEnd) → (end_of_script end ≡ Err (Script script.ReadFault) → ⊥) → (end_of_script end ≡ Err (Script script.WriteFault) → ⊥)
    → (end_of_script end ≡ Err (Script script.DiskFault) → ⊥) → Completes (end_of_script end)
completes_script (Ok done) source sink disk = whole
completes_script (Err script.ReadFault) source sink disk = absurd (source refl)
completes_script (Err script.WriteFault) source sink disk = absurd (sink refl)
completes_script (Err script.DiskFault) source sink disk = absurd (disk refl)
completes_script (Err script.NoMemory) source sink disk = starved
completes_script (Err script.LineTooLong) source sink disk = long_line
completes_script (Err (script.JournalFull size)) source sink disk = full size
completes_script (Err script.ScriptTooLong) source sink disk = long_script

module _ {D : Type 0} (images : Images D) (content : D → Option (List ℕ)) (faults : D → ℕ) (work : Work) (old new : D) (before between after : Streams) (trail : Trail) (end : End)
    (run : HasRun images content faults work old new before between trail end) (stop : PutsStop between after end) where
  abbrev outside_before : Outside
  outside_before = outside_of before (content old) (faults old)

  abbrev outside_after : Outside
  outside_after = outside_of after (content new) (faults new)

  source_fails : end ≡ Err (Script script.ReadFault) → Rose before.source_faults after.source_faults
  source_fails is = subst (λ n. Rose before.source_faults n) (sym (stop_source between after end stop)) (prints_source work before between (entries_of trail.entries) run.rest end run.found run.prints is)

  sink_fails : end ≡ Err (Script script.WriteFault) → Rose before.sink_faults after.sink_faults
  sink_fails is = rose_on before.sink_faults between.sink_faults after.sink_faults
      (prints_sink work before between (entries_of trail.entries) run.rest end run.found run.prints is) (stop_sink between after end stop)

  within_limits : (all : List ℕ) → before.left ≡ Some all → IsSome after.left → IsWithinLimits all
      → (end ≢ Err (Script script.LineTooLong)) × (end ≢ Err (Script script.ScriptTooLong))
  within_limits all was some within = by after.left refl some
    where
      by : (o : Option (List ℕ)) → after.left ≡ o → IsSome o → (end ≢ Err (Script script.LineTooLong)) × (end ≢ Err (Script script.ScriptTooLong))
      by None is none = absurd (cc (none))
      by (Some left) is some = prints_within work before between (entries_of trail.entries) run.rest end run.found all left was (sym (stop_left between after end stop) ∙ is) within run.prints

  unopened_completes : (fault : OpenFault) (image : List ℕ) (found : List Entry) → content old ≡ Some image → ReadsAs image (Ok found)
      → (Rose (faults old) (faults new) → ⊥) → IsOpenFault content faults own_opening old new fault → Completes (Err (Opening fault))
  unopened_completes opening.DiskFault image found told reads calm h = absurd (calm h)
  unopened_completes (opening.BadJournal at) image found told reads calm h =
      absurd (cc (reads_once image (Err (opening.BadJournal at)) (Ok found) (told_reading images content faults work old new before between trail end run image (Err (opening.BadJournal at)) told h.1) reads))
  unopened_completes (opening.BadEntry at) image found told reads calm h =
      absurd (cc (reads_once image (Err (opening.BadEntry at)) (Ok found) (told_reading images content faults work old new before between trail end run image (Err (opening.BadEntry at)) told h.1) reads))
  unopened_completes (opening.IllegalEntry at) image found told reads calm h =
      absurd (cc (reads_once image (Err (opening.IllegalEntry at)) (Ok found) (told_reading images content faults work old new before between trail end run image (Err (opening.IllegalEntry at)) told h.1) reads))
  unopened_completes (opening.Full size) image found told reads calm h = full_opening size
  unopened_completes opening.NoMemory image found told reads calm h = starved_opening

  completes : (image : List ℕ) (found : List Entry) → IsCalm outside_before outside_after → content old ≡ Some image → ReadsAs image (Ok found)
      → (e : End) → end ≡ e → (o : Option ℕ) → Prints (Some work) before between (entries_of trail.entries) run.rest e o → Completes e
  completes image found calm told reads e is o (parts.usage none same) = absurd (cc (none))
  completes image found calm told reads e is o (parts.unopened asked fault w same) = unopened_completes fault image found told reads calm.disk (run.fault fault is)
  completes image found calm told reads e is o (parts.answers n s w answers fits) =
      completes_script s (λ i. calm.source (source_fails (is ∙ i))) (λ i. calm.sink (sink_fails (is ∙ i))) (λ i. calm.disk (run.failed (is ∙ i)))
  completes image found calm told reads e is o (parts.shows asked text n s w shown long none shows left same) =
      completes_script s (λ i. calm.source (source_fails (is ∙ i))) (λ i. calm.sink (sink_fails (is ∙ i))) (λ i. calm.disk (run.failed (is ∙ i)))

  causes : EndCauses (Some work) outside_before outside_after end
  causes = record {
    usage = (λ is. absurd (prints_usage work before between (entries_of trail.entries) run.rest end run.found run.prints is), λ none. absurd (cc (none)));
    read_fault = source_fails;
    write_fault = sink_fails;
    disk_fault = λ which. ⊎_elim (λ is. run.fault opening.DiskFault is) (λ is. run.failed is) which;
    bad_journal = λ image at told is. told_reading images content faults work old new before between trail end run image (Err (opening.BadJournal at)) told (run.fault (opening.BadJournal at) is).1;
    bad_entry = λ image at told is. told_reading images content faults work old new before between trail end run image (Err (opening.BadEntry at)) told (run.fault (opening.BadEntry at) is).1;
    illegal_entry = λ image at told is. told_reading images content faults work old new before between trail end run image (Err (opening.IllegalEntry at)) told (run.fault (opening.IllegalEntry at) is).1;
    full_opening = λ image size told is.
        let h = (run.fault (opening.Full size) is).1 in
        (h.found, told_reading images content faults work old new before between trail end run image (Ok h.found) told h.reads, h.full);
    journal_told = λ image fault known told reads calm. run_told images content faults work old new before between trail end run image fault told reads calm;
    within = within_limits;
    complete = λ image found known calm told reads. completes image found calm told reads end refl run.found run.prints;
  }

  pub headline : (status : ℕ) → status ≡ end_status end → Headline images old new (Some work) outside_before outside_after status trail
  headline status is = record {
    course = record { end = end; found = run.found; rest = run.rest };
    status_is = is;
    serial_run = record { start = run.start; legal = run.legal; begins = run.begins };
    printed_answers = record { between = between; prints = run.prints; stop = stop };
    crash = record { leaves = run.leaves; rest = run.rest_is };
    causes = causes;
  }

-- the words ask for nothing
pub headline_of_usage : {D : Type 0} (images : Images D) (content : D → Option (List ℕ)) (faults : D → ℕ) (disk : D) (before after : Streams) (trail : Trail) (status : ℕ)
    → trail.start ≡ initial → trail.entries ≡ [] → status ≡ 2 → PutsStop before after (Err Usage)
    → Headline images disk disk None (outside_of before (content disk) (faults disk)) (outside_of after (content disk) (faults disk)) status trail
headline_of_usage images content faults disk before after trail status start none is stop = record {
  course = record { end = Err Usage; found = None; rest = [] };
  status_is = is;
  serial_run = record { start = start; legal = (initial, ap (λ es. replay initial (entries_of es ++ [])) none); begins = ap entries_of none };
  printed_answers = record { between = before; prints = parts.usage refl refl; stop = stop };
  crash = record { leaves = untouched refl; rest = inl refl };
  causes = record {
    usage = (λ e. refl, λ e. refl);
    read_fault = λ e. absurd (cc (e));
    write_fault = λ e. absurd (cc (e));
    disk_fault = λ which. ⊎_elim (λ e. absurd (cc (e))) (λ e. absurd (cc (e))) which;
    bad_journal = λ image at told e. absurd (cc (e));
    bad_entry = λ image at told e. absurd (cc (e));
    illegal_entry = λ image at told e. absurd (cc (e));
    full_opening = λ image size told e. absurd (cc (e));
    journal_told = λ image fault known told reads calm. absurd (known refl);
    within = λ all was some limits. (λ e. cc (e), λ e. cc (e));
    complete = λ image found known calm told reads. absurd (known refl);
  };
}
