-- The work over an opened device.
use Rattle.std.proofs.Common.{◌≡◌, ◌≢◌, ℕ, ◌+◌, ◌-◌, ◌^◌, min, Bool, true, false, List, ◌++◌, length, Err, refl, ap, sym, ◌∙◌, subst, cond}
use Rattle.std.specs.Prelude.{nat_le, option_to_list}
use Rattle.std.proofs.lemmas.Bool.{leb-true}
use Rattle.field_io.specs.Causes.{Rose}
use Rattle.entry_form.specs.declared.entry.Entry.{Entry}
use Rattle.device_journal.specs.Frames.{end_of}
use Rattle.device_rules.specs.declared.trail.Trail.{Trail}
use Rattle.device_rules.specs.Caller.{Grows}
use Rattle.device_state.specs.State.{initial}
use Rattle.device_rules.specs.Trail.{entries_of}
use Rattle.device_core.specs.Caller.{Leads, LeadsOn, risen, seen_of}
use Rattle.device_core.specs.Images.{payloads_of}
use Rattle.device_core.specs.View.{DeviceView}
use Rattle.collect_script.specs.declared.stop.ScriptStop.TheVariants as script
use Rattle.collect_script.specs.Ends.{AnswersScript, ScriptEnd, Streams}
use Rattle.collect_top.specs.Outside.{Images}
use Rattle.collect_top.specs.Run.{AnswersOver, Closed}

-- a count that has risen
some_true : (b : Bool) → (cond {A = ℕ} b 1 0 ≡ 0 → ⊥) → b ≡ true
some_true true other = refl
some_true false other = absurd (other refl)

pub rose_of : (before now : ℕ) → risen before now ≢ 0 → Rose before now
rose_of before now other = leb-true (min (before + 1) (2 ^ 64 - 1)) now (some_true (nat_le (min (before + 1) (2 ^ 64 - 1)) now) other)

module _ {D : Type 0} (images : Images D) (faults : D → ℕ) (old made end_device now : DeviceView D) (count count_now refusals closings refusals_now closings_now : ℕ) (before after : Streams) (disk : D) (trail : Trail) (end ended : ScriptEnd) where
  pub answers_over : made ≡ old → count ≡ faults old.disk → now ≡ end_device → ended ≡ end
      → (added : List Entry) → Grows (seen_of faults made count refusals closings) (seen_of faults end_device count_now refusals_now closings_now) added
      → AnswersScript initial (entries_of end_device.entries) (option_to_list end_device.rest) before after (length (entries_of made.entries)) end
      → ((size : ℕ) → end ≡ Err (script.JournalFull size) → size ≡ end_of (payloads_of (entries_of end_device.entries)))
      → (end ≡ Err script.DiskFault → risen count_now (faults end_device.disk) ≢ 0)
      → LeadsOn images.since images.clock faults count count_now made end_device
      → Closed images now disk trail
      → AnswersOver images faults old before after disk trail ended
  answers_over made_is count_is now_is end_is added grows answers full failed leads closed =
      subst (AnswersOver images faults old before after disk trail) (sym end_is) (record {
        now = end_device;
        closed = subst (λ v. Closed images v disk trail) now_is closed;
        added = added;
        gained = grows.trail ∙ ap (λ v. entries_of v.entries ++ added) made_is;
        answers = subst (λ v. AnswersScript initial (entries_of end_device.entries) (option_to_list end_device.rest) before after (length (entries_of v.entries)) end) made_is answers;
        full = full;
        failed = λ e. subst (λ n. Rose n (faults disk)) count_is (subst (λ d. Rose count (faults d)) (sym closed.disk_is ∙ refl) (disk_rose e));
        leads = subst (λ v. Leads images.since images.clock faults v end_device) made_is leads.leads;
      })
    where
      disk_rose : end ≡ Err script.DiskFault → Rose count (faults now.disk)
      disk_rose e = subst (λ (v : DeviceView D). Rose count (faults v.disk)) (sym now_is) (subst (λ n. Rose n (faults end_device.disk)) leads.same (rose_of count_now (faults end_device.disk) (failed e)))
