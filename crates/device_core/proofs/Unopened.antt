-- What an opening leaves whose own entry wasn't appended.
use Rattle.std.proofs.Common.{◌≡◌, ℕ, List, [], ◌∷◌, ◌++◌, length, Option, Some, Ok, refl, sym, ap, subst}
use Rattle.std.specs.Prelude.{option_to_list}
use Rattle.entry_form.specs.declared.entry.Entry.{Entry}
use Rattle.device_journal.specs.declared.fault.OpenFault.{OpenFault}
use Rattle.device_journal.specs.Moments.{LeavesFrom, IsAsRead, synced, synced_at}
use Rattle.device_rules.specs.declared.told.SubmitFault.{SubmitFault}
use Rattle.device_rules.specs.declared.told.SubmitFault.TheVariants as submitting
use Rattle.device_rules.specs.Trail.{entries_of}
use Rattle.device_core.specs.Crash.{AddsOnly, HasAtLeast, IsLeft, LeavesUnopened, unappended, tried}
use Rattle.device_core.specs.Faults.{ContentReadsAs, IsSubmitFault, open_fault_of}
use Rattle.device_core.specs.View.{DeviceView}
use Rattle.device_core.proofs.Appending.{failed_as}
use Rattle.device_core.proofs.Crashes.{length-entries}
use Rattle.device_core.proofs.Opening.{then_appended}

-- an opening that stopped behind the journal's
pub from_load : {D : Type 0} (clock : D → ℕ) (may : D → List ℕ → Type 0) (since : D → ℕ → List ℕ → Type 0) (content : D → Option (List ℕ)) (disk : D) (old : DeviceView D) (entry : Entry) (fault : OpenFault)
    → old.opened ≡ synced_at clock disk → LeavesFrom clock since disk old.disk old.opened (IsAsRead (content disk)) → LeavesUnopened clock may since (content disk) entry fault disk old.disk
from_load clock may since content disk old entry fault moment as_read = unappended (synced (subst (λ (t : ℕ). LeavesFrom clock since disk old.disk t (IsAsRead (content disk))) moment as_read))

module _ {D : Type 0} (clock : D → ℕ) (may : D → List ℕ → Type 0) (since : D → ℕ → List ℕ → Type 0) (content : D → Option (List ℕ)) (faults : D → ℕ)
    (disk : D) (old new : DeviceView D) (entry : Entry) (moment : old.opened ≡ synced_at clock disk)
    (as_read : LeavesFrom clock since disk old.disk old.opened (IsAsRead (content disk))) where
  from_sync : LeavesFrom clock since disk old.disk (synced_at clock disk) (IsAsRead (content disk))
  from_sync = subst (λ (t : ℕ). LeavesFrom clock since disk old.disk t (IsAsRead (content disk))) moment as_read

  unchanged : (fault : SubmitFault) → new ≡ old → LeavesUnopened clock may since (content disk) entry (open_fault_of fault) disk new.disk
  unchanged fault same = unappended (synced (subst (λ (d : D). LeavesFrom clock since disk d (synced_at clock disk) (IsAsRead (content disk))) (sym (ap (λ v. v.disk) same)) from_sync))

  pub left_unopened : (fault : SubmitFault) → IsSubmitFault content faults entry old new fault → (fault ≡ submitting.DiskFault → new.rest ≡ Some entry)
      → ContentReadsAs content disk (Ok (entries_of old.entries))
      → AddsOnly since clock old.disk new.disk (HasAtLeast (entries_of new.entries ++ option_to_list new.rest) (length old.entries))
      → LeavesUnopened clock may since (content disk) entry (open_fault_of fault) disk new.disk
  left_unopened (submitting.Refused position why) h rest reads adds = unchanged (submitting.Refused position why) h.0
  left_unopened (submitting.Full size) h rest reads adds = unchanged (submitting.Full size) h.0
  left_unopened (submitting.Failed count) h rest reads adds = unchanged (submitting.Failed count) h.0
  left_unopened submitting.DiskFault h rest reads adds =
      let with_entry = subst (λ (l : List Entry). AddsOnly since clock old.disk new.disk (HasAtLeast l (length old.entries))) (sym (failed_as old.entries new.entries entry new.rest h.0.entries (rest refl))) adds in
      tried refl (then_appended clock since (content disk) entry disk old.disk new.disk (synced_at clock disk) (entries_of old.entries) (length old.entries) from_sync reads (sym (length-entries old.entries)) with_entry)
