-- Why a device isn't opened.
use Rattle.std.proofs.Common.{◌≡◌, ◌≢◌, ◌⊎◌, ⊎_elim, inl, inr, ◌<◌, ◌≤◌, length-append, ℕ, List, ◌∷◌, [], ◌++◌, length, Option, Some, None, Ok, refl, ◌∙◌, subst, arith}
use Rattle.std.specs.Prelude.{IfSome}
use Rattle.std.proofs.lemmas.Bool.{cases_lt}
use Rattle.std.proofs.lemmas.List.{take_all, take-append-le}
use Rattle.field_io.specs.Causes.{Rose}
use Rattle.entry_form.specs.declared.entry.Entry.{Entry}
use Rattle.device_journal.specs.declared.fault.OpenFault.{OpenFault}
use Rattle.device_journal.specs.declared.fault.OpenFault.TheVariants as opening
use Rattle.device_journal.specs.Frames.{HasFrames, Stands, IsOffAt}
use Rattle.device_journal.specs.Opened.{OfOpening}
use Rattle.device_journal.specs.Moments.{LeavesFrom, IsAsRead}
use Rattle.device_core.specs.Crash.{HasAtLeast, IsLeftByOpening, IsLeft, AddsOnly}
use Rattle.device_state.specs.declared.state.State.{State}
use Rattle.device_core.specs.Faults.{ReadsAs, ContentReadsAs, IsOpenFault}
use Rattle.device_core.specs.Images.{StandsFor}
use Rattle.device_core.specs.Replay.{IsSpelledBy, IsRecoverFault}
use Rattle.device_state.specs.State.{initial}
use Rattle.device_rules.specs.Trail.{replay}
use Rattle.device_core.proofs.Crashes.{leaves_then}

pub if_some_all : {X : Type 0} (o : Option X) (P : X → Type 0) → ((x : X) → o ≡ Some x → P x) → IfSome o P
if_some_all None P f = tt
if_some_all (Some x) P f = f x refl

module _ {D : Type 0} (content : D → Option (List ℕ)) (faults : D → ℕ) (old new : D) where
  pub journal_fault : (entry : Entry) (fault : OpenFault) → OfOpening fault → ((at : ℕ) → fault ≡ opening.BadJournal at → (image : List ℕ) → content old ≡ Some image → IsOffAt image at)
      → (fault ≡ opening.DiskFault → Rose (faults old) (faults new)) → (fault ≢ opening.DiskFault → faults new ≡ faults old) → IsOpenFault content faults entry old new fault
  journal_fault entry opening.DiskFault of off cause kept = cause refl
  journal_fault entry (opening.BadJournal at) of off cause kept = (kept (λ e. absurd (cc (e))), if_some_all (content old) _ (off at refl))
  journal_fault entry (opening.BadEntry position) of off cause kept = absurd of
  journal_fault entry (opening.IllegalEntry position) of off cause kept = absurd of
  journal_fault entry (opening.Full size) of off cause kept = absurd of
  journal_fault entry opening.NoMemory of off cause kept = kept (λ e. absurd (cc (e)))

  pub stands_for : (payloads : List (List ℕ)) (entries : List Entry) → Stands (content old) payloads → IsSpelledBy payloads entries → (image : List ℕ) → content old ≡ Some image → StandsFor image entries
  stands_for payloads entries stands spelled image is = record { fit = spelled.fit; frames = subst (λ (l : List (List ℕ)). HasFrames image l) spelled.spelled (stands image is) }

  pub recover_fault : (entry : Entry) (payloads : List (List ℕ)) → Stands (content old) payloads → faults new ≡ faults old → (fault : OpenFault) → IsRecoverFault payloads fault → IsOpenFault content faults entry old new fault
  recover_fault entry payloads stands same (opening.BadEntry position) why = (same, if_some_all (content old) _ (λ image is. (payloads, stands image is, why)))
  recover_fault entry payloads stands same (opening.IllegalEntry position) why = (same, if_some_all (content old) _ (λ image is. (why.0, stands_for payloads why.0 stands why.1 image is, why.2)))
  recover_fault entry payloads stands same opening.NoMemory why = same
  recover_fault entry payloads stands same _ why = absurd why

  pub reads_ok : (payloads : List (List ℕ)) (entries : List Entry) (state : State) → Stands (content old) payloads → IsSpelledBy payloads entries → replay initial entries ≡ Some state → ContentReadsAs content old (Ok entries)
  reads_ok payloads entries state stands spelled legal = if_some_all (content old) _ (λ image is. (stands_for payloads entries stands spelled image is, (state, legal)))

pub short_none : (image : List ℕ) (payloads : List (List ℕ)) → length image ≤ 9 → HasFrames image payloads → payloads ≡ []
short_none image payloads le (inl h) = h.1
short_none image payloads le (inr h) = absurd (omega (arith, le, h.0))

-- what a disk reads is left by opening
left_as_read : (opening : Entry) (image c : List ℕ) → (c ≡ image) ⊎ ((length image ≤ 9) × (length c ≤ 9)) → IsLeftByOpening opening image c
left_as_read opening image c (inl same) = inl same
left_as_read opening image c (inr short) = inr ([], (record { fit = tt; frames = inl (short.0, refl) }, (initial, refl)), inl record { fit = tt; frames = inl (short.1, refl) })

unwrapped : {X : Type 0} (o : Option X) (P : X → Type 0) (x : X) → IfSome o P → o ≡ Some x → P x
unwrapped None P x h is = absurd (cc (is))
unwrapped (Some y) P x h is = subst P (cc (is)) h

-- the front of a list and one more that has all of the list
all_or_more : (entries : List Entry) (opening : Entry) (c : List ℕ) (least : ℕ) → least ≡ length entries → HasAtLeast (entries ++ opening ∷ []) least c → StandsFor c entries ⊎ StandsFor c (entries ++ opening ∷ [])
all_or_more entries opening c least all has = by (cases_lt (length entries) has.count)
  where
    by : (length entries < has.count) ⊎ (has.count ≤ length entries) → StandsFor c entries ⊎ StandsFor c (entries ++ opening ∷ [])
    by (inl more) = inr (subst (StandsFor c) (take_all has.count (entries ++ opening ∷ []) (omega (arith, more, length-append entries (opening ∷ [])))) has.stands)
    by (inr few) = inl (subst (StandsFor c) (take-append-le has.count entries (opening ∷ []) few ∙ take_all has.count entries (omega (arith, has.enough, all))) has.stands)

module _ {D : Type 0} (clock : D → ℕ) (since : D → ℕ → List ℕ → Type 0) (content : Option (List ℕ)) (opening : Entry) where
  left_of : (c : List ℕ) → IsAsRead content c → IsLeft content opening c
  left_of c read image is = left_as_read opening image c (subst (λ (l : List ℕ). (c ≡ l) ⊎ ((length l ≤ 9) × (length c ≤ 9))) (cc (is, read.1)) read.2)

  -- the opening's own append, over what was read
  pub then_appended : (old mid new : D) (t : ℕ) (entries : List Entry) (least : ℕ) → LeavesFrom clock since old mid t (IsAsRead content) → IfSome content (λ image. ReadsAs image (Ok entries)) → least ≡ length entries
      → AddsOnly since clock mid new (HasAtLeast (entries ++ opening ∷ []) least) → LeavesFrom clock since old new t (IsLeft content opening)
  then_appended old mid new t entries least leaves reads all adds =
      leaves_then clock since old mid new t (IsAsRead content) (HasAtLeast (entries ++ opening ∷ []) least) (IsLeft content opening) leaves adds left_of appended
    where
      appended : (c : List ℕ) → HasAtLeast (entries ++ opening ∷ []) least c → IsLeft content opening c
      appended c has image is = inr (entries, unwrapped content (λ image. ReadsAs image (Ok entries)) image reads is, all_or_more entries opening c least all has)
