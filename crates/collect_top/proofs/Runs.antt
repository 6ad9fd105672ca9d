-- A call that doesn't open the device, and one that does.
use Rattle.std.proofs.Common.{◌≡◌, ◌⊎◌, ⊎_elim, inl, inr, ℕ, suc, ◌≤◌, List, [], ◌∷◌, ◌++◌, IsTrue, Bool, true, false, length, take, drop, Option, Some, None, Ok, Err, refl, ap, sym, ◌∙◌, subst, arith, append_assoc, length-append}
use Rattle.std.specs.Prelude.{option_to_list, if◌then◌else◌}
use Rattle.std.specs.List.{slice_get, AllByRecursion}
use Rattle.std.proofs.lemmas.List.{append-nil, append_cancel_left, drop_at, take-append-le}
use Rattle.std.proofs.Math.ListN.{length-take}
use Rattle.field_io.specs.Causes.{Rose}
use Rattle.entry_form.specs.declared.entry.Entry.{Entry}
use Rattle.entry_form.specs.declared.hand.Hand.TheVariants as hands
use Rattle.disk_model.specs.Disk.{AddsNoImage}
use Rattle.device_journal.specs.declared.fault.OpenFault.{OpenFault}
use Rattle.device_journal.specs.declared.fault.OpenFault.TheVariants as opening
use Rattle.device_journal.specs.Frames.{end_of}
use Rattle.device_journal.specs.Moments.{LeavesFrom, synced_at, unsynced}
use Rattle.device_rules.specs.declared.trail.Trail.{Trail}
use Rattle.device_rules.specs.Caller.{is_of}
use Rattle.device_state.specs.State.{initial}
use Rattle.device_rules.specs.Trail.{IsLegal, entries_of}
use Rattle.device_core.specs.Crash.{Crash, HasAtLeast, LeavesUnopened, unappended}
use Rattle.device_core.specs.CrashLaws.{at_least_less, at_least_more}
use Rattle.device_core.specs.Faults.{ContentReadsAs, IsOpenFault}
use Rattle.device_core.specs.Images.{payloads_of}
use Rattle.device_core.specs.View.{DeviceView, IsOpened}
use Rattle.device_core.proofs.Crashes.{leaves_then, length-entries}
use Rattle.collect_script.specs.declared.stop.ScriptStop.{ScriptStop}
use Rattle.collect_script.specs.declared.stop.ScriptStop.TheVariants as script
use Rattle.collect_script.specs.Ends.{AnswersScript, CantAnswer, Ends, ScriptEnd, Streams, cut, faulted, finished, full, full_round, starved_at, unanswered, unread}
use Rattle.collect_script.specs.Transcript.{of_script}
use Rattle.collect_script.proofs.Histories.{slice_get-grow, slice_get_middle}
use Rattle.collect_top.specs.declared.stop.Stop.TheVariants.{Opening, Script}
use Rattle.collect_top.specs.declared.words.Work.{Work}
use Rattle.collect_top.specs.declared.words.Work.TheVariants as works
use Rattle.collect_top.specs.Crash.{LeavesEntries, opened, unopened}
use Rattle.collect_top.specs.Outside.{Images}
use Rattle.collect_top.specs.Parts.{Begins, Continues, Prints, answers, own_opening, shows}
use Rattle.collect_top.specs.Parts as parts
use Rattle.collect_top.specs.Run.{AnswersOver, HasRun, ShowsOver}
use Rattle.collect_top.specs.Shown.{Shows, shown_text}
use Rattle.collect_top.specs.Shown as show
use Rattle.collect_top.specs.Stop.{End, end_of_script}

-- a disk that isn't called
adds_none : {D : Type 0} (images : Images D) (disk : D) → AddsNoImage images.clock images.may images.since disk disk
adds_none images disk = record { later = omega arith; now = λ c h. h; past = λ t c le h. h; keeps = λ t c le h. h }

-- ---- not opened

abbrev end_is : OpenFault → End
end_is fault = Err (Opening fault)

module _ {D : Type 0} (images : Images D) (content : D → Option (List ℕ)) (faults : D → ℕ) (work : Work) (old new disk : D) (streams : Streams) (trail : Trail) (end : End) (fault : OpenFault) where
  pub has_run_unopened : ((disk ≡ new) × (trail ≡ record { start = initial; entries = [] }) × (end ≡ Err (Opening fault)))
      → IsOpenFault content faults own_opening old new fault
      → LeavesUnopened images.clock images.may images.since (content old) own_opening fault old new
      → HasRun images content faults work old disk streams streams trail end
  has_run_unopened made cause leaves =
      subst (λ d. HasRun images content faults work old d streams streams trail end) (sym made.0)
      (subst (λ t. HasRun images content faults work old new streams streams t end) (sym made.1)
      (subst (HasRun images content faults work old new streams streams (record { start = initial; entries = [] })) (sym made.2) (record {
        found = None;
        rest = [];
        start = refl;
        legal = (initial, refl);
        begins = refl;
        prints = parts.unopened work fault refl refl;
        leaves = unopened fault leaves;
        rest_is = inl refl;
        fault = λ other is. subst (IsOpenFault content faults own_opening old new) (same_fault other is) cause;
        failed = λ is. absurd (cc (is));
      })))
    where
      same_fault : (other : OpenFault) → end_is fault ≡ end_is other → fault ≡ other
      same_fault other is = cc (is)

pub has_run_at_once : {D : Type 0} (images : Images D) (content : D → Option (List ℕ)) (faults : D → ℕ) (work : Work) (old disk : D) (streams : Streams) (trail : Trail) (end : End)
    → ((disk ≡ old) × (trail ≡ record { start = initial; entries = [] }) × (end ≡ Err (Opening opening.NoMemory)))
    → HasRun images content faults work old disk streams streams trail end
has_run_at_once images content faults work old disk streams trail end made =
    has_run_unopened images content faults work old old disk streams trail end opening.NoMemory made refl (unappended (unsynced (adds_none images old)))

-- ---- opened

abbrev AllScript : List Entry → Type 0
AllScript = AllByRecursion (λ e. IsTrue (is_of hands.Script e))

all_front : (xs ys : List Entry) → AllScript (xs ++ ys) → AllScript xs
all_front [] ys p = tt
all_front (x ∷ xs) ys p = (p.0, all_front xs ys p.1)

all_back : (xs ys : List Entry) → AllScript (xs ++ ys) → AllScript ys
all_back [] ys p = p
all_back (x ∷ xs) ys p = all_back xs ys p.1

all_script : (entries : List Entry) → AllScript entries → of_script entries ≡ entries
all_script [] all = refl
all_script (e ∷ entries) all = by (is_of hands.Script e) all.0 (all_script entries all.1)
  where
    by : (b : Bool) → IsTrue b → of_script entries ≡ entries → (if b then e ∷ of_script entries else of_script entries) ≡ e ∷ entries
    by true h rest = ap (λ l. e ∷ l) rest
    by false h rest = absurd (cc (h))

-- what stands before the opening, and how many entries there are with it
opened_length : (found : ℕ) (entries : List Entry) (opening : Entry) → entries ≡ take found entries ++ opening ∷ []
    → (length (take found entries) ≡ found) × (length entries ≡ suc found)
opened_length found entries opening last =
    let both = ap length last ∙ length-append (take found entries) (opening ∷ []) in
    let front = length-take found entries in
    (omega arith, omega arith)

-- none of the script's entries stands behind, but where a fault of the disk ended it
cant_rest : (start : _) (entries rest : List Entry) (before after : Streams) (text : List ℕ) (last : ℕ) (line : _) (stop : ScriptStop)
    → CantAnswer start entries rest before after text last line stop → (of_script rest ≡ []) ⊎ (stop ≡ script.DiskFault)
cant_rest start entries rest before after text last line stop (faulted may puts) = inr refl
cant_rest start entries rest before after text last line stop (starved_at may none puts) = inl none
cant_rest start entries rest before after text last line stop (full size past settled puts) = inl settled.none_left
cant_rest start entries rest before after text last line stop (full_round command size is known past may none puts) = inl none
cant_rest start entries rest before after text last line stop (cut position piece front printed settled is_cut gained rose) = inl settled.none_left

ends_rest : (start : _) (entries rest : List Entry) (before after : Streams) (answered : List (List ℕ)) (text : List ℕ) (last : ℕ) (end : ScriptEnd)
    → Ends start entries rest before after answered text last end → (of_script rest ≡ []) ⊎ (end ≡ Err script.DiskFault)
ends_rest start entries rest before after answered text last end (finished behind reads whole settled puts calm) = inl settled.none_left
ends_rest start entries rest before after answered text last end (unread behind stop reads on cause settled puts) = inl settled.none_left
ends_rest start entries rest before after answered text last end (unanswered line behind stop reads on cause calm) =
    ⊎_elim (λ none. inl none) (λ is. inr (ap Err is)) (cant_rest start entries rest before after text last _ stop cause)

end_failed : (end : ScriptEnd) → end_of_script end ≡ Err (Script script.DiskFault) → end ≡ Err script.DiskFault
end_failed (Ok done) is = absurd (cc (is))
end_failed (Err stop) is = let e : stop ≡ script.DiskFault = cc (is) in ap Err e

end_unopened : (end : ScriptEnd) (fault : OpenFault) → end_of_script end ≡ Err (Opening fault) → ⊥
end_unopened (Ok done) fault is = absurd (cc (is))
end_unopened (Err stop) fault is = absurd (cc (is))

module _ {D : Type 0} (images : Images D) (content : D → Option (List ℕ)) (faults : D → ℕ) (old_disk disk : D) (device : DeviceView D) (before after : Streams) (trail : Trail)
    (opened_so : IsOpened own_opening device) (read : ContentReadsAs content old_disk (Ok (take device.found (entries_of device.entries))))
    (moment : device.opened ≡ synced_at images.clock old_disk)
    (any : LeavesFrom images.clock images.since old_disk device.disk device.opened (HasAtLeast (entries_of device.entries) device.found))
    (kept : faults device.disk ≡ faults old_disk) where
  sizes : (length (take device.found (entries_of device.entries)) ≡ device.found) × (length (entries_of device.entries) ≡ suc device.found)
  sizes = opened_length device.found (entries_of device.entries) own_opening opened_so.last

  at_opening : slice_get (entries_of device.entries) device.found ≡ Some own_opening
  at_opening =
      ap (λ es. slice_get es device.found) opened_so.last ∙ ap (slice_get (take device.found (entries_of device.entries) ++ own_opening ∷ [])) (sym sizes.0)
      ∙ slice_get_middle (take device.found (entries_of device.entries)) [] own_opening

  -- the script's entries stand behind the opening
  continues : (entries more : List Entry) → entries ≡ entries_of device.entries ++ more → AllScript more → Continues (content old_disk) entries device.found
  continues entries more is by_script = record {
    read = subst (λ es. ContentReadsAs content old_disk (Ok es)) (sym (ap (take device.found) is ∙ take-append-le device.found (entries_of device.entries) more (omega (arith, sizes.1)))) read;
    opening = ap (λ es. slice_get es device.found) is ∙ slice_get-grow initial (entries_of device.entries) more (entries_of device.entries) more device.found own_opening at_opening;
    script = subst AllScript (sym (ap (drop (suc device.found)) is ∙ drop_at (entries_of device.entries) more (suc device.found) sizes.1)) by_script;
  }

  pub has_run_answers : (end : ScriptEnd) → AnswersOver images faults device before after disk trail end
      → HasRun images content faults works.Run old_disk disk before after trail (end_of_script end)
  has_run_answers end over =
      let rest = option_to_list over.now.rest in
      let now_is : entries_of over.now.entries ≡ entries_of trail.entries = ap entries_of (sym over.closed.entries_are) in
      let after_is : entries_of trail.entries ≡ entries_of device.entries ++ over.added = sym now_is ∙ over.gained in
      let none_before : entries_of device.entries ++ option_to_list device.rest ≡ entries_of device.entries =
      ap (λ r. entries_of device.entries ++ option_to_list r) opened_so.ready.none_left ∙ append-nil (entries_of device.entries) in
      let more_is : over.leads.more ≡ over.added ++ rest =
      append_cancel_left (entries_of device.entries) over.leads.more (over.added ++ rest) (
      ap (λ es. es ++ over.leads.more) (sym none_before) ∙ sym over.leads.grows ∙ ap (λ es. es ++ rest) over.gained ∙ append_assoc (entries_of device.entries) over.added rest
      ) in
      let by_script : AllScript (over.added ++ rest) = subst AllScript more_is over.leads.script in
      record {
        found = Some device.found;
        rest = rest;
        start = over.closed.start;
        legal = subst (λ es. IsLegal initial (es ++ rest)) now_is over.closed.legal;
        begins = continues (entries_of trail.entries) over.added after_is (all_front over.added rest by_script);
        prints = answers device.found end refl
            (subst (λ n. AnswersScript initial (entries_of trail.entries) rest before after n end) sizes.1
            (subst (λ es. AnswersScript initial es rest before after (length (entries_of device.entries)) end) now_is over.answers))
            (λ size is. over.full size is ∙ ap (λ es. end_of (payloads_of es)) now_is);
        leaves = opened (end_of_script end) device.found (leaves_entries end over);
        rest_is = ⊎_elim (λ none. inl (sym (all_script rest (all_back over.added rest by_script)) ∙ none)) (λ is. inr (ap end_of_script is))
            (ends_rest initial (entries_of over.now.entries) rest before after over.answers.answered over.answers.text over.answers.last end over.answers.ends);
        fault = λ fault is. absurd (end_unopened end fault is);
        failed = λ is. subst (λ n. Rose n (faults disk)) kept (over.failed (end_failed end is));
      }
    where
      leaves_entries : (end : ScriptEnd) (over : AnswersOver images faults device before after disk trail end)
          → LeavesEntries images old_disk disk device.found trail.entries (option_to_list over.now.rest)
      leaves_entries end over =
          let rest = option_to_list over.now.rest in
          let now_is : entries_of over.now.entries ≡ entries_of trail.entries = ap entries_of (sym over.closed.entries_are) in
          let all : entries_of over.now.entries ++ rest ≡ entries_of device.entries ++ (over.added ++ rest) =
          ap (λ es. es ++ rest) over.gained ∙ append_assoc (entries_of device.entries) over.added rest in
          let few : device.found ≤ length device.entries = omega (arith, length-entries device.entries, sizes.1) in
          let from : LeavesFrom images.clock images.since old_disk over.now.disk device.opened (HasAtLeast (entries_of over.now.entries ++ rest) device.found) =
          leaves_then images.clock images.since old_disk device.disk over.now.disk device.opened _ _ _ any over.leads.images
          (λ c has. subst (λ (l : List Entry). HasAtLeast l device.found c) (sym all) (at_least_more (entries_of device.entries) (over.added ++ rest) device.found c has))
          (λ c has. at_least_less (entries_of over.now.entries ++ rest) device.found (length device.entries) c few has) in
          record {
            leaves = subst (λ t. LeavesFrom images.clock images.since old_disk disk t (HasAtLeast (entries_of trail.entries ++ rest) device.found)) moment
                (subst (λ (d : D). LeavesFrom images.clock images.since old_disk d device.opened (HasAtLeast (entries_of trail.entries ++ rest) device.found)) (sym over.closed.disk_is)
                (subst (λ (l : List Entry). LeavesFrom images.clock images.since old_disk over.now.disk device.opened (HasAtLeast (l ++ rest) device.found)) now_is from));
            crash = subst (λ t. Crash images.since images.clock disk t device.found trail.entries rest) (over.leads.opened ∙ moment)
                (subst (λ (n : ℕ). Crash images.since images.clock disk over.now.opened n trail.entries rest) over.leads.found over.closed.crash);
          }

  pub has_run_shows : (work : Work) (end : ScriptEnd) → ShowsOver images work device before after disk trail end
      → after.left ≡ before.left → after.source_faults ≡ before.source_faults
      → HasRun images content faults work old_disk disk before after trail (end_of_script end)
  has_run_shows work end over same_left same_faults =
      let now_is : entries_of device.entries ≡ entries_of trail.entries = ap entries_of (sym over.closed.entries_are) in
      let none : option_to_list device.rest ≡ [] = ap option_to_list opened_so.ready.none_left in
      record {
        found = Some device.found;
        rest = [];
        start = over.closed.start;
        legal = subst (λ r. IsLegal initial (entries_of trail.entries ++ r)) none (subst (λ es. IsLegal initial (es ++ option_to_list device.rest)) now_is over.closed.legal);
        begins = continues (entries_of trail.entries) [] (sym now_is ∙ sym (append-nil (entries_of device.entries))) tt;
        prints = shows work over.text device.found end refl (ap (shown_text work) (sym now_is) ∙ over.is)
            (ap length (sym now_is) ∙ sizes.1) refl over.shows same_left same_faults;
        leaves = opened (end_of_script end) device.found (record {
          leaves = subst (λ t. LeavesFrom images.clock images.since old_disk disk t (HasAtLeast (entries_of trail.entries ++ []) device.found)) moment
              (subst (λ (d : D). LeavesFrom images.clock images.since old_disk d device.opened (HasAtLeast (entries_of trail.entries ++ []) device.found)) (sym over.closed.disk_is)
              (subst (λ (l : List Entry). LeavesFrom images.clock images.since old_disk device.disk device.opened (HasAtLeast l device.found)) (now_is ∙ sym (append-nil (entries_of trail.entries))) any));
          crash = subst (λ t. Crash images.since images.clock disk t device.found trail.entries []) moment
              (subst (λ r. Crash images.since images.clock disk device.opened device.found trail.entries r) none over.closed.crash);
        });
        rest_is = inl refl;
        fault = λ fault is. absurd (end_unopened end fault is);
        failed = λ is. absurd (shown_failed over.text end (end_failed end is) over.shows);
      }
    where
      shown_failed : (text : List ℕ) (end : ScriptEnd) → end ≡ Err script.DiskFault → Shows text before after end → ⊥
      shown_failed text end is (show.shown gained same) = absurd (cc (is))
      shown_failed text end is (show.cut front is_cut gained rose) = absurd (cc (is))
      shown_failed text end is (show.starved gained same) = absurd (cc (is))
