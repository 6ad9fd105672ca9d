-- What an append leaves of a device.
use Rattle.std.proofs.Common.{◌≡◌, ⊎_elim, ℕ, ◌+◌, ◌<◌, ◌≤◌, List, [], ◌∷◌, ◌++◌, length, map, Option, Some, None, Result, Ok, Err, refl, sym, ◌∙◌, ap, subst, arith}
use Rattle.std.specs.Prelude.{option_map, option_to_list}
use Rattle.std.specs.Result.{result_ok}
use Rattle.std.specs.List.{AllByRecursion}
use Rattle.std.proofs.lemmas.Bool.{cases_lt}
use Rattle.entry_form.specs.declared.entry.Entry.{Entry}
use Rattle.entry_codec.specs.Spelling.{Fits, spelling}
use Rattle.device_journal.specs.declared.fault.AppendFault.{AppendFault}
use Rattle.device_journal.specs.declared.fault.AppendFault.TheVariants as journal
use Rattle.device_journal.specs.Frames.{end_of, limit, HasFrames, Stands}
use Rattle.device_journal.specs.Moments.{LeavesOnly, LeavesFrom}
use Rattle.device_journal.specs.Sound.{IsBeforeOrAfter}
use Rattle.device_rules.specs.declared.answer.Answer.{Answer}
use Rattle.device_state.specs.declared.state.State.{State}
use Rattle.device_rules.specs.declared.trail.Marked.{Marked}
use Rattle.device_core.specs.Crash.{AddsOnly, Crash, HasAtLeast}
use Rattle.device_core.specs.Device.{IsKept, IsLoaded}
use Rattle.device_core.specs.Images.{payloads_of}
use Rattle.device_core.specs.Replay.{IsSpelledBy}
use Rattle.device_state.specs.State.{initial}
use Rattle.device_rules.specs.Step.{IsAllowed, step}
use Rattle.device_rules.specs.Trail.{IsLegal, entries_of, marked_at, replay, state_after}
use Rattle.device_core.specs.View.{Appends, IsOpened, DeviceView}
use Rattle.std.proofs.Common.{take}
use Rattle.std.proofs.lemmas.List.{append-nil, take-append-le, take_all}
use Rattle.field_io.specs.Causes.{Rose}
use Rattle.device_rules.specs.declared.told.SubmitFault.{SubmitFault}
use Rattle.device_rules.specs.declared.told.SubmitFault.TheVariants as submitting
use Rattle.device_core.specs.Faults.{ContentReadsAs, IsFull, IsOpenFault, IsSubmitFault, open_fault_of}
use Rattle.device_core.specs.CrashLaws.{adds_same, at_least_more}
use Rattle.device_core.proofs.Crashes.{length-entries, leaves_then, crash_failed, crash_grown, crash_found}
use Rattle.device_core.proofs.Payloads.{end_of-push, fit-push, payloads-push}
use Rattle.device_rules.proofs.Replays.{after_step, entries-push, replay-push}

-- a step on a state that is the same
pub stepped_on : (mid old new : State) (entry : Entry) (answer : Answer) → mid ≡ old → step mid entry ≡ Ok (new, answer)
    → step old entry ≡ Ok (new, answer)
stepped_on mid old new entry answer same stepped = subst (λ s. step s entry ≡ Ok (new, answer)) same stepped

-- an append that answered otherwise had no fault before it
pub was_sound : (failed : Option ℕ) (result other : Result ℕ AppendFault) → result ≡ other → ((faults : ℕ) → other ≡ Err (journal.Failed faults) → ⊥) → ((faults : ℕ) → failed ≡ Some faults → result ≡ Err (journal.Failed faults)) → failed ≡ None
was_sound None result other is apart told = refl
was_sound (Some n) result other is apart told = absurd (apart n (sym is ∙ told n refl))

pub had_room : (size n : ℕ) (result other : Result ℕ AppendFault) → result ≡ other → ((k : ℕ) → other ≡ Err (journal.Full k) → ⊥) → (limit < size + 5 + n → result ≡ Err (journal.Full size)) → size + 5 + n ≤ limit
had_room size n result other is apart full = ⊎_elim (λ past. absurd (apart size (sym is ∙ full past))) (λ le. le) (cases_lt limit (size + 5 + n))

pub ok_not_failed : (m faults : ℕ) → Ok m ≡ Err (journal.Failed faults) → ⊥
ok_not_failed m faults is = absurd (cc (is))

pub ok_not_full : (m k : ℕ) → Ok m ≡ Err (journal.Full k) → ⊥
ok_not_full m k is = absurd (cc (is))

-- the entries and the rest of an append that was done, and of one that met a fault
pub done_as : (old new : List Marked) (moment : ℕ) (entry : Entry) (rest : Option Entry) → new ≡ old ++ marked_at moment entry ∷ [] → rest ≡ None → entries_of old ++ entry ∷ [] ≡ entries_of new ++ option_to_list rest
done_as old new moment entry rest is none = sym (ap entries_of is ∙ entries-push old (marked_at moment entry)) ∙ sym (append-nil (entries_of new)) ∙ ap (λ r. entries_of new ++ option_to_list r) (sym none)

pub failed_as : (old new : List Marked) (entry : Entry) (rest : Option Entry) → new ≡ old → rest ≡ Some entry → entries_of old ++ entry ∷ [] ≡ entries_of new ++ option_to_list rest
failed_as old new entry rest is some = λ i. entries_of (sym is i) ++ option_to_list (sym some i)

legal_with : (entries : List Entry) (rest : Option Entry) (state : State) → rest ≡ None → replay initial entries ≡ Some state → IsLegal initial (entries ++ option_to_list rest)
legal_with entries rest state none legal = (state, ap (λ r. replay initial (entries ++ option_to_list r)) none ∙ ap (λ l. replay initial l) (append-nil entries) ∙ legal)

module _ {D : Type 0} (content : D → Option (List ℕ)) (since : D → ℕ → List ℕ → Type 0) (clock : D → ℕ) where
  -- an append that was done
  pub kept_ok : (old new : DeviceView D) (size size_now : ℕ) (entry : Entry) (answer : Answer) (moment : ℕ) → IsKept content since clock size old → old.failed ≡ None → Fits entry
      → new.opened ≡ old.opened → new.found ≡ old.found → new.rest ≡ old.rest
      → new.entries ≡ old.entries ++ marked_at moment entry ∷ [] → step old.state entry ≡ Ok (new.state, answer)
      → ((payloads : List (List ℕ)) → Stands (content old.disk) payloads → LeavesOnly clock since old.disk new.disk (IsBeforeOrAfter payloads (spelling entry)))
      → moment ≡ clock new.disk → ((payloads : List (List ℕ)) → Stands (content old.disk) payloads → (c : List ℕ) → since new.disk moment c → HasFrames c (payloads ++ spelling entry ∷ []))
      → ((payloads : List (List ℕ)) → Stands (content old.disk) payloads → Stands (content new.disk) (payloads ++ spelling entry ∷ []))
      → size_now ≡ size + 5 + length (spelling entry) → IsKept content since clock size_now new
  kept_ok old new size size_now entry answer moment kept sound one same_opened same_found same_rest entries stepped any_moment at durable stands longer =
      let is = kept.sound sound in
      let all : entries_of new.entries ≡ entries_of old.entries ++ entry ∷ [] = ap entries_of entries ∙ entries-push old.entries (marked_at moment entry) in
      let spelled : payloads_of (entries_of new.entries) ≡ payloads_of (entries_of old.entries) ++ spelling entry ∷ [] = ap payloads_of all ∙ payloads-push (entries_of old.entries) entry in
      let rest : option_to_list old.rest ≡ [] = ap option_to_list is.none_left in
      let was : Crash since clock old.disk old.opened old.found old.entries [] = subst (λ (l : List Entry). Crash since clock old.disk old.opened old.found old.entries l) rest kept.crash in
      let legal = ap (λ l. replay initial l) all ∙ replay-push initial (entries_of old.entries) old.state new.state entry kept.legal (after_step old.state new.state entry answer stepped) in
      let now = crash_grown since clock old.disk new.disk old.opened old.found old.entries entry was is.fit one (any_moment (payloads_of (entries_of old.entries)) is.stands) moment at (durable (payloads_of (entries_of old.entries)) is.stands) in
      record {
        legal = legal;
        rest_legal = legal_with (entries_of new.entries) new.rest new.state (same_rest ∙ is.none_left) legal;
        sound = λ _. record {
          none_left = same_rest ∙ is.none_left;
          fit = subst (λ (l : List Entry). AllByRecursion Fits l) (sym all) (fit-push (entries_of old.entries) entry is.fit one);
          stands = subst (Stands (content new.disk)) (sym spelled) (stands (payloads_of (entries_of old.entries)) is.stands);
          size_is = let e : end_of (payloads_of (entries_of new.entries)) ≡ _ = ap end_of spelled ∙ end_of-push (payloads_of (entries_of old.entries)) (spelling entry) in omega (arith, longer, is.size_is, e);
        };
        crash = subst (λ (l : List Entry). Crash since clock new.disk new.opened new.found new.entries l) (sym (ap option_to_list same_rest ∙ rest))
            (subst (λ (l : List Marked). Crash since clock new.disk new.opened new.found l []) (sym entries)
            (subst (λ (n : ℕ). Crash since clock new.disk new.opened n (old.entries ++ marked_at moment entry ∷ []) []) (sym same_found)
            (subst (λ (n : ℕ). Crash since clock new.disk n old.found (old.entries ++ marked_at moment entry ∷ []) []) (sym same_opened) now)));
      }

  -- an append that met a fault
  pub kept_fault : (old new : DeviceView D) (size size_now n : ℕ) (entry : Entry) → IsKept content since clock size old → old.failed ≡ None → new.failed ≡ Some n → Fits entry → IsAllowed old.state entry
      → new.opened ≡ old.opened → new.found ≡ old.found → new.entries ≡ old.entries → new.state ≡ old.state → new.rest ≡ Some entry
      → ((payloads : List (List ℕ)) → Stands (content old.disk) payloads → LeavesOnly clock since old.disk new.disk (IsBeforeOrAfter payloads (spelling entry)))
      → IsKept content since clock size_now new
  kept_fault old new size size_now n entry kept sound failed one allowed same_opened same_found entries state rest any_moment =
      let is = kept.sound sound in
      let was : Crash since clock old.disk old.opened old.found old.entries [] = subst (λ (l : List Entry). Crash since clock old.disk old.opened old.found old.entries l) (ap option_to_list is.none_left) kept.crash in
      let now = crash_failed since clock old.disk new.disk old.opened old.found old.entries entry was is.fit one (any_moment (payloads_of (entries_of old.entries)) is.stands) in
      record {
        legal = ap (λ l. replay initial (entries_of l)) entries ∙ kept.legal ∙ ap (λ s. Some s) (sym state);
        rest_legal =
            let next = allowed.0.0 in
            let pushed = replay-push initial (entries_of old.entries) old.state next entry kept.legal (after_step old.state next entry allowed.0.1 allowed.1) in
            (next, ap (λ l. replay initial l) (sym (failed_as old.entries new.entries entry new.rest entries rest)) ∙ pushed);
        sound = λ none. absurd (cc (none, failed));
        crash = subst (λ (l : List Entry). Crash since clock new.disk new.opened new.found new.entries l) (sym (ap option_to_list rest))
            (subst (λ (l : List Marked). Crash since clock new.disk new.opened new.found l (entry ∷ [])) (sym entries)
            (subst (λ (k : ℕ). Crash since clock new.disk new.opened k old.entries (entry ∷ [])) (sym same_found)
            (subst (λ (k : ℕ). Crash since clock new.disk k old.found old.entries (entry ∷ [])) (sym same_opened) now)));
      }

  -- a device that was loaded
  pub kept_loaded : (device : DeviceView D) (old : D) (size moment : ℕ) (payloads : List (List ℕ)) → IsSpelledBy payloads (entries_of device.entries) → replay initial (entries_of device.entries) ≡ Some device.state
      → moment ≡ device.opened → device.entries ≡ map (marked_at moment) (entries_of device.entries) → device.found ≡ length device.entries → device.rest ≡ None
      → Stands (content device.disk) payloads → size ≡ end_of payloads → LeavesFrom clock since old device.disk device.opened (λ c. HasFrames c payloads) → IsKept content since clock size device
  kept_loaded device old size moment payloads spelled legal at moments found rest stands long leaves =
      let marked : device.entries ≡ map (marked_at device.opened) (entries_of device.entries) = moments ∙ ap (λ (t : ℕ). map (marked_at t) (entries_of device.entries)) at in
      let leaves_now : LeavesFrom clock since old device.disk device.opened (λ c. HasFrames c (payloads_of (entries_of device.entries))) = subst (λ (l : List (List ℕ)). LeavesFrom clock since old device.disk device.opened (λ c. HasFrames c l)) spelled.spelled leaves in
      let now = crash_found since clock old device.disk device.opened device.entries spelled.fit marked leaves_now in
      record {
        legal = legal;
        rest_legal = legal_with (entries_of device.entries) device.rest device.state rest legal;
        sound = λ _. record {
          none_left = rest;
          fit = spelled.fit;
          stands = subst (Stands (content device.disk)) spelled.spelled stands;
          size_is = long ∙ ap end_of spelled.spelled;
        };
        crash = subst (λ (l : List Entry). Crash since clock device.disk device.opened device.found device.entries l) (sym (ap option_to_list rest))
            (subst (λ (k : ℕ). Crash since clock device.disk device.opened k device.entries []) (sym found) now);
      }

taken : {X : Type 0} (xs ys : List X) (n : ℕ) → n ≡ length xs → take n (xs ++ ys) ≡ xs
taken xs ys n is = let e : take n (xs ++ ys) ≡ take n xs = take-append-le n xs ys (omega (arith, is)) in e ∙ take_all n xs (omega (arith, is))

module _ {D : Type 0} (old new : DeviceView D) (entry opening : Entry) (position : ℕ) (answer : Answer) (loaded : IsLoaded old) (appends : Appends entry position answer old new) (same : entry ≡ opening) where
  appended_entries : entries_of new.entries ≡ entries_of old.entries ++ entry ∷ []
  appended_entries = ap entries_of appends.entries ∙ entries-push old.entries (marked_at appends.moment entry)

  pub found_is : take new.found (entries_of new.entries) ≡ entries_of old.entries
  found_is = ap (λ l. take new.found l) appended_entries ∙ taken (entries_of old.entries) (entry ∷ []) new.found (let e = length-entries old.entries in omega (arith, e, appends.found, loaded.found))

  pub is_opened : IsOpened opening new
  is_opened = record {
    last = appended_entries ∙ (λ i. sym found_is i ++ same i ∷ []);
    legal = ap (λ l. replay initial l) appended_entries ∙ replay-push initial (entries_of old.entries) old.state new.state entry appends.legal (after_step old.state new.state entry answer appends.stepped);
    ready = appends.ready;
  }

-- what the opening's own append may leave
module _ {D : Type 0} (since : D → ℕ → List ℕ → Type 0) (clock : D → ℕ) (old new : DeviceView D) (entry : Entry) where
  pub opened_leaves : (disk : D) (position : ℕ) (answer : Answer) → IsLoaded old → Appends entry position answer old new → new.opened ≡ old.opened
      → LeavesFrom clock since disk old.disk old.opened (HasAtLeast (entries_of old.entries) old.found)
      → AddsOnly since clock old.disk new.disk (HasAtLeast (entries_of new.entries ++ option_to_list new.rest) (length old.entries))
      → LeavesFrom clock since disk new.disk new.opened (HasAtLeast (entries_of new.entries) new.found)
  opened_leaves disk position answer loaded appends opened leaves adds =
      let all : entries_of new.entries ≡ entries_of old.entries ++ entry ∷ [] = ap entries_of appends.entries ∙ entries-push old.entries (marked_at appends.moment entry) in
      let none : entries_of new.entries ++ option_to_list new.rest ≡ entries_of new.entries = ap (λ r. entries_of new.entries ++ option_to_list r) appends.ready.none_left ∙ append-nil (entries_of new.entries) in
      let grown : (c : List ℕ) → HasAtLeast (entries_of old.entries) old.found c → HasAtLeast (entries_of new.entries) new.found c = λ c has.
      subst (λ (n : ℕ). HasAtLeast (entries_of new.entries) n c) (sym appends.found)
      (subst (λ (l : List Entry). HasAtLeast l old.found c) (sym all) (at_least_more (entries_of old.entries) (entry ∷ []) old.found c has)) in
      let added : (c : List ℕ) → HasAtLeast (entries_of new.entries ++ option_to_list new.rest) (length old.entries) c → HasAtLeast (entries_of new.entries) new.found c = λ c has.
      subst (λ (n : ℕ). HasAtLeast (entries_of new.entries) n c) (sym (appends.found ∙ loaded.found))
      (subst (λ (l : List Entry). HasAtLeast l (length old.entries) c) none has) in
      subst (λ (t : ℕ). LeavesFrom clock since disk new.disk t (HasAtLeast (entries_of new.entries) new.found)) (sym opened)
      (leaves_then clock since disk old.disk new.disk old.opened _ _ _ leaves adds grown added)

pub append_fault : {D : Type 0} (content : D → Option (List ℕ)) (faults : D → ℕ) (disk : D) (entry : Entry) (old new : DeviceView D) (fault : SubmitFault) → IsSubmitFault content faults entry old new fault
    → old.failed ≡ None → faults old.disk ≡ faults disk → ContentReadsAs content disk (Ok (entries_of old.entries)) → IsOpenFault content faults entry disk new.disk (open_fault_of fault)
append_fault content faults disk entry old new (submitting.Refused position why) h sound kept reads = ap (λ v. faults v.disk) h.0 ∙ kept
append_fault content faults disk entry old new (submitting.Full size) h sound kept reads =
    (ap (λ v. faults v.disk) h.0 ∙ kept, record { found = entries_of old.entries; reads = reads; full = h.2 })
append_fault content faults disk entry old new submitting.DiskFault h sound kept reads = subst (λ (n : ℕ). Rose n (faults new.disk)) kept h.1
append_fault content faults disk entry old new (submitting.Failed count) h sound kept reads = absurd (cc (sound, h.1))
