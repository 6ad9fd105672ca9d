-- What a device's own calls are for the hand that makes them.
use Rattle.std.proofs.Common.{◌≡◌, ◌≢◌, ◌⊎◌, inl, inr, ℕ, ◌+◌, ◌-◌, ◌^◌, ◌<◌, ◌≤◌, min, List, [], ◌∷◌, ◌++◌, length, take, Option, Some, None, Result, Ok, Err, refl, sym, ◌∙◌, ap, subst, arith, length-append, true, false}
use Rattle.std.specs.Prelude.{option_to_list, nat_le, if◌then◌else◌, Bool, IfOk, IfErr, IsErrOf}
use Rattle.std.proofs.lemmas.Bool.Decides.{nat_tests}
use Rattle.std.proofs.lemmas.List.{append-nil, take_all}
use Rattle.field_io.specs.Causes.{Rose}
use Rattle.field_text.specs.Steps.{Tells}
use Rattle.entry_form.specs.declared.command.Command.{Command}
use Rattle.entry_form.specs.declared.entry.Entry.{Entry}
use Rattle.entry_form.specs.declared.entry.Entry.TheVariants.{Done}
use Rattle.entry_form.specs.declared.hand.Hand.TheVariants.{Script}
use Rattle.entry_codec.specs.Spelling.{spelling}
use Rattle.device_journal.specs.Frames.{end_of}
use Rattle.device_rules.specs.declared.answer.Answer.{Answer}
use Rattle.device_rules.specs.declared.answer.Query.{Query}
use Rattle.device_state.specs.declared.state.State.{State}
use Rattle.device_rules.specs.declared.told.SubmitFault.{SubmitFault}
use Rattle.device_rules.specs.declared.told.SubmitFault.TheVariants as submitting
use Rattle.device_rules.specs.declared.told.Told.{Told}
use Rattle.device_rules.specs.Answers.{answer_to}
use Rattle.device_rules.specs.Caller.{CallerView, of_hand, AddsOthers, Reaches, LooksOn, Calls, Looks, Dues, Closes, raised}
use Rattle.device_rules.specs.Due.{due_for}
use Rattle.device_rules.specs.Refused.{rule_of}
use Rattle.device_state.specs.State.{initial}
use Rattle.device_rules.specs.Trail.{entries_of, replay, IsLegal}
use Rattle.device_rules.proofs.Replays.{entries-push}
use Rattle.device_core.specs.Caller.{risen, seen_of, refusals_after, Leads}
use Rattle.device_core.specs.CallerLaws.{leads_same}
use Rattle.device_core.specs.Crash.{AddsOnly, HasAtLeast}
use Rattle.device_core.specs.Faults.{IsAskFault, IsSubmitFault}
use Rattle.device_core.specs.Images.{payloads_of}
use Rattle.device_core.specs.View.{Appends, DeviceView, IsReady}
use Rattle.device_core.proofs.Crashes.{length-entries}
use Rattle.device_core.proofs.Payloads.{end_of-push, payloads-push}

risen_later : (before old new : ℕ) → old ≤ new → risen before old ≤ risen before new
risen_later before old new le = grind (arith, nat_tests)

rose_risen : (before now : ℕ) → Rose before now → risen before now ≢ 0
rose_risen before now rose = let is : nat_le (min (before + 1) (2 ^ 64 - 1)) now ≡ true = grind (arith, nat_tests) in rw is (λ none. absurd (cc (none)))

rose_from : (before old new : ℕ) → before ≤ old → Rose old new → Rose before new
rose_from before old new le rose = omega (arith, le, rose)

module _ {D : Type 0} (disk_faults : D → ℕ) (before closings : ℕ) where
  abbrev Seen : DeviceView D → ℕ → CallerView
  Seen device refusals = seen_of disk_faults device before refusals closings

  -- nothing was added
  stays : (device : DeviceView D) (refusals later : ℕ) → refusals ≤ later → AddsOthers (Seen device refusals) (Seen device later)
  stays device refusals later le = record {
    added = [];
    grows = record {
      hand = refl;
      start = refl;
      trail = sym (append-nil (entries_of device.entries));
      commands = tt;
      faults = omega arith;
      length = omega arith;
      refusals = le;
      closings = omega arith;
    };
    others = refl;
  }

  reaches : (device : DeviceView D) (refusals later position : ℕ) → position ≡ length device.entries → replay initial (entries_of device.entries) ≡ Some device.state → Reaches (Seen device refusals) (Seen device later) position device.state
  reaches device refusals later position is legal =
      let long = length-entries device.entries in
      record {
        low = omega (arith, long, is);
        high = omega (arith, long, is);
        reached = ap (λ l. replay initial l) (take_all position (entries_of device.entries) (omega (arith, long, is))) ∙ legal;
      }

  looks_on : (device : DeviceView D) (refusals : ℕ) → LooksOn (Seen device refusals) (Seen device refusals)
  looks_on device refusals = record { others = stays device refusals refusals (omega arith); rest = refl; refusals = refl; closings = refl }

  pub looked : (device : DeviceView D) (refusals : ℕ) (query : Query) (result : Result Told SubmitFault) → IfOk result (λ told. (told.position ≡ length device.entries) × (answer_to device.state Script query ≡ Ok told.answer))
      → IfErr result (IsAskFault device Script query) → replay initial (entries_of device.entries) ≡ Some device.state → Looks (Seen device refusals) (Seen device refusals) query result
  looked device refusals query (Ok told) ok err legal =
      record { looks = looks_on device refusals; state = device.state; reaches = reaches device refusals refusals told.position ok.0 legal; answered = ok.1 }
  looked device refusals query (Err (submitting.Refused position why)) ok err legal =
      record { looks = looks_on device refusals; state = device.state; reaches = reaches device refusals refusals position err.0 legal; refused = err.1 }
  looked device refusals query (Err (submitting.Full size)) ok err legal = absurd err
  looked device refusals query (Err submitting.DiskFault) ok err legal = absurd err
  looked device refusals query (Err (submitting.Failed count)) ok err legal = absurd err

  pub dues : (device : DeviceView D) (refusals count : ℕ) → count ≡ due_for device.state Script → replay initial (entries_of device.entries) ≡ Some device.state
      → Dues (Seen device refusals) (Seen device refusals) count
  dues device refusals count is reached =
      record { looks = looks_on device refusals; state = device.state; reached = reached; due = is }

pub closes : {D : Type 0} (disk_faults : D → ℕ) (device : DeviceView D) (before refusals closings now : ℕ) → now ≡ raised closings → closings ≤ now
    → Closes (seen_of disk_faults device before refusals closings) (seen_of disk_faults device before refusals now) true
closes disk_faults device before refusals closings now is le = record {
  others = record {
    added = [];
    grows = record {
      hand = refl;
      start = refl;
      trail = sym (append-nil (entries_of device.entries));
      commands = tt;
      faults = omega arith;
      length = omega arith;
      refusals = omega arith;
      closings = le;
    };
    others = refl;
  };
  rest = refl;
  refusals = refl;
  closings = is;
}

-- what a submit ensured
pub record Submitted {D : Type 0} (content : D → Option (List ℕ)) (since : D → ℕ → List ℕ → Type 0) (clock disk_faults : D → ℕ) (command : Command) (old new : DeviceView D) (result : Result Told SubmitFault) : Type 0 where
  pub appended : IfOk result (λ told. Appends (Done Script command) told.position told.answer old new)
  pub kept : IfOk result (λ told. disk_faults new.disk ≡ disk_faults old.disk)
  pub later : disk_faults old.disk ≤ disk_faults new.disk
  pub fault : IfErr result (IsSubmitFault content disk_faults (Done Script command) old new)
  pub failed : (count : ℕ) → old.failed ≡ Some count → result ≡ Err (submitting.Failed count)
  pub opened : new.opened ≡ old.opened
  pub stopped : IsErrOf result submitting.DiskFault → (new.failed ≡ Some (disk_faults new.disk)) × (new.rest ≡ Some (Done Script command))
  pub images : AddsOnly since clock old.disk new.disk (HasAtLeast (entries_of new.entries ++ option_to_list new.rest) (length old.entries))

-- what a caller keeps
pub record Keeps {D : Type 0} (disk_faults : D → ℕ) (before : ℕ) (device : DeviceView D) : Type 0 where
  pub later : before ≤ disk_faults device.disk
  pub failed : (count : ℕ) → device.failed ≡ Some count → Rose before (disk_faults device.disk)
  pub none_left : device.failed ≡ None → device.rest ≡ None

not_failed : (failed : Option ℕ) (result : Result Told SubmitFault) → ((count : ℕ) → failed ≡ Some count → result ≡ Err (submitting.Failed count)) → ((count : ℕ) → result ≡ Err (submitting.Failed count) → ⊥) → failed ≡ None
not_failed None result told apart = refl
not_failed (Some count) result told apart = absurd (apart count (told count refl))

module _ {D : Type 0} (content : D → Option (List ℕ)) (since : D → ℕ → List ℕ → Type 0) (clock disk_faults : D → ℕ) (before refusals closings : ℕ) (command : Command) (old new : DeviceView D) where
  abbrev SeenOld : CallerView
  SeenOld = seen_of disk_faults old before refusals closings

  abbrev SeenNew : Result Told SubmitFault → CallerView
  SeenNew result = seen_of disk_faults new before (refusals_after refusals result) closings

  rest_none : Keeps disk_faults before old → old.failed ≡ None → option_to_list old.rest ≡ []
  rest_none keeps sound = ap option_to_list (keeps.none_left sound)

  accepted : (told : Told) → Submitted content since clock disk_faults command old new (Ok told) → Keeps disk_faults before old → Calls SeenOld (SeenNew (Ok told)) command (Ok told)
  accepted told s keeps =
      let a = s.appended in
      let entry = Done Script command in
      let all : entries_of new.entries ≡ entries_of old.entries ++ entry ∷ [] = ap entries_of a.entries ∙ entries-push old.entries _ in
      let size : end_of (payloads_of (entries_of new.entries)) ≡ end_of (payloads_of (entries_of old.entries)) + 5 + length (spelling entry) =
      ap end_of (ap payloads_of all ∙ payloads-push (entries_of old.entries) entry) ∙ end_of-push (payloads_of (entries_of old.entries)) (spelling entry) in
      let long = length-entries old.entries in
      let count = ap length all in
      record {
        before = [];
        after = [];
        grows = record {
          hand = refl;
          start = refl;
          trail = all;
          commands = (tt, tt);
          faults = risen_later before (disk_faults old.disk) (disk_faults new.disk) s.later;
          length = omega (arith, size);
          refusals = omega arith;
          closings = omega arith;
        };
        others_before = refl;
        others_after = refl;
        place = omega (arith, a.position_is, count, long, length-entries new.entries, length-append (entries_of old.entries) (entry ∷ []));
        state = old.state;
        next = new.state;
        reached = ap (λ l. replay initial l) (append-nil (entries_of old.entries)) ∙ a.legal;
        stepped = a.stepped;
        rest = ap (of_hand Script) (ap option_to_list a.ready.none_left ∙ sym (rest_none keeps a.was_sound));
        refusals = refl;
        closings = refl;
      }

  pub called : (result : Result Told SubmitFault) → Submitted content since clock disk_faults command old new result → Keeps disk_faults before old → refusals ≤ refusals_after refusals result → Calls SeenOld (SeenNew result) command result
  called (Ok told) s keeps le = accepted told s keeps
  called (Err (submitting.Refused position why)) s keeps le =
      let h = s.fault in
      subst (λ (v : DeviceView D). Calls SeenOld (seen_of disk_faults v before (raised refusals) closings) command (Err (submitting.Refused position why))) (sym h.0)
      record {
        others = stays disk_faults before closings old refusals (raised refusals) le;
        state = old.state;
        reaches = reaches disk_faults before closings old refusals (raised refusals) position h.1 h.2;
        refused = h.3;
        rest = refl;
        refusals = refl;
        closings = refl;
      }
  called (Err (submitting.Full size)) s keeps le =
      let h = s.fault in
      subst (λ (v : DeviceView D). Calls SeenOld (seen_of disk_faults v before refusals closings) command (Err (submitting.Full size))) (sym h.0)
      record {
        others = stays disk_faults before closings old refusals refusals (omega arith);
        is_length = h.2.size_is;
        past = h.2.past;
        rest = refl;
        refusals = refl;
        closings = refl;
      }
  called (Err submitting.DiskFault) s keeps le =
      let h = s.fault in
      let sound = not_failed old.failed (Err submitting.DiskFault) s.failed (λ count is. cc (is)) in
      let entries : entries_of new.entries ≡ entries_of old.entries = ap entries_of h.0.entries in
      record {
        others = record {
          added = [];
          grows = record {
            hand = refl;
            start = refl;
            trail = entries ∙ sym (append-nil (entries_of old.entries));
            commands = tt;
            faults = risen_later before (disk_faults old.disk) (disk_faults new.disk) s.later;
            length = let e = ap (λ l. end_of (payloads_of l)) entries in omega (arith, e);
            refusals = omega arith;
            closings = omega arith;
          };
          others = refl;
        };
        failed = rose_risen before (disk_faults new.disk) (rose_from before (disk_faults old.disk) (disk_faults new.disk) keeps.later h.1);
        rest = ap (λ o. of_hand Script (option_to_list o)) (s.stopped refl).1 ∙ ap (λ l. of_hand Script l ++ Done Script command ∷ []) (sym (rest_none keeps sound));
        refusals = refl;
        closings = refl;
      }
  called (Err (submitting.Failed count)) s keeps le =
      let h = s.fault in
      subst (λ (v : DeviceView D). Calls SeenOld (seen_of disk_faults v before refusals closings) command (Err (submitting.Failed count))) (sym h.0)
      record {
        others = stays disk_faults before closings old refusals refusals (omega arith);
        failed = rose_risen before (disk_faults old.disk) (keeps.failed count h.1);
        rest = refl;
        refusals = refl;
        closings = refl;
      }

  unchanged : new ≡ old → Leads since clock disk_faults old new
  unchanged same = subst (λ (v : DeviceView D). Leads since clock disk_faults old v) (sym same) (leads_same since clock disk_faults old)

  pub led : (result : Result Told SubmitFault) → Submitted content since clock disk_faults command old new result → Keeps disk_faults before old → Leads since clock disk_faults old new
  led (Ok told) s keeps =
      let a = s.appended in
      let entry = Done Script command in
      let all : entries_of new.entries ≡ entries_of old.entries ++ entry ∷ [] = ap entries_of a.entries ∙ entries-push old.entries _ in
      let long = length-entries old.entries in
      let none = rest_none keeps a.was_sound in
      record {
        found = a.found;
        opened = s.opened;
        longer = omega (arith, ap length all, long, length-entries new.entries, length-append (entries_of old.entries) (entry ∷ []));
        more = entry ∷ [];
        script = (refl, tt);
        grows = (λ k. all k ++ option_to_list (a.ready.none_left k)) ∙ append-nil (entries_of old.entries ++ entry ∷ [])
            ∙ ap (λ l. l ++ entry ∷ []) (sym (append-nil (entries_of old.entries)) ∙ ap (λ l. entries_of old.entries ++ l) (sym none));
        images = s.images;
        later = s.later;
        ready = λ is. inl a.ready;
      }
  led (Err (submitting.Refused position why)) s keeps = unchanged s.fault.0
  led (Err (submitting.Full size)) s keeps = unchanged s.fault.0
  led (Err submitting.DiskFault) s keeps =
      let h = s.fault in
      let entry = Done Script command in
      let sound = not_failed old.failed (Err submitting.DiskFault) s.failed (λ count is. cc (is)) in
      let entries : entries_of new.entries ≡ entries_of old.entries = ap entries_of h.0.entries in
      record {
        found = h.0.found;
        opened = s.opened;
        longer = omega (arith, ap length h.0.entries);
        more = entry ∷ [];
        script = (refl, tt);
        grows = (λ k. entries k ++ option_to_list ((s.stopped refl).1 k))
            ∙ ap (λ l. l ++ entry ∷ []) (sym (append-nil (entries_of old.entries)) ∙ ap (λ l. entries_of old.entries ++ l) (sym (rest_none keeps sound)));
        images = s.images;
        later = s.later;
        ready = λ is. inr h.1;
      }
  led (Err (submitting.Failed count)) s keeps = unchanged s.fault.0

  -- what it keeps after the call
  pub kept : (result : Result Told SubmitFault) → Submitted content since clock disk_faults command old new result → Keeps disk_faults before old → Keeps disk_faults before new
  kept (Ok told) s keeps = record {
    later = omega (arith, keeps.later, s.later);
    failed = λ count is. absurd (cc (s.appended.ready.sound, is));
    none_left = λ is. s.appended.ready.none_left;
  }
  kept (Err (submitting.Refused position why)) s keeps = subst (Keeps disk_faults before) (sym s.fault.0) keeps
  kept (Err (submitting.Full size)) s keeps = subst (Keeps disk_faults before) (sym s.fault.0) keeps
  kept (Err submitting.DiskFault) s keeps = record {
    later = omega (arith, keeps.later, s.later);
    failed = λ count is. rose_from before (disk_faults old.disk) (disk_faults new.disk) keeps.later s.fault.1;
    none_left = λ is. absurd (cc (is, (s.stopped refl).0));
  }
  kept (Err (submitting.Failed count)) s keeps = subst (Keeps disk_faults before) (sym s.fault.0) keeps
