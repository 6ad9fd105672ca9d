-- The script's own entries of a round, up to where it has come.
use Rattle.std.proofs.Common.{◌≡◌, ℕ, ◌+◌, ◌<◌, List, [], ◌∷◌, ◌++◌, length, map, Option, refl, ap, sym, ◌∙◌, subst, append_assoc, append-nil}
use Rattle.std.specs.List.{flat_map}
use Rattle.std.proofs.lemmas.Grind.{flat_map-append}
use Rattle.std.proofs.lemmas.List.{append_cancel_left}
use Rattle.std.proofs.lemmas.List.Elements.{filter-append}
use Rattle.entry_form.specs.declared.command.Command.{Command}
use Rattle.entry_form.specs.declared.command.Command.TheVariants.{TakeLock, Release, SendBegun, SendEnded}
use Rattle.entry_form.specs.declared.command.Outcome.{Outcome}
use Rattle.entry_form.specs.declared.command.Outcome.TheVariants.{Fault}
use Rattle.entry_form.specs.declared.entry.Entry.{Entry}
use Rattle.entry_form.specs.declared.entry.Entry.TheVariants.{Done}
use Rattle.entry_form.specs.declared.hand.Hand.{Hand}
use Rattle.entry_form.specs.declared.hand.Hand.TheVariants.{Script}
use Rattle.entry_form.specs.declared.hand.Lock.TheVariants.{Instances}
use Rattle.entry_form.specs.declared.hand.Round.TheVariants as rounds
use Rattle.entry_codec.specs.Spelling.{spelling}
use Rattle.field_io.specs.declared.dialer.Stage.TheVariants.{Dial}
use Rattle.field_io.specs.declared.exchange.Exchange.{Exchange}
use Rattle.device_state.specs.declared.state.State.{State}
use Rattle.device_rules.specs.declared.answer.NextSend.{NextSend}
use Rattle.device_rules.specs.declared.told.SubmitFault.{SubmitFault}
use Rattle.device_rules.specs.declared.told.SubmitFault.TheVariants as faults
use Rattle.device_rules.specs.declared.answer.Query.{Query}
use Rattle.device_rules.specs.declared.answer.Query.TheVariants as queries
use Rattle.device_rules.specs.declared.refused.Refused.{Refused}
use Rattle.device_rules.specs.Caller.{CallerView, AddsOthers, IsCallFault, IsLookFault, LooksOn, Refuses, SameRest, is_of, of_hand}
use Rattle.device_rules.specs.Limits.{largest_journal}
use Rattle.collect_text.specs.declared.line.Line.TheVariants.{Send}
use Rattle.collect_script.specs.declared.stop.ScriptStop.{ScriptStop}
use Rattle.collect_script.specs.declared.stop.ScriptStop.TheVariants as stops
use Rattle.collect_script.specs.Answering.{Adds, FaultStop, SaysNothing, failed, faulted_round, full_round, starved}
use Rattle.collect_script.specs.Rounds.{IsFrontOfRound, IsOfRound, Recorded, round_entries, send_entries}
use Rattle.collect_script.specs.Transcript.{MayAdd, of_script}
use Rattle.send_workers.specs.Rounds.{GoesOn, HasBegun, HasCarried, HasRun, HasSent, Starves, Stops, Went, at_begin, at_end, at_lock, at_look, at_release, begun, unbegun, view}
use Rattle.send_workers.specs.Sends.{AreSent, Begins, Comes, IsSent, Sending, Waits}
use Rattle.collect_script.proofs.Growing.{grows_none}
use Rattle.send_workers.proofs.Steps.{grows_then, on_others, on_then, waits_then}

-- ---- lists of entries

-- behind the earlier history these entries are the script's
pub record Behind (earlier later own : List Entry) : Type 0 where
  pub added : List Entry
  pub joined : later ≡ earlier ++ added
  pub own_is : of_script added ≡ own

pub behind_none : (h : List Entry) → Behind h h []
behind_none h = record { added = []; joined = sym (append-nil h); own_is = refl }

pub behind_then : (a b c xs ys : List Entry) → Behind a b xs → Behind b c ys → Behind a c (xs ++ ys)
behind_then a b c xs ys one other = record {
  added = one.added ++ other.added;
  joined = other.joined ∙ ap (λ (h : List Entry). h ++ other.added) one.joined ∙ append_assoc a one.added other.added;
  own_is = filter-append (is_of Script) one.added other.added
      ∙ ap (λ (es : List Entry). es ++ of_script other.added) one.own_is ∙ ap (λ (es : List Entry). xs ++ es) other.own_is;
}

pub behind_waits : (a b : List Entry) → Waits Script a b → Behind a b []
behind_waits a b waits = record { added = waits.others; joined = waits.joined; own_is = waits.none }

behind_one : (before later : List Entry) (command : Command) → later ≡ before ++ Done Script command ∷ []
    → Behind before later (Done Script command ∷ [])
behind_one before later command joined = record { added = Done Script command ∷ []; joined = joined; own_is = refl }

pub behind_comes : (a b : List Entry) (command : Command) → Comes Script a command b → Behind a b (Done Script command ∷ [])
behind_comes a b command x = behind_then a x.before b [] (Done Script command ∷ []) (behind_waits a x.before x.waits)
    (behind_one x.before b command x.joined)

module _ (start : State) where
  pub behind_begins : (a b : List Entry) (named : NextSend) (at : ℕ) → Begins start Script a named at b
      → Behind a b (Done Script (SendBegun named.number at) ∷ [])
  behind_begins a b named at x =
      behind_then a x.before b [] (Done Script (SendBegun named.number at) ∷ [])
      (behind_waits a x.before (waits_then Script a x.is_named.seen x.before x.is_named.since x.is_named.upto))
      (behind_one x.before b (SendBegun named.number at) x.joined)

  abbrev pub recorded : Sending → Recorded
  recorded s = record { number = s.named.number; at = s.at; outcome = s.outcome }

  abbrev pub sends_entries : List Sending → List Entry
  sends_entries sends = flat_map send_entries (map recorded sends)

  behind_whole : (a b : List Entry) (s : Sending) → IsSent start Script a s b → Behind a b (send_entries (recorded s))
  behind_whole a b s x =
      behind_then a x.begun b (Done Script (SendBegun s.named.number s.at) ∷ [])
      (Done Script (SendEnded s.named.number s.outcome) ∷ [])
      (behind_begins a x.begun s.named s.at x.begins)
      (behind_comes x.begun b (SendEnded s.named.number s.outcome) x.ends)

  pub behind_sent : (a b : List Entry) (sends : List Sending) → AreSent start Script a sends b
      → Behind a b (sends_entries sends)
  behind_sent a b [] same = subst (λ (h : List Entry). Behind a h []) (sym same) (behind_none a)
  behind_sent a b (s ∷ sends) x =
      behind_then a x.0 b (send_entries (recorded s)) (sends_entries sends) (behind_whole a x.0 s x.1)
      (behind_sent x.0 b sends x.2)

  -- ---- fronts of a round

  abbrev pub lock_entry : Entry
  lock_entry = Done Script (TakeLock rounds.Send)

  pub front_none : IsFrontOfRound []
  front_none = record { sends = []; more = round_entries []; joined = refl }

  pub front_sent : (sends : List Sending) → IsFrontOfRound (lock_entry ∷ sends_entries sends)
  front_sent sends = record { sends = map recorded sends; more = Done Script (Release Instances) ∷ []; joined = refl }

  pub front_begun : (sends : List Sending) (number at : ℕ)
      → IsFrontOfRound (lock_entry ∷ (sends_entries sends ++ Done Script (SendBegun number at) ∷ []))
  front_begun sends number at =
      let one : Recorded = record { number = number; at = at; outcome = Fault Dial } in
      let end : Entry = Done Script (Release Instances) in
      let ended : Entry = Done Script (SendEnded number (Fault Dial)) in
      record {
        sends = map recorded sends ++ one ∷ [];
        more = ended ∷ end ∷ [];
        joined = ap (λ (es : List Entry). lock_entry ∷ es) (
            append_assoc (sends_entries sends) (Done Script (SendBegun number at) ∷ []) (ended ∷ end ∷ [])
            ∙ sym (append_assoc (sends_entries sends) (send_entries one) (end ∷ []))
            ∙ ap (λ (es : List Entry). es ++ end ∷ []) (sym (flat_map-append send_entries (map recorded sends) (one ∷ [])))
            );
      }

  pub front_ended : (sends : List Sending) (number at : ℕ) (outcome : Outcome)
      → IsFrontOfRound ((lock_entry ∷ (sends_entries sends ++ Done Script (SendBegun number at) ∷ []))
      ++ Done Script (SendEnded number outcome) ∷ [])
  front_ended sends number at outcome =
      let one : Recorded = record { number = number; at = at; outcome = outcome } in
      let end : Entry = Done Script (Release Instances) in
      let ended : Entry = Done Script (SendEnded number outcome) in
      record {
        sends = map recorded sends ++ one ∷ [];
        more = end ∷ [];
        joined = ap (λ (es : List Entry). lock_entry ∷ (es ++ end ∷ [])) (
            append_assoc (sends_entries sends) (Done Script (SendBegun number at) ∷ []) (ended ∷ [])
            ∙ sym (flat_map-append send_entries (map recorded sends) (one ∷ []))
            );
      }

  pub front_run : (sends : List Sending)
      → IsFrontOfRound ((lock_entry ∷ sends_entries sends) ++ Done Script (Release Instances) ∷ [])
  front_run sends = record { sends = map recorded sends; more = []; joined = append-nil _ }

-- ---- how far a round has come

-- the caller has come from one view to another, and has added these of the script's
pub record Reached (old now : CallerView) (own : List Entry) : Type 0 where
  pub on : GoesOn old now
  pub behind : Behind old.trail now.trail own
  pub front : IsFrontOfRound own

module _ (old : CallerView) (is_script : old.hand ≡ Script) where
  -- a fact on the hand of the view
  by_script : (P : Hand → Type 0) → P old.hand → P Script
  by_script P x = subst P is_script x

  pub to_script : (a b : List Entry) → Waits old.hand a b → Waits Script a b
  to_script a b x = by_script (λ h. Waits h a b) x

  -- where the round has come with its sends
  module _ (sends : List Sending) (last : List Entry) (went : Went old sends last) where
    pub script_takes : Comes Script old.trail (TakeLock rounds.Send) went.taken
    script_takes = by_script (λ h. Comes h old.trail (TakeLock rounds.Send) went.taken) went.takes

    pub script_sent : AreSent old.start Script went.taken sends last
    script_sent = by_script (λ h. AreSent old.start h went.taken sends last) went.sent

    pub behind_went : Behind old.trail last (lock_entry old.start ∷ sends_entries old.start sends)
    behind_went = behind_then old.trail went.taken last (lock_entry old.start ∷ []) (sends_entries old.start sends)
        (behind_comes old.trail went.taken (TakeLock rounds.Send) script_takes)
        (behind_sent old.start went.taken last sends script_sent)

  on_none : GoesOn old old
  on_none = record { added = []; grows = grows_none old; rest = refl }

  pub reached_none : Reached old old []
  reached_none = record { on = on_none; behind = behind_none old.trail; front = front_none old.start }

  module _ (now : CallerView) (c d : Option (List Exchange)) (sends : List Sending) (refused : ℕ) where
    pub reached_sent : HasSent (view old c) (view now d) sends refused
        → Reached old now (lock_entry old.start ∷ sends_entries old.start sends)
    reached_sent x = record {
      on = x.on;
      behind = subst (Behind old.trail now.trail) (append-nil (lock_entry old.start ∷ sends_entries old.start sends))
          (behind_then old.trail x.last now.trail (lock_entry old.start ∷ sends_entries old.start sends) []
          (behind_went sends x.last x.went) (behind_waits x.last now.trail (to_script x.last now.trail x.waits)));
      front = front_sent old.start sends;
    }

    -- and has begun one more
    module _ (named : NextSend) (at : ℕ) where
      abbrev pub begun_entries : List Entry
      begun_entries = lock_entry old.start ∷ (sends_entries old.start sends ++ Done Script (SendBegun named.number at) ∷ [])

      pub reached_begun_at : (last upto : List Entry) → GoesOn old now → Went old sends last
          → Begins old.start old.hand last named at upto → Waits old.hand upto now.trail → Reached old now begun_entries
      reached_begun_at last upto on went begins waits = record {
        on = on;
        behind = subst (Behind old.trail now.trail) (append-nil begun_entries)
            (behind_then old.trail upto now.trail begun_entries []
            (behind_then old.trail last upto (lock_entry old.start ∷ sends_entries old.start sends)
            (Done Script (SendBegun named.number at) ∷ []) (behind_went sends last went)
            (behind_begins old.start last upto named at (by_script (λ h. Begins old.start h last named at upto) begins)))
            (behind_waits upto now.trail (to_script upto now.trail waits)));
        front = front_begun old.start sends named.number at;
      }

      pub reached_begun : HasBegun (view old c) (view now d) sends refused named at → Reached old now begun_entries
      reached_begun x = reached_begun_at x.last x.begun x.on x.went x.begins x.waits

    pub reached_carried : (s : Sending) → HasCarried (view old c) (view now d) sends refused s
        → Reached old now (begun_entries s.named s.at)
    reached_carried s x = reached_begun_at s.named s.at x.last x.begun x.on x.went x.begins x.waits

  module _ (now : CallerView) (c d : Option (List Exchange)) (position good bad : ℕ)
      (x : HasRun (view old c) (view now d) position good bad) where
    abbrev pub run_entries : List Entry
    run_entries = (lock_entry old.start ∷ sends_entries old.start x.sends) ++ Done Script (Release Instances) ∷ []

    pub released_behind : Behind old.trail x.released run_entries
    released_behind =
        behind_then old.trail x.sent.last x.released (lock_entry old.start ∷ sends_entries old.start x.sends)
        (Done Script (Release Instances) ∷ []) (behind_went x.sends x.sent.last x.sent.went)
        (behind_comes x.sent.last x.released (Release Instances)
        (by_script (λ h. Comes h x.sent.last (Release Instances) x.released) x.releases))

    pub reached_run : Reached old now run_entries
    reached_run = record {
      on = x.on;
      behind = subst (Behind old.trail now.trail) (append-nil run_entries)
          (behind_then old.trail x.released now.trail run_entries [] released_behind
          (behind_waits x.released now.trail (to_script x.released now.trail x.waits)));
      front = front_run old.start x.sends;
    }

  module _ (mid new : CallerView) (own : List Entry) (reached : Reached old mid own) where
    pub mid_script : mid.hand ≡ Script
    mid_script = reached.on.grows.hand ∙ is_script

    -- other hands' entries behind it
    pub reached_on : AddsOthers mid new → SameRest mid new → Reached old new own
    reached_on others rest = record {
      on = on_then old mid new reached.on (on_others mid new others rest);
      behind = subst (Behind old.trail new.trail) (append-nil own) (behind_then old.trail mid.trail new.trail own []
          reached.behind (record {
            added = others.added;
            joined = others.grows.trail;
            own_is = subst (λ h. of_hand h others.added ≡ []) mid_script others.others;
          }));
      front = reached.front;
    }

  module _ (new : CallerView) (own : List Entry) (reached : Reached old new own) where
    own_added : of_hand old.hand reached.on.added ≡ own
    own_added = subst (λ h. of_hand h reached.on.added ≡ own) (sym is_script) (
        ap of_script (append_cancel_left old.trail reached.on.added reached.behind.added
        (sym reached.on.grows.trail ∙ reached.behind.joined)) ∙ reached.behind.own_is)

    pub adds_round : Adds old new Send
    adds_round = record {
      added = reached.on.added;
      grows = reached.on.grows;
      own = subst (MayAdd Send) (sym own_added) reached.front;
      rest = reached.on.rest;
    }

    pub starved_round : SaysNothing old new Send stops.NoMemory
    starved_round = starved adds_round

  -- a call of the round without an answer
  module _ (mid new : CallerView) (own : List Entry) (reached : Reached old mid own) where
    looked : LooksOn mid new → Reached old new own
    looked looks = reached_on mid new own reached looks.others looks.rest

    pub call_stops_round : (command : Command) → IsOfRound command → IsFrontOfRound (own ++ Done Script command ∷ [])
        → (fault : SubmitFault) (stop : ScriptStop) → IsCallFault mid new command fault → FaultStop fault stop
        → SaysNothing old new Send stop
    call_stops_round command known front (faults.Refused position why) stop h is =
        subst (SaysNothing old new Send) (sym is) (starved_round new own (reached_on mid new own reached h.others h.rest))
    call_stops_round command known front (faults.Full size) stop h is =
        subst (SaysNothing old new Send) (sym is)
        (full_round command size refl (adds_round new own (reached_on mid new own reached h.others h.rest)) known h.is_length
        (subst (λ hand. largest_journal < size + 5 + length (spelling (Done hand command))) reached.on.grows.hand h.past))
    call_stops_round command known front faults.DiskFault stop h is = subst (SaysNothing old new Send) (sym is)
        (faulted_round command refl (record {
          added = reached.on.added ++ h.others.added;
          grows = grows_then old mid new reached.on.added h.others.added reached.on.grows h.others.grows;
          own = subst (λ hand. IsFrontOfRound (of_hand hand (reached.on.added ++ h.others.added) ++ Done hand command ∷ []))
              (sym is_script) (subst (λ es. IsFrontOfRound (es ++ Done Script command ∷ [])) (sym only_own) front);
          failed = h.failed;
          rest = subst (λ hand. of_hand hand new.rest ≡ of_hand hand mid.rest ++ Done hand command ∷ [])
              reached.on.grows.hand h.rest
              ∙ ap (λ es. es ++ Done old.hand command ∷ []) reached.on.rest;
        }))
      where
        only_own : of_script (reached.on.added ++ h.others.added) ≡ own
        only_own =
            filter-append (is_of Script) reached.on.added h.others.added
            ∙ ap (λ es. es ++ of_script h.others.added)
            (subst (λ hand. of_hand hand reached.on.added ≡ own) is_script (own_added mid own reached))
            ∙ ap (λ es. own ++ es) (subst (λ hand. of_hand hand h.others.added ≡ [])
            (mid_script mid new own reached) h.others.others)
            ∙ append-nil own
    call_stops_round command known front (faults.Failed count) stop h is =
        subst (SaysNothing old new Send) (sym is)
        (failed (adds_round new own (reached_on mid new own reached h.others h.rest)) h.failed)

    look_stops_round : (query : Query) (fault : SubmitFault) (stop : ScriptStop) → IsLookFault mid new query fault
        → FaultStop fault stop → SaysNothing old new Send stop
    look_stops_round query (faults.Refused position why) stop h is =
        subst (SaysNothing old new Send) (sym is) (starved_round new own (looked h.looks))
    look_stops_round query (faults.Full size) stop h is = absurd h
    look_stops_round query faults.DiskFault stop h is =
        subst (SaysNothing old new Send) (sym is) (failed (adds_round new own (looked h.0)) h.1)
    look_stops_round query (faults.Failed count) stop h is =
        subst (SaysNothing old new Send) (sym is) (failed (adds_round new own (looked h.0)) h.1)

  module _ (new : CallerView) (c d : Option (List Exchange)) where
    -- a round that stopped without a line
    pub stops_nothing : (fault : SubmitFault) (stop : ScriptStop) → Stops (view old c) (view new d) fault
        → FaultStop fault stop → SaysNothing old new Send stop
    stops_nothing fault stop (at_lock free h same) is =
        call_stops_round old new [] reached_none (TakeLock rounds.Send) tt (front_sent old.start []) fault stop h is
    stops_nothing fault stop (at_look mid sends refused sent h same) is =
        look_stops_round mid.caller new _ (reached_sent mid.caller c mid.carried sends refused sent)
        queries.NextSend fault stop h is
    stops_nothing fault stop (at_begin mid sends refused named at sent next due h same) is =
        call_stops_round mid.caller new _ (reached_sent mid.caller c mid.carried sends refused sent)
        (SendBegun named.number at) tt (front_begun old.start sends named.number at) fault stop h is
    stops_nothing fault stop (at_end mid sends refused s carried h same) is =
        call_stops_round mid.caller new _ (reached_carried mid.caller c mid.carried sends refused s carried)
        (SendEnded s.named.number s.outcome) tt (front_ended old.start sends s.named.number s.at s.outcome) fault stop h is
    stops_nothing fault stop (at_release mid sends refused sent none_left h same) is =
        call_stops_round mid.caller new _ (reached_sent mid.caller c mid.carried sends refused sent)
        (Release Instances) tt (front_run old.start sends) fault stop h is

    pub starves_nothing : Starves (view old c) (view new d) → SaysNothing old new Send stops.NoMemory
    starves_nothing (unbegun sends refused sent) = starved_round new _ (reached_sent new c d sends refused sent)
    starves_nothing (begun sends refused named at begins) =
        starved_round new _ (reached_begun new c d sends refused named at begins)

    pub run_nothing : (position good bad : ℕ) → HasRun (view old c) (view new d) position good bad
        → SaysNothing old new Send stops.NoMemory
    run_nothing position good bad run = starved_round new _ (reached_run new c d position good bad run)

  -- the lock isn't taken, and memory ran out for saying so
  pub refused_nothing : (new : CallerView) (command : Command) (position : ℕ) (why : Refused)
      → Refuses old new command position why → SaysNothing old new Send stops.NoMemory
  refused_nothing new command position why h =
      starved_round new [] (reached_on old new [] reached_none h.others h.rest)
