-- How the lines of a script end, from what stands before.
use Rattle.std.proofs.Common.{◌≡◌, ℕ, List, [], ◌∷◌, ◌++◌, true, false, not, Option, Some, None, Ok, Err, inl, inr, refl, ◌∙◌}
use Rattle.std.proofs.lemmas.List.Folds.{list_all-append}
use Rattle.device_rules.specs.Caller.{CallerView}
use Rattle.line_io.specs.Reader.{GivesNext, ReaderView, StopsReading}
use Rattle.line_io.specs.declared.stop.ReadStop.{ReadStop}
use Rattle.line_io.specs.declared.stop.ReadStop.TheVariants as reading
use Rattle.collect_text.specs.Line.{meaning}
use Rattle.collect_script.specs.declared.stop.ScriptStop.{ScriptStop}
use Rattle.collect_script.specs.declared.stop.ScriptStop.TheVariants as stops
use Rattle.collect_script.specs.Answering.{AnswersLines, LineAnswered, LineStops, stop_of}
use Rattle.collect_script.specs.Ends.{IsSettled, Puts, Streams, finished, unanswered, unread, starved_at}
use Rattle.collect_script.specs.Script.{GoesOn, ends_script}
use Rattle.collect_script.proofs.Answered.{answered_more, cant_answer, printed_of, stops_failed, stops_full, stops_move, transcript_on}
use Rattle.send_workers.proofs.Steps.{grows_then}
use Rattle.collect_script.proofs.Printed.{IsPrinted}
use Rattle.collect_script.proofs.Saying.{may_none}
use Rattle.collect_script.proofs.SoFar.{HasAnswered, HasRead, SoFar, input_of, read_all, read_more, read_stops, reads_of}

-- streams of which the source alone was called
abbrev pub read_to : Streams → Option (List ℕ) → ℕ → Streams
read_to mid left faults = record { left = left; held = mid.held; source_faults = faults; sink_faults = mid.sink_faults }

-- streams of which the sink alone was called
abbrev pub put_to : Streams → Option (List ℕ) → ℕ → Streams
put_to mid held faults = record { left = mid.left; held = held; source_faults = mid.source_faults; sink_faults = faults }

not_full : (stop : ReadStop) (size : ℕ) → stop_of stop ≡ stops.JournalFull size → ⊥
not_full reading.ReadFault size e = absurd (cc (e))
not_full reading.LineTooLong size e = absurd (cc (e))
not_full reading.ScriptTooLong size e = absurd (cc (e))
not_full reading.NoMemory size e = absurd (cc (e))

not_failed : (stop : ReadStop) → stop_of stop ≡ stops.DiskFault → ⊥
not_failed reading.ReadFault e = absurd (cc (e))
not_failed reading.LineTooLong e = absurd (cc (e))
not_failed reading.ScriptTooLong e = absurd (cc (e))
not_failed reading.NoMemory e = absurd (cc (e))

goes_more : (lines : List (List ℕ)) (raw : List ℕ) → GoesOn lines → ends_script raw ≡ false → GoesOn (lines ++ raw ∷ [])
goes_more lines raw on more = list_all-append (λ line. not (ends_script line)) lines (raw ∷ []) ∙ rw (on, more) refl

module _ {K : Type 0} (seen : K → CallerView) (leads : K → K → Type 0) (old now : K) (reader next : ReaderView) (before mid : Streams)
    (so : SoFar seen leads old now reader before mid) (left : Option (List ℕ)) (faults : ℕ) where
  settled_now : IsSettled (seen now).start (seen now).trail (seen now).rest before (read_to mid left faults) so.position
  settled_now = record { answered = so.answers.settled; none_left = so.answers.none_left }

  puts_now : Puts (seen now).start (seen now).trail (seen now).rest before (read_to mid left faults) so.text
  puts_now = record { gained = so.answers.gained; sound = so.answers.sound }

  -- the input has no line more
  pub ends_whole : GivesNext reader next (input_of mid) (record { left = left; faults = faults }) None
      → AnswersLines seen leads old now before (read_to mid left faults) (Ok tt)
  ends_whole given =
      let all = read_all so.answered reader next before mid (read_to mid left faults) so.read given in
      record {
        added = so.answers.added;
        grows = so.answers.grows;
        answers = record {
          answered = so.answered;
          text = so.text;
          last = so.position;
          transcript = so.answers.transcript;
          ends = finished [] all.0 (inl (record { goes_on = so.goes_on; none_behind = refl; at_end = all.1 })) settled_now puts_now (given.takes.sound ∙ so.read.calm);
        };
        full = λ size e. absurd (cc (e));
        failed = λ e. absurd (cc (e));
        leads_on = so.on;
      }

  -- no line could be read
  pub ends_unread : (stop : ReadStop) → StopsReading reader (input_of mid) (record { left = left; faults = faults }) stop → (reader.at_end ≡ true → ⊥)
      → AnswersLines seen leads old now before (read_to mid left faults) (Err (stop_of stop))
  ends_unread stop stopped more =
      let s = read_stops (seen now).start (seen now).trail (seen now).rest so.answered reader before mid (read_to mid left faults) so.read more stop stopped in
      record {
        added = so.answers.added;
        grows = so.answers.grows;
        answers = record {
          answered = so.answered;
          text = so.text;
          last = so.position;
          transcript = so.answers.transcript;
          ends = unread s.behind (stop_of stop) s.reads so.goes_on s.cause settled_now puts_now;
        };
        full = λ size e. absurd (not_full stop size (let f : stop_of stop ≡ stops.JournalFull size = cc in f));
        failed = λ e. absurd (not_failed stop (let f : stop_of stop ≡ stops.DiskFault = cc in f));
        leads_on = so.on;
      }

  module _ (raw : List ℕ) (given : GivesNext reader next (input_of mid) (record { left = left; faults = faults }) (Some raw)) (more : reader.at_end ≡ true → ⊥) where
    abbrev read_line_more : HasRead (so.answered ++ raw ∷ []) next before (read_to mid left faults)
    read_line_more = read_more so.answered reader next before mid (read_to mid left faults) raw so.read given more

    answers_as : HasAnswered (seen old) (seen now) before (read_to mid left faults) so.answered so.text so.position
    answers_as = record {
      transcript = so.answers.transcript;
      within = so.answers.within;
      settled = so.answers.settled;
      hand = so.answers.hand;
      none_left = so.answers.none_left;
      added = so.answers.added;
      grows = so.answers.grows;
      gained = so.answers.gained;
      sound = so.answers.sound;
    }

    -- memory ran out for the words of the line
    pub ends_starved : AnswersLines seen leads old now before (read_to mid left faults) (Err stops.NoMemory)
    ends_starved = record {
      added = so.answers.added;
      grows = so.answers.grows;
      answers = record {
        answered = so.answered;
        text = so.text;
        last = so.position;
        transcript = so.answers.transcript;
        ends = unanswered raw next.rest stops.NoMemory (reads_of (so.answered ++ raw ∷ []) next before (read_to mid left faults) read_line_more) so.goes_on
            (starved_at (may_none (meaning raw) _ so.answers.settled) so.answers.none_left puts_now) read_line_more.calm;
      };
      full = λ size e. absurd (cc (e));
      failed = λ e. absurd (cc (e));
      leads_on = so.on;
    }

    module _ (after : K) (held : Option (List ℕ)) (sink_faults : ℕ) (on : leads old after) where
      abbrev pub last_streams : Streams
      last_streams = put_to (read_to mid left faults) held sink_faults

      -- the line isn't answered whole
      pub ends_unanswered : (stop : ScriptStop) → LineStops (seen now) (seen after) (meaning raw) mid.held held mid.sink_faults sink_faults stop
          → AnswersLines seen leads old after before last_streams (Err stop)
      ends_unanswered stop stopped =
          let moves = stops_move (seen old) (seen now) (seen after) before (read_to mid left faults) last_streams so.answered so.text so.position answers_as (meaning raw) stop stopped in
          record {
            added = so.answers.added ++ moves.added;
            grows = grows_then (seen old) (seen now) (seen after) so.answers.added moves.added so.answers.grows moves.grows;
            answers = record {
              answered = so.answered;
              text = so.text;
              last = so.position;
              transcript = transcript_on (seen old) (seen now) (seen after) before (read_to mid left faults) last_streams so.answered so.text so.position answers_as moves;
              ends = unanswered raw next.rest stop (reads_of (so.answered ++ raw ∷ []) next before (read_to mid left faults) read_line_more) so.goes_on
                  (cant_answer (seen old) (seen now) (seen after) before (read_to mid left faults) last_streams so.answered so.text so.position answers_as (meaning raw) stop stopped)
                  read_line_more.calm;
            };
            full = λ size e. stops_full (seen old) (seen now) (seen after) before (read_to mid left faults) last_streams so.answered so.text so.position answers_as (meaning raw) stop size stopped
                (let f : stop ≡ stops.JournalFull size = cc in f);
            failed = λ e. stops_failed (seen old) (seen now) (seen after) before (read_to mid left faults) last_streams so.answered so.text so.position answers_as (meaning raw) stop stopped
                (let f : stop ≡ stops.DiskFault = cc in f);
            leads_on = on;
          }

      module _ (answered : LineAnswered (seen now) (seen after) (meaning raw) mid.held held mid.sink_faults sink_faults) where
        abbrev printed_now : IsPrinted (seen after) so.position (meaning raw) answered.text
        printed_now = printed_of (seen old) (seen now) (seen after) before (read_to mid left faults) last_streams so.answered so.text so.position answers_as (meaning raw) answered.text answered.says

        abbrev answers_more : HasAnswered (seen old) (seen after) before last_streams (so.answered ++ raw ∷ []) (so.text ++ answered.text) printed_now.position
        answers_more = answered_more (seen old) (seen now) (seen after) before (read_to mid left faults) last_streams so.answered so.text so.position answers_as raw answered printed_now

        abbrev read_last : HasRead (so.answered ++ raw ∷ []) next before last_streams
        read_last = record {
          script = read_line_more.script;
          taken = read_line_more.taken;
          given = read_line_more.given;
          within = read_line_more.within;
          count = read_line_more.count;
          kept = read_line_more.kept;
          calm = read_line_more.calm;
        }

        -- the line is answered, and more may come
        pub so_far_more : ends_script raw ≡ false → SoFar seen leads old after next before last_streams
        so_far_more going = record {
          answered = so.answered ++ raw ∷ [];
          text = so.text ++ answered.text;
          position = printed_now.position;
          read = read_last;
          goes_on = goes_more so.answered raw so.goes_on going;
          answers = answers_more;
          on = on;
        }

        -- the line ends the script
        pub ends_quit : ends_script raw ≡ true → AnswersLines seen leads old after before last_streams (Ok tt)
        ends_quit quits = record {
          added = answers_more.added;
          grows = answers_more.grows;
          answers = record {
            answered = so.answered ++ raw ∷ [];
            text = so.text ++ answered.text;
            last = printed_now.position;
            transcript = answers_more.transcript;
            ends = finished next.rest (reads_of (so.answered ++ raw ∷ []) next before last_streams read_last)
                (inr (record { front = so.answered; last = raw; joined = refl; goes_on = so.goes_on; quits = quits }))
                (record { answered = answers_more.settled; none_left = answers_more.none_left })
                (record { gained = answers_more.gained; sound = answers_more.sound }) read_last.calm;
          };
          full = λ size e. absurd (cc (e));
          failed = λ e. absurd (cc (e));
          leads_on = on;
        }
