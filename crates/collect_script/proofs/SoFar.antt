-- What stands while the lines of a script are read and answered one after another.
use Rattle.std.proofs.Common.{◌≡◌, ℕ, ◌+◌, ◌-◌, ◌<◌, ◌≤◌, List, [], ◌∷◌, ◌++◌, true, false, length, map, Option, Some, None, refl, ap, sym, ◌∙◌, subst, arith, append_assoc, length-append, suc}
use Rattle.std.specs.List.{AllByRecursion}
use Rattle.std.proofs.lemmas.List.{append-nil, drop_all}
use Rattle.field_io.specs.Causes.{Rose}
use Rattle.entry_form.specs.declared.entry.Entry.{Entry}
use Rattle.entry_form.specs.declared.hand.Hand.TheVariants.{Script}
use Rattle.device_state.specs.declared.state.State.{State}
use Rattle.device_rules.specs.Caller.{CallerView, Grows}
use Rattle.line_io.specs.Output.{Gained}
use Rattle.line_io.specs.Reader.{Gives, GivesNext, HasEnded, Input, IsKept, ReaderView, StopsReading, line, last, none, failed, starved, long_line, long_script}
use Rattle.line_io.specs.Script.{IsAtEnd, IsLine, Taken, most_bytes}
use Rattle.line_io.specs.declared.stop.ReadStop.{ReadStop}
use Rattle.line_io.proofs.Gains.{gained_nothing, taken_then}
use Rattle.line_io.proofs.Lines.{taken_nothing}
use Rattle.collect_text.specs.Line.{meaning}
use Rattle.collect_script.proofs.Growing.{grows_none}
use Rattle.collect_script.specs.Answering.{stop_of}
use Rattle.collect_script.specs.Ends.{CantRead, Streams}
use Rattle.collect_script.specs.Ends as ends
use Rattle.collect_script.specs.Script.{GoesOn, Reads, Spells, by_end, by_feeds, ended}
use Rattle.collect_script.specs.Transcript.{AllAnswered, Transcript, of_script}

abbrev pub input_of : Streams → Input
input_of streams = record { left = streams.left; faults = streams.source_faults }

-- Of what was taken all is given in lines, but for the rest that the reader keeps. The last line may lack its line feed.
pub data IsGiven (left : Option (List ℕ)) (script : List ℕ) (lines : List (List ℕ)) (reader : ReaderView) : Type 0 where
  going : script ≡ ended lines ++ reader.rest → IsGiven left script lines reader
  over : script ++ 10 ∷ [] ≡ ended lines → reader.at_end ≡ true → IsAtEnd left → IsGiven left script lines reader

-- these lines were read
pub record HasRead (lines : List (List ℕ)) (reader : ReaderView) (before mid : Streams) : Type 0 where
  pub script : List ℕ
  pub taken : Taken before.left mid.left script
  pub given : IsGiven mid.left script lines reader
  pub within : AllByRecursion IsLine lines
  pub count : reader.taken ≡ length script
  pub kept : IsKept reader (input_of mid)
  pub calm : mid.source_faults ≡ before.source_faults

-- these lines were answered
pub record HasAnswered (old now : CallerView) (before mid : Streams) (lines : List (List ℕ)) (text : List ℕ) (position : ℕ) : Type 0 where
  pub transcript : Transcript now.start now.trail (length old.trail) (map meaning lines) text position
  pub within : position ≤ length now.trail
  pub settled : AllAnswered now.start now.trail position
  pub hand : now.hand ≡ Script
  pub none_left : of_script now.rest ≡ []
  pub added : List Entry
  pub grows : Grows old now added
  pub gained : Gained before.held mid.held text
  pub sound : mid.sink_faults ≡ before.sink_faults

pub record SoFar {K : Type 0} (seen : K → CallerView) (leads : K → K → Type 0) (old now : K) (reader : ReaderView) (before mid : Streams) : Type 0 where
  pub answered : List (List ℕ)
  pub text : List ℕ
  pub position : ℕ
  pub read : HasRead answered reader before mid
  pub goes_on : GoesOn answered
  pub answers : HasAnswered (seen old) (seen now) before mid answered text position
  pub on : leads old now

-- before the first line
pub none_read : (streams : Streams) (reader : ReaderView) → reader ≡ record { rest = []; taken = 0; at_end = false } → HasRead [] reader streams streams
none_read streams reader fresh = subst (λ r. HasRead [] r streams streams) (sym fresh) (record {
  script = [];
  taken = taken_nothing streams.left;
  given = going refl;
  within = tt;
  count = refl;
  kept = record { within = omega arith; ended = λ e. absurd (cc (e)); dry = λ e. refl };
  calm = refl;
})

none_answered : (view : CallerView) (streams : Streams) → view.hand ≡ Script → of_script view.rest ≡ [] → HasAnswered view view streams streams [] [] (length view.trail)
none_answered view streams hand none_left = record {
  transcript = (refl, refl);
  within = omega arith;
  settled = ap of_script (drop_all (length view.trail) view.trail (omega arith));
  hand = hand;
  none_left = none_left;
  added = [];
  grows = grows_none view;
  gained = gained_nothing streams.held;
  sound = refl;
}

pub so_far_none : {K : Type 0} (seen : K → CallerView) (leads : K → K → Type 0) (old : K) (reader : ReaderView) (streams : Streams)
    → reader ≡ record { rest = []; taken = 0; at_end = false } → (seen old).hand ≡ Script → of_script (seen old).rest ≡ [] → leads old old
    → SoFar seen leads old old reader streams streams
so_far_none seen leads old reader streams fresh hand none_left stays = record {
  answered = [];
  text = [];
  position = length (seen old).trail;
  read = none_read streams reader fresh;
  goes_on = refl;
  answers = none_answered (seen old) streams hand none_left;
  on = stays;
}

-- ---- one line more is read

all_more : (lines : List (List ℕ)) (raw : List ℕ) → AllByRecursion IsLine lines → IsLine raw → AllByRecursion IsLine (lines ++ raw ∷ [])
all_more [] raw all one = (one, tt)
all_more (l ∷ lines) raw all one = (all.0, all_more lines raw all.1 one)

ended_more : (lines : List (List ℕ)) (raw : List ℕ) → ended (lines ++ raw ∷ []) ≡ ended lines ++ (raw ++ 10 ∷ [])
ended_more [] raw = append-nil (raw ++ 10 ∷ [])
ended_more (l ∷ lines) raw = ap (λ xs. (l ++ 10 ∷ []) ++ xs) (ended_more lines raw) ∙ sym (append_assoc (l ++ 10 ∷ []) (ended lines) (raw ++ 10 ∷ []))

-- what a call gives of a line, behind lines that were read
gives_more : (lines : List (List ℕ)) (reader next : ReaderView) (after : Streams) (script bytes raw : List ℕ) → script ≡ ended lines ++ reader.rest
    → Gives next (input_of after) (reader.rest ++ bytes) (Some raw) → IsGiven after.left (script ++ bytes) (lines ++ raw ∷ []) next × IsLine raw
gives_more lines reader next after script bytes raw is (line _ is_line cut) = (
  going (
      ap (λ xs. xs ++ bytes) is ∙ append_assoc (ended lines) reader.rest bytes ∙ ap (λ xs. ended lines ++ xs) cut
      ∙ ap (λ xs. ended lines ++ xs) (sym (append_assoc raw (10 ∷ []) next.rest)) ∙ sym (append_assoc (ended lines) (raw ++ 10 ∷ []) next.rest)
      ∙ ap (λ xs. xs ++ next.rest) (sym (ended_more lines raw))
      ),
  is_line,
)
gives_more lines reader next after script bytes raw is (last _ some is_line whole has) = (
  over (
      ap (λ xs. (xs ++ bytes) ++ 10 ∷ []) is ∙ ap (λ xs. xs ++ 10 ∷ []) (append_assoc (ended lines) reader.rest bytes ∙ ap (λ xs. ended lines ++ xs) whole)
      ∙ append_assoc (ended lines) raw (10 ∷ []) ∙ sym (ended_more lines raw)
      ) has.at_end has.is_at_end,
  is_line,
)

-- the script that was taken, while its end wasn't seen
still_going : (left : Option (List ℕ)) (script : List ℕ) (lines : List (List ℕ)) (reader : ReaderView) → (reader.at_end ≡ true → ⊥) → IsGiven left script lines reader
    → script ≡ ended lines ++ reader.rest
still_going left script lines reader more (going is) = is
still_going left script lines reader more (over is at_end source) = absurd (more at_end)

pub read_more : (lines : List (List ℕ)) (reader next : ReaderView) (before mid after : Streams) (raw : List ℕ) → HasRead lines reader before mid
    → GivesNext reader next (input_of mid) (input_of after) (Some raw) → (reader.at_end ≡ true → ⊥) → HasRead (lines ++ raw ∷ []) next before after
read_more lines reader next before mid after raw read given more =
    let g = gives_more lines reader next after read.script given.bytes raw (still_going mid.left read.script lines reader more read.given) given.gives in
    record {
      script = read.script ++ given.bytes;
      taken = taken_then before.left mid.left after.left read.script given.bytes read.taken given.takes.taken;
      given = g.0;
      within = all_more lines raw read.within g.1;
      count = (let e = length-append read.script given.bytes in let c = read.count in let d = given.takes.count in omega arith);
      kept = given.takes.kept;
      calm = given.takes.sound ∙ read.calm;
    }

-- ---- what was read, as it is said of the script

pub reads_of : (lines : List (List ℕ)) (reader : ReaderView) (before mid : Streams) → HasRead lines reader before mid → Reads before.left mid.left lines reader.rest
reads_of lines reader before mid read = record {
  script = read.script;
  taken = read.taken;
  spells = spells_of mid.left read.script lines reader read.kept.dry read.given;
  within = read.within;
}
  where
    spells_of : (left : Option (List ℕ)) (script : List ℕ) (lines : List (List ℕ)) (reader : ReaderView) → (reader.at_end ≡ true → reader.rest ≡ [])
        → IsGiven left script lines reader → Spells left script lines reader.rest
    spells_of left script lines reader dry (going is) = by_feeds is
    spells_of left script lines reader dry (over is at_end source) = by_end is (dry at_end) source

none_front : (xs ys : List ℕ) → xs ++ ys ≡ [] → xs ≡ []
none_front [] ys e = refl
none_front (x ∷ xs) ys e = absurd (cc (e))

none_behind : (xs ys : List ℕ) → xs ++ ys ≡ [] → ys ≡ []
none_behind [] ys e = e
none_behind (x ∷ xs) ys e = absurd (cc (e))

spells_end : (lines : List (List ℕ)) (reader : ReaderView) (left left_after : Option (List ℕ)) (script bytes : List ℕ) → reader.rest ++ bytes ≡ [] → IsAtEnd left_after
    → IsGiven left script lines reader → Spells left_after (script ++ bytes) lines []
spells_end lines reader left left_after script bytes none_more at_end (going is) =
    by_feeds (ap (λ xs. xs ++ bytes) is ∙ append_assoc (ended lines) reader.rest bytes ∙ ap (λ xs. ended lines ++ xs) none_more)
spells_end lines reader left left_after script bytes none_more at_end (over is end source) =
    by_end (ap (λ xs. (script ++ xs) ++ 10 ∷ []) (none_behind reader.rest bytes none_more) ∙ ap (λ xs. xs ++ 10 ∷ []) (append-nil script) ∙ is) refl at_end

-- the end of the source
gives_none : (next : ReaderView) (after : Streams) (bytes : List ℕ) → Gives next (input_of after) bytes None → (bytes ≡ []) × HasEnded next (input_of after)
gives_none next after bytes (none is has) = (is, has)

pub read_all : (lines : List (List ℕ)) (reader next : ReaderView) (before mid after : Streams) → HasRead lines reader before mid
    → GivesNext reader next (input_of mid) (input_of after) None → Reads before.left after.left lines [] × IsAtEnd after.left
read_all lines reader next before mid after read given =
    let g = gives_none next after (reader.rest ++ given.bytes) given.gives in (
      record {
        script = read.script ++ given.bytes;
        taken = taken_then before.left mid.left after.left read.script given.bytes read.taken given.takes.taken;
        spells = spells_end lines reader mid.left after.left read.script given.bytes g.0 g.1.is_at_end read.given;
        within = read.within;
      },
      g.1.is_at_end,
    )

-- a stop of the reader, behind lines that were read
pub record ReadStops (start : State) (entries rest : List Entry) (before after : Streams) (lines : List (List ℕ)) (stop : ReadStop) : Type 0 where
  pub behind : List ℕ
  pub reads : Reads before.left after.left lines behind
  pub cause : CantRead start entries rest before after reads.script behind (stop_of stop)

module _ (start : State) (entries rest : List Entry) (lines : List (List ℕ)) (reader : ReaderView) (before mid after : Streams) (read : HasRead lines reader before mid) (more : reader.at_end ≡ true → ⊥) where
  abbrev reads_on : (bytes : List ℕ) → Taken mid.left after.left bytes → Reads before.left after.left lines (reader.rest ++ bytes)
  reads_on bytes taken = record {
    script = read.script ++ bytes;
    taken = taken_then before.left mid.left after.left read.script bytes read.taken taken;
    spells = by_feeds (ap (λ xs. xs ++ bytes) (still_going mid.left read.script lines reader more read.given) ∙ append_assoc (ended lines) reader.rest bytes);
    within = read.within;
  }

  pub read_stops : (stop : ReadStop) → StopsReading reader (input_of mid) (input_of after) stop → ReadStops start entries rest before after lines stop
  read_stops stop (failed bytes taken uncut rose) = record {
    behind = reader.rest ++ bytes;
    reads = reads_on bytes taken;
    cause = ends.failed uncut (subst (λ n. Rose n after.source_faults) read.calm rose);
  }
  read_stops stop (starved bytes taken same) = record { behind = reader.rest ++ bytes; reads = reads_on bytes taken; cause = ends.starved (same ∙ read.calm) }
  read_stops stop (long_line bytes front others taken joined uncut long same) = record {
    behind = reader.rest ++ bytes;
    reads = reads_on bytes taken;
    cause = ends.long_line (record { front = front; more = others; joined = joined; uncut = uncut; long = long }) (same ∙ read.calm);
  }
  read_stops stop (long_script bytes past some taken uncut full same) = record {
    behind = reader.rest ++ (bytes ++ past);
    reads = reads_on (bytes ++ past) taken;
    cause = ends.long_script (record {
      front = reader.rest ++ bytes;
      past = past;
      joined = sym (append_assoc reader.rest bytes past);
      uncut = uncut;
      some = some;
      long = (let e = length-append read.script (bytes ++ past) in let f = length-append bytes past in let c = read.count in omega (arith, full));
    }) (same ∙ read.calm);
  }

-- each line that is read makes what may come less
gives_falls : (reader next : ReaderView) (after : Input) (bytes raw : List ℕ) → Gives next after (reader.rest ++ bytes) (Some raw) → length next.rest < length reader.rest + length bytes
gives_falls reader next after bytes raw (line _ is_line cut) =
    let e : length (reader.rest ++ bytes) ≡ length (raw ++ 10 ∷ next.rest) = ap length cut in
    let f = length-append reader.rest bytes in let g : length (raw ++ 10 ∷ next.rest) ≡ length raw + suc (length next.rest) = length-append raw (10 ∷ next.rest) in omega arith
gives_falls reader next after bytes raw (last _ some is_line whole has) =
    let e : length (reader.rest ++ bytes) ≡ length raw = ap length whole in
    let f = length-append reader.rest bytes in let n : length next.rest ≡ 0 = ap length has.none_left in omega (arith, some)

pub read_falls : (reader next : ReaderView) (before after : Input) (raw : List ℕ) → GivesNext reader next before after (Some raw)
    → most_bytes - next.taken + length next.rest < most_bytes - reader.taken + length reader.rest
read_falls reader next before after raw given =
    let f = gives_falls reader next after given.bytes raw given.gives in let c = given.takes.count in let w = given.takes.kept.within in omega arith
