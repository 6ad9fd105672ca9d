-- A line grows by the bytes that are given, and ends.
use Rattle.std.proofs.Common.{◌≡◌, ◌≢◌, ℕ, zero, suc, ◌+◌, ◌-◌, ◌<◌, ◌≤◌, List, [], ◌∷◌, ◌++◌, Bool, true, false, not, ◌==◌, length, Option, Some, None, IsTrue, IfErr, refl, ap, sym, ◌∙◌, subst, arith, append_assoc, length-append}
use Rattle.std.specs.Prelude.{option_to_list}
use Rattle.std.specs.List.{list_all}
use Rattle.std.proofs.lemmas.List.{append-nil}
use Rattle.std.proofs.lemmas.List.Folds.{list_all-append}
use Rattle.std.proofs.lemmas.Bool.{ne_eqb}
use Rattle.field_io.specs.Causes.{Rose}
use Rattle.line_io.specs.declared.stop.ReadStop.{ReadStop}
use Rattle.line_io.specs.declared.stop.ReadStop.TheVariants as stops
use Rattle.line_io.specs.Reader.{ReaderView, Input, IsKept, TakesOn, HasEnded, Gives, GivesNext, StopsReading}
use Rattle.line_io.specs.Reading.{GivesByte, StopsByte, HasLine}
use Rattle.line_io.specs.Script.{most_bytes, longest_line, Taken, IsUncut, IsLine}
use Rattle.line_io.proofs.Gains.{taken_then}

-- nothing was taken
pub taken_nothing : (left : Option (List ℕ)) → Taken left left []
taken_nothing None = tt
taken_nothing (Some rest) = refl

-- what is taken in one call and then in another
pub takes_then : (a b c : ReaderView) (x y z : Input) (first second : List ℕ) → TakesOn a b x y first → TakesOn b c y z second → TakesOn a c x z (first ++ second)
takes_then a b c x y z first second h k = record {
  taken = taken_then x.left y.left z.left first second h.taken k.taken;
  count = (let e = length-append first second in let p = h.count in let q = k.count in omega arith);
  sound = k.sound ∙ h.sound;
  kept = k.kept;
}

-- before the first byte
pub no_line : (start : ReaderView) (input : Input) (line : List ℕ) → line ≡ [] → IsKept start input → HasLine start start input input line
no_line start input line none kept = subst (HasLine start start input input) (sym none) (record {
  bytes = [];
  takes = record { taken = taken_nothing input.left; count = omega arith; sound = refl; kept = kept };
  joined = append-nil start.rest;
  within = record { uncut = refl; short = omega arith };
})

-- an uncut line with one more byte
uncut_more : (line : List ℕ) (b : ℕ) → b ≢ 10 → IsUncut line → IsUncut (line ++ b ∷ [])
uncut_more line b other uncut =
    let other_is : (b == 10) ≡ false = ne_eqb b 10 other in
    list_all-append (λ a. not (a == 10)) line (b ∷ []) ∙ rw (uncut, other_is) refl

module _ (start now next : ReaderView) (before between after : Input) (line : List ℕ) (has : HasLine start now before between line) where
  -- the bytes before and those of a next call, as the line and what follows
  joined_on : (bytes rest : List ℕ) → now.rest ++ bytes ≡ rest → start.rest ++ (has.bytes ++ bytes) ≡ line ++ rest
  joined_on bytes rest is =
      sym (append_assoc start.rest has.bytes bytes) ∙ ap (λ xs. xs ++ bytes) has.joined ∙ append_assoc line now.rest bytes ∙ ap (λ xs. line ++ xs) is

  module _ (b : ℕ) (given : GivesByte now next between after (Some b)) where
    takes_byte : TakesOn start next before after (has.bytes ++ given.bytes)
    takes_byte = takes_then start now next before between after has.bytes given.bytes has.takes given.takes

    joined_byte : start.rest ++ (has.bytes ++ given.bytes) ≡ (line ++ b ∷ []) ++ next.rest
    joined_byte = joined_on given.bytes (b ∷ next.rest) given.joined ∙ sym (append_assoc line (b ∷ []) next.rest)

    -- one byte more
    pub line_more : b ≢ 10 → length line ≢ longest_line → HasLine start next before after (line ++ b ∷ [])
    line_more other room = record {
      bytes = has.bytes ++ given.bytes;
      takes = takes_byte;
      joined = joined_byte;
      within = record {
        uncut = uncut_more line b other has.within.uncut;
        short = (let e = length-append line (b ∷ []) in let s = has.within.short in omega arith);
      };
    }

    -- the line feed
    pub line_fed : b ≡ 10 → GivesNext start next before after (Some line)
    line_fed feed = record {
      bytes = has.bytes ++ given.bytes;
      takes = takes_byte;
      gives = Gives.line line has.within (joined_on given.bytes (10 ∷ next.rest) (given.joined ∙ ap (λ x. x ∷ next.rest) feed));
    }

    -- one byte too many
    pub line_too_long : b ≢ 10 → length line ≡ longest_line → StopsReading start before after stops.LineTooLong
    line_too_long other full = StopsReading.long_line (has.bytes ++ given.bytes) (line ++ b ∷ []) next.rest takes_byte.taken joined_byte
        (uncut_more line b other has.within.uncut) (let e = length-append line (b ∷ []) in omega arith) takes_byte.sound

    pub line_starved : StopsReading start before after stops.NoMemory
    line_starved = StopsReading.starved (has.bytes ++ given.bytes) takes_byte.taken takes_byte.sound

  module _ (given : GivesByte now next between after None) where
    takes_none : TakesOn start next before after (has.bytes ++ given.bytes)
    takes_none = takes_then start now next before between after has.bytes given.bytes has.takes given.takes

    joined_none : start.rest ++ (has.bytes ++ given.bytes) ≡ line
    joined_none = joined_on given.bytes [] (given.joined ∙ (given.ended refl).none_left) ∙ append-nil line

    -- the last line
    pub line_ended : 0 < length line → GivesNext start next before after (Some line)
    line_ended some = record { bytes = has.bytes ++ given.bytes; takes = takes_none; gives = Gives.last line some has.within joined_none (given.ended refl) }

    -- no line
    pub none_ended : line ≡ [] → GivesNext start next before after None
    none_ended none = record { bytes = has.bytes ++ given.bytes; takes = takes_none; gives = Gives.none (joined_none ∙ none) (given.ended refl) }

module _ (start now : ReaderView) (before between after : Input) (line : List ℕ) (has : HasLine start now before between line) where
  -- where nothing is left, the bytes so far are the line
  uncut_so_far : now.rest ≡ [] → IsUncut (start.rest ++ has.bytes)
  uncut_so_far none = subst IsUncut (sym (has.joined ∙ ap (λ xs. line ++ xs) none ∙ append-nil line)) has.within.uncut

  -- why no byte could be given
  pub stops_on : (stop : ReadStop) → StopsByte now between after stop → StopsReading start before after stop
  stops_on stop (StopsByte.failed taken none rose) = StopsReading.failed has.bytes
      (subst (Taken before.left after.left) (append-nil has.bytes) (taken_then before.left between.left after.left has.bytes [] has.takes.taken taken))
      (uncut_so_far none) (subst (λ n. Rose n after.faults) has.takes.sound rose)
  stops_on stop (StopsByte.starved bytes taken same) = StopsReading.starved (has.bytes ++ bytes)
      (taken_then before.left between.left after.left has.bytes bytes has.takes.taken taken) (same ∙ has.takes.sound)
  stops_on stop (StopsByte.long_script past some taken none full same) = StopsReading.long_script has.bytes past some
      (taken_then before.left between.left after.left has.bytes past has.takes.taken taken) (uncut_so_far none)
      (sym has.takes.count ∙ full) (same ∙ has.takes.sound)

-- each byte that is given makes what may come less
pub falls : (now next : ReaderView) (between after : Input) (b : ℕ) → GivesByte now next between after (Some b) → next.taken ≤ most_bytes
    → most_bytes - next.taken + length next.rest < most_bytes - now.taken + length now.rest
falls now next between after b given within =
    let e = length-append now.rest given.bytes in
    let j : length (now.rest ++ given.bytes) ≡ suc (length next.rest) = ap length given.joined in
    let c = given.takes.count in omega arith

-- a reader at the end gives nothing more
pub none_more : (reader : ReaderView) (input : Input) → IsKept reader input → reader.at_end ≡ true → GivesNext reader reader input input None
none_more reader input kept at_end = record {
  bytes = [];
  takes = record { taken = taken_nothing input.left; count = omega arith; sound = refl; kept = kept };
  gives = Gives.none (append-nil reader.rest ∙ kept.dry at_end) (record { none_left = kept.dry at_end; at_end = at_end; is_at_end = kept.ended at_end });
}
