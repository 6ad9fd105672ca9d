use Rattle.std.proofs.Common.{ap, arith, is_ok}
use Rattle.std.proofs.ResultArms.{chosen}
use Rattle.collect_text.proofs.Reading.{byte_read, word_read, bare-space, bare-byte, bare-none}
use Rattle.collect_text.proofs.word.bare_word.Goals as goal

pub returns-then-first-eq32-clause-found : goal.returns-then-first-eq32-clause-found
returns-then-first-eq32-clause-found c =
    word_read _ _ _ _ c.loop-first.invariant.words (bare-space _ _ _ c.in-Some.ensures.cases.0 c.if-first-eq32.true)

pub loop-first-preserved : goal.loop-first-preserved
loop-first-preserved c =
    let pushed = chosen _ _ _ _ c.push.ensures.items (ap is_ok c.in_ok-push.was) in
    let cut = c.in-Some.ensures.cases in
    let left = cut.1 in
    let within = c.loop-first.invariant.within in
    record {
      words = byte_read _ _ _ _ _ _ c.loop-first.invariant.words (bare-byte _ _ _ cut.0 c.if-first-eq32.false (cc c.if-not-is_bare.ensures)) pushed;
      within = omega arith;
      begun = λ same. absurd (omega arith);
    }

pub returns-clause-found : goal.returns-clause-found
returns-clause-found c = word_read _ _ _ _ c.loop-first.invariant.words (bare-none _ c.in_default.ensures.cases)
