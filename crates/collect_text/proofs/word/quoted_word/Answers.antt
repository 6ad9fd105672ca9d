use Rattle.std.proofs.Common.{ap, arith, is_ok}
use Rattle.std.proofs.ResultArms.{chosen}
use Rattle.collect_text.proofs.Reading.{byte_read, word_read, quoted-close}
use Rattle.collect_text.proofs.word.quoted_word.Goals as goal

pub returns-then-first-eq34-clause-found : goal.returns-then-first-eq34-clause-found
returns-then-first-eq34-clause-found c =
    word_read _ _ _ _ c.loop-first.invariant.words
    (quoted-close _ _ _ c.in-Some.ensures.cases.0 c.if-first-eq34.true (cc c.if-not-ends_word.ensures))

pub loop-first-preserved : goal.loop-first-preserved
loop-first-preserved c =
    let pushed = chosen _ _ _ _ c.push.ensures.items (ap is_ok c.in_ok-push.was) in
    let step = c.in-Some-quoted_byte.ensures in
    record {
      words = byte_read _ _ _ _ _ _ c.loop-first.invariant.words step.found pushed;
      within = omega (arith, step.shorter);
    }
