use Rattle.collect_text.proofs.Reading.{text_read}
use Rattle.collect_text.proofs.word.words.Goals as goal

pub loop-rest-preserved : goal.loop-rest-preserved
loop-rest-preserved c =
    let found = rw c.in-Some.is at c.in_ok-word.ensures.found in
    let text = c.in-Some-text_of.ensures in
    let next = c.skip_spaces-rest-in-loop-rest.result.now in
    let spaces = c.skip_spaces-rest-in-loop-rest.ensures in
    record {
      words = text_read c.args.line.now c.loop-rest.rest.now c.in-Some.behind.now next _ _ _ _ c.loop-rest.invariant.words found text.0 text.1 c.in_ok-push.ensures.ok spaces.words;
      word = spaces.word;
    }
