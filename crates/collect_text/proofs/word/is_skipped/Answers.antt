use Rattle.std.proofs.Common.{◌∙◌}
use Rattle.collect_text.proofs.Reading.{skipped-rest}
use Rattle.collect_text.proofs.word.is_skipped.Goals as goal

pub returns-else-is_comment : goal.returns-else-is_comment
returns-else-is_comment c =
    let spaces = c.skip_spaces.ensures in
    c.is_empty.ensures ∙ skipped-rest c.args.line.now c.skip_spaces.result.now c.if-is_comment.ensures spaces.words spaces.word
