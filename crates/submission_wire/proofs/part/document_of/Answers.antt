-- The first delimiter ends the last part, or none does.
use Rattle.submission_wire.proofs.Closing.{closed_at, never_closed, not_closed}
use Rattle.submission_wire.proofs.part.document_of.Goals as goal

pub returns-in_default : goal.returns-in_default
returns-in_default c = never_closed c.args.content.now c.args.ending.now c.in_default.ensures

pub returns-then-is_last_tail : goal.returns-then-is_last_tail
returns-then-is_last_tail c =
    let tail = c.behind.result.now in
    closed_at c.args.content.now c.args.ending.now c.in-Some.at c.in-Some.ensures tail c.behind.ensures
    c.if-is_last_tail.ensures c.front.result.now c.front.ensures

pub returns : goal.returns
returns c =
    let tail = c.behind.result.now in
    not_closed c.args.content.now c.args.ending.now c.in-Some.at c.in-Some.ensures tail c.behind.ensures
    c.if-is_last_tail.ensures
