-- A part that has no head for a document, or one that has.
use Rattle.std.proofs.Common.{option_copied}
use Rattle.submission_wire.proofs.Closing.{closed_part, never_headed}
use Rattle.submission_wire.proofs.part.document_in.Goals as goal

pub returns-in_default-content_of : goal.returns-in_default-content_of
returns-in_default-content_of c =
    never_headed c.args.opening.now c.args.ending.now c.args.body.now c.in-Some.part.now c.in-Some.ensures
    c.in_default-content_of.ensures

pub returns : goal.returns
returns c =
    closed_part c.args.opening.now c.args.ending.now c.args.body.now c.in-Some.part.now c.in-Some-content_of.content.now
    c.in-Some.ensures c.in-Some-content_of.ensures (option_copied c.document_of.result) c.document_of.ensures
