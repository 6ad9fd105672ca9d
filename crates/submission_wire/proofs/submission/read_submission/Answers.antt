-- The document behind the boundary of its content type.
use Rattle.std.proofs.Common.{option_copied, ◌∙◌}
use Rattle.submission_wire.proofs.Submitting.{submitted}
use Rattle.submission_wire.proofs.submission.read_submission.Goals as goal

pub returns : goal.returns
returns c =
    submitted c.args.request.now c.in-Some.boundary.now c.deref.result.now c.deref-2.result.now c.bytes-2.result.now
    c.bytes.result.now (option_copied c.document_in.result) c.copied.result c.if-not-is_post.ensures
    c.bytes.ensures.value c.in-Some.ensures (c.deref.ensures.value ∙ c.in_ok-opening.ensures)
    (c.deref-2.ensures.value ∙ c.in_ok-ending.ensures) c.bytes-2.ensures c.document_in.ensures c.copied.ensures
