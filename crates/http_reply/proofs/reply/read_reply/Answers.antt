-- The class of the reply that the bytes are.
use Rattle.std.proofs.Common.{length, ap, ◌∙◌}
use Rattle.http_reply.specs.Found.{class_in}
use Rattle.http_reply.proofs.Outcomes.{class_of_piece}
use Rattle.http_reply.proofs.reply.read_reply.Goals as goal

pub returns : goal.returns
returns c =
    let read = c.read_outcome-outcome.ensures in
    let total = length c.args.bytes.now in
    (read.0, read.1, ap (λ o. o.status) read.2, c.class_in.ensures ∙ ap (λ o. class_in total o.body) read.2 ∙ class_of_piece total read.0.body)
