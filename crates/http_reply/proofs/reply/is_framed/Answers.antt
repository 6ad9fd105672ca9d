-- Whether the reply that the bytes are has its end.
use Rattle.std.proofs.Common.{ap, ◌∙◌}
use Rattle.http_reply.specs.Found.{ends_in}
use Rattle.http_reply.proofs.Outcomes.{ends_of_piece}
use Rattle.http_reply.proofs.reply.is_framed.Goals as goal

pub returns : goal.returns
returns c =
    let read = c.read_outcome-outcome.ensures in
    (read.0, read.1, c.ends_reply.ensures ∙ ap (λ o. ends_in o.has_end o.body) read.2 ∙ ends_of_piece read.0.has_end read.0.body)
