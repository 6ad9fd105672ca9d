use Rattle.submission_wire.proofs.Closing.{front_cut}
use Rattle.submission_wire.proofs.part.behind_front.Goals as goal

pub returns : goal.returns
returns c = front_cut c.args.bytes.now c.args.start.now c.strip_prefix.result c.strip_prefix.ensures.cases
