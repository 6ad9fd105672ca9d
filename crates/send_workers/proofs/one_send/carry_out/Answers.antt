use Rattle.std.proofs.Common.{sym}
use Rattle.send_workers.proofs.Steps.{carried_out}
use Rattle.send_workers.proofs.one_send.carry_out.Goals as goal

pub returns-clause-carries : goal.returns-clause-carries
returns-clause-carries g c =
    rw (c.outcome_of.ensures, sym c.bytes.ensures) (carried_out c.args.authority.now c.bytes.result.now _ _ c.exchange-got.result c.exchange-got.ensures.exchanges)
