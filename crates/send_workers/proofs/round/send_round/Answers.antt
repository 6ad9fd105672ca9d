use Rattle.send_workers.proofs.Rounding.{ends_so}
use Rattle.send_workers.proofs.round.send_round.Goals as goal

pub returns-in-Err-clause-rounds : goal.returns-in-Err-clause-rounds
returns-in-Err-clause-rounds g c = c.in-Err.ensures.locked (g.N.Dialer.carried c.args.dialer.now)

pub returns-in-Err-send_all-clause-rounds : goal.returns-in-Err-send_all-clause-rounds
returns-in-Err-send_all-clause-rounds g c =
    let sent = c.in-Ok.ensures.locked (g.N.Dialer.carried c.args.dialer.now) in
    let fails = c.in-Err-send_all.ensures.all _ sent in
    ends_so _ _ fails.0 fails.1 c.in-Err-send_all.end fails.2
