use Rattle.std.proofs.Common.{◌≡◌}
use Rattle.send_workers.specs.Rounds.{view}
use Rattle.send_workers.proofs.Rounding.{Turns}
use Rattle.send_workers.proofs.round.send_all.Given as goal

abbrev pub invariant-loop-left : goal.invariant-loop-left
invariant-loop-left g l =
    Turns (g.K.Caller.leads l.fn.caller l.caller) (g.N.Dialer.peer l.dialer ≡ g.N.Dialer.peer l.fn.dialer)
    (view (g.K.Caller.seen l.fn.caller) (g.N.Dialer.carried l.fn.dialer))
    (view (g.K.Caller.seen l.caller) (g.N.Dialer.carried l.dialer)) l.tally l.left

abbrev pub decreases-loop-left : goal.decreases-loop-left
decreases-loop-left g l = l.left
