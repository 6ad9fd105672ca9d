use Rattle.std.proofs.Common.{◌≡◌, ◌≤◌, ◌-◌, true, length, take}
use Rattle.http_reply.specs.Bodies.{most_kept}
use Rattle.http_exchange.specs.Carrying.{Taking}
use Rattle.http_exchange.proofs.carry.take_reply.Given as goal

abbrev pub invariant-takes : goal.invariant-takes
invariant-takes g l = record {
  within : l.len ≤ most_kept;
  size : length l.room ≡ most_kept;
  taking : Taking (take l.len l.room)
      (record { carried = g.N.Dialer.carried l.fn.dialer; faults = g.N.Dialer.faults l.fn.dialer; ends = g.N.Dialer.ends l.fn.dialer })
      (record { carried = g.N.Dialer.carried l.dialer; faults = g.N.Dialer.faults l.dialer; ends = g.N.Dialer.ends l.dialer });
  open_yet : g.N.Dialer.is_open l.dialer ≡ true;
  peer : g.N.Dialer.peer l.dialer ≡ g.N.Dialer.peer l.fn.dialer;
}

abbrev pub decreases-takes : goal.decreases-takes
decreases-takes g l = most_kept - l.len
