use Rattle.std.proofs.Common.{◌≡◌, true, false, length}
use Rattle.http_exchange.proofs.Becoming.{Sending}
use Rattle.http_exchange.proofs.carry.send_all.Given as goal

abbrev pub invariant-loop-rest : goal.invariant-loop-rest
invariant-loop-rest g l = record {
  sending : Sending l.fn.request l.rest
      (record { carried = g.N.Dialer.carried l.fn.dialer; faults = g.N.Dialer.faults l.fn.dialer; ends = g.N.Dialer.ends l.fn.dialer })
      (record { carried = g.N.Dialer.carried l.dialer; faults = g.N.Dialer.faults l.dialer; ends = g.N.Dialer.ends l.dialer });
  open_yet : g.N.Dialer.is_open l.dialer ≡ true;
  fresh : g.N.Dialer.has_taken l.dialer ≡ false;
  peer : g.N.Dialer.peer l.dialer ≡ g.N.Dialer.peer l.fn.dialer;
}

abbrev pub decreases-loop-rest : goal.decreases-loop-rest
decreases-loop-rest g l = length l.rest
