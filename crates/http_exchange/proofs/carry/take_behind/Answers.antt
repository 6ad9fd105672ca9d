use Rattle.std.proofs.Common.{◌<◌, ◌≤◌, length, sym, subst, arith}
use Rattle.field_io.specs.Exchanges.{Makes, change_last, taken_on}
use Rattle.http_exchange.proofs.Becoming.{behind_front}
use Rattle.http_exchange.proofs.carry.take_behind.Goals as goal

pub returns-clause-carried : goal.returns-clause-carried
returns-clause-carried g c =
    let within : c.args.len ≤ length c.args.room.now = omega (arith, c.requires.room) in
    subst (λ buffer. Makes (g.N.Dialer.carried c.args.dialer.now) (g.N.Dialer.carried c.take.new.self) (change_last (taken_on buffer c.take.result)))
    (sym (behind_front c.args.room.now c.take.new.buf c.args.len within)) c.take.ensures.carried
