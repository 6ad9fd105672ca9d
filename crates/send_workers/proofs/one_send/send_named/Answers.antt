use Rattle.std.proofs.Common.{refl}
use Rattle.send_workers.specs.Rounds.Starves.{unbegun}
use Rattle.send_workers.proofs.one_send.send_named.Goals as goal

pub returns-in-Err-clause-turned : goal.returns-in-Err-clause-turned
returns-in-Err-clause-turned g c = λ old sends refused names. unbegun sends refused names.0

pub returns-in-Ok-true-clause-turned : goal.returns-in-Ok-true-clause-turned
returns-in-Ok-true-clause-turned g c = λ old sends refused names.
    let begins = c.in-Ok-true.ensures.begun old sends refused (g.N.Dialer.carried c.args.dialer.now) c.args.named names
    refl in
    c.finish_send.ensures.turned old sends refused c.now-at.result (rw c.in-Ok-true.field-0-test at begins) c.in-Ok.ensures

pub returns-in-Ok-false-clause-turned : goal.returns-in-Ok-false-clause-turned
returns-in-Ok-false-clause-turned g c = λ old sends refused names.
    let begins = c.in-Ok-false.ensures.begun old sends refused (g.N.Dialer.carried c.args.dialer.now) c.args.named names
    refl in
    rw c.in-Ok-false.field-0-test at begins

pub returns-in-Err-begin_send-clause-turned : goal.returns-in-Err-begin_send-clause-turned
returns-in-Err-begin_send-clause-turned g c = λ old sends refused names.
    c.in-Err-begin_send.ensures.begun old sends refused (g.N.Dialer.carried c.args.dialer.now) c.args.named names refl
