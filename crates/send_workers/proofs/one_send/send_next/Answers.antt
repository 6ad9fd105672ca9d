use Rattle.send_workers.proofs.one_send.send_next.Goals as goal

pub returns-in-Ok-Some-clause-turned : goal.returns-in-Ok-Some-clause-turned
returns-in-Ok-Some-clause-turned g c = λ old sends refused sent.
    let names = c.in-Ok-Some.ensures.looked old sends refused (g.N.Dialer.carried c.args.dialer.now) sent in
    c.send_named.ensures.turned old sends refused (rw c.in-Ok-Some.field-0-is at names)

pub returns-in-Ok-None-clause-turned : goal.returns-in-Ok-None-clause-turned
returns-in-Ok-None-clause-turned g c = λ old sends refused sent.
    let names = c.in-Ok-None.ensures.looked old sends refused (g.N.Dialer.carried c.args.dialer.now) sent in
    rw c.in-Ok-None.field-0-is at names

pub returns-in-Err-clause-turned : goal.returns-in-Err-clause-turned
returns-in-Err-clause-turned g c = λ old sends refused sent.
    c.in-Err.ensures.looked old sends refused (g.N.Dialer.carried c.args.dialer.now) sent
