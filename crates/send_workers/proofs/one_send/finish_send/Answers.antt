use Rattle.std.proofs.Common.{refl}
use Rattle.send_workers.proofs.Sending.{carried_on, sending, starved}
use Rattle.send_workers.proofs.one_send.finish_send.Goals as goal

pub returns-in_default-clause-turned : goal.returns-in_default-clause-turned
returns-in_default-clause-turned g c = λ old sends refused at has posts.
    starved old _ _ _ sends refused c.args.named at has c.in_default.ensures.carries

pub returns-in-Ok-clause-turned : goal.returns-in-Ok-clause-turned
returns-in-Ok-clause-turned g c = λ old sends refused at has posts.
    let made = c.in-Some.ensures.carries in
    let s = sending c.args.named at made.0 c.in-Some.outcome in
    let ended = c.in-Ok.ensures.ended old sends refused _ s
    (carried_on old _ _ _ sends refused c.args.named at has c.args.request.now c.in-Some.outcome made.0 posts made.1
    made.2) refl refl in
    (s, ended.0, ended.1)

pub returns-clause-turned : goal.returns-clause-turned
returns-clause-turned g c = λ old sends refused at has posts.
    let made = c.in-Some.ensures.carries in
    c.in-Err.ensures.ended old sends refused _ (sending c.args.named at made.0 c.in-Some.outcome)
    (carried_on old _ _ _ sends refused c.args.named at has c.args.request.now c.in-Some.outcome made.0 posts made.1 made.2)
    refl refl
