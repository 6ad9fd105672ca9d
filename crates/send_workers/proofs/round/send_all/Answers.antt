use Rattle.std.proofs.Common.{arith, refl, rules, ◌∙◌}
use Rattle.send_workers.proofs.Rounding.{all_at_none, all_when_tired, none_so_far, turns_refused, turns_sent}
use Rattle.send_workers.proofs.round.send_all.Goals as goal
use Rattle.send_workers.proofs.round.send_all.Goals.{in-Ok-NotDue, in-Ok-Sent}

pub loop-left-init : goal.loop-left-init
loop-left-init g c = none_so_far _ _ _ (g.met.K.Caller.stays c.args.caller.now) refl

pub returns-in-Ok-NoneLeft-clause-all : goal.returns-in-Ok-NoneLeft-clause-all
returns-in-Ok-NoneLeft-clause-all g c = λ old sent.
    let so = c.loop-left.invariant.so_far old sent in
    all_at_none old _ _ c.loop-left.tally c.loop-left.left so c.in-Ok-NoneLeft.field-0 c.in-Ok-NoneLeft.field-0-is
    (c.in-Ok-NoneLeft.ensures.turned old so.sends so.refused so.sent)

pub with-tally-requires : goal.with-tally-requires
with-tally-requires g c = let b = c.loop-left.invariant.bound in let n = c.loop-left-test.true in omega (arith, b, n)

pub returns-in-Err-clause-all : goal.returns-in-Err-clause-all
returns-in-Err-clause-all g c = λ old sent.
    let so = c.loop-left.invariant.so_far old sent in
    (so.sends, so.refused, c.in-Err.ensures.turned old so.sends so.refused so.sent)

pub loop-left-preserved : goal.loop-left-preserved
loop-left-preserved g c =
    let onto = g.met.K.Caller.leads_on _ _ _ c.loop-left.invariant.on c.send_next.ensures.leads in
    let still = c.send_next.ensures.peer ∙ c.loop-left.invariant.same in
    elim c.match-send_next-2.branch [
      | in-Ok-NotDue w ↦
          turns_refused _ _ _ _ _ _ _ _ _ _ c.loop-left.invariant c.loop-left-test.true onto still _ c.send_next.ensures.turned w.tally-is
          (search rules)
      | in-Ok-Sent w ↦
          turns_sent _ _ _ _ _ _ _ _ _ _ c.loop-left.invariant c.loop-left-test.true onto still _ c.send_next.ensures.turned _
          (w.tally-is ∙ w.with-tally.ensures) (search rules)
    ]

pub returns-clause-all : goal.returns-clause-all
returns-clause-all g c = λ old sent.
    all_when_tired old _ _ _ (c.loop-left.invariant.so_far old sent) c.loop-left-test.false
