use Rattle.std.proofs.Common.{sym, ◌∙◌}
use Rattle.send_workers.proofs.Steps.{begun, was_not_due, stops_at_begin}
use Rattle.send_workers.proofs.one_send.begin_send.Goals as goal

pub returns-in-Ok-clause-begun : goal.returns-in-Ok-clause-begun
returns-in-Ok-clause-begun g c = λ old sends refused carried named names same.
    begun old _ _ carried sends refused named _ _ _ names same c.in-Ok.ensures.calls

pub returns-then-is_not_due-clause-begun : goal.returns-then-is_not_due-clause-begun
returns-then-is_not_due-clause-begun g c = λ old sends refused carried named names same.
    was_not_due old _ _ carried sends refused _ c.in-Err.fault (sym c.is_not_due.ensures ∙ c.if-is_not_due.true) names.0 c.in-Err.ensures.calls

pub returns-clause-begun : goal.returns-clause-begun
returns-clause-begun g c = λ old sends refused carried named names same.
    stops_at_begin old _ _ carried sends refused named _ _ c.in-Err.fault (sym c.is_not_due.ensures ∙ c.if-is_not_due.false) names same c.in-Err.ensures.calls
