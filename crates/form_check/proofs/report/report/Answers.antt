use Rattle.form_check.specs.Reports.Reports.{accepts, refuses}
use Rattle.form_check.proofs.report.report.Goals as goal

pub returns-in-Ok : goal.returns-in-Ok
returns-in-Ok c = accepts c.in-Ok.form _ c.in-Ok.ensures.form c.in_ok-form_text-in-Ok.ensures

pub returns : goal.returns
returns c = refuses c.in-Err.why _ c.in-Err.ensures.refused (c.is_memory.ensures c.if-is_memory.false)
    c.in_ok-refused_line.ensures
