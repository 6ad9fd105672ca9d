use Rattle.std.proofs.Common.{refl, subst}
use Rattle.line_io.specs.Output.{IsCut}
use Rattle.line_io.proofs.Gains.{gained_nothing}
use Rattle.collect_script.specs.Answering.{silent, cut}
use Rattle.collect_script.proofs.lines.answer_line.Goals as goal

pub returns-in-Err-clause-stopped : goal.returns-in-Err-clause-stopped
returns-in-Err-clause-stopped g c = silent c.in-Err.stop c.in-Err.ensures.stops (gained_nothing _) refl

pub returns-clause-stopped : goal.returns-clause-stopped
returns-clause-stopped g c =
    let puts = c.in-Err-put_all.ensures.puts in
    cut c.in-Ok.text.items puts.0 c.in-Ok.ensures.says (subst (IsCut puts.0) c.deref.ensures.value puts.1) puts.2 c.in-Err-put_all.ensures.cause.failed
