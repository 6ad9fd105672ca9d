use Rattle.std.proofs.Common.{refl, subst, ◌∙◌}
use Rattle.line_io.specs.Output.{Gained, IsCut}
use Rattle.line_io.proofs.Gains.{gained_nothing}
use Rattle.collect_top.specs.Shown.{shown, cut, starved}
use Rattle.collect_top.proofs.shown.put_text.Goals as goal

pub returns-in-Err : goal.returns-in-Err
returns-in-Err g c = λ left faults all is. starved (gained_nothing _) refl

pub returns-in-Ok-put_all : goal.returns-in-Ok-put_all
returns-in-Ok-put_all g c = λ left faults all is.
    shown (subst (Gained _ _) (c.deref.ensures.value ∙ (rw c.in-Ok.is at is)) c.in-Ok-put_all.ensures.puts) c.in-Ok-put_all.ensures.cause.kept

pub returns : goal.returns
returns g c = λ left faults all is.
    let puts = c.in-Err-put_all.ensures.puts in
    cut puts.0 (subst (IsCut puts.0) (c.deref.ensures.value ∙ (rw c.in-Ok.is at is)) puts.1) puts.2 c.in-Err-put_all.ensures.cause.failed
