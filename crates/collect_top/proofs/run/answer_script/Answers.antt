use Rattle.collect_top.proofs.Over.{answers_over}
use Rattle.collect_top.proofs.Transmitting.{transmitted_over}
use Rattle.collect_top.proofs.run.answer_script.Goals as goal

pub returns-clause-answers : goal.returns-clause-answers
returns-clause-answers g c =
    let e = c.answer_lines-end.ensures.answers in
    answers_over _ g.D.Disk.faults _ _ _ _ _ _ _ _ _ _ _ _ _ _ _ _ c.new-caller.ensures.device c.new-caller.ensures.before c.into_device.ensures c.close.ensures.end
    e.added e.grows e.answers e.full e.failed e.leads_on c.close.ensures.closed

pub returns-clause-transmitted : goal.returns-clause-transmitted
returns-clause-transmitted g c =
    let e = c.answer_lines-end.ensures in
    transmitted_over _ g.D.Disk.faults _ _ _ _ _ _ _ _ _ _ _ _ _ _ c.new-caller.ensures.device c.into_device.ensures
    e.answers.added e.answers.grows e.exchanged c.close.ensures.closed
