use Rattle.std.proofs.Common.{refl}
use Rattle.collect_top.specs.Parts.{none, sink, whole, cut}
use Rattle.collect_top.proofs.top.finish.Goals as goal

pub returns-in-Ok-clause-stop : goal.returns-in-Ok-clause-stop
returns-in-Ok-clause-stop g c = λ left faults. rw c.in-Ok.is (none refl)

pub returns-then-is_write_fault-clause-stop : goal.returns-then-is_write_fault-clause-stop
returns-then-is_write_fault-clause-stop g c = λ left faults. rw (c.in-Err.is, c.if-is_write_fault.ensures refl) (sink refl)

pub returns-in-Ok-put_fault-clause-stop : goal.returns-in-Ok-put_fault-clause-stop
returns-in-Ok-put_fault-clause-stop g c = λ left faults.
    rw c.in-Err.is (whole c.in-Err.stop c.in-Ok-put_fault.ensures.puts c.in-Ok-put_fault.ensures.cause.kept refl refl)

pub returns-in-Err-put_fault-clause-stop : goal.returns-in-Err-put_fault-clause-stop
returns-in-Err-put_fault-clause-stop g c = λ left faults.
    let puts = c.in-Err-put_fault.ensures.puts in
    rw c.in-Err.is (cut c.in-Err.stop puts.0 puts.1 puts.2 c.in-Err-put_fault.ensures.cause.failed c.in-Err-put_fault.ensures.cause.later refl refl)
