use Rattle.std.specs.Prelude.{Err}
use Rattle.device_journal.proofs.opening.open_journal.Goals as goal

pub returns-in-Err-clause-off : goal.returns-in-Err-clause-off
returns-in-Err-clause-off g c at is = c.in-Err.ensures.off at (λ i. Err (is i))
