use Rattle.std.proofs.Common.{rules}
use Rattle.finalizer.proofs.Finalizing.{given_fits}
use Rattle.finalizer.proofs.finals.finalize.Goals as goal

pub returns-clause-fits : goal.returns-clause-fits
returns-clause-fits c =
    given_fits c.args.form.now c.args.sheet.now c.args.lists.now.items c.args.meta.now c.final_drawn.result
    (search rules)
