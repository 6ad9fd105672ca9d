use Rattle.std.proofs.Common.{subst}
use Rattle.field_text.specs.Steps.{Gives}
use Rattle.finalizer.specs.Finals.{fault_of}
use Rattle.finalizer.proofs.KeptFinalLemmas.{same_finalized}
use Rattle.finalizer.proofs.kept_finals.finalized.Goals as goal

pub returns-clause-done : goal.returns-clause-done
returns-clause-done c =
    subst (Gives fault_of (λ done. done) c.finalized_in.result)
    (same_finalized c.args.sheet.now c.args.lists.now.items c.args.meta.now c.args.form.now c.definition.result.now
    c.definition.ensures) c.finalized_in.ensures.done
