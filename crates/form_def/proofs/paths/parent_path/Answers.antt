use Rattle.std.proofs.Common.{arith, ◌-◌}
use Rattle.form_def.proofs.PathLemmas.{parent_path-at, parent_path-none}
use Rattle.form_def.proofs.paths.parent_path.Goals as goal

pub returns-then-path-end-eq47 : goal.returns-then-path-end-eq47
returns-then-path-end-eq47 c =
    let behind = c.loop-end.invariant in
    parent_path-at c.args.path.now (c.loop-end.end - 1) (omega arith) c.if-path-end-eq47.true (λ k low high. behind.1 k (omega arith) high)

pub returns : goal.returns
returns c = parent_path-none c.args.path.now (λ k high. c.loop-end.invariant.1 k (omega arith) high)
