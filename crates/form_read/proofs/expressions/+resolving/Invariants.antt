use Rattle.std.proofs.Common.{◌≡◌, ◌++◌, drop, map, Ok}
use Rattle.form_read.specs.Refusals.{◌>>=◌}
use Rattle.form_read.specs.Expressions.{resolved, all_resolved}
use Rattle.form_read.proofs.expressions.+resolving.Given as goal

abbrev pub invariant-all_resolved-loop-syntax : goal.invariant-all_resolved-loop-syntax
invariant-all_resolved-loop-syntax l = (all_resolved (map (resolved l.scope l.own) (drop l.syntax-index l.syntaxes)) >>= λ es. Ok (l.exprs ++ es)) ≡ all_resolved (map (resolved l.scope l.own) l.syntaxes)
