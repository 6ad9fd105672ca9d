use Rattle.std.proofs.Common.{◌≡◌, ◌++◌, take}
use Rattle.std.specs.List.{flat_map}
use Rattle.form_def.specs.Reads.{reads}
use Rattle.form_def.proofs.reads.+reading.Given as goal

abbrev pub invariant-push_all_reads-loop-expr : goal.invariant-push_all_reads-loop-expr
invariant-push_all_reads-loop-expr l = l.numbers.items ≡ l.fn.numbers.items ++ flat_map (reads l.own) (take l.expr-index l.exprs)
