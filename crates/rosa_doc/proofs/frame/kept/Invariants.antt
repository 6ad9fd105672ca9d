use Rattle.std.proofs.Common.{◌≡◌, ◌++◌, length}
use Rattle.rosa_doc.specs.Documents.{kept}
use Rattle.rosa_doc.proofs.frame.kept.Given as goal

abbrev pub invariant-loop-rest : goal.invariant-loop-rest
invariant-loop-rest l = l.all ++ kept l.rest ≡ kept l.attributes

abbrev pub decreases-loop-rest : goal.decreases-loop-rest
decreases-loop-rest l = length l.rest
