use Rattle.std.proofs.Common.{◌≡◌, length}
use Rattle.submission_wire.specs.Parameters.{parameter, first_behind, later}
use Rattle.submission_wire.proofs.parameters.parameter.Given as goal

abbrev pub invariant-pieces : goal.invariant-pieces
invariant-pieces l = parameter l.name l.value ≡ first_behind l.name (later l.rest)

abbrev pub decreases-pieces : goal.decreases-pieces
decreases-pieces l = length l.rest
