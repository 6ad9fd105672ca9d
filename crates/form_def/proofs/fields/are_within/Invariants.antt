use Rattle.std.proofs.Common.{◌≡◌, ◌+◌, length}
use Rattle.form_def.specs.Fields.{are_within}
use Rattle.form_def.proofs.fields.are_within.Given as goal

abbrev pub invariant-loop-rest : goal.invariant-loop-rest
invariant-loop-rest l = (are_within l.count l.own l.rest ≡ are_within l.count 0 l.fn.fields) × (l.own + length l.rest ≡ l.count) × (l.count ≡ length l.fn.fields)

abbrev pub decreases-loop-rest : goal.decreases-loop-rest
decreases-loop-rest l = length l.rest
