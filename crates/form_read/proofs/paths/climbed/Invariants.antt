use Rattle.std.proofs.Common.{◌≡◌, length}
use Rattle.form_read.specs.Paths.{climbed}
use Rattle.form_read.proofs.paths.climbed.Given as goal

abbrev pub invariant-loop-after : goal.invariant-loop-after
invariant-loop-after l = climbed l.at l.rest ≡ climbed l.own l.path

abbrev pub decreases-loop-after : goal.decreases-loop-after
decreases-loop-after l = length l.rest
