use Rattle.std.proofs.Common.{◌≡◌, ◌≤◌, ◌+◌, ◌*◌, length}
use Rattle.question_rules.specs.Answers.{bad_char_from}
use Rattle.question_rules.proofs.answers.bad_char_in.Given as goal

abbrev pub invariant-loop-c : goal.invariant-loop-c
invariant-loop-c l = (bad_char_from l.at l.rest ≡ bad_char_from 0 l.fn.chars) × (l.at + 4 * length l.rest ≤ 4 * length l.fn.chars)

abbrev pub decreases-loop-c : goal.decreases-loop-c
decreases-loop-c l = length l.rest
