use Rattle.std.proofs.Common.{◌≡◌, length}
use denote.Shadow.{shadow}
use denote.Text.{Utf8}
use Rattle.instance_doc.specs.Rows.{last_name}
use Rattle.instance_doc.proofs.rows.last_name.Given as goal

abbrev pub invariant-loop-behind : goal.invariant-loop-behind
invariant-loop-behind l = (last_name l.rest ≡ last_name l.fn.path) × shadow (Utf8 l.rest)

abbrev pub decreases-loop-behind : goal.decreases-loop-behind
decreases-loop-behind l = length l.rest
