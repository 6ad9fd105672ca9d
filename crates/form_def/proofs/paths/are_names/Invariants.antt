use Rattle.std.proofs.Common.{◌≡◌, length}
use denote.Shadow.{shadow}
use denote.Text.{Utf8}
use Rattle.form_def.specs.Paths.{are_names, parts_of}
use Rattle.form_def.proofs.paths.are_names.Given as goal

abbrev pub invariant-loop-name : goal.invariant-loop-name
invariant-loop-name l = (are_names (parts_of l.rest) ≡ are_names (parts_of l.fn.path)) × shadow (Utf8 l.rest)

abbrev pub decreases-loop-name : goal.decreases-loop-name
decreases-loop-name l = length l.rest
