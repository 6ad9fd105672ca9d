use Rattle.std.proofs.Common.{◌≡◌, length}
use Rattle.std.specs.Prelude.{find, option_and_then}
use Rattle.form_read.specs.Binds.{is_bind_of, type_in, type_of}
use Rattle.form_read.proofs.binds.type_of.Given as goal

abbrev pub invariant-loop-part : goal.invariant-loop-part
invariant-loop-part l = option_and_then type_in (find (is_bind_of l.path) l.rest) ≡ type_of l.scope l.path

abbrev pub decreases-loop-part : goal.decreases-loop-part
decreases-loop-part l = length l.rest
