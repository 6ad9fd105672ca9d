use Rattle.std.proofs.Common.{◌≡◌, take, string_bytes}
use Rattle.std.specs.List.{flat_map}
use Rattle.expr_values.specs.Values.{text_of}
use Rattle.expr_values.proofs.functions.concat.Given as goal

abbrev pub invariant-loop-arg : goal.invariant-loop-arg
invariant-loop-arg l = string_bytes l.text ≡ flat_map text_of (take l.arg-index l.args)
