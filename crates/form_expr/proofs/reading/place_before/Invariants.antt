use Rattle.std.proofs.Common.{◌≡◌, ◌-◌, drop, length, encode_utf8_all}
use Rattle.form_expr.proofs.reading.place_before.Given as goal

abbrev pub invariant-loop-c : goal.invariant-loop-c
invariant-loop-c l = l.at - length (encode_utf8_all (drop l.c-index l.rest)) ≡ l.len - length (encode_utf8_all l.rest)
