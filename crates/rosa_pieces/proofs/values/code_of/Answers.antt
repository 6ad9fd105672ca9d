use Rattle.std.proofs.Common.{arith}
use Rattle.rosa_pieces.proofs.Numbers.{number_goes_on, digits_go_on}
use Rattle.rosa_pieces.proofs.values.code_of.Goals as goal

pub loop-c-preserved : goal.loop-c-preserved
loop-c-preserved c = record {
  small = omega arith;
  digits_left = digits_go_on _ _ _ c.c-item.result _ c.loop-c-test.true c.c-item.is c.in_ok-digit.ensures.value.0 c.loop-c.invariant.digits_left;
  value_left = number_goes_on _ c.loop-c.code _ _ c.c-item.result c.in_ok-digit.digit _ _ c.requires.low c.loop-c-test.true c.c-item.is c.in_ok-digit.ensures.value.1 c.min-code.ensures c.loop-c.invariant.value_left;
}
