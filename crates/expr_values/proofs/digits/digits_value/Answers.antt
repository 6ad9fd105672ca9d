use Rattle.std.proofs.Common.{◌≡◌, ◌<◌, ◌^◌, ◌-◌, ap, arith, get_or, take}
use Rattle.std.proofs.lemmas.Int.{ints}
use Rattle.std.proofs.lemmas.List.{take_all}
use Rattle.expr_values.specs.Numbers.{digits_value}
use Rattle.expr_values.proofs.DigitLemmas.{small_front}
use Rattle.expr_values.proofs.digits.digits_value.Goals as goal

pub overflow_mul-value : goal.overflow_mul-value
overflow_mul-value c =
    let low : digits_value (take c.loop-digit.digit-index c.args.digits.now) < 10 ^ 15 = small_front c.loop-digit.digit-index c.args.digits.now c.requires in
    let is : c.loop-digit.value ≡ digits_value (take c.loop-digit.digit-index c.args.digits.now) = c.loop-digit.invariant in
    omega arith

pub overflow_add-value : goal.overflow_add-value
overflow_add-value c =
    let low : digits_value (take c.loop-digit.digit-index c.args.digits.now) < 10 ^ 15 = small_front c.loop-digit.digit-index c.args.digits.now c.requires in
    let is : c.loop-digit.value ≡ digits_value (take c.loop-digit.digit-index c.args.digits.now) = c.loop-digit.invariant in
    let digit : c.from.result ≡ get_or c.args.digits.now c.loop-digit.digit-index 0 - 48 = c.from.ensures in
    omega (arith, c.type_inv.digits c.loop-digit.digit-index)

pub overflow_cast-result : goal.overflow_cast-result
overflow_cast-result c =
    let low : digits_value (take c.loop-digit.digit-index c.args.digits.now) < 10 ^ 15 = small_front c.loop-digit.digit-index c.args.digits.now c.requires in
    let is : c.loop-digit.value ≡ digits_value (take c.loop-digit.digit-index c.args.digits.now) = c.loop-digit.invariant in
    omega (arith, ints)

pub returns-clause-value : goal.returns-clause-value
returns-clause-value c =
    let low : digits_value (take c.loop-digit.digit-index c.args.digits.now) < 10 ^ 15 = small_front c.loop-digit.digit-index c.args.digits.now c.requires in
    let is : c.loop-digit.value ≡ digits_value (take c.loop-digit.digit-index c.args.digits.now) = c.loop-digit.invariant in
    let all : digits_value (take c.loop-digit.digit-index c.args.digits.now) ≡ digits_value c.args.digits.now = ap digits_value (take_all c.loop-digit.digit-index c.args.digits.now c.loop-digit-test.false) in
    omega (arith, ints)

pub returns-clause-small : goal.returns-clause-small
returns-clause-small c =
    let low : digits_value (take c.loop-digit.digit-index c.args.digits.now) < 10 ^ 15 = small_front c.loop-digit.digit-index c.args.digits.now c.requires in
    let all : digits_value (take c.loop-digit.digit-index c.args.digits.now) ≡ digits_value c.args.digits.now = ap digits_value (take_all c.loop-digit.digit-index c.args.digits.now c.loop-digit-test.false) in
    omega arith
