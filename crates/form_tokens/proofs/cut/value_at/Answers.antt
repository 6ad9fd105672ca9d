use Rattle.std.proofs.Common.{◌≡◌, ◌<◌, ◌^◌, true, sym, ◌∙◌, arith}
use Rattle.form_tokens.specs.Tokens.{is_digit}
use Rattle.form_tokens.proofs.Digits.{small_at, small_step, digits_end_at, digits_go_on, digit_small}
use Rattle.form_tokens.proofs.cut.value_at.Goals as goal

pub returns-then-not-is_ascii_digit-clause-small : goal.returns-then-not-is_ascii_digit-clause-small
returns-then-not-is_ascii_digit-clause-small c = small_at c.loop-c.value c.loop-c.left c.loop-c.invariant.0

pub overflow_mul-value : goal.overflow_mul-value
overflow_mul-value c = let low : c.loop-c.value < 10 ^ 15 = small_at c.loop-c.value c.loop-c.left c.loop-c.invariant.0 in omega arith

pub overflow_add-value : goal.overflow_add-value
overflow_add-value c =
    let low : c.loop-c.value < 10 ^ 15 = small_at c.loop-c.value c.loop-c.left c.loop-c.invariant.0 in
    let on : is_digit c.in-Some.c.now ≡ true = sym c.is_ascii_digit.ensures.value ∙ c.if-not-is_ascii_digit.false in
    let small : c.from.result < 10 = digit_small c.in-Some.c.now c.from.result on c.from.ensures in
    omega arith

pub loop-c-preserved : goal.loop-c-preserved
loop-c-preserved c =
    let so_far = c.loop-c.invariant in
    let digit : is_digit c.in-Some.c.now ≡ true = sym c.is_ascii_digit.ensures.value ∙ c.if-not-is_ascii_digit.false in (
      small_step c.loop-c.value c.loop-c.left c.from.result so_far.0 (omega arith) so_far.1 (digit_small c.in-Some.c.now c.from.result digit c.from.ensures),
      omega (arith, so_far.1),
      digits_go_on c.loop-c.left c.loop-c.value c.in-Some.c.now c.from.result c.loop-c.rest.now c.in-Some.after.now _ c.in-Some.ensures.cases.0 digit (omega arith) c.from.ensures so_far.2,
    )

pub returns-clause-value : goal.returns-clause-value
returns-clause-value c = digits_end_at c.loop-c.left c.loop-c.value c.loop-c.rest.now _ c.in_default.ensures.cases c.loop-c.invariant.2

pub returns-clause-small : goal.returns-clause-small
returns-clause-small c = small_at c.loop-c.value c.loop-c.left c.loop-c.invariant.0
