use Rattle.std.proofs.Common.{arith}
use Rattle.std.proofs.lemmas.Grind.{common_steps}
use Rattle.rule_cases.proofs.ExprLemmas.{expr_printed-Call, expr_printed-Pair, expr_printed-Negative}
use Rattle.rule_cases.proofs.printing.+printing.Goals as goal

pub print_expr-returns-in_ok-print_arguments-in-Call : goal.print_expr-returns-in_ok-print_arguments-in-Call
print_expr-returns-in_ok-print_arguments-in-Call t c = rw (c.in-Call.is, expr_printed-Call) (grind (arith, common_steps))

pub print_expr-returns-in_ok-print_expr-in-Pair-2 : goal.print_expr-returns-in_ok-print_expr-in-Pair-2
print_expr-returns-in_ok-print_expr-in-Pair-2 t c = rw (c.in-Pair.is, expr_printed-Pair) (grind (arith, common_steps))

pub print_expr-returns-in_ok-push_str-in-Negative : goal.print_expr-returns-in_ok-push_str-in-Negative
print_expr-returns-in_ok-push_str-in-Negative t c = rw (c.in-Negative.is, expr_printed-Negative) (grind (arith, common_steps))
