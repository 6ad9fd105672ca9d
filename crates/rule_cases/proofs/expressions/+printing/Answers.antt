use Rattle.std.proofs.Common.{arith}
use Rattle.std.proofs.lemmas.Grind.{common_steps}
use Rattle.rule_cases.proofs.SyntaxLemmas.{syntax_printed-Call, syntax_printed-Pair, syntax_printed-Negative}
use Rattle.rule_cases.proofs.expressions.+printing.Goals as goal

pub print_syntax-returns-in_ok-print_arguments-in-Call : goal.print_syntax-returns-in_ok-print_arguments-in-Call
print_syntax-returns-in_ok-print_arguments-in-Call t c = rw (c.in-Call.is, syntax_printed-Call) (grind (arith, common_steps))

pub print_syntax-returns-in_ok-print_syntax-in-Pair-2 : goal.print_syntax-returns-in_ok-print_syntax-in-Pair-2
print_syntax-returns-in_ok-print_syntax-in-Pair-2 t c = rw (c.in-Pair.is, syntax_printed-Pair) (grind (arith, common_steps))

pub print_syntax-returns-in_ok-push_str-in-Negative : goal.print_syntax-returns-in_ok-push_str-in-Negative
print_syntax-returns-in_ok-push_str-in-Negative t c = rw (c.in-Negative.is, syntax_printed-Negative) (grind (arith, common_steps))
