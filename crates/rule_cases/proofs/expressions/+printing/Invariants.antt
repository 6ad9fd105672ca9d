use Rattle.std.proofs.Common.{◌≡◌, ◌++◌, take}
use Rattle.std.specs.Prelude.{string_bytes}
use Rattle.std.specs.List.{flat_map}
use Rattle.rule_cases.specs.Expressions.{argument_printed, syntax_printed}
use Rattle.rule_cases.proofs.expressions.+printing.Given as goal

abbrev pub invariant-print_arguments-loop-arg : goal.invariant-print_arguments-loop-arg
invariant-print_arguments-loop-arg l =
    string_bytes l.out ≡ string_bytes l.fn.out ++ flat_map (λ arg. argument_printed (syntax_printed arg)) (take l.arg-index l.args)
