use Rattle.std.proofs.Common.{◌+◌, ◌<◌, length, arith, add-one}
use Rattle.std.proofs.lemmas.List.{take_rest}
use Rattle.std.proofs.lemmas.Bool.Decides.{nat_tests}
use Rattle.collect_text.proofs.Cuts.{lines_of-cut, lines_of-last}
use Rattle.collect_text.proofs.lines.next_line.Goals as goal

pub returns-in-Some-clause-lines : goal.returns-in-Some-clause-lines
returns-in-Some-clause-lines c =
    let s = c.args.script.now in
    let first = c.in-Some.ensures in
    rw (take_rest s (c.in-Some.end + 1), add-one)
    (lines_of-cut s c.in-Some.end first.0.high first.1 (λ i below. first.0.before i (omega arith) below))

pub returns-in-None-clause-lines : goal.returns-in-None-clause-lines
returns-in-None-clause-lines c =
    let some : 0 < length c.args.script.now = grind (arith, nat_tests, c.if-is_empty.ensures) in
    lines_of-last c.args.script.now some (λ i below. c.in-None.ensures i (omega arith) below)
