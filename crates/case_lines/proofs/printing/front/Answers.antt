use Rattle.std.proofs.Common.{sym, arith}
use Rattle.std.proofs.lemmas.List.{take_all, length-take-le}
use Rattle.case_lines.proofs.printing.front.Goals as goal

pub slice_bounds-result-end : goal.slice_bounds-result-end
slice_bounds-result-end c = sym (length-take-le 200 c.args.chars.now (omega (arith, c.if-chars-gt-SHOWN.true)))

pub returns-else-chars-gt-SHOWN : goal.returns-else-chars-gt-SHOWN
returns-else-chars-gt-SHOWN c = sym (take_all 200 c.args.chars.now c.if-chars-gt-SHOWN.false)
