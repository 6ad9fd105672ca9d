use Rattle.std.proofs.Common.{rules, tests, ap, ◌∙◌}
use Rattle.std.specs.Prelude.{not}
use Rattle.std.proofs.lemmas.Iterator.Consumers.{map_from_collect, YieldsList-from_filter}
use Rattle.std.proofs.lemmas.Iterator.Splits.{YieldsList-from_lines}
use Rattle.std.specs.Str.Iter.{lines_rest}
use Rattle.case_lines.specs.Lines.{is_comment}
use Rattle.case_lines.proofs.lines.cases.Goals as goal

pub returns : goal.returns
returns c =
    map_from_collect c.collect.result c.collect.ensures.ran
    (YieldsList-from_filter _ (λ line. not (is_comment line))
    (YieldsList-from_lines c.args.text.now (ap lines_rest c.filter.ensures.source ∙ c.lines.ensures.rest))
    c.filter.ensures.closure (λ x r q k. search (rules, tests)))
