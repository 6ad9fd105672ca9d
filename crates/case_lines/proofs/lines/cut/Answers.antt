use Rattle.std.proofs.Common.{refl}
use Rattle.std.specs.Prelude.{codes, None}
use Rattle.std.proofs.lemmas.Str.Pattern.{split_text_parts}
use Rattle.case_lines.specs.Lines.{whole}
use Rattle.case_lines.proofs.lines.cut.Goals as goal

pub returns-in-None : goal.returns-in-None
returns-in-None c = whole (split_text_parts (codes " | ") c.args.line.now None c.in-None.ensures.cases) refl refl
