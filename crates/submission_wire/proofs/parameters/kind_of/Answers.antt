use Rattle.std.proofs.Common.{take, ap, ◌∙◌}
use Rattle.httparse.specs.Grammar.{trim_ows}
use Rattle.submission_wire.proofs.Pieces.{kind_is}
use Rattle.submission_wire.proofs.parameters.kind_of.Goals as goal

pub returns : goal.returns
returns c =
    let value = c.args.value.now in
    let first = c.front.ensures ∙ ap (λ n. take n value) c.piece_len.ensures.value in
    c.trimmed.ensures ∙ ap trim_ows first ∙ kind_is value
