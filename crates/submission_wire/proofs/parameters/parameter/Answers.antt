-- One piece more.
use Rattle.std.proofs.Common.{drop, sym, ap, ◌∙◌}
use Rattle.submission_wire.specs.Parameters.{parameter, first_behind, later}
use Rattle.submission_wire.proofs.Pieces.{parameter_later, found_here, not_here}
use Rattle.submission_wire.proofs.parameters.parameter.Goals as goal

pub pieces-init : goal.pieces-init
pieces-init c =
    let name = c.args.name.now in
    let value = c.args.value.now in
    parameter_later name value
    ∙ ap (λ n. first_behind name (later (drop n value))) (sym c.piece_len.ensures.value)
    ∙ ap (λ r. first_behind name (later r)) (sym c.behind-rest.ensures)

pub returns-in-Some-behind_name : goal.returns-in-Some-behind_name
returns-in-Some-behind_name c =
    let name = c.args.name.now in
    found_here name c.pieces.rest.now c.in-Some.field-0-0.now c.in-Some.others.now c.in-Some.ensures.cases.0
    (parameter name c.args.value.now) c.pieces.invariant c.piece_len-len.result c.piece_len-len.ensures.value
    c.front.result.now c.trimmed.result.now c.front.ensures c.trimmed.ensures c.in-Some-behind_name.found.now
    c.in-Some-behind_name.ensures

pub pieces-preserved : goal.pieces-preserved
pieces-preserved c =
    let name = c.args.name.now in
    not_here name c.pieces.rest.now c.in-Some.field-0-0.now c.in-Some.others.now c.in-Some.ensures.cases.0
    (parameter name c.args.value.now) c.pieces.invariant c.piece_len-len.result c.piece_len-len.ensures.value
    c.front.result.now c.trimmed.result.now c.front.ensures c.trimmed.ensures c.in_default-behind_name.ensures
    c.behind-rest-in-Some.result.now c.behind-rest-in-Some.ensures
