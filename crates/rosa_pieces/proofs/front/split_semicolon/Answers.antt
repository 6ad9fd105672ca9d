use Rattle.rosa_pieces.specs.Pieces.{is_no_semicolon as no_semicolon}
use Rattle.rosa_pieces.proofs.Fronts.{take_front, rest_fits}
use Rattle.rosa_pieces.proofs.front.split_semicolon.Goals as goal

pub slice_bounds-result-count : goal.slice_bounds-result-count
slice_bounds-result-count c = rest_fits no_semicolon c.args.chars.now c.past_no_semicolon-rest.result.now c.past_no_semicolon-rest.ensures

pub returns-clause-front : goal.returns-clause-front
returns-clause-front c = take_front no_semicolon c.args.chars.now c.past_no_semicolon-rest.result.now c.past_no_semicolon-rest.ensures
