use Rattle.field_text.specs.Xml.{is_name_char as name_char}
use Rattle.rosa_pieces.proofs.Fronts.{take_front, rest_fits}
use Rattle.rosa_pieces.proofs.front.split_name.Goals as goal

pub slice_bounds-result-count : goal.slice_bounds-result-count
slice_bounds-result-count c = rest_fits name_char c.args.chars.now c.past_name-rest.result.now c.past_name-rest.ensures

pub returns-clause-front : goal.returns-clause-front
returns-clause-front c = take_front name_char c.args.chars.now c.past_name-rest.result.now c.past_name-rest.ensures
