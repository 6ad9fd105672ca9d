use Rattle.std.proofs.Common.{◌≡◌, ◌++◌, length}
use Rattle.rosa_pieces.specs.Reading.{cuts, attribute_at}
use Rattle.rosa_pieces.proofs.tags.attributes_at.Given as goal

abbrev pub invariant-loop-attribute : goal.invariant-loop-attribute
invariant-loop-attribute l = record {
  read : l.attributes ++ (cuts attribute_at (length l.rest) l.rest).0 ≡ (cuts attribute_at (length l.chars) l.chars).0;
  rest_left : (cuts attribute_at (length l.rest) l.rest).1 ≡ (cuts attribute_at (length l.chars) l.chars).1;
}

abbrev pub decreases-loop-attribute : goal.decreases-loop-attribute
decreases-loop-attribute l = length l.rest
