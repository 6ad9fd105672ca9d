use Rattle.rosa_pieces.proofs.TagLaws.{attributes_shrink}
use Rattle.rosa_pieces.proofs.Loops.{attributes_go_on, attributes_rest_goes_on}
use Rattle.rosa_pieces.proofs.tags.attributes_at.Goals as goal

pub loop-attribute-smaller : goal.loop-attribute-smaller
loop-attribute-smaller c = attributes_shrink.shorter c.loop-attribute.rest.now c.in-Ok.attribute c.in-Ok.after.now c.in-Ok.ensures

pub loop-attribute-preserved : goal.loop-attribute-preserved
loop-attribute-preserved c = record {
  read = attributes_go_on c.loop-attribute.rest.now c.in-Ok.after.now c.in-Ok.attribute c.loop-attribute.attributes _ _ c.in-Ok.ensures c.in_ok-push-in-Ok.ensures.ok c.loop-attribute.invariant.read;
  rest_left = attributes_rest_goes_on c.loop-attribute.rest.now c.in-Ok.after.now c.in-Ok.attribute _ c.in-Ok.ensures c.loop-attribute.invariant.rest_left;
}
