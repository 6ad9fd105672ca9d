use Rattle.std.proofs.Common.{sym}
use Rattle.rosa_pieces.proofs.DataLaws.{value_chars_shrink}
use Rattle.rosa_pieces.proofs.Loops.{value_goes_on, value_rest_goes_on}
use Rattle.rosa_pieces.proofs.values.value_chars.Goals as goal

pub loop-data-smaller : goal.loop-data-smaller
loop-data-smaller c = (value_chars_shrink c.args.quote).shorter c.loop-data.rest.now c.in-Some.data c.in-Some.after.now (sym c.in-Some.ensures)

pub loop-data-preserved : goal.loop-data-preserved
loop-data-preserved c = record {
  text_left = value_goes_on c.args.quote c.loop-data.rest.now c.in-Some.after.now c.in-Some.data _ _ c.loop-data.after_return _ _ (sym c.in-Some.ensures) c.in_ok-push_value_char.ensures c.is_return-after_return.ensures c.loop-data.invariant.text_left;
  rest_left = value_rest_goes_on c.args.quote c.loop-data.rest.now c.in-Some.after.now c.in-Some.data _ (sym c.in-Some.ensures) c.loop-data.invariant.rest_left;
}
