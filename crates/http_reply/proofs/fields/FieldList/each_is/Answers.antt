-- One more field.
use Rattle.std.proofs.Common.{length, ◌∙◌}
use Rattle.httparse.specs.Spans.{header_bytes, IsHeaderWithin}
use Rattle.http_reply.proofs.FieldLoops.{all_tail, each_step}
use Rattle.http_reply.proofs.fields.FieldList.each_is.Goals as goal

pub loop-field-preserved : goal.loop-field-preserved
loop-field-preserved c =
    let is = c.in-Some.ensures.cases.0 in
    let f = header_bytes c.self.inside.bytes.now in (
      c.loop-field.invariant.0 ∙ each_step f c.args.name.now c.loop-field.rest.now c.in-Some.field.now c.in-Some.others.now is c.args.value.now c.if-not-has_value_if_named.ensures,
      all_tail (IsHeaderWithin (length c.self.inside.bytes.now)) c.loop-field.rest.now c.in-Some.field.now c.in-Some.others.now is c.loop-field.invariant.1,
    )
