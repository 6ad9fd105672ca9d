-- One more field.
use Rattle.std.proofs.Common.{length, ◌∙◌}
use Rattle.httparse.specs.Spans.{header_bytes, IsHeaderWithin}
use Rattle.http_reply.proofs.FieldLoops.{all_tail, first_other}
use Rattle.http_reply.proofs.fields.FieldList.first.Goals as goal

pub loop-field-preserved : goal.loop-field-preserved
loop-field-preserved c =
    let is = c.in-Some.ensures.cases.0 in
    let f = header_bytes c.self.inside.bytes.now in (
      c.loop-field.invariant.0 ∙ first_other f c.args.name.now c.loop-field.rest.now c.in-Some.field.now c.in-Some.others.now is c.if-is_named.ensures,
      all_tail (IsHeaderWithin (length c.self.inside.bytes.now)) c.loop-field.rest.now c.in-Some.field.now c.in-Some.others.now is c.loop-field.invariant.1,
    )
