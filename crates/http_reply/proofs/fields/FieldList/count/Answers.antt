-- One more field.
use Rattle.std.proofs.Common.{length, ap, arith}
use Rattle.httparse.specs.Spans.{header_bytes, IsHeaderWithin}
use Rattle.http_reply.proofs.FieldLoops.{all_tail, count_named, count_other}
use Rattle.http_reply.proofs.fields.FieldList.count.Goals as goal

pub loop-field-preserved-then-is_named : goal.loop-field-preserved-then-is_named
loop-field-preserved-then-is_named c =
    let is = c.in-Some.ensures.cases.0 in
    let f = header_bytes c.self.inside.bytes.now in (
      count_named f c.args.name.now c.loop-field.rest.now c.in-Some.field.now c.in-Some.others.now is c.if-is_named.ensures _ c.loop-field.count c.loop-field.invariant.0,
      omega (arith, ap length is),
      all_tail (IsHeaderWithin (length c.self.inside.bytes.now)) c.loop-field.rest.now c.in-Some.field.now c.in-Some.others.now is c.loop-field.invariant.2,
    )

pub loop-field-preserved : goal.loop-field-preserved
loop-field-preserved c =
    let is = c.in-Some.ensures.cases.0 in
    let f = header_bytes c.self.inside.bytes.now in (
      count_other f c.args.name.now c.loop-field.rest.now c.in-Some.field.now c.in-Some.others.now is c.if-is_named.ensures _ c.loop-field.count c.loop-field.invariant.0,
      omega (arith, ap length is),
      all_tail (IsHeaderWithin (length c.self.inside.bytes.now)) c.loop-field.rest.now c.in-Some.field.now c.in-Some.others.now is c.loop-field.invariant.2,
    )
