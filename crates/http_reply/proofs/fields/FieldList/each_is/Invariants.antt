use Rattle.std.proofs.Common.{◌≡◌, length, map, All}
use Rattle.httparse.specs.Spans.{header_bytes, IsHeaderWithin}
use Rattle.http_reply.specs.Fields.{each_value}
use Rattle.http_reply.proofs.fields.FieldList.each_is.Given as goal

abbrev pub invariant-loop-field : goal.invariant-loop-field
invariant-loop-field l =
    (each_value l.name l.value (map (header_bytes l.self-inside.bytes.now) l.self-inside.spans.now) ≡ each_value l.name l.value (map (header_bytes l.self-inside.bytes.now) l.rest))
    × All (IsHeaderWithin (length l.self-inside.bytes.now)) l.rest

abbrev pub decreases-loop-field : goal.decreases-loop-field
decreases-loop-field l = length l.rest
