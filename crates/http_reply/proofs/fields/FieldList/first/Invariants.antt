use Rattle.std.proofs.Common.{◌≡◌, length, map, All}
use Rattle.httparse.specs.Spans.{header_bytes, IsHeaderWithin}
use Rattle.http_reply.specs.Fields.{first_value}
use Rattle.http_reply.proofs.fields.FieldList.first.Given as goal

abbrev pub invariant-loop-field : goal.invariant-loop-field
invariant-loop-field l =
    (first_value l.name (map (header_bytes l.self-inside.bytes.now) l.self-inside.spans.now) ≡ first_value l.name (map (header_bytes l.self-inside.bytes.now) l.rest))
    × All (IsHeaderWithin (length l.self-inside.bytes.now)) l.rest

abbrev pub decreases-loop-field : goal.decreases-loop-field
decreases-loop-field l = length l.rest
