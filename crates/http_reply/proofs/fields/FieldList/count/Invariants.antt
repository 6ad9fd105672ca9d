use Rattle.std.proofs.Common.{◌≡◌, ◌+◌, ◌≤◌, length, map, All}
use Rattle.httparse.specs.Spans.{header_bytes, IsHeaderWithin}
use Rattle.http_reply.specs.Fields.{field_count}
use Rattle.http_reply.proofs.fields.FieldList.count.Given as goal

abbrev pub invariant-loop-field : goal.invariant-loop-field
invariant-loop-field l =
    (field_count l.name (map (header_bytes l.self-inside.bytes.now) l.self-inside.spans.now) ≡ l.count + field_count l.name (map (header_bytes l.self-inside.bytes.now) l.rest))
    × (l.count + length l.rest ≤ length l.self-inside.spans.now) × All (IsHeaderWithin (length l.self-inside.bytes.now)) l.rest

abbrev pub decreases-loop-field : goal.decreases-loop-field
decreases-loop-field l = length l.rest
