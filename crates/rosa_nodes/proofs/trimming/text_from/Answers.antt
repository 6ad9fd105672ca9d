use Rattle.std.proofs.Common.{Err, ◌∙◌, ap, length}
use Rattle.std.specs.Str.{IsValidUpTo}
use Rattle.std.proofs.Math.Seq.{take-length}
use Rattle.rosa_nodes.proofs.trimming.text_from.Goals as goal

-- bytes that are UTF-8 have no longest front that isn't all of them
pub unreachable-requires : goal.unreachable-requires
unreachable-requires c =
    let bytes = c.args.bytes.now in
    let at = c.in-Err-NotUtf8.field-0-0 in
    let broken : IsValidUpTo bytes at = c.from_bytes.ensures.not_utf8 at (c.in-Err-NotUtf8.is ∙ ap Err c.in-Err-NotUtf8.field-0-is) in
    broken.longest (length bytes) broken.short (rw take-length c.requires)
