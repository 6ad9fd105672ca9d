use Rattle.entry_codec.proofs.Texts.{text_reads, text_stops, not_utf8_from_valid_up_to}
use Rattle.entry_codec.proofs.read.text_of.Goals as goal

pub returns-in-Ok : goal.returns-in-Ok
returns-in-Ok c = rw c.in-Ok.ensures.text (text_reads _ _ _ c.in_ok-text.ensures c.in-Ok.ensures.utf8)

pub returns-in-Err-NotUtf8 : goal.returns-in-Err-NotUtf8
returns-in-Err-NotUtf8 c =
    text_stops _ _ _ c.in_ok-text.ensures (not_utf8_from_valid_up_to _ c.in-Err-NotUtf8.field-0-0 (c.in-Err-NotUtf8.ensures.not_utf8 c.in-Err-NotUtf8.field-0-0 (cc)))
