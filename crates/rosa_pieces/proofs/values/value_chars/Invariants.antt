use Rattle.std.proofs.Common.{◌≡◌, ◌++◌, false, length, encode_utf8_all}
use Rattle.std.specs.String.{string_bytes}
use Rattle.rosa_pieces.specs.Pieces.{read_value}
use Rattle.rosa_pieces.specs.Reading.{cuts, value_char_at}
use Rattle.rosa_pieces.proofs.values.value_chars.Given as goal

abbrev pub invariant-loop-data : goal.invariant-loop-data
invariant-loop-data l = record {
  text_left : string_bytes l.text ++ encode_utf8_all (read_value l.after_return (cuts (value_char_at l.quote) (length l.rest) l.rest).0) ≡ encode_utf8_all (read_value false (cuts (value_char_at l.quote) (length l.chars) l.chars).0);
  rest_left : (cuts (value_char_at l.quote) (length l.rest) l.rest).1 ≡ (cuts (value_char_at l.quote) (length l.chars) l.chars).1;
}

abbrev pub decreases-loop-data : goal.decreases-loop-data
decreases-loop-data l = length l.rest
