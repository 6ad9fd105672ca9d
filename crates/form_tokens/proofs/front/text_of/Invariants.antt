use Rattle.std.proofs.Common.{◌≡◌, ◌++◌, encode_utf8_all, drop}
use Rattle.std.specs.String.{string_bytes}
use Rattle.form_tokens.proofs.front.text_of.Given as goal

abbrev pub invariant-loop-c : goal.invariant-loop-c
invariant-loop-c l = string_bytes l.text ++ encode_utf8_all (drop l.c-index l.chars) ≡ encode_utf8_all l.chars
