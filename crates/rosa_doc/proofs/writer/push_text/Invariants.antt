use Rattle.std.proofs.Common.{◌≡◌, ◌++◌, length, take}
use Rattle.std.specs.List.{flat_map}
use Rattle.std.specs.Str.{chars, IsUtf8}
use Rattle.std.specs.Str.Iter.{chars_rest}
use Rattle.rosa_doc.specs.Escapes.{in_text}
use Rattle.rosa_doc.proofs.writer.push_text.Given as goal

abbrev pub invariant-loop-c : goal.invariant-loop-c
invariant-loop-c l = record {
  left : l.out.items ++ flat_map in_text (chars (chars_rest l.c-iterator)) ≡ l.fn.out.items ++ flat_map in_text (chars l.fn.text);
  kept : take (length l.fn.out.items) l.out.items ≡ l.fn.out.items;
  utf8 : IsUtf8 (chars_rest l.c-iterator);
}
