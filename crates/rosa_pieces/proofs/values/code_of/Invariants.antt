use Rattle.std.proofs.Common.{◌≡◌, ◌*◌, ◌+◌, ◌≤◌, drop, min, nat_lt}
use Rattle.std.specs.List.{list_all, fold}
use Rattle.std.specs.Char.{digit_value}
use Rattle.rosa_pieces.specs.Pieces.{number}
use Rattle.rosa_pieces.proofs.values.code_of.Given as goal

abbrev pub invariant-loop-c : goal.invariant-loop-c
invariant-loop-c l = record {
  small : l.code ≤ 0x110000;
  digits_left : list_all (λ c. nat_lt (digit_value c) l.base) (drop l.c-index l.digits) ≡ list_all (λ c. nat_lt (digit_value c) l.base) l.digits;
  value_left : min (fold (λ n d. n * l.base + digit_value d) l.code (drop l.c-index l.digits)) 0x110000 ≡ min (number l.base l.digits) 0x110000;
}
