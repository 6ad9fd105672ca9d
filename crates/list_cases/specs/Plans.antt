-- The hashes of cases.
use Rattle.std.specs.Prelude.{ℕ, List, ◌++◌, codes}
use Rattle.std.specs.List.{repeat}

-- a hash whose digits are all the same
abbrev pub hash_of : List ℕ → List ℕ
hash_of digit = codes "md5:" ++ repeat 32 digit
