-- The hash of a form, as an OpenRosa form list has it: the MD5 digest (RFC 1321) in hexadecimal digits, behind `md5:`.
use Rattle.std.specs.Prelude.{ℕ, ◌==◌, ◌&&◌, Bool, false, if◌then◌else◌}
use Rattle.std.specs.Prelude.{List, ◌++◌, codes, drop, length, map, Option, Some, None}
use Rattle.std.specs.Bool.{nat_eq}
use Rattle.std.specs.Char.{is_ascii_hexdigit, to_ascii_lowercase}
use Rattle.std.specs.List.{list_all, starts_with}
use Rattle.std.specs.Option.{option_map_or}
use Rattle.std.specs.Str.{bytes_eq}
use Rattle.hex.specs.Hex.{encode_lower}
use Rattle.md5.specs.Md5.{md5}

abbrev pub hash_prefix : List ℕ
hash_prefix = codes "md5:"

-- the hash of some bytes, with digits in lower case
abbrev pub hash_of : List ℕ → List ℕ
hash_of bytes = hash_prefix ++ encode_lower (md5 bytes)

-- what stands behind the prefix, where the text begins with it
abbrev pub digits_in : List ℕ → Option (List ℕ)
digits_in text = if starts_with nat_eq text hash_prefix then Some (drop 4 text) else None

abbrev pub are_digits : List ℕ → Bool
are_digits digits = (length digits == 32) && list_all is_ascii_hexdigit digits

-- the text is the prefix, and then 32 digits of either case
abbrev pub is_hash : List ℕ → Bool
is_hash text = option_map_or are_digits (digits_in text) false

abbrev pub same_digits : Option (List ℕ) → Option (List ℕ) → Bool
same_digits None b = false
same_digits (Some a) None = false
same_digits (Some a) (Some b) = bytes_eq (map to_ascii_lowercase a) (map to_ascii_lowercase b)

-- both texts are the prefix, and then the same digits, each of either case
abbrev pub same_hash : List ℕ → List ℕ → Bool
same_hash a b = same_digits (digits_in a) (digits_in b)

-- the text is the hash of these bytes, its digits of either case
abbrev pub is_hash_of : List ℕ → List ℕ → Bool
is_hash_of text bytes = same_hash text (hash_of bytes)
