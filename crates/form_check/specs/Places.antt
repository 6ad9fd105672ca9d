-- Where a byte of a document stands, as an editor counts: a line feed ends a line, and a character begins with each
-- byte of UTF-8 (RFC 3629) that doesn't continue one.
use Rattle.std.specs.Prelude.{ℕ, ◌+◌, ◌==◌, ◌||◌, nat_lt, nat_le, Bool, if◌then◌else◌, List}
use Rattle.std.specs.List.{fold}
use Rattle.form_check.specs.declared.place.Place.{Place}

abbrev pub is_line_feed : ℕ → Bool
is_line_feed b = b == 10

abbrev pub begins_character : ℕ → Bool
begins_character b = nat_lt b 128 || nat_le 192 b

-- lines and characters are counted from 1
abbrev pub start : Place
start = record { line = 1; column = 1 }

-- the place behind one more byte
abbrev pub moved : Place → ℕ → Place
moved place b =
    if is_line_feed b then record { line = place.line + 1; column = 1 }
    else (if begins_character b then record place { column = place.column + 1 } else place)

-- the place behind these bytes
abbrev pub place_behind : List ℕ → Place
place_behind bytes = fold moved start bytes
