-- Parameters of a field's value (RFC 9110, section 5.6.6). The value is cut at its semicolons, but for those in quoted
-- strings (section 5.6.4), and each piece loses the white space round it. The first piece is what the value names, and
-- each other one is `name=value`.
use Rattle.std.specs.Prelude.{ℕ, suc, ◌-◌, Bool, true, false, ◌&&◌, ◌==◌, nat_le, List, [], ◌∷◌, length, take, drop}
use Rattle.std.specs.Prelude.{codes, Option, Some, None, if◌then◌else◌, slice_index, slice_range}
use Rattle.std.specs.Option.{option_or}
use Rattle.std.specs.Str.{str_eq_ignore_ascii_case}
use Rattle.httparse.specs.Grammar.{trim_ows}
use Rattle.submission_wire.specs.declared.parameters.Place.{Place}
use Rattle.submission_wire.specs.declared.parameters.Place.TheVariants.{Bare, Quoted, Escaped}

-- where the next byte stands behind a quote, a backslash or another byte
abbrev pub place_behind : Place → ℕ → Place
place_behind Bare b = if b == 34 then Quoted else Bare
place_behind Quoted b = if b == 34 then Bare else (if b == 92 then Escaped else Quoted)
place_behind Escaped b = Quoted

-- the byte is a semicolon that cuts
abbrev pub ends_piece : Place → ℕ → Bool
ends_piece Bare b = b == 59
ends_piece Quoted b = false
ends_piece Escaped b = false

-- the pieces with one byte more in front, which cuts or belongs to the first of them
abbrev pub joined : Bool → ℕ → List (List ℕ) → List (List ℕ)
joined true b pieces = [] ∷ pieces
joined false b [] = []
joined false b (piece ∷ others) = (b ∷ piece) ∷ others

-- the pieces of bytes whose first one stands here
abbrev pub pieces_from : Place → List ℕ → List (List ℕ)
pieces_from place [] = [] ∷ []
pieces_from place (b ∷ bytes) = joined (ends_piece place b) b (pieces_from (place_behind place b) bytes)

abbrev pub first_piece : List (List ℕ) → List ℕ
first_piece [] = []
first_piece (piece ∷ others) = piece

-- what the value names
unfoldable pub kind_of : List ℕ → List ℕ
kind_of value = trim_ows (first_piece (pieces_from Bare value))

-- what stands behind the name and its `=` in a piece, whose letters may have any case
abbrev pub behind_name : List ℕ → List ℕ → Option (List ℕ)
behind_name name piece =
    if nat_le (length name) (length piece) && str_eq_ignore_ascii_case (take (length name) piece) name
    then Some (drop (length name) piece) else None

abbrev pub first_behind : List ℕ → List (List ℕ) → Option (List ℕ)
first_behind name [] = None
first_behind name (piece ∷ others) = option_or (behind_name name (trim_ows piece)) (first_behind name others)

-- the value of the first parameter with this name, which is given with its `=`
unfoldable pub parameter : List ℕ → List ℕ → Option (List ℕ)
parameter name value = first_behind name (drop 1 (pieces_from Bare value))

-- both ends are quotes
abbrev pub is_quoted : List ℕ → Bool
is_quoted value = nat_le 2 (length value) && (slice_index value 0 == 34)
    && (slice_index value (length value - 1) == 34)

-- a parameter's value without the quotes round it
abbrev pub unquoted : List ℕ → List ℕ
unquoted value = if is_quoted value then slice_range value 1 (length value - 1) else value

-- a boundary isn't empty
abbrev pub some_boundary : List ℕ → Option (List ℕ)
some_boundary value = if length value == 0 then None else Some value

abbrev pub boundary_in : Option (List ℕ) → Option (List ℕ)
boundary_in None = None
boundary_in (Some value) = some_boundary (unquoted value)

-- the boundary of a content type that is a form of several parts (RFC 7578, section 4.1)
abbrev pub form_boundary : List ℕ → Option (List ℕ)
form_boundary value = if str_eq_ignore_ascii_case (kind_of value) (codes "multipart/form-data")
    then boundary_in (parameter (codes "boundary=") value) else None

-- ---- for the code's loops

-- how long the first piece is
abbrev pub piece_len : Place → List ℕ → ℕ
piece_len place [] = 0
piece_len place (b ∷ bytes) = if ends_piece place b then 0 else suc (piece_len (place_behind place b) bytes)

-- the pieces behind a semicolon
abbrev pub later : List ℕ → List (List ℕ)
later [] = []
later (b ∷ bytes) = pieces_from Bare bytes
