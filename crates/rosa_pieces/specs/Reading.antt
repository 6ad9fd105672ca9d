-- Reading from left to right: what stands at the front, and the characters after it. Laws join these to the spellings.
use Rattle.std.specs.Prelude.{◌≡◌, ℕ, zero, suc, ◌+◌, ◌==◌, Bool, true, false, ◌&&◌, if◌then◌else◌, List, [], ◌∷◌}
use Rattle.std.specs.Prelude.{Option, Some, None, Result, Ok, Err, codes, length, take, drop, nat_eq, option_map}
use Rattle.std.specs.Prelude.{encode_utf8_all}
use Rattle.std.specs.List.{starts_with}
use Rattle.field_text.specs.Xml.{is_xml_char, is_xml_space, is_name_char, begins_as_name}
use Rattle.rosa_pieces.specs.declared.unread.Unread.{Unread}
use Rattle.rosa_pieces.specs.declared.unread.Unread.TheVariants.{Absent, NoMemory}
use Rattle.rosa_pieces.specs.declared.piece.Name.{Name}
use Rattle.rosa_pieces.specs.declared.piece.Attribute.{Attribute}
use Rattle.rosa_pieces.specs.declared.piece.Tag.{Tag}
use Rattle.rosa_pieces.specs.declared.piece.CharData.{CharData}
use Rattle.rosa_pieces.specs.declared.piece.CharData.TheVariants.{Literal, Reference}
use Rattle.rosa_pieces.specs.declared.piece.Piece.{Piece}
use Rattle.rosa_pieces.specs.declared.piece.Piece.TheVariants.{Start, Empty, End, Comment, Instruction, Data}
use Rattle.rosa_pieces.specs.Pieces.{referenced, is_no_semicolon, is_literal, is_quote, read_value}
use Rattle.rosa_pieces.specs.Pieces.{have_different_names, begins, lacks_pair}

infixl 10 ◌>>=◌
abbrev pub ◌>>=◌ : {A B : Type 0} → Option A → (A → Option B) → Option B
(Some x) >>= f = f x
None >>= f = None

-- What a function returned, seen by view, is what reading gives, unless memory ran out.
abbrev pub Fails : {Y : Type 0} → Unread → Option Y → Type 0
Fails Absent read = read ≡ None
Fails NoMemory read = Unit {0}

abbrev pub Gives : {X Y : Type 0} → (X → Y) → Result X Unread → Option Y → Type 0
Gives view (Ok x) read = read ≡ Some (view x)
Gives view (Err e) read = Fails e read

-- the characters at the front that pass, and those after them
abbrev pub front : (ℕ → Bool) → List ℕ → List ℕ
front p [] = []
front p (c ∷ cs) = if p c then c ∷ front p cs else []

abbrev pub past : (ℕ → Bool) → List ℕ → List ℕ
past p [] = []
past p (c ∷ cs) = if p c then past p cs else c ∷ cs

abbrev pub past_one : ℕ → List ℕ → Option (List ℕ)
past_one c [] = None
past_one c (d ∷ cs) = if d == c then Some cs else None

-- as many as stand one after the other, and what follows them; n bounds their number
abbrev pub cut_on : {A : Type 0} → (List ℕ → List A × List ℕ) → List ℕ → Option (A × List ℕ) → List A × List ℕ
cut_on others cs None = ([], cs)
cut_on others cs (Some x) = (x.0 ∷ (others x.1).0, (others x.1).1)

abbrev pub cuts : {A : Type 0} → (List ℕ → Option (A × List ℕ)) → ℕ → List ℕ → List A × List ℕ
cuts f zero cs = ([], cs)
cuts f (suc n) cs = cut_on (λ rest. cuts f n rest) cs (f cs)

unfoldable pub local_at : List ℕ → Option (List ℕ × List ℕ)
local_at cs = if begins_as_name cs then Some (encode_utf8_all (front is_name_char cs), past is_name_char cs) else None

unfoldable pub name_from : List ℕ → List ℕ → Option (Name × List ℕ)
name_from first [] = Some (record { prefix = None; local = first }, [])
name_from first (c ∷ cs) = if c == 58 then (local_at cs >>= λ second.
    Some (record { prefix = Some first; local = second.0 }, second.1))
    else Some (record { prefix = None; local = first }, c ∷ cs)

unfoldable pub name_at : List ℕ → Option (Name × List ℕ)
name_at cs = do
  first ← local_at cs
  name_from first.0 first.1

-- behind the `&`
unfoldable pub reference_at : List ℕ → Option (CharData × List ℕ)
reference_at cs = do
  rest ← past_one 59 (past is_no_semicolon cs)
  c ← referenced (front is_no_semicolon cs)
  Some (Reference c, rest)

unfoldable pub data_at : List ℕ → Option (CharData × List ℕ)
data_at [] = None
data_at (c ∷ cs) = if c == 38 then reference_at cs else if is_literal c then Some (Literal c, cs) else None

unfoldable pub value_char_at : ℕ → List ℕ → Option (CharData × List ℕ)
value_char_at quote [] = None
value_char_at quote (c ∷ cs) = if c == quote then None else data_at (c ∷ cs)

-- behind the first quote
unfoldable pub quoted_at : ℕ → List ℕ → Option (List ℕ × List ℕ)
quoted_at quote cs = do
  rest ← past_one quote (cuts (value_char_at quote) (length cs) cs).1
  Some (encode_utf8_all (read_value false (cuts (value_char_at quote) (length cs) cs).0), rest)

unfoldable pub value_at : List ℕ → Option (List ℕ × List ℕ)
value_at [] = None
value_at (c ∷ cs) = if is_quote c then quoted_at c cs else None

-- behind white space
unfoldable pub pair_at : List ℕ → Option (Attribute × List ℕ)
pair_at cs = do
  name ← name_at cs
  after ← past_one 61 (past is_xml_space name.1)
  value ← value_at (past is_xml_space after)
  Some (record { name = name.0; value = value.0 }, value.1)

unfoldable pub attribute_at : List ℕ → Option (Attribute × List ℕ)
attribute_at cs = if begins is_xml_space cs then pair_at (past is_xml_space cs) else None

-- what closes a tag, and whether it closes the element too
unfoldable pub close_at : List ℕ → Option (Bool × List ℕ)
close_at [] = None
close_at (c ∷ cs) =
    if c == 62 then Some (false, cs) else if c == 47 then (past_one 62 cs >>= λ rest. Some (true, rest)) else None

-- behind the `<`
unfoldable pub tag_at : List ℕ → Option ((Bool × Tag) × List ℕ)
tag_at cs = do
  name ← name_at cs
  close ← close_at (past is_xml_space (cuts attribute_at (length name.1) name.1).1)
  if have_different_names (cuts attribute_at (length name.1) name.1).0
      then Some (
        (close.0, record { name = name.0; attributes = (cuts attribute_at (length name.1) name.1).0 }),
        close.1,
      ) else None

abbrev pub tag_piece : Bool × Tag → Piece
tag_piece t = if t.0 then Empty t.1 else Start t.1

unfoldable pub tag_piece_at : List ℕ → Option (Piece × List ℕ)
tag_piece_at cs = do
  t ← tag_at cs
  Some (tag_piece t.0, t.1)

-- behind the `</`
unfoldable pub end_at : List ℕ → Option (Piece × List ℕ)
end_at cs = do
  name ← name_at cs
  rest ← past_one 62 (past is_xml_space name.1)
  Some (End name.0, rest)

-- how many allowed characters stand before the first `close`
unfoldable pub until : List ℕ → List ℕ → Option ℕ
until close [] = None
until close (c ∷ cs) = if starts_with nat_eq (c ∷ cs) close then Some 0
    else if is_xml_char c then option_map (λ n. n + 1) (until close cs) else None

unfoldable pub skipped_at : Piece → List ℕ → ℕ → ℕ → List ℕ → Option (Piece × List ℕ)
skipped_at piece close a b cs = do
  n ← until close cs
  if lacks_pair a b (take n cs) then Some (piece, drop (n + length close) cs) else None

-- behind the `<!`
unfoldable pub comment_at : List ℕ → Option (Piece × List ℕ)
comment_at [] = None
comment_at (c ∷ []) = None
comment_at (c ∷ d ∷ cs) = if (c == 45) && (d == 45) then skipped_at Comment (codes "-->") 45 45 cs else None

-- behind the `<`
unfoldable pub markup_at : List ℕ → Option (Piece × List ℕ)
markup_at [] = None
markup_at (c ∷ cs) = if c == 47 then end_at cs else if c == 33 then comment_at cs
    else if c == 63 then skipped_at Instruction (codes "?>") 63 62 cs else tag_piece_at (c ∷ cs)

unfoldable pub piece_at : List ℕ → Option (Piece × List ℕ)
piece_at [] = None
piece_at (c ∷ cs) = if c == 60 then markup_at cs else (data_at (c ∷ cs) >>= λ d. Some (Data d.0, d.1))
