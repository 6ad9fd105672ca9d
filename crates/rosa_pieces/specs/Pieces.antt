-- Which characters spell which piece of a document: XML 1.0 (sections 2.2 to 2.6, 2.11, 3.1, 3.3.3 and 4.1) and
-- Namespaces in XML 1.0, over code points, with no declarations, no CDATA sections and no entities but the five of
-- section 4.6.
use Rattle.std.specs.Prelude.{◌≡◌, ◌≢◌, ℕ, ◌+◌, ◌*◌, nat_lt, ◌==◌, Bool, true, false, not, ◌&&◌, ◌||◌, if◌then◌else◌}
use Rattle.std.specs.Prelude.{List, [], ◌∷◌, ◌++◌, Option, Some, None, codes, map, encode_utf8_all}
use Rattle.std.specs.List.{list_all, list_any, fold}
use Rattle.std.specs.Str.{bytes_eq}
use Rattle.std.specs.Char.{digit_value}
use Rattle.field_text.specs.Xml.{is_xml_char, is_xml_space, is_local_name}
use Rattle.rosa_pieces.specs.declared.piece.Name.{Name}
use Rattle.rosa_pieces.specs.declared.piece.Attribute.{Attribute}
use Rattle.rosa_pieces.specs.declared.piece.Tag.{Tag}
use Rattle.rosa_pieces.specs.declared.piece.CharData.{CharData}
use Rattle.rosa_pieces.specs.declared.piece.CharData.TheVariants.{Literal, Reference}
use Rattle.rosa_pieces.specs.declared.piece.Piece.{Piece}
use Rattle.rosa_pieces.specs.declared.piece.Piece.TheVariants.{Start, Empty, End, Comment, Instruction, Data}

-- these things stand one after the other, each spelled as P says
abbrev pub Spelled : {A : Type 0} → (A → List ℕ → Type 0) → List A → List ℕ → Type 0
Spelled P [] cs = cs ≡ []
Spelled P (first ∷ others) cs = (x : List ℕ) × (y : List ℕ) × P first x × Spelled P others y × (cs ≡ x ++ y)

abbrev pub AreSpaces : List ℕ → Type 0
AreSpaces cs = list_all is_xml_space cs ≡ true

-- a name, or two with a colon between them; the tree keeps texts, which are UTF-8
abbrev pub SpellsName : Option (List ℕ) → List ℕ → List ℕ → Type 0
SpellsName None local cs = (is_local_name cs ≡ true) × (local ≡ encode_utf8_all cs)
SpellsName (Some prefix) local cs = (a : List ℕ) × (b : List ℕ) × (is_local_name a ≡ true) × (is_local_name b ≡ true)
    × (prefix ≡ encode_utf8_all a) × (local ≡ encode_utf8_all b) × (cs ≡ a ++ (58 ∷ b))

abbrev pub IsName : Name → List ℕ → Type 0
IsName n cs = SpellsName n.prefix n.local cs

-- a number in a base, its digits of either case
abbrev pub number : ℕ → List ℕ → ℕ
number base digits = fold (λ n d. n * base + digit_value d) 0 digits

-- the character of a number, if XML 1.0 allows it
abbrev pub numbered : ℕ → List ℕ → Option ℕ
numbered base [] = None
numbered base (d ∷ ds) = if list_all (λ c. nat_lt (digit_value c) base) (d ∷ ds) && is_xml_char (number base (d ∷ ds))
    then Some (number base (d ∷ ds)) else None

abbrev pub numeric : List ℕ → Option ℕ
numeric [] = None
numeric (c ∷ cs) = if c == 120 then numbered 16 cs else numbered 10 (c ∷ cs)

abbrev pub named : List ℕ → Option ℕ
named name = if bytes_eq name (codes "amp") then Some 38 else if bytes_eq name (codes "lt") then Some 60
    else if bytes_eq name (codes "gt") then Some 62 else if bytes_eq name (codes "quot") then Some 34
    else if bytes_eq name (codes "apos") then Some 39 else None

-- the character that `&..;` stands for, by what stands between
abbrev pub referenced : List ℕ → Option ℕ
referenced [] = None
referenced (c ∷ cs) = if c == 35 then numeric cs else named (c ∷ cs)

abbrev pub is_no_semicolon : ℕ → Bool
is_no_semicolon c = not (c == 59)

-- an allowed character other than `<` and `&`
abbrev pub is_literal : ℕ → Bool
is_literal c = is_xml_char c && not ((c == 60) || (c == 38))

abbrev pub IsCharData : CharData → List ℕ → Type 0
IsCharData (Literal c) cs = (is_literal c ≡ true) × (cs ≡ c ∷ [])
IsCharData (Reference c) cs = (inside : List ℕ) × (list_all is_no_semicolon inside ≡ true)
    × (referenced inside ≡ Some c) × (cs ≡ 38 ∷ (inside ++ (59 ∷ [])))

-- a literal carriage return
abbrev pub is_return : CharData → Bool
is_return (Literal c) = c == 13
is_return (Reference c) = false

-- the characters that one adds to a text, by whether it stands right behind a literal carriage return: a literal CR or
-- CR LF is one line feed (section 2.11)
abbrev pub read_char : Bool → CharData → List ℕ
read_char after_return (Literal c) = if c == 13 then 10 ∷ [] else if (c == 10) && after_return then [] else c ∷ []
read_char after_return (Reference c) = c ∷ []

-- in a value literal white space is a space (section 3.3.3)
abbrev pub space_of : ℕ → ℕ
space_of c = if is_xml_space c then 32 else c

abbrev pub read_value_char : Bool → CharData → List ℕ
read_value_char after_return (Literal c) = map space_of (read_char after_return (Literal c))
read_value_char after_return (Reference c) = c ∷ []

abbrev pub read_value : Bool → List CharData → List ℕ
read_value after_return [] = []
read_value after_return (d ∷ ds) = read_value_char after_return d ++ read_value (is_return d) ds

abbrev pub IsOtherThan : ℕ → CharData → Type 0
IsOtherThan quote (Literal c) = (c == quote) ≡ false
IsOtherThan quote (Reference c) = Unit {0}

-- a character of a value between these quotes
abbrev pub IsValueChar : ℕ → CharData → List ℕ → Type 0
IsValueChar quote d cs = IsOtherThan quote d × IsCharData d cs

abbrev pub is_quote : ℕ → Bool
is_quote c = (c == 34) || (c == 39)

abbrev pub IsValue : List ℕ → List ℕ → Type 0
IsValue value cs = (quote : ℕ) × (ds : List CharData) × (inside : List ℕ) × (is_quote quote ≡ true)
    × Spelled (IsValueChar quote) ds inside × (value ≡ encode_utf8_all (read_value false ds))
    × (cs ≡ quote ∷ (inside ++ (quote ∷ [])))

-- white space, a name, `=`, a value
abbrev pub IsAttribute : Attribute → List ℕ → Type 0
IsAttribute a cs = (before : List ℕ) × (name : List ℕ) × (left : List ℕ) × (right : List ℕ) × (value : List ℕ)
    × AreSpaces before × (before ≢ []) × IsName a.name name × AreSpaces left × AreSpaces right × IsValue a.value value
    × (cs ≡ before ++ (name ++ (left ++ (61 ∷ (right ++ value)))))

abbrev pub same_prefix : Option (List ℕ) → Option (List ℕ) → Bool
same_prefix None None = true
same_prefix None (Some q) = false
same_prefix (Some p) None = false
same_prefix (Some p) (Some q) = bytes_eq p q

-- as they are written, with their prefixes
abbrev pub same_name : Name → Name → Bool
same_name m n = same_prefix m.prefix n.prefix && bytes_eq m.local n.local

-- no two attributes have the same name
abbrev pub have_different_names : List Attribute → Bool
have_different_names [] = true
have_different_names (a ∷ others) = not (list_any (λ b. same_name a.name b.name) others) && have_different_names others

-- `<`, a name, attributes with different names, and after white space what closes the tag
abbrev pub IsTag : List ℕ → Tag → List ℕ → Type 0
IsTag close t cs = (name : List ℕ) × (attributes : List ℕ) × (spaces : List ℕ) × IsName t.name name
    × Spelled IsAttribute t.attributes attributes × (have_different_names t.attributes ≡ true) × AreSpaces spaces
    × (cs ≡ 60 ∷ (name ++ (attributes ++ (spaces ++ close))))

abbrev pub begins : (ℕ → Bool) → List ℕ → Bool
begins p [] = false
begins p (c ∷ cs) = p c

-- nowhere a stands right before b
abbrev pub lacks_pair : ℕ → ℕ → List ℕ → Bool
lacks_pair a b [] = true
lacks_pair a b (c ∷ cs) = not ((c == a) && begins (λ d. d == b) cs) && lacks_pair a b cs

-- allowed characters between two marks, among which a nowhere stands right before b
abbrev pub IsSkipped : List ℕ → List ℕ → ℕ → ℕ → List ℕ → Type 0
IsSkipped opening close a b cs = (inside : List ℕ) × (list_all is_xml_char inside ≡ true)
    × (lacks_pair a b inside ≡ true) × (cs ≡ opening ++ (inside ++ close))

-- the characters of one piece
abbrev pub IsPiece : Piece → List ℕ → Type 0
IsPiece (Start t) cs = IsTag (codes ">") t cs
IsPiece (Empty t) cs = IsTag (codes "/>") t cs
IsPiece (End n) cs = (name : List ℕ) × (spaces : List ℕ) × IsName n name × AreSpaces spaces
    × (cs ≡ 60 ∷ (47 ∷ (name ++ (spaces ++ (62 ∷ [])))))
IsPiece Comment cs = IsSkipped (codes "<!--") (codes "-->") 45 45 cs
IsPiece Instruction cs = IsSkipped (codes "<?") (codes "?>") 63 62 cs
IsPiece (Data d) cs = IsCharData d cs
