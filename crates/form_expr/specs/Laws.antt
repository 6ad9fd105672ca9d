-- What the readings of texts are worth: they are those of the grammar.
use Rattle.std.specs.Prelude.{◌≡◌, ℕ, ◌+◌, ◌<◌, ◌≤◌, List, [], ◌∷◌, ◌++◌, length, Some, Result, Ok, Err}
use Rattle.std.specs.Prelude.{encode_utf8_all}
use Rattle.std.specs.Str.{chars}
use Rattle.field_text.specs.Xml.{is_xml_space}
use Rattle.rosa_pieces.specs.Reading.{past}
use Rattle.form_tokens.specs.declared.token.Token.{Token}
use Rattle.form_tokens.specs.Tokens.{token_at}
use Rattle.form_expr.specs.declared.syntax.ExprFault.{ExprFault}
use Rattle.form_expr.specs.declared.syntax.ExprFault.TheVariants.{BadExpr, NoMemory}
use Rattle.form_expr.specs.Grammar.{Begins}
use Rattle.form_expr.specs.Reading.{longest_text}

-- these are the first tokens of the characters, and rest follows them and the white space behind them
abbrev pub AreFirst : List Token → List ℕ → List ℕ → Type 0
AreFirst [] cs rest = past is_xml_space cs ≡ rest
AreFirst (token ∷ others) cs rest =
    (after : List ℕ) × (token_at (past is_xml_space cs) ≡ Some (token, after)) × AreFirst others after rest

-- a text of at most 2,000 bytes whose tokens are this whole
pub record Spells {A : Type 0} (IsWhole : List Token → A → Type 0) (text : List ℕ) (whole : A) : Type 0 where
  pub short : length text ≤ longest_text
  pub tokens : List Token
  pub first : AreFirst tokens (chars text) []
  pub is_whole : IsWhole tokens whole

-- no token begins here with which and the tokens before it something whole begins; at the end, the tokens are nothing
-- whole
abbrev pub CantGoOn : {A : Type 0} → (List Token → A → Type 0) → List Token → List ℕ → Type 0
CantGoOn {A} IsWhole tokens [] = (whole : A) → IsWhole tokens whole → ⊥
CantGoOn IsWhole tokens (c ∷ cs) = (token : Token) (after : List ℕ) → token_at (c ∷ cs) ≡ Some (token, after)
    → Begins IsWhole (tokens ++ token ∷ []) → ⊥

-- the tokens before this place begin something whole, and can't go on here
pub record StopsAt {A : Type 0} (IsWhole : List Token → A → Type 0) (text : List ℕ) (at : ℕ) : Type 0 where
  pub short : length text ≤ longest_text
  pub tokens : List Token
  pub rest : List ℕ
  pub first : AreFirst tokens (chars text) rest
  pub begin : Begins IsWhole tokens
  pub end : CantGoOn IsWhole tokens rest
  pub place : at + length (encode_utf8_all rest) ≡ length text

-- why a text is refused at a place
pub data IsRefused {A : Type 0} (IsWhole : List Token → A → Type 0) (text : List ℕ) : ℕ → Type 0 where
  long : longest_text < length text → IsRefused IsWhole text longest_text
  stops : (at : ℕ) → StopsAt IsWhole text at → IsRefused IsWhole text at

-- what a text is read as, by the grammar
abbrev pub ReadsAs : {A : Type 0} → (List Token → A → Type 0) → List ℕ → Result A ℕ → Type 0
ReadsAs IsWhole text (Ok whole) = Spells IsWhole text whole
ReadsAs IsWhole text (Err at) = IsRefused IsWhole text at

-- why a fault comes, of which want of memory says nothing
abbrev pub RefusedAs : {A : Type 0} → (List Token → A → Type 0) → List ℕ → ExprFault → Type 0
RefusedAs IsWhole text (BadExpr at) = IsRefused IsWhole text at
RefusedAs IsWhole text NoMemory = Unit {0}
