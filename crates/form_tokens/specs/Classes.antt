-- The characters of each class.
use Rattle.std.specs.Prelude.{ℕ, Bool}
use Rattle.field_text.specs.Xml.{is_xml_space, is_name_char}
use Rattle.form_tokens.specs.declared.front.Class.{Class}
use Rattle.form_tokens.specs.declared.front.Class.TheVariants.{Space, NameChar, Inside}
use Rattle.form_tokens.specs.Tokens.{is_inside}

abbrev pub belongs : Class → ℕ → Bool
belongs Space c = is_xml_space c
belongs NameChar c = is_name_char c
belongs (Inside quote) c = is_inside quote c
