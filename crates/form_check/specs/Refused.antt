-- Why a document is no form: the name of the refusal with what it is about. Places of a document are told in bytes, and
-- as line and column; those of an expression in bytes of its text.
use Rattle.std.specs.Prelude.{ℕ, List, ◌∷◌, ◌++◌, [], codes, take}
use Rattle.std.specs.Fmt.{decimal}
use Rattle.collect_text.specs.Printed.{printed_text}
use Rattle.form_read.specs.declared.refusal.FormRefused.{FormRefused}
use Rattle.form_read.specs.declared.refusal.FormRefused.TheVariants as form
use Rattle.rosa_doc.specs.declared.refusal.DocRefused.{DocRefused}
use Rattle.rosa_doc.specs.declared.refusal.DocRefused.TheVariants as doc
use Rattle.form_check.specs.Places.{place_behind}
use Rattle.form_check.specs.declared.place.Place.{Place}

-- a word, and the path or the name that it is about
abbrev pub named : List ℕ → List ℕ → List ℕ
named word name = word ++ 32 ∷ printed_text name

abbrev pub numbered : List ℕ → ℕ → List ℕ
numbered word number = word ++ 32 ∷ decimal number

abbrev pub placed : List ℕ → ℕ → Place → List ℕ
placed word at place = word ++ numbered (codes " at") at ++ numbered (codes " line") place.line
    ++ numbered (codes " column") place.column

-- a word, and the place of a byte in the document
abbrev pub at_place : List ℕ → List ℕ → ℕ → List ℕ
at_place word document at = placed word at (place_behind (take at document))

abbrev pub doc_words : List ℕ → DocRefused → List ℕ
doc_words document (doc.NotUtf8 at) = at_place (codes "not-utf8") document at
doc_words document (doc.BadMarkup at) = at_place (codes "bad-markup") document at
doc_words document (doc.Unclosed at) = at_place (codes "unclosed") document at
doc_words document (doc.TooDeep at) = at_place (codes "too-deep") document at
doc_words document (doc.HasDoctype at) = at_place (codes "has-doctype") document at
doc_words document (doc.TooLong length) = numbered (codes "too-long") length
doc_words document doc.NoMemory = codes "memory"

-- an expression stops being one at a byte of its text
abbrev pub expression_words : List ℕ → ℕ → List ℕ
expression_words path at = named (codes "bad-expression") path ++ numbered (codes " at") at

abbrev pub refused_words : List ℕ → FormRefused → List ℕ
refused_words document (form.Doc why) = doc_words document why
refused_words document form.NoPrimary = codes "no-primary"
refused_words document form.NoId = codes "no-id"
refused_words document (form.BadExpr path at) = expression_words path at
refused_words document (form.UnknownPath path) = named (codes "unknown-path") path
refused_words document (form.UnknownControl name) = named (codes "unknown-control") name
refused_words document (form.UnknownType path) = named (codes "unknown-type") path
refused_words document (form.Cycle path) = named (codes "cycle") path
refused_words document (form.UnknownList name) = named (codes "unknown-list") name
refused_words document (form.TooManyFields count) = numbered (codes "too-many-fields") count
refused_words document (form.BadEntity path) = named (codes "bad-entity") path
refused_words document form.NoMemory = codes "memory"

abbrev pub refused_line : List ℕ → FormRefused → List ℕ
refused_line document why = codes "refused " ++ refused_words document why ++ codes "\n"
