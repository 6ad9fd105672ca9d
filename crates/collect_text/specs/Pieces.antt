-- The pieces of printed lines: words, numbers and texts, each with a space in front of it.
use Rattle.std.specs.Prelude.{ℕ, List, ◌∷◌, codes}
use Rattle.std.specs.Fmt.{decimal}
use Rattle.instance_store.specs.declared.records.Status.{Status}
use Rattle.instance_store.specs.declared.records.Status.TheVariants.{Draft, Invalid, Finalized, SendFailed, Sent}
use Rattle.collect_text.specs.Printed.{printed_text}

abbrev pub spaced_word : List ℕ → List ℕ
spaced_word word = 32 ∷ word

abbrev pub spaced_number : ℕ → List ℕ
spaced_number number = 32 ∷ decimal number

abbrev pub spaced_text : List ℕ → List ℕ
spaced_text text = 32 ∷ printed_text text

abbrev pub status_word : Status → List ℕ
status_word Draft = codes "draft"
status_word Invalid = codes "invalid"
status_word Finalized = codes "finalized"
status_word SendFailed = codes "failed"
status_word Sent = codes "sent"
