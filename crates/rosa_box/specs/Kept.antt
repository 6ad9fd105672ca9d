-- Documents that were submitted, by the instance ids in them.
use Rattle.std.specs.Prelude.{ℕ, Bool, List, find, Option, bytes_eq}
use Rattle.rosa_box.specs.declared.state.BoxKept.{BoxKept}

abbrev pub is_under : List ℕ → BoxKept → Bool
is_under id kept = bytes_eq kept.instance_id id

-- the first document that is kept under an id
abbrev pub kept_under : List ℕ → List BoxKept → Option BoxKept
kept_under id kept = find (is_under id) kept
