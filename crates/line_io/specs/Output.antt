-- What a sink has gained. Nothing is said where it doesn't tell what it holds.
use Rattle.std.specs.Prelude.{◌≡◌, ℕ, ◌<◌, List, ◌++◌, length, Option, Some, option_map, IfSome, Result, Ok, Err}

-- the sink holds what it held before and then the text
abbrev pub Gained : Option (List ℕ) → Option (List ℕ) → List ℕ → Type 0
Gained old new text = IfSome new (λ held. option_map (λ before. before ++ text) old ≡ Some held)

-- the front of a text that isn't all of it
pub record IsCut (cut whole : List ℕ) : Type 0 where
  pub missing : List ℕ
  pub some : 0 < length missing
  pub joined : whole ≡ cut ++ missing

-- the sink has gained the text, or where a call failed the front of it
abbrev pub PutsText : {T E : Type 0} → Option (List ℕ) → Option (List ℕ) → Result T E → List ℕ → Type 0
PutsText old new (Ok done) text = Gained old new text
PutsText old new (Err failed) text = (cut : List ℕ) × IsCut cut text × Gained old new cut
