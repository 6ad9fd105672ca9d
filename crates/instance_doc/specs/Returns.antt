-- Bytes without a carriage return.
use Rattle.std.specs.Prelude.{ℕ, Bool, not, ◌==◌, List}
use Rattle.std.specs.List.{list_all}

abbrev pub lacks_return : List ℕ → Bool
lacks_return bytes = list_all (λ b. not (b == 13)) bytes
