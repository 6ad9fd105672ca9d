-- Rows, and for how many more there is room.
use Rattle.std.specs.Prelude.{ℕ, List, refl}
use Rattle.std.specs.Coded.{Coded, code_by, coded×, coded_list, coded_ℕ}

pub record Kept (T : Type 0) : Type 0 where
  pub items : List T
  pub spare : ℕ

abbrev pub kept_code : {T : Type 0} → Coded T → Coded (Kept T)
kept_code {T = T} code =
    code_by (List T × ℕ) (coded× (coded_list code) coded_ℕ) (λ k. (k.items, k.spare))
    (λ p. record { items = p.0; spare = p.1 }) (λ _. refl)
