-- A row that is lent for writing.
use Rattle.std.specs.Prelude.{ℕ, slice_set}
use Rattle.std.specs.Borrow.{Lends, Fml, RattleType, MutBor}
use Rattle.field_rows.specs.Kept.{Kept}
use Rattle.field_rows.specs.contracts.rows.Rows.{the_row}

-- the rows with another one at this place
abbrev pub with_row : {T : Type 0} → Kept T → ℕ → T → Kept T
with_row kept place row = record { items = slice_set kept.items place row; spare = kept.spare }

-- the rows end with the last value behind r at this place
abbrev pub LendsRow : (T : RattleType) → MutBor (Kept T.Denot) → ℕ → MutBor T.Denot → Fml
LendsRow T s place r = Lends (the_row T) T s r (with_row s.now place)
