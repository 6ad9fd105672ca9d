-- The branch of changes that an entity starts: the text of the next id that is drawn.
use Rattle.std.specs.Prelude.{ℕ, List}
use Rattle.field_ids.specs.Draws.{NextDraw}
use Rattle.field_ids.specs.Ids.{id_of, text_of_id}

abbrev pub branch_of : NextDraw → List ℕ
branch_of draws = text_of_id (id_of draws.device draws.next)
