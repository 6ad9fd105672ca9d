-- Laws of what finalizing draws.
use Rattle.std.specs.Prelude.{ℕ, ◌+◌, ◌<◌, ◌≤◌, ◌≡◌, List, ◌++◌, codes}
use Rattle.field_ids.specs.Draws.{NextDraw, drawn}
use Rattle.field_ids.specs.Ids.{id_of, text_of_id}

-- one or two ids of the device were drawn
pub record DrawsOn (before after : NextDraw) : Type 0 where
  pub device : after.device ≡ before.device
  pub least : before.next < after.next
  pub most : after.next ≤ before.next + 2

-- the text of an id that was drawn between these draws
pub record IsDrawnBetween (before after : NextDraw) (text : List ℕ) : Type 0 where
  pub counter : ℕ
  pub least : before.next ≤ counter
  pub most : counter < after.next
  pub id : text ≡ text_of_id (id_of before.device counter)

-- the id of an instance, whose text behind `uuid:` is the first that was drawn
pub record IsFirstDrawn (before : NextDraw) (name : List ℕ) : Type 0 where
  pub text : List ℕ
  pub named : name ≡ codes "uuid:" ++ text
  pub drawn_first : IsDrawnBetween before (drawn before 1) text
