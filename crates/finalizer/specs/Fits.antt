-- What holds of each finalized instance: its draws, and that an entity which it makes isn't there yet.
use Rattle.std.specs.Prelude.{◌≡◌, ◌+◌, ◌≤◌, true, false, List, IfSome}
use Rattle.entity_lists.specs.declared.entity_list.EntityList.{EntityList}
use Rattle.field_ids.specs.Draws.{NextDraw}
use Rattle.finalizer.specs.declared.finals.Final.{Final}
use Rattle.finalizer.specs.Actions.{has_entity}

pub record Fits (lists : List EntityList) (before : NextDraw) (final : Final) : Type 0 where
  pub draws : final.draws.next ≤ before.next + 2
  pub new : IfSome final.action (λ a. a.create ≡ true → has_entity lists a.list a.id ≡ false)
