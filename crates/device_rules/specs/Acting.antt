-- The entity lists behind the action of a finalized instance. A list that isn't there is made.
use Rattle.std.specs.Prelude.{ℕ, ◌≡◌, true, false, ◌&&◌, not, is_some, nat_le, find, List, [], length, Option, Some}
use Rattle.std.specs.Prelude.{None, IfSome, Result, Ok}
use Rattle.std.specs.Option.{unwrap_or}
use Rattle.std.specs.Str.{bytes_eq}
use Rattle.entity_lists.specs.Lists.{put}
use Rattle.entity_lists.specs.declared.entity_list.EntityList.{EntityList}
use Rattle.entity_merge.specs.Actions.{acted as acted_on}
use Rattle.entity_merge.specs.declared.actions.Action.{Action}
use Rattle.field_ids.specs.Draws.{NextDraw}
use Rattle.field_text.specs.Steps.{◌>>=◌}
use Rattle.finalizer.specs.Actions.{has_entity}
use Rattle.device_rules.specs.declared.acting.Acted.{Acted}
use Rattle.device_rules.specs.declared.refused.Refused.{Refused}
use Rattle.device_rules.specs.declared.refused.Refused.TheVariants.{Limit}
use Rattle.device_rules.specs.declared.refused.Which.TheVariants.{Lists}
use Rattle.device_rules.specs.Refused.{or_action_refused}
use Rattle.device_rules.specs.Tests.{Tested, refused_if}

-- how many entity lists a device keeps at most
abbrev pub list_limit : ℕ
list_limit = 16

abbrev pub new_list : List ℕ → EntityList
new_list name = record { name = name; url = None; rows = [] }

abbrev pub list_named : List EntityList → List ℕ → Option EntityList
list_named lists name = find (λ list. bytes_eq list.name name) lists

-- the list of a name, or a new one
abbrev pub list_for : List EntityList → List ℕ → EntityList
list_for lists name = unwrap_or (list_named lists name) (new_list name)

-- there may be one list more, where it is a new one
abbrev pub room_for : List EntityList → List ℕ → Tested
room_for lists name = refused_if (not (is_some (list_named lists name)) && nat_le list_limit (length lists))
    (Limit Lists list_limit)

-- what is to be made isn't there
abbrev pub IsNew : List EntityList → Action → Type 0
IsNew lists action = action.create ≡ true → has_entity lists action.list action.id ≡ false

-- the list that an action changes, as it is behind it
abbrev pub changed_list : List EntityList → NextDraw → Action → Result Acted Refused
changed_list lists draws action = do
  few ← room_for lists action.list
  after ← or_action_refused (acted_on (list_for lists action.list) action draws)
  Ok (record { list = Some after.0; draws = after.1 })

abbrev pub acted_lists : List EntityList → NextDraw → Option Action → Result Acted Refused
acted_lists lists draws None = Ok (record { list = None; draws = draws })
acted_lists lists draws (Some action) = changed_list lists draws action

-- the lists, with the changed one in its place
abbrev pub lists_with : Option EntityList → List EntityList → List EntityList
lists_with None lists = lists
lists_with (Some list) lists = put list lists
