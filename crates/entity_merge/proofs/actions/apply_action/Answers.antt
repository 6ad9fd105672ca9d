use Rattle.std.proofs.Common.{List, ap, sym, ◌∙◌}
use Rattle.entity_lists.specs.declared.entities.EntityRow.{EntityRow}
use Rattle.entity_merge.specs.Actions.{acted_rows}
use Rattle.entity_merge.proofs.ActionLemmas.{acted_differ}
use Rattle.entity_merge.proofs.actions.apply_action.Goals as goal

pub from_items-requires : goal.from_items-requires
from_items-requires c =
    let action = c.args.action.now in
    let told = ap (λ (rows : List EntityRow). acted_rows rows action c.args.draws) (sym c.as_slice.ensures.rows) ∙ c.in_ok-rows.ensures in
    acted_differ c.args.list.now.rows action c.args.draws c.in_ok-rows.rows c.as_slice.ensures.ids_differ c.requires.absent told
