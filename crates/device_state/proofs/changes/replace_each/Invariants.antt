use Rattle.std.proofs.Common.{◌≡◌}
use Rattle.device_state.specs.Numbered.{each_replaced}
use Rattle.device_state.proofs.changes.replace_each.Given as goal

-- what the rest makes of the instances is what all make of them
abbrev pub invariant-loop-item : goal.invariant-loop-item
invariant-loop-item l =
    each_replaced l.item-iterator.rest.items l.instances.items ≡ each_replaced l.fn.items.items l.fn.instances.items
