use Rattle.std.proofs.Common.{◌≡◌, take}
use Rattle.entity_lists.proofs.entities.Prop.copy_all.Given as goal

abbrev pub invariant-loop-prop : goal.invariant-loop-prop
invariant-loop-prop l = l.copy.items ≡ take l.prop-index l.props
