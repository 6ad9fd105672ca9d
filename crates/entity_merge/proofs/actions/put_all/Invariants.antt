use Rattle.std.proofs.Common.{◌≡◌, fold, take}
use Rattle.entity_merge.specs.Actions.{put_prop}
use Rattle.entity_merge.proofs.actions.put_all.Given as goal

abbrev pub invariant-loop-prop : goal.invariant-loop-prop
invariant-loop-prop l = l.all ≡ fold put_prop l.fn.props (take l.prop-index l.new)
