use Rattle.std.proofs.Common.{◌≡◌, ◌+◌, ◌≤◌, length}
use Rattle.form_list.specs.Lists.{entries}
use Rattle.form_list.proofs.reading.entry_count.Given as goal

abbrev pub invariant-loop-node : goal.invariant-loop-node
invariant-loop-node l = record {
  counted : l.count + length (entries l.name l.rest) ≡ length (entries l.name l.nodes);
  bounded : l.count + length l.rest ≤ length l.nodes;
}

abbrev pub decreases-loop-node : goal.decreases-loop-node
decreases-loop-node l = length l.rest
