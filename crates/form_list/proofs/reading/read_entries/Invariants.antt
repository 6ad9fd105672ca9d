use Rattle.std.proofs.Common.{◌≡◌, ◌+◌, ◌++◌, length, map}
use Rattle.form_list.specs.Entries.{first_fault}
use Rattle.form_list.specs.Lists.{entries}
use Rattle.form_list.proofs.reading.read_entries.Given as goal

abbrev pub invariant-loop-node : goal.invariant-loop-node
invariant-loop-node g l = record {
  items : l.items ++ map g.E.Entry.item (entries l.name l.rest) ≡ map g.E.Entry.item (entries l.name l.nodes);
  faults : first_fault g.E.Entry.fault (length l.items + 1) (map g.E.Entry.item (entries l.name l.rest))
      ≡ first_fault g.E.Entry.fault 1 (map g.E.Entry.item (entries l.name l.nodes));
}

abbrev pub decreases-loop-node : goal.decreases-loop-node
decreases-loop-node g l = length l.rest
