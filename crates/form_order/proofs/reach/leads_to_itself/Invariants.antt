use Rattle.std.proofs.Common.{◌-◌, length}
use Rattle.form_order.proofs.ReachLemmas.{Reaches}
use Rattle.form_order.proofs.reach.leads_to_itself.Given as goal

abbrev pub invariant-loop-found : goal.invariant-loop-found
invariant-loop-found l = Reaches l.rows l.fn.number l.next l.reach

abbrev pub decreases-loop-found : goal.decreases-loop-found
decreases-loop-found l = length l.rows - l.next
