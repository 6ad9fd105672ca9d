use Rattle.std.proofs.Common.{◌≡◌, length, take}
use Rattle.form_order.specs.Reached.{with_all_found}
use Rattle.form_order.proofs.reach.Reach.add_all.Given as goal

abbrev pub invariant-loop-number : goal.invariant-loop-number
invariant-loop-number l = (l.self ≡ with_all_found l.fn.self (take l.number-index l.numbers)) × (length l.self.marks ≡ length l.fn.self.marks)
