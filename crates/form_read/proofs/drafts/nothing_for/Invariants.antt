use Rattle.std.proofs.Common.{◌≡◌, take, map, None}
use Rattle.form_read.proofs.drafts.nothing_for.Given as goal

abbrev pub invariant-loop-slot : goal.invariant-loop-slot
invariant-loop-slot g l = l.items ≡ map (λ s. None) (take l._slot-index l.slots)
