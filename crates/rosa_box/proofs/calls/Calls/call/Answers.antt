use Rattle.std.proofs.Common.{arith, ◌≤◌, ◌+◌, ap, ◌∙◌}
use Rattle.std.specs.List.{list_any}
use Rattle.std.specs.Prelude.{nat_eq}
use Rattle.rosa_box.proofs.Counting.{most_kept, most_listed}
use Rattle.rosa_box.proofs.calls.Calls.call.Goals as goal

pub invariant_of-self : goal.invariant_of-self
invariant_of-self c =
    let now = c.args.self.now in
    let at_most : c.saturating_add-self.result ≤ now.faults + 1 = omega (arith, c.saturating_add-self.ensures) in
    record {
      least = omega (arith, c.saturating_add-self.ensures, now.least, c.args.self.now.least);
      most = most_listed now.fails now.calls c.in-Some.number now.starved now.faults c.in-Some.ensures.1 now.most
          c.saturating_add-self.result (c.if-is_listed.ensures ∙ ap (list_any (λ n. nat_eq n c.in-Some.number)) c.as_slice.ensures)
          at_most;
    }

pub invariant_of-self-else-is_listed : goal.invariant_of-self-else-is_listed
invariant_of-self-else-is_listed c =
    let now = c.args.self.now in
    record {
      least = now.least;
      most = most_kept now.fails now.calls c.in-Some.number now.starved now.faults c.in-Some.ensures.1 now.most;
    }
