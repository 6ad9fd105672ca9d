use Rattle.device_core.proofs.Replays.{so_far_more}
use Rattle.device_state.specs.State.{plain}
use Rattle.device_core.proofs.replay.replay.Goals as goal

pub loop-entry-preserved : goal.loop-entry-preserved
loop-entry-preserved c =
    so_far_more c.args.entries.items c.args.moment (plain c.loop-entry.state) (plain c.step_on.new.state) c.loop-entry.marked.items c.loop-entry.left.items c.pop.new.self.items c.in-Some.entry
    c.in-Some.ensures.items c.loop-entry.invariant c.in_ok-step_on.ensures.stepped c.step_on.new.marked.items c.in_ok-step_on.ensures.kept
