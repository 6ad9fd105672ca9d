use Rattle.std.proofs.Common.{◌≡◌, ◌+◌, ◌-◌, length}
use Rattle.line_io.specs.Script.{most_bytes}
use Rattle.collect_script.proofs.SoFar.{SoFar}
use Rattle.collect_script.proofs.lines.answer_lines.Given as goal
use Rattle.send_workers.specs.Agreement.{HasExchanged}
use Rattle.send_workers.specs.Rounds.{view}

-- the lines before what is left were answered, and the exchanges made are those of their entries
abbrev pub invariant-lines : goal.invariant-lines
invariant-lines g l =
    SoFar g.K.Caller.seen g.K.Caller.leads l.fn.caller l.caller l.reader
    (record { left = g.So.Source.left l.fn.source; held = g.Si.Sink.held l.fn.sink; source_faults = g.So.Source.faults l.fn.source; sink_faults = g.Si.Sink.faults l.fn.sink })
    (record { left = g.So.Source.left l.source; held = g.Si.Sink.held l.sink; source_faults = g.So.Source.faults l.source; sink_faults = g.Si.Sink.faults l.sink })
    × HasExchanged (view (g.K.Caller.seen l.fn.caller) (g.N.Dialer.carried l.fn.hand.dialer))
    (view (g.K.Caller.seen l.caller) (g.N.Dialer.carried l.hand.dialer))
    × (g.N.Dialer.peer l.hand.dialer ≡ g.N.Dialer.peer l.fn.hand.dialer)

abbrev pub decreases-lines : goal.decreases-lines
decreases-lines g l = most_bytes - l.reader.taken + length l.reader.rest
