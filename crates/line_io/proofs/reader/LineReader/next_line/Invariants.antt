use Rattle.std.proofs.Common.{◌+◌, ◌-◌, length}
use Rattle.line_io.specs.Reading.{HasLine}
use Rattle.line_io.specs.Script.{most_bytes}
use Rattle.line_io.proofs.reader.LineReader.next_line.Given as goal

-- the front of the line was given
abbrev pub invariant-bytes : goal.invariant-bytes
invariant-bytes g l =
    HasLine l.fn.self l.self (record { left = g.So.Source.left l.fn.source; faults = g.So.Source.faults l.fn.source })
    (record { left = g.So.Source.left l.source; faults = g.So.Source.faults l.source }) l.line.items

abbrev pub decreases-bytes : goal.decreases-bytes
decreases-bytes g l = most_bytes - l.self.taken + length l.self.rest
