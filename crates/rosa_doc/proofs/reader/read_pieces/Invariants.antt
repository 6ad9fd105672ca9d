use Rattle.std.proofs.Common.{length}
use Rattle.rosa_doc.specs.Reading.{HasReached, state_of}
use Rattle.rosa_doc.proofs.reader.read_pieces.Given as goal

abbrev pub invariant-loop-found : goal.invariant-loop-found
invariant-loop-found l = HasReached l.chars (state_of l.progress) l.after_return l.rest

abbrev pub decreases-loop-found : goal.decreases-loop-found
decreases-loop-found l = length l.rest
