use Rattle.std.proofs.Common.{◌≡◌, ◌<◌, true, arith}
use Rattle.rosa_doc.specs.Refusals.{opens}
use Rattle.rosa_doc.specs.Machine.{depth_of, step}
use Rattle.rosa_doc.specs.Reading.{state_of}
use Rattle.rosa_doc.proofs.Reached.{reached_start, reached_more, opens_low, stepped_to}
use Rattle.rosa_doc.proofs.reader.read_pieces.Goals as goal
use Rattle.rosa_doc.proofs.reader.read_pieces.Goals.{else-depth-eq-LEVELS-via-then-depth-eq-LEVELS+else-opens, else-depth-eq-LEVELS-via-else-depth-eq-LEVELS}

pub loop-found-init : goal.loop-found-init
loop-found-init c = reached_start c.args.chars.now

pub loop-found-preserved : goal.loop-found-preserved
loop-found-preserved c =
    let p = c.in-Ok.found.0 in
    let s = state_of c.loop-found.progress in
    let found = c.in-Ok.ensures.found in
    let low : opens p ≡ true → depth_of s < 16 = elim c.else-depth-eq-LEVELS.branch [
      | else-depth-eq-LEVELS-via-then-depth-eq-LEVELS+else-opens w ↦ opens_low s p w.opens.result w.opens.ensures w.if-opens.false
      | else-depth-eq-LEVELS-via-else-depth-eq-LEVELS w ↦ λ o. let h = c.loop-found.invariant.low in let d = c.depth.ensures in let k = w.if-depth-eq-LEVELS.false in omega (arith, h, d, k)
    ] in
    let stepped = stepped_to state_of c.in_ok-next.field-0 c.in-Some.next (step s c.loop-found.after_return p) c.in-Some.is c.in_ok-next.ensures in
    let reached = reached_more c.args.chars.now c.loop-found.rest.now c.in-Ok.found.1.now s (state_of c.in-Some.next) c.loop-found.after_return p found.0 c.loop-found.invariant found.1 found.2 stepped low in
    rw (c.is_return_piece-is_return.ensures) reached
