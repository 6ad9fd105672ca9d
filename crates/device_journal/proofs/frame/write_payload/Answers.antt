use Rattle.std.proofs.Common.{arith}
use Rattle.device_journal.specs.Frames.{IsPayload}
use Rattle.device_journal.specs.Sound.{IsBeforeOrAfter}
use Rattle.device_journal.proofs.Appended.{on_ok_map, leaves_map, within_ends, ends_framed, between, stands_framed}
use Rattle.device_journal.proofs.frame.write_payload.Goals as goal

pub write_frame-requires-clause-within : goal.write_frame-requires-clause-within
write_frame-requires-clause-within g c image is =
    let one : IsPayload c.args.payload.now = (omega arith, omega arith) in
    let in_image = within_ends (g.D.Disk.content c.args.disk.now) c.args.gate c.args.payload.now one c.requires.fits c.requires.ends image is in
    omega (arith, in_image)

pub returns-clause-any_moment : goal.returns-clause-any_moment
returns-clause-any_moment g c payloads stands =
    let one : IsPayload c.args.payload.now = (omega arith, omega arith) in
    let content = g.D.Disk.content c.args.disk.now in
    let leaves = rw c.fill.ensures at c.write_frame.ensures.any_moment in
    leaves_map g.D.Disk.clock g.D.Disk.since c.args.disk.now c.write_frame.new.disk _ (IsBeforeOrAfter payloads c.args.payload.now)
    (between content c.args.gate c.args.payload.now one c.requires.fits c.requires.ends payloads stands)
    leaves

pub returns-clause-stands : goal.returns-clause-stands
returns-clause-stands g c =
    let one : IsPayload c.args.payload.now = (omega arith, omega arith) in
    let content = g.D.Disk.content c.args.disk.now in
    let done = rw c.fill.ensures at c.write_frame.ensures.written in
    on_ok_map c.write_frame.result _ _ (λ is payloads stands. stands_framed content c.args.gate c.args.payload.now one c.requires.fits c.requires.ends payloads stands (g.D.Disk.content c.write_frame.new.disk) is) done

pub returns-clause-ends_new : goal.returns-clause-ends_new
returns-clause-ends_new g c =
    let one : IsPayload c.args.payload.now = (omega arith, omega arith) in
    let content = g.D.Disk.content c.args.disk.now in
    let done = rw c.fill.ensures at c.write_frame.ensures.written in
    on_ok_map c.write_frame.result _ _ (λ is. ends_framed content c.args.gate c.args.payload.now one c.requires.fits c.requires.ends (g.D.Disk.content c.write_frame.new.disk) is) done
