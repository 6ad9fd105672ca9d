use Rattle.std.proofs.Common.{◌≡◌, ℕ, ◌+◌, ◌≤◌, List, ◌∷◌, length, take, sym, subst, arith, rules}
use Rattle.device_journal.specs.Frames.{IsOffAt, BeginsWithFrame, IsPayload, frame, open_gate, limit, header, no_header}
use Rattle.disk_model.specs.Disk.{BeginsWith}
use Rattle.device_journal.proofs.ReadTo.{ReadTo, cut_off, limit_off, read_more, slice_rest}
use Rattle.device_journal.proofs.reading.read_frames.Goals as goal

pub returns-in_default-clause-off : goal.returns-in_default-clause-off
returns-in_default-clause-off c at is =
    let same : c.loop-gate.gate ≡ at = cc in
    let rest = slice_rest c.args.image.now (c.loop-gate.gate + 1) in
    let cut = subst (λ (l : List ℕ). BeginsWithFrame (open_gate ∷ l) → ⊥) rest c.in_default.ensures in
    subst (λ (n : ℕ). IsOffAt c.args.image.now n) same (cut_off c.args.image.now c.loop-gate.gate c.loop-gate.payloads.items c.loop-gate.invariant c.loop-gate-test.true cut c.requires)

pub returns-then-ne-clause-off : goal.returns-then-ne-clause-off
returns-then-ne-clause-off c at is =
    let zero : 0 ≡ at = cc in
    let off : ¬ BeginsWith c.args.image.now header = search rules in
    no_header c.requires off (sym zero)

pub loop-gate-preserved : goal.loop-gate-preserved
loop-gate-preserved c =
    let p = c.in-Some.payload.now in
    let P = λ (l : List ℕ). IsPayload p × (take (5 + length p) (open_gate ∷ l) ≡ frame p) × (5 + length p ≤ length l) in
    let found = subst P (slice_rest c.args.image.now (c.loop-gate.gate + 1)) c.in-Some.ensures in
    let more = read_more c.args.image.now c.loop-gate.gate c.loop-gate.payloads.items c.loop-gate.invariant p c.loop-gate-test.true found.0 found.1 found.2 in
    subst (ReadTo c.args.image.now (c.loop-gate.gate + (5 + length p))) (sym c.in_ok-keep.ensures.ok) more

pub returns-then-image-gt-LIMIT-clause-off : goal.returns-then-image-gt-LIMIT-clause-off
returns-then-image-gt-LIMIT-clause-off c at is =
    let same : limit ≡ at = cc in
    subst (λ (n : ℕ). IsOffAt c.args.image.now n) same (limit_off c.args.image.now c.loop-gate.gate c.loop-gate.payloads.items c.loop-gate.invariant c.loop-gate-test.false (omega arith))
