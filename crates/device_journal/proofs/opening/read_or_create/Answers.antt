use Rattle.std.proofs.Common.{◌≡◌, ℕ, ◌≤◌, List, length, ◌∙◌, ap, subst, arith, rules}
use Rattle.std.specs.Prelude.{Some, option_map}
use Rattle.disk_model.specs.Disk.{written}
use Rattle.device_journal.specs.Frames.{start, IsOffAt}
use Rattle.device_journal.specs.Opened.{IsOpened}
use Rattle.device_journal.proofs.Appended.{if_ok_map}
use Rattle.device_journal.proofs.Openings.{created, found}
use Rattle.device_journal.proofs.opening.read_or_create.Goals as goal

pub returns-then-len-gt9-clause-opened : goal.returns-then-len-gt9-clause-opened
returns-then-len-gt9-clause-opened g c =
    let old = g.D.Disk.content c.args.disk.now in
    let new = g.D.Disk.content c.read_image.new.disk in
    let read : (image : List ℕ) → old ≡ Some image → c.deref.result.now ≡ image = λ image is. c.deref.ensures.value ∙ c.in_ok-image.ensures.bytes image is in
    if_ok_map c.read_frames.result _ (λ r. IsOpened old new r.0 r.1) (λ r ends. found old new c.deref.result.now r.0 r.1 c.read_image.ensures.content read ends) c.read_frames.ensures.ends

pub returns-clause-opened : goal.returns-clause-opened
returns-clause-opened g c =
    let old = g.D.Disk.content c.args.disk.now in
    let mid = g.D.Disk.content c.read_image.new.disk in
    let new = g.D.Disk.content c.create.new.disk in
    let short : (image : List ℕ) → old ≡ Some image → length image ≤ 9 = λ image is. let e = ap length (c.in_ok-image.ensures.bytes image is) in omega (arith, e, c.len.ensures) in
    let wrote : new ≡ option_map (written 0 start) mid = search rules in
    let done : new ≡ option_map (written 0 start) old = wrote ∙ ap (option_map (written 0 start)) c.read_image.ensures.content in
    rw c.new.ensures (created old new short done)

pub returns-then-len-gt9-clause-off : goal.returns-then-len-gt9-clause-off
returns-then-len-gt9-clause-off g c at is image told =
    subst (λ (l : List ℕ). IsOffAt l at) (c.deref.ensures.value ∙ c.in_ok-image.ensures.bytes image told) (c.read_frames.ensures.off at is)
