-- The digits of a digest are as many as there is room for.
use Rattle.std.proofs.Common.{◌≡◌, ◌*◌, length, arith, ap, ◌∙◌, true, false}
use Rattle.md5.proofs.StandardFacts.{length-md5}
use Rattle.field_ids.proofs.hashes.have_digest.Goals as goal

pub unreachable-requires : goal.unreachable-requires
unreachable-requires c =
    let digest : length c.digest.result ≡ 16 = ap length c.digest.ensures ∙ length-md5 c.args.bytes.now in
    let room : length c.as_mut_slice.result.now ≡ 32 = ap length c.as_mut_slice.ensures.value in
    let never : false ≡ true = c.in-Err.ensures.fits.1 (omega arith) in
    absurd cc
