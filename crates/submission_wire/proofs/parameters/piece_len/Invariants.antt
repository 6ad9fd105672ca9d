use Rattle.std.proofs.Common.{◌≡◌, ◌+◌, length}
use Rattle.submission_wire.specs.declared.parameters.Place.TheVariants.{Bare}
use Rattle.submission_wire.specs.Parameters.{piece_len}
use Rattle.submission_wire.proofs.parameters.piece_len.Given as goal

abbrev pub invariant-bytes : goal.invariant-bytes
invariant-bytes l =
    record {
      value : piece_len Bare l.value ≡ l.len + piece_len l.place l.rest;
      within : l.len + length l.rest
          ≡ length l.value;
    }

abbrev pub decreases-bytes : goal.decreases-bytes
decreases-bytes l = length l.rest
