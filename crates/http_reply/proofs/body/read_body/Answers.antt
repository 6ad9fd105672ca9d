-- A body in chunks.
use Rattle.std.proofs.Common.{refl, ◌∙◌}
use Rattle.http_reply.specs.Reads.{read_map}
use Rattle.http_reply.proofs.Outcomes.{piece_of_map}
use Rattle.http_reply.proofs.body.read_body.Goals as goal

pub returns-in-Chunked : goal.returns-in-Chunked
returns-in-Chunked c =
    let read = c.read_chunks.ensures in
    rw c.in-Chunked.is (read_map (λ b. b.0) read.0, (read.0, read.1, refl), read.2 ∙ piece_of_map (λ b. b.0) read.0)
