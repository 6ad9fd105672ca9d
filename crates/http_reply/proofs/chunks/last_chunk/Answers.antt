-- Trailers that aren't whole.
use Rattle.std.proofs.Common.{ℕ, List, drop, subst}
use Rattle.http_reply.specs.Chunks.{last, ReadsTrailers}
use Rattle.http_reply.specs.Reads.{short, bad}
use Rattle.http_reply.proofs.chunks.last_chunk.Goals as goal

pub returns-in-Short : goal.returns-in-Short
returns-in-Short c =
    last {found = short} (drop c.args.start c.args.bytes.now) c.requires.sized (subst (λ (xs : List ℕ). ReadsTrailers xs short) c.behind.ensures c.in-Short.ensures)

pub returns-in-Bad : goal.returns-in-Bad
returns-in-Bad c =
    last {found = bad} (drop c.args.start c.args.bytes.now) c.requires.sized (subst (λ (xs : List ℕ). ReadsTrailers xs bad) c.behind.ensures c.in-Bad.ensures)
