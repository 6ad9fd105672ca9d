-- What is behind the data.
use Rattle.std.proofs.Common.{ℕ, List, length, drop, ap, subst, arith, length-drop}
use Rattle.http_reply.specs.declared.head.Piece.TheVariants.{Whole, Short, Bad}
use Rattle.http_reply.specs.Chunks.{no_data}
use Rattle.http_reply.specs.Found.{IsLineEnd}
use Rattle.http_reply.proofs.ChunkCases.{short_end, wrong_end, has_chunk}
use Rattle.http_reply.proofs.chunks.sized_chunk.Goals as goal

pub returns-then-rest-size : goal.returns-then-rest-size
returns-then-rest-size c = no_data c.args.size (drop c.args.start c.args.bytes.now) c.requires.sized (omega (arith, ap length c.behind-rest.ensures))

pub returns-in-Whole : goal.returns-in-Whole
returns-in-Whole c =
    let size = c.args.size in
    let fits = ap length c.behind-rest.ensures in
    has_chunk c.args.bytes.now c.args.start size c.requires.within c.requires.some (omega (arith, fits, length-drop c.args.start c.args.bytes.now)) c.requires.sized
    (subst (λ (xs : List ℕ). IsLineEnd (drop size xs) (Whole tt)) c.behind-rest.ensures c.in-Whole.ensures)

pub returns-in-Short : goal.returns-in-Short
returns-in-Short c =
    let size = c.args.size in
    let fits = ap length c.behind-rest.ensures in
    let left = subst (λ (xs : List ℕ). IsLineEnd (drop size xs) Short) c.behind-rest.ensures c.in-Short.ensures in
    short_end c.args.bytes.now c.args.start size c.requires.within c.requires.some (omega (arith, fits, length-drop c.args.start c.args.bytes.now)) c.requires.sized left.0 left.1 left.2

pub returns-in-Bad : goal.returns-in-Bad
returns-in-Bad c =
    let size = c.args.size in
    let fits = ap length c.behind-rest.ensures in
    wrong_end c.args.bytes.now c.args.start size c.requires.within c.requires.some (omega (arith, fits, length-drop c.args.start c.args.bytes.now)) c.requires.sized
    (subst (λ (xs : List ℕ). IsLineEnd (drop size xs) Bad) c.behind-rest.ensures c.in-Bad.ensures)
