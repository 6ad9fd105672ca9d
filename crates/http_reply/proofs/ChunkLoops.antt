-- Chunks read one after another.
use Rattle.std.proofs.Common.{◌≡◌, ℕ, ◌+◌, ◌<◌, ◌≤◌, List, [], ◌++◌, length, drop, refl, sym, ap, subst, ◌∙◌, arith, append_assoc, length-drop}
use Rattle.std.specs.Prelude.{slice_range}
use Rattle.std.proofs.lemmas.List.{drop-drop}
use Rattle.http_reply.specs.declared.chunks.Chunk.{Chunk}
use Rattle.http_reply.specs.declared.chunks.Chunk.TheVariants.{Data, Last}
use Rattle.http_reply.specs.Found.{IsDataChunk}
use Rattle.http_reply.specs.Chunks.{HasChunk, ReadsChunks, chunk, last, is_whole}
use Rattle.http_reply.specs.Reads.{Read, whole, short, bad, read_map}

-- the body with this data in front
abbrev pub prepend : List ℕ → List ℕ × List ℕ → List ℕ × List ℕ
prepend content body = (content ++ body.0, body.1)

-- the body is this data and what the rest reads as
abbrev pub Prepends : List ℕ → List ℕ → List ℕ → Type 0
Prepends bytes content rest = (found : Read (List ℕ × List ℕ)) → ReadsChunks rest found → ReadsChunks bytes (read_map (prepend content) found)

read_map_nil : (found : Read (List ℕ × List ℕ)) → found ≡ read_map (prepend []) found
read_map_nil (whole body) = refl
read_map_nil short = refl
read_map_nil bad = refl

pub prepends_nil : (bytes : List ℕ) → Prepends bytes [] bytes
prepends_nil bytes found reads = subst (ReadsChunks bytes) (read_map_nil found) reads

read_map_append : (a b : List ℕ) (found : Read (List ℕ × List ℕ)) → read_map (prepend a) (read_map (prepend b) found) ≡ read_map (prepend (a ++ b)) found
read_map_append a b (whole body) = ap (λ (c : List ℕ). whole (c, body.1)) (sym (append_assoc a b body.0))
read_map_append a b short = refl
read_map_append a b bad = refl

pub prepends_chunk : (bytes content rest start behind : List ℕ) → Prepends bytes content rest → HasChunk rest start behind → Prepends bytes (content ++ start) behind
prepends_chunk bytes content rest start behind before has found reads =
    subst (ReadsChunks bytes) (read_map_append content start found) (before _ (chunk start behind has reads))

-- a turn of a loop that goes on behind a chunk
pub data_step : (bytes content rest : List ℕ) (at start end len : ℕ) (next : Chunk) → Prepends bytes content (drop at bytes) → at ≤ length bytes → rest ≡ drop at bytes
    → next ≡ Data start end len → IsDataChunk rest next
    → (0 < len) × (at + len ≤ length bytes) × Prepends bytes (content ++ slice_range rest start end) (drop (at + len) bytes)
data_step bytes content rest at start end len next before within is which has =
    let parts = subst (λ (c : Chunk). IsDataChunk rest c) which has in
    let size = ap length is in (
      parts.0,
      omega (arith, size, parts.1, length-drop at bytes),
      prepends_chunk bytes content (drop at bytes) (slice_range rest start end) (drop (at + len) bytes) before
          (subst (λ (xs : List ℕ). HasChunk xs (slice_range rest start end) (drop (at + len) bytes)) is
          (subst (λ (ys : List ℕ). HasChunk rest (slice_range rest start end) ys) (ap (drop len) is ∙ drop-drop len at bytes) parts.4)),
    )

-- the last chunk ends the body
pub last_step : (bytes content rest : List ℕ) (at len : ℕ) (next : Chunk) → Prepends bytes content (drop at bytes) → rest ≡ drop at bytes
    → next ≡ Last len → IsDataChunk rest next → ReadsChunks bytes (whole (content ++ [], drop len rest))
last_step bytes content rest at len next before is which has =
    let parts = subst (λ (c : Chunk). IsDataChunk rest c) which has in
    let one = parts.1 in
    before (whole ([], drop len rest))
    (subst (λ (xs : List ℕ). ReadsChunks xs (whole ([], drop len rest))) is
    (last {found = whole (drop len rest)} one.behind one.sized (is_whole (drop len rest) one.trailers)))
