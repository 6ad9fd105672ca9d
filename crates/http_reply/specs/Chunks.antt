-- Bodies in chunks (RFC 9112, section 7.1). Lines of chunks, and trailers of at most 16 fields, are those of
-- `httparse`.
use Rattle.std.specs.Prelude.{◌≡◌, ◌≢◌, ℕ, ◌<◌, ◌≤◌, ◌==◌, List, [], ◌++◌, length, count_by}
use Rattle.httparse.specs.Ascii.{crlf_bytes}
use Rattle.httparse.specs.Grammar.{ChunkLine, ReadsChunkLine, HasNoChunkLine, NeverHasChunkLine, MayBecomeChunkLine}
use Rattle.httparse.specs.Grammar.{chunk_size, Field, LineEnd, ReadsSection, HasNoSection, NeverHasSection}
use Rattle.httparse.specs.Grammar.{MayBecomeSection}
use Rattle.http_reply.specs.Reads.{Read, whole, short, bad, read_map}

abbrev pub most_trailers : ℕ
most_trailers = 16

-- at most 16 trailers stand at the front, with the empty line behind them, and then this
pub record HasTrailers (bytes : List ℕ) (rest : List ℕ) : Type 0 where
  pub fields : List Field
  pub last : LineEnd
  pub reads : ReadsSection bytes fields last rest
  pub few : length fields ≤ most_trailers

-- what stands at the front: trailers, the beginning of some, or neither, also once the line of a 17th is whole
pub data ReadsTrailers : List ℕ → Read (List ℕ) → Type 0 where
  is_whole : {bytes : List ℕ} (rest : List ℕ) → HasTrailers bytes rest → ReadsTrailers bytes (whole rest)
  is_short : {bytes : List ℕ} → HasNoSection bytes → MayBecomeSection bytes
      → count_by (λ b. b == 10) bytes ≤ most_trailers → ReadsTrailers bytes short
  never : {bytes : List ℕ} → NeverHasSection bytes → ReadsTrailers bytes bad
  too_many : {bytes : List ℕ} → ((rest : List ℕ) → ¬ (HasTrailers bytes rest))
      → most_trailers < count_by (λ b. b == 10) bytes → ReadsTrailers bytes bad

-- a chunk's line, with a size, and behind it at least this
pub record HasSize (bytes : List ℕ) (size : ℕ) (rest : List ℕ) : Type 0 where
  pub line : ChunkLine
  pub reads : ReadsChunkLine bytes line rest
  pub size_is : size ≡ chunk_size line

-- a chunk that isn't the last: its line, its data, and the line end behind them
pub record HasChunk (bytes content rest : List ℕ) : Type 0 where
  pub behind : List ℕ
  pub sized : HasSize bytes (length content) behind
  pub some : 0 < length content
  pub ends : behind ≡ content ++ (crlf_bytes ++ rest)

-- what the bytes of a body in chunks are: its data, and what is behind the body
pub data ReadsChunks : List ℕ → Read (List ℕ × List ℕ) → Type 0 where
  no_line : {bytes : List ℕ} → HasNoChunkLine bytes → MayBecomeChunkLine bytes → ReadsChunks bytes short
  bad_line : {bytes : List ℕ} → NeverHasChunkLine bytes → ReadsChunks bytes bad
  last : {bytes : List ℕ} {found : Read (List ℕ)} (rest : List ℕ) → HasSize bytes 0 rest → ReadsTrailers rest found
      → ReadsChunks bytes (read_map (λ behind. ([], behind)) found)
  no_data : {bytes : List ℕ} (size : ℕ) (rest : List ℕ) → HasSize bytes size rest → length rest < size
      → ReadsChunks bytes short
  no_end : {bytes : List ℕ} (start behind more : List ℕ) → HasSize bytes (length start) (start ++ behind)
      → 0 < length start
      → behind ++ more ≡ crlf_bytes → more ≢ [] → ReadsChunks bytes short
  bad_end : {bytes : List ℕ} (start behind : List ℕ) → HasSize bytes (length start) (start ++ behind) → 0 < length start
      → ((more rest : List ℕ) → behind ++ more ≢ crlf_bytes ++ rest) → ReadsChunks bytes bad
  chunk : {bytes : List ℕ} {found : Read (List ℕ × List ℕ)} (start rest : List ℕ) → HasChunk bytes start rest
      → ReadsChunks rest found
      → ReadsChunks bytes (read_map (λ body. (start ++ body.0, body.1)) found)
