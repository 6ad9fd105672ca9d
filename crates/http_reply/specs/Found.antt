-- What the code's answers on heads and bodies say of the bytes.
use Rattle.std.specs.Prelude.{◌≡◌, ◌≢◌, ℕ, ◌<◌, ◌≤◌, List, [], ◌++◌, length, drop, slice_range, Option, Bool, true}
use Rattle.std.specs.Prelude.{false, nat_le, if◌then◌else◌}
use Rattle.std.specs.Borrow.{Bor}
use Rattle.httparse.specs.Ascii.{crlf_bytes}
use Rattle.httparse.specs.Grammar.{ResponseHead, status_code}
use Rattle.http_reply.specs.declared.chunks.Chunk.{Chunk}
use Rattle.http_reply.specs.declared.chunks.Chunk.TheVariants.{Data, Last}
use Rattle.http_reply.specs.declared.head.Head.{Head}
use Rattle.http_reply.specs.declared.head.Piece.{Piece}
use Rattle.http_reply.specs.declared.head.Piece.TheVariants.{Whole, Short, Bad}
use Rattle.http_reply.specs.declared.reply.Class.{Class}
use Rattle.http_reply.specs.declared.reply.Class.TheVariants as class
use Rattle.http_reply.specs.declared.reply.Outcome.{Outcome}
use Rattle.http_reply.specs.Chunks.{HasTrailers, ReadsTrailers, HasSize, HasChunk, ReadsChunks}
use Rattle.http_reply.specs.declared.framing.Framing.{Framing}
use Rattle.http_reply.specs.Bodies.{ReadsBody, most_kept}
use Rattle.http_reply.specs.Framings.{reply_framing}
use Rattle.http_reply.specs.Heads.{HasHead, ReadsHead, FindsHead, fields_of}
use Rattle.http_reply.specs.Reads.{Read, whole, short, bad, read_map}
use Rattle.http_reply.specs.Replies.{Reply, IsReply, whole_body}

-- the status and the framing are the head's, and it ends there
pub record IsHeadAt (bytes rest : List ℕ) (found : Head) (head : ResponseHead) : Type 0 where
  pub some : 0 < found.len
  pub within : found.len ≤ length bytes
  pub rest_is : rest ≡ drop found.len bytes
  pub status : found.status ≡ status_code head
  pub framing : found.framing ≡ reply_framing (status_code head) (fields_of head)

-- the head at the front
abbrev pub IsHead : List ℕ → Piece Head → Type 0
IsHead bytes (Whole found) =
    (head : ResponseHead) × (rest : List ℕ) × HasHead bytes head rest × IsHeadAt bytes rest found head
IsHead bytes Short = ReadsHead bytes short
IsHead bytes Bad = ReadsHead bytes bad

-- the final head
abbrev pub IsFinalHead : List ℕ → Piece Head → Type 0
IsFinalHead bytes (Whole found) =
    (head : ResponseHead) × (rest : List ℕ) × FindsHead bytes (whole (head, rest)) × IsHeadAt bytes rest found head
IsFinalHead bytes Short = FindsHead bytes short
IsFinalHead bytes Bad = FindsHead bytes bad

-- CR LF at the front
abbrev pub IsLineEnd : List ℕ → Piece (Unit {0}) → Type 0
IsLineEnd bytes (Whole _) = bytes ≡ crlf_bytes ++ drop 2 bytes
IsLineEnd bytes Short = (more : List ℕ) × (bytes ++ more ≡ crlf_bytes) × (more ≢ [])
IsLineEnd bytes Bad = (more rest : List ℕ) → bytes ++ more ≢ crlf_bytes ++ rest

-- the trailers at the front
abbrev pub AreTrailers : List ℕ → Piece ℕ → Type 0
AreTrailers bytes (Whole len) = (len ≤ length bytes) × HasTrailers bytes (drop len bytes)
AreTrailers bytes Short = ReadsTrailers bytes short
AreTrailers bytes Bad = ReadsTrailers bytes bad

-- the last chunk, with the trailers
pub record IsLast (bytes rest : List ℕ) : Type 0 where
  pub behind : List ℕ
  pub sized : HasSize bytes 0 behind
  pub trailers : HasTrailers behind rest

abbrev pub IsDataChunk : List ℕ → Chunk → Type 0
IsDataChunk bytes (Data start end len) = (0 < len) × (len ≤ length bytes) × (start ≤ end) × (end ≤ length bytes)
    × HasChunk bytes (slice_range bytes start end) (drop len bytes)
IsDataChunk bytes (Last len) = (len ≤ length bytes) × IsLast bytes (drop len bytes)

-- the chunk at the front
abbrev pub IsChunk : List ℕ → Piece Chunk → Type 0
IsChunk bytes (Whole chunk) = IsDataChunk bytes chunk
IsChunk bytes Short = ReadsChunks bytes short
IsChunk bytes Bad = ReadsChunks bytes bad

-- which of the three it is
abbrev pub piece_of : {A : Type 0} → Read A → Piece (Unit {0})
piece_of (whole _) = Whole tt
piece_of short = Short
piece_of bad = Bad

abbrev pub ReadsContent : List ℕ → Piece (Unit {0}) → Type 0
ReadsContent bytes piece = (found : Read (List ℕ × List ℕ)) × ReadsChunks bytes found × (piece ≡ piece_of found)

abbrev pub CopiesContent : List ℕ → Option (List ℕ) → Type 0
CopiesContent bytes body =
    (found : Read (List ℕ × List ℕ)) × ReadsChunks bytes found × (body ≡ whole_body (read_map (λ b. b.0) found))

-- the body behind a head
abbrev pub IsBody : Framing → ℕ → List ℕ → Piece (Bor (List ℕ)) → Type 0
IsBody framing total bytes (Whole body) = ReadsBody framing total bytes (whole body.now)
IsBody framing total bytes Short = ReadsBody framing total bytes short
IsBody framing total bytes Bad = ReadsBody framing total bytes bad

-- what stands of the reply in an answer
abbrev pub outcome_of : Reply → Outcome
outcome_of reply = record { status = reply.status; body = piece_of reply.body; has_end = reply.has_end }

abbrev pub IsOutcome : List ℕ → Outcome → Type 0
IsOutcome bytes outcome = (reply : Reply) × IsReply bytes reply × (outcome ≡ outcome_of reply)

-- the class of a reply of so many bytes
abbrev pub class_in : ℕ → Piece (Unit {0}) → Class
class_in total (Whole _) = class.Whole
class_in total Bad = class.Bad
class_in total Short = if nat_le most_kept total then class.TooLong else class.Short

abbrev pub ends_in : Bool → Piece (Unit {0}) → Bool
ends_in own (Whole _) = own
ends_in own Short = false
ends_in own Bad = true
