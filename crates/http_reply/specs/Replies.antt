-- Replies (RFC 9112): any bytes are a reply of one class and status.
use Rattle.std.specs.Prelude.{ℕ, Bool, true, false, nat_le, List, length, Option, Some, None, if◌then◌else◌}
use Rattle.httparse.specs.Grammar.{ResponseHead, status_code}
use Rattle.http_reply.specs.declared.framing.Framing.{Framing}
use Rattle.http_reply.specs.declared.framing.Framing.TheVariants as framing
use Rattle.http_reply.specs.declared.reply.Class.{Class}
use Rattle.http_reply.specs.declared.reply.Class.TheVariants.{Whole, Short, Bad, TooLong}
use Rattle.http_reply.specs.Bodies.{ReadsBody, most_kept}
use Rattle.http_reply.specs.Framings.{reply_framing}
use Rattle.http_reply.specs.Heads.{FindsHead, fields_of}
use Rattle.http_reply.specs.Reads.{Read, whole, short, bad}

-- the status of the final head, 0 without one; the body; and whether a framing of its own says where the reply ends
pub record Reply : Type 0 where
  pub status : ℕ
  pub body : Read (List ℕ)
  pub has_end : Bool

abbrev pub no_head : Read (List ℕ) → Reply
no_head body = record { status = 0; body = body; has_end = true }

-- the framing says where the reply ends, and not the end of the connection
abbrev pub has_own_end : Framing → Bool
has_own_end framing.ToEnd = false
has_own_end _ = true

pub data IsReply : List ℕ → Reply → Type 0 where
  short_head : {bytes : List ℕ} → FindsHead bytes short → IsReply bytes (no_head short)
  bad_head : {bytes : List ℕ} → FindsHead bytes bad → IsReply bytes (no_head bad)
  headed : {bytes : List ℕ} {body : Read (List ℕ)} (head : ResponseHead) (rest : List ℕ)
      → FindsHead bytes (whole (head, rest))
      → ReadsBody (reply_framing (status_code head) (fields_of head)) (length bytes) rest body
      → IsReply bytes (record {
        status = status_code head;
        body = body;
        has_end = has_own_end (reply_framing (status_code head) (fields_of head));
      })

-- the class of a reply of so many bytes
abbrev pub class_of : ℕ → Read (List ℕ) → Class
class_of total (whole _) = Whole
class_of total bad = Bad
class_of total short = if nat_le most_kept total then TooLong else Short

-- A body that is bad ends the reply, and a whole one where the framing says so.
abbrev pub ends_reply : Bool → Read (List ℕ) → Bool
ends_reply own (whole _) = own
ends_reply own short = false
ends_reply own bad = true

-- the class stands whatever comes behind: the reply is bad, or its length or chunks say that it is whole
abbrev pub is_framed : Reply → Bool
is_framed reply = ends_reply reply.has_end reply.body

abbrev pub whole_body : Read (List ℕ) → Option (List ℕ)
whole_body (whole body) = Some body
whole_body _ = None
