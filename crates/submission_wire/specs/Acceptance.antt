-- Which replies say that a submission was taken.
use Rattle.std.specs.Prelude.{Bool, ◌||◌, ◌==◌}
use Rattle.http_reply.specs.Replies.{Reply}

-- The status is 201 or 202 (RFC 9110, sections 15.3.2 and 15.3.3), whatever the body and its framing. Without a final
-- head it is 0.
abbrev pub is_accepted : Reply → Bool
is_accepted reply = (reply.status == 201) || (reply.status == 202)
