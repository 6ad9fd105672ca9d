-- The server as a function: what it has behind a request, and the status of its reply.
use Rattle.std.specs.Prelude.{◌≡◌, ℕ, List, [], ◌∷◌, ◌++◌, Option, Some, None, bytes_eq, if◌then◌else◌}
use Rattle.rosa_box.specs.declared.asked.Asked.{Asked}
use Rattle.rosa_box.specs.declared.asked.Asked.TheVariants as asked
use Rattle.rosa_box.specs.declared.reply.Status.{Status}
use Rattle.rosa_box.specs.declared.reply.Status.TheVariants as status
use Rattle.rosa_box.specs.declared.state.BoxKept.{BoxKept}
use Rattle.rosa_box.specs.declared.state.BoxState.{BoxState}
use Rattle.rosa_box.specs.Answers.{reply_text}
use Rattle.rosa_box.specs.Asked.{Asks}
use Rattle.rosa_box.specs.Kept.{kept_under}

pub record Outcome : Type 0 where
  pub state : BoxState
  pub status : Status

-- nothing changes, and this is the status
abbrev pub told : BoxState → Status → Outcome
told state status = record { state = state; status = status }

abbrev pub with_kept : BoxState → BoxKept → BoxState
with_kept state new = record state { kept = state.kept ++ new ∷ [] }

-- a document that is submitted, by what is kept under its id
abbrev pub submitted : BoxState → BoxKept → Option BoxKept → Outcome
submitted state new None = told (with_kept state new) status.Created
submitted state new (Some old) =
    told state (if bytes_eq old.bytes new.bytes then status.Created else status.Conflict)

abbrev pub served : BoxState → Asked → Outcome
served state asked.Unreadable = told state status.BadRequest
served state asked.Elsewhere = told state status.NotFound
served state asked.OtherMethod = told state status.MethodNotAllowed
served state asked.Nothing = told state status.BadRequest
served state (asked.Submission new) = submitted state new (kept_under new.instance_id state.kept)

-- this is the state behind it, and this the reply
pub record Leaves (outcome : Outcome) (state : BoxState) (reply : List ℕ) : Type 0 where
  pub state_is : state ≡ outcome.state
  pub reply_is : reply ≡ reply_text outcome.status

-- The request, as bytes, takes the server from one state to another, and this is its reply.
pub record Serves (before : BoxState) (request : List ℕ) (after : BoxState) (reply : List ℕ) : Type 0 where
  pub asked : Asked
  pub asks : Asks request asked
  pub leaves : Leaves (served before asked) after reply
