-- What the parts of a take do, for the code of a session.
use Rattle.std.specs.Prelude.{◌≡◌, ℕ, ◌+◌, ◌≤◌, List, ◌++◌, take, drop, length, Option, Some, None, Result, Ok, Err}
use Rattle.rosa_box.specs.declared.state.BoxState.{BoxState}
use Rattle.rosa_box.specs.Served.{Serves}

-- the server has answered to these bytes: just now, or before
pub data HasAnswered (before : BoxState) (sent : List ℕ) (after : BoxState)
    : Option (List ℕ) → Option (List ℕ) → Type 0 where
  just_now : (reply : List ℕ) → Serves before sent after reply → HasAnswered before sent after None (Some reply)
  already : (reply : List ℕ) → after ≡ before → HasAnswered before sent after (Some reply) (Some reply)

-- so many bytes of the reply, from a place on, stand at the front of the buffer; none only at its end
pub record IsMoved (reply : List ℕ) (at : ℕ) (buffer : List ℕ) (count : ℕ) : Type 0 where
  pub bytes : take count buffer ≡ take count (drop at reply)
  pub room : count ≤ length buffer
  pub within : at + count ≤ length reply
  pub end : count ≡ 0 → at ≡ length reply

-- what a call that was to move them did, and the place behind it
abbrev pub Moves : {E : Type 0} → Option (List ℕ) → ℕ → ℕ → List ℕ → Result ℕ E → Type 0
Moves None at behind buffer result = Unit {0}
Moves (Some reply) at behind buffer (Ok count) = IsMoved reply at buffer count × (behind ≡ at + count)
Moves (Some reply) at behind buffer (Err _) = behind ≡ at

-- the bytes that were sent, behind a call
abbrev pub sent_behind : {E : Type 0} → List ℕ → List ℕ → Result ℕ E → List ℕ
sent_behind sent bytes (Ok count) = sent ++ take count bytes
sent_behind sent bytes (Err _) = sent
