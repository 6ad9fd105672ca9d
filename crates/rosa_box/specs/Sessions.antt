-- Where the server stands in its last exchange.
use Rattle.std.specs.Prelude.{◌≡◌, ◌≢◌, ℕ, Bool, true, false, List, [], ◌∷◌, ◌++◌, take, length, Option, Some, None}
use Rattle.field_io.specs.declared.dialer.Stage.TheVariants.{Dial}
use Rattle.field_io.specs.declared.exchange.Exchange.{Exchange}
use Rattle.rosa_box.specs.declared.state.BoxState.{BoxState}
use Rattle.rosa_box.specs.Carried.{IsUntaken, MayBeTaken, Leads}
use Rattle.rosa_box.specs.Served.{Serves}

-- what a session shows
pub record SessionView : Type 0 where
  pub start : BoxState
  pub state : BoxState
  pub carried : Option (List Exchange)
  pub is_open : Bool
  pub has_taken : Bool

-- what the server had when so many documents were kept
abbrev pub first_state : ℕ → BoxState → BoxState
first_state first state = record state { kept = take first state.kept }

-- These are the exchanges, and this is how far the last one has come: these bytes were sent, and of this reply, if the
-- server has answered, so many bytes were taken.
pub data Stands (start state : BoxState) (is_open : Bool) (sent : List ℕ) (count : ℕ)
    : Option (List ℕ) → List Exchange → Type 0 where
  before_all : state ≡ start → is_open ≡ false → Stands start state is_open sent count None []
  asking : (past : List Exchange) (x : Exchange) → Leads start past state → IsUntaken x → x.sent ≡ sent → count ≡ 0
      → (is_open ≡ true → x.failed ≢ Some Dial)
      → Stands start state is_open sent count None (past ++ x ∷ [])
  answering : (past : List Exchange) (x : Exchange) (middle : BoxState) (reply : List ℕ) → Leads start past middle
      → Serves middle x.sent state reply → MayBeTaken x → x.taken ≡ take count reply
      → (x.ended ≡ true → count ≡ length reply)
      → Stands start state is_open sent count (Some reply) (past ++ x ∷ [])
