-- What exchanges with the server make of what it has, and what each may take.
use Rattle.std.specs.Prelude.{◌≡◌, ◌≢◌, ℕ, true, false, List, [], ◌∷◌, ◌++◌, Some}
use Rattle.field_io.specs.declared.dialer.Stage.TheVariants.{Send, Take}
use Rattle.field_io.specs.declared.exchange.Exchange.{Exchange}
use Rattle.rosa_box.specs.declared.state.BoxState.{BoxState}
use Rattle.rosa_box.specs.Served.{Serves}

-- nothing of the exchange tells of a take
pub record IsUntaken (x : Exchange) : Type 0 where
  pub nothing : x.taken ≡ []
  pub open_end : x.ended ≡ false
  pub none_failed : x.failed ≢ Some Take

-- a take was made; behind a send that failed, a take that fails too leaves no mark
pub data MayBeTaken (x : Exchange) : Type 0 where
  gave : x.taken ≢ [] → MayBeTaken x
  ended : x.ended ≡ true → MayBeTaken x
  failed : x.failed ≡ Some Take → MayBeTaken x
  unmarked : x.failed ≡ Some Send → MayBeTaken x

-- What was taken is a front of the reply, and all of it where the end was given.
pub record IsFront (x : Exchange) (reply : List ℕ) : Type 0 where
  pub rest : List ℕ
  pub parts : reply ≡ x.taken ++ rest
  pub whole : x.ended ≡ true → rest ≡ []

-- What one exchange makes of what the server has: nothing without a take, and else what it makes of the bytes sent.
pub data Exchanged (before : BoxState) (x : Exchange) (after : BoxState) : Type 0 where
  untaken : IsUntaken x → after ≡ before → Exchanged before x after
  answered : MayBeTaken x → (reply : List ℕ) → Serves before x.sent after reply → IsFront x reply
      → Exchanged before x after

-- the same of exchanges one after another
pub data Leads : BoxState → List Exchange → BoxState → Type 0 where
  at_rest : {state : BoxState} → Leads state [] state
  onward : {before middle after : BoxState} {x : Exchange} {others : List Exchange} → Exchanged before x middle
      → Leads middle others after → Leads before (x ∷ others) after
