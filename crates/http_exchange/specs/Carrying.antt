-- What the parts of an exchange do to the last one that a dialer carries. It serves proofs alone.
use Rattle.std.specs.Prelude.{◌≡◌, ◌≢◌, ℕ, Bool, true, false, List, [], ◌++◌, take, Option, Result, Ok, Err}
use Rattle.field_io.specs.declared.dialer.Stage.TheVariants.{Send, Take}
use Rattle.field_io.specs.declared.exchange.Exchange.{Exchange}
use Rattle.http_exchange.specs.Exchange.{DialerView, Gains, NeedsMore, IsEnough, sound, broken, HasFailed, IsCalm, HasEnded}

-- the last exchange, which was the first of these, is now the second
abbrev pub Becomes : DialerView → DialerView → Exchange → Exchange → Type 0
Becomes before after x y =
    (start : Option (List Exchange)) → Gains start before.carried x → Gains start after.carried y

-- all of the request was sent
pub record SendsAll (request : List ℕ) (before after : DialerView) : Type 0 where
  pub calm : IsCalm before after
  pub becomes : (authority : List ℕ)
      → Becomes before after (sound authority [] [] false) (sound authority request [] false)

-- a call failed before all of the request was sent
pub record SendsFront (request : List ℕ) (before after : DialerView) : Type 0 where
  pub sent : List ℕ
  pub unsent : List ℕ
  pub joined : request ≡ sent ++ unsent
  pub some : unsent ≢ []
  pub failed : HasFailed before after
  pub becomes : (authority : List ℕ)
      → Becomes before after (sound authority [] [] false) (broken authority sent [] Send)

abbrev pub Sends : {T E : Type 0} → List ℕ → DialerView → DialerView → Result T E → Type 0
Sends request before after (Ok _) = SendsAll request before after
Sends request before after (Err _) = SendsFront request before after

-- what a reply's bytes so far say of more
abbrev pub IsDoneAs : List ℕ → Bool → Type 0
IsDoneAs bytes true = IsEnough bytes
IsDoneAs bytes false = NeedsMore bytes

-- these bytes were taken, and no call failed or gave the end
pub record Taking (taken : List ℕ) (before after : DialerView) : Type 0 where
  pub calm : IsCalm before after
  pub becomes : (authority request : List ℕ)
      → Becomes before after (sound authority request [] false) (sound authority request taken false)

-- a reply's bytes were taken
pub data TakesAll (taken : List ℕ) (before after : DialerView) : Type 0 where
  enough : IsEnough taken → Taking taken before after → TakesAll taken before after
  ended : NeedsMore taken → HasEnded before after
      → ((authority request : List ℕ)
      → Becomes before after (sound authority request [] false) (sound authority request taken true))
      → TakesAll taken before after

-- a call failed where more bytes were needed
pub record TakesFront (before after : DialerView) : Type 0 where
  pub taken : List ℕ
  pub needed : NeedsMore taken
  pub failed : HasFailed before after
  pub becomes : (authority request : List ℕ)
      → Becomes before after (sound authority request [] false) (broken authority request taken Take)

-- of a room whose front was filled
abbrev pub Takes : {E : Type 0} → List ℕ → DialerView → DialerView → Result ℕ E → Type 0
Takes room before after (Ok len) = TakesAll (take len room) before after
Takes room before after (Err _) = TakesFront before after

-- the bytes in the front of a room
abbrev pub front_in : {E : Type 0} → List ℕ → Result ℕ E → Result (List ℕ) E
front_in room (Ok len) = Ok (take len room)
front_in room (Err stage) = Err stage
