-- One exchange with a server: what its dialer carried of it, and how its counts stand behind it.
use Rattle.std.specs.Prelude.{◌≡◌, ◌≢◌, ℕ, ◌<◌, Bool, true, false, List, [], ◌∷◌, ◌++◌, length, Option, Some, None}
use Rattle.std.specs.Prelude.{Result, Ok, Err}
use Rattle.field_io.specs.Causes.{Rose}
use Rattle.field_io.specs.Exchanges.{Makes}
use Rattle.field_io.specs.declared.dialer.Stage.{Stage}
use Rattle.field_io.specs.declared.dialer.Stage.TheVariants.{Dial, Send, Take}
use Rattle.field_io.specs.declared.exchange.Exchange.{Exchange}
use Rattle.http_reply.specs.Bodies.{most_kept}
use Rattle.http_reply.specs.Replies.{Reply, IsReply, is_framed}
use Rattle.http_exchange.specs.declared.got.Got.{Got}
use Rattle.http_exchange.specs.declared.got.Got.TheVariants as got

-- what a dialer shows at one moment
pub record DialerView : Type 0 where
  pub carried : Option (List Exchange)
  pub faults : ℕ
  pub ends : ℕ

-- this one was added to the exchanges, where they are told
abbrev pub Gains : Option (List Exchange) → Option (List Exchange) → Exchange → Type 0
Gains old new x = Makes old new (λ xs. xs ++ x ∷ [])

-- whether the bytes are a framed reply
abbrev pub IsFramedAs : List ℕ → Bool → Type 0
IsFramedAs bytes answer = (reply : Reply) × IsReply bytes reply × (answer ≡ is_framed reply)

-- more bytes may be taken, and are needed
pub record NeedsMore (bytes : List ℕ) : Type 0 where
  pub room : length bytes < most_kept
  pub unframed : IsFramedAs bytes false

-- the reply is framed, or as many bytes stand as are kept
pub data IsEnough (bytes : List ℕ) : Type 0 where
  framed : IsFramedAs bytes true → IsEnough bytes
  full : length bytes ≡ most_kept → IsEnough bytes

-- an exchange of which no call has failed
abbrev pub sound : List ℕ → List ℕ → List ℕ → Bool → Exchange
sound authority sent taken ended =
    record { authority = authority; sent = sent; taken = taken; failed = None; ended = ended }

-- an exchange that stopped where a call failed
abbrev pub broken : List ℕ → List ℕ → List ℕ → Stage → Exchange
broken authority sent taken stage =
    record { authority = authority; sent = sent; taken = taken; failed = Some stage; ended = false }

-- a call failed, and none gave the end
pub record HasFailed (before after : DialerView) : Type 0 where
  pub faults : Rose before.faults after.faults
  pub ends : after.ends ≡ before.ends

-- no call failed, and none gave the end
pub record IsCalm (before after : DialerView) : Type 0 where
  pub faults : after.faults ≡ before.faults
  pub ends : after.ends ≡ before.ends

-- no call failed, and one gave the end
pub record HasEnded (before after : DialerView) : Type 0 where
  pub faults : after.faults ≡ before.faults
  pub ends : Rose before.ends after.ends

-- how an exchange went that gave these bytes, or failed at this stage
pub data Carries (authority request : List ℕ) (before after : DialerView) : Result (List ℕ) Stage → Type 0 where
  dial_failed : Gains before.carried after.carried (broken authority [] [] Dial) → HasFailed before after
      → Carries authority request before after (Err Dial)
  send_failed : (sent unsent : List ℕ) → request ≡ sent ++ unsent → unsent ≢ []
      → Gains before.carried after.carried (broken authority sent [] Send) → HasFailed before after
      → Carries authority request before after (Err Send)
  take_failed : (taken : List ℕ) → NeedsMore taken
      → Gains before.carried after.carried (broken authority request taken Take) → HasFailed before after
      → Carries authority request before after (Err Take)
  enough : (taken : List ℕ) → IsEnough taken
      → Gains before.carried after.carried (sound authority request taken false) → IsCalm before after
      → Carries authority request before after (Ok taken)
  ended : (taken : List ℕ) → NeedsMore taken
      → Gains before.carried after.carried (sound authority request taken true) → HasEnded before after
      → Carries authority request before after (Ok taken)

-- what the answer to an exchange says of it
abbrev pub Exchanges : List ℕ → List ℕ → DialerView → DialerView → Got → Type 0
Exchanges authority request before after got.NoMemory = after ≡ before
Exchanges authority request before after (got.Fault stage) = Carries authority request before after (Err stage)
Exchanges authority request before after (got.Reply taken) = Carries authority request before after (Ok taken)
