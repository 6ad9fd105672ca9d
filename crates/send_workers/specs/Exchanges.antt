-- Which exchange agrees with what is recorded of it.
use Rattle.std.specs.Prelude.{◌≡◌, ◌≢◌, ℕ, true, false, List, [], ◌++◌, Option}
use Rattle.entry_form.specs.declared.command.Outcome.{Outcome}
use Rattle.entry_form.specs.declared.command.Outcome.TheVariants.{Reply, Fault}
use Rattle.field_io.specs.Exchanges.{Makes}
use Rattle.field_io.specs.declared.dialer.Stage.TheVariants.{Dial, Send, Take}
use Rattle.field_io.specs.declared.exchange.Exchange.{Exchange}
use Rattle.http_exchange.specs.Exchange.{NeedsMore, IsEnough, sound, broken}

-- The exchange sent this request to the authority, as far as it came, and what came of it is this outcome: the bytes
-- that were taken, or the call that failed.
pub data Agrees (authority request : List ℕ) : Exchange → Outcome → Type 0 where
  dial_failed : Agrees authority request (broken authority [] [] Dial) (Fault Dial)
  send_failed : (sent unsent : List ℕ) → request ≡ sent ++ unsent → unsent ≢ []
      → Agrees authority request (broken authority sent [] Send) (Fault Send)
  take_failed : (taken : List ℕ) → NeedsMore taken
      → Agrees authority request (broken authority request taken Take) (Fault Take)
  enough : (taken : List ℕ) → IsEnough taken → Agrees authority request (sound authority request taken false) (Reply taken)
  ended : (taken : List ℕ) → NeedsMore taken → Agrees authority request (sound authority request taken true) (Reply taken)

-- these were added to the exchanges, where they are told
abbrev pub GainsAll : Option (List Exchange) → Option (List Exchange) → List Exchange → Type 0
GainsAll old new xs = Makes old new (λ carried. carried ++ xs)
