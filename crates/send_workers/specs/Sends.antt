-- The sends of a hand in a history, in which other hands' entries may stand between.
use Rattle.std.specs.Prelude.{◌≡◌, ℕ, List, [], ◌∷◌, ◌++◌, Option, Some, option_map}
use Rattle.entry_form.specs.declared.command.Command.{Command}
use Rattle.entry_form.specs.declared.command.Command.TheVariants.{SendBegun, SendEnded}
use Rattle.entry_form.specs.declared.command.Outcome.{Outcome}
use Rattle.entry_form.specs.declared.entry.Entry.{Entry}
use Rattle.entry_form.specs.declared.entry.Entry.TheVariants.{Done}
use Rattle.entry_form.specs.declared.hand.Hand.{Hand}
use Rattle.field_io.specs.declared.exchange.Exchange.{Exchange}
use Rattle.device_state.specs.declared.state.State.{State}
use Rattle.device_rules.specs.declared.answer.NextSend.{NextSend}
use Rattle.device_rules.specs.Answers.{next_send}
use Rattle.device_rules.specs.Caller.{of_hand}
use Rattle.device_rules.specs.Due.{next_due}
use Rattle.device_rules.specs.Trail.{replay}
use Rattle.submission_wire.specs.Posts.{IsPost}
use Rattle.send_workers.specs.Exchanges.{Agrees}

-- A send: what was named to be sent, when, the exchange that was made for it, and what is recorded of that.
pub record Sending : Type 0 where
  pub named : NextSend
  pub at : ℕ
  pub exchange : Exchange
  pub outcome : Outcome

-- behind the earlier history stand entries of other hands alone
pub record Waits (hand : Hand) (earlier later : List Entry) : Type 0 where
  pub others : List Entry
  pub joined : later ≡ earlier ++ others
  pub none : of_hand hand others ≡ []

-- the hand's next command, behind a history and up to another
pub record Comes (hand : Hand) (earlier : List Entry) (command : Command) (later : List Entry) : Type 0 where
  pub before : List Entry
  pub waits : Waits hand earlier before
  pub joined : later ≡ before ++ Done hand command ∷ []

-- the exchange submits what was named to its server, and has this outcome
pub record IsCarried (s : Sending) : Type 0 where
  pub request : List ℕ
  pub posts : IsPost s.named.base s.at s.named.doc request
  pub agrees : Agrees s.named.base.authority request s.exchange s.outcome

module _ (start : State) (hand : Hand) where
  -- what the hand is to send next on a state between the two histories: this, or nothing
  pub record IsNext (earlier later : List Entry) (next : Option NextSend) : Type 0 where
    pub seen : List Entry
    pub since : Waits hand earlier seen
    pub upto : Waits hand seen later
    pub state : State
    pub reached : replay start seen ≡ Some state
    pub is_next : option_map (next_send state) (next_due state hand) ≡ next

  -- The hand begins a send: what is named in a state since its entry before.
  pub record Begins (earlier : List Entry) (named : NextSend) (at : ℕ) (later : List Entry) : Type 0 where
    pub before : List Entry
    pub is_named : IsNext earlier before (Some named)
    pub joined : later ≡ before ++ Done hand (SendBegun named.number at) ∷ []

  -- a send whole: its first entry, the exchange, and the entry of the outcome
  pub record IsSent (earlier : List Entry) (s : Sending) (later : List Entry) : Type 0 where
    pub begun : List Entry
    pub begins : Begins earlier s.named s.at begun
    pub carried : IsCarried s
    pub ends : Comes hand begun (SendEnded s.named.number s.outcome) later

  -- sends one after another, from one history to another
  abbrev pub AreSent : List Entry → List Sending → List Entry → Type 0
  AreSent earlier [] later = later ≡ earlier
  AreSent earlier (s ∷ sends) later = (between : List Entry) × IsSent earlier s between × AreSent between sends later
