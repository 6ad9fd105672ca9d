-- Which entries of a hand's history belong to which exchanges, and which exchanges a round has made.
use Rattle.std.specs.Prelude.{◌≡◌, ℕ, Bool, true, false, ◌&&◌, List, [], ◌∷◌, ◌++◌}
use Rattle.std.specs.List.{filter, flat_map}
use Rattle.entry_form.specs.declared.command.Command.{Command}
use Rattle.entry_form.specs.declared.command.Command.TheVariants.{SendBegun, SendEnded}
use Rattle.entry_form.specs.declared.entry.Entry.{Entry}
use Rattle.entry_form.specs.declared.entry.Entry.TheVariants.{Opened, Done}
use Rattle.entry_form.specs.declared.hand.Hand.{Hand}
use Rattle.field_io.specs.declared.exchange.Exchange.{Exchange}
use Rattle.device_state.specs.declared.state.State.{State}
use Rattle.device_rules.specs.declared.answer.NextSend.{NextSend}
use Rattle.device_rules.specs.Caller.{is_of}
use Rattle.send_workers.specs.Exchanges.{GainsAll}
use Rattle.send_workers.specs.Rounds.{RoundView}
use Rattle.send_workers.specs.Sends.{Sending, Begins, IsCarried, IsSent}

abbrev pub is_send_command : Command → Bool
is_send_command (SendBegun number at) = true
is_send_command (SendEnded number outcome) = true
is_send_command command = false

abbrev pub is_send_entry : Entry → Bool
is_send_entry (Opened opening) = false
is_send_entry (Done hand command) = is_send_command command

-- the entry begins or ends a send of this hand
abbrev pub is_send_of : Hand → Entry → Bool
is_send_of hand entry = is_of hand entry && is_send_entry entry

-- behind the earlier history no entry begins or ends a send of the hand
pub record GoesBy (hand : Hand) (earlier later : List Entry) : Type 0 where
  pub others : List Entry
  pub joined : later ≡ earlier ++ others
  pub none : filter (is_send_of hand) others ≡ []

-- A send that was begun: its end is recorded; or its exchange was made, and its end isn't; or no exchange was made.
pub data Turn : Type 0 where
  ended : Sending → Turn
  unended : Sending → Turn
  unmade : NextSend → ℕ → Turn

-- the exchanges that were made for it
abbrev pub exchanges_of_turn : Turn → List Exchange
exchanges_of_turn (ended s) = s.exchange ∷ []
exchanges_of_turn (unended s) = s.exchange ∷ []
exchanges_of_turn (unmade named at) = []

abbrev pub exchanges_in : List Turn → List Exchange
exchanges_in turns = flat_map exchanges_of_turn turns

module _ (start : State) (hand : Hand) where
  -- the entries of one send, from one history to another
  abbrev pub Takes : List Entry → Turn → List Entry → Type 0
  Takes earlier (ended s) later = IsSent start hand earlier s later
  Takes earlier (unended s) later = Begins start hand earlier s.named s.at later × IsCarried s
  Takes earlier (unmade named at) later = Begins start hand earlier named at later

  -- The hand's sends between two histories are these, in order, and no other entry of it begins or ends one.
  abbrev pub AreExchanged : List Entry → List Turn → List Entry → Type 0
  AreExchanged earlier [] later = GoesBy hand earlier later
  AreExchanged earlier (turn ∷ turns) later =
      (mid : List Entry) × (between : List Entry) × GoesBy hand earlier mid × Takes mid turn between
      × AreExchanged between turns later

-- a round has made these exchanges, and no others
pub record HasExchanged (old new : RoundView) : Type 0 where
  pub turns : List Turn
  pub exchanged : AreExchanged old.caller.start old.caller.hand old.caller.trail turns new.caller.trail
  pub gained : GainsAll old.carried new.carried (exchanges_in turns)
