-- What a round of sending adds to the script's entries, and what it prints.
use Rattle.std.specs.Prelude.{◌≡◌, ℕ, ◌≤◌, not, List, [], ◌∷◌, ◌++◌, count_by, length, take, Some, Err}
use Rattle.std.specs.List.{flat_map}
use Rattle.entry_form.specs.declared.command.Command.{Command}
use Rattle.entry_form.specs.declared.command.Command.TheVariants.{TakeLock, Release, SendBegun, SendEnded}
use Rattle.entry_form.specs.declared.command.Outcome.{Outcome}
use Rattle.entry_form.specs.declared.entry.Entry.{Entry}
use Rattle.entry_form.specs.declared.entry.Entry.TheVariants.{Done}
use Rattle.entry_form.specs.declared.hand.Hand.TheVariants.{Script}
use Rattle.entry_form.specs.declared.hand.Lock.TheVariants.{Instances}
use Rattle.entry_form.specs.declared.hand.Round.TheVariants.{Send}
use Rattle.device_state.specs.declared.state.State.{State}
use Rattle.device_rules.specs.declared.answer.NextSend.{NextSend}
use Rattle.device_rules.specs.declared.answer.Query.TheVariants as queries
use Rattle.device_rules.specs.declared.refused.Refused.{Refused}
use Rattle.device_rules.specs.Answers.{answer_to}
use Rattle.device_rules.specs.Step.{step}
use Rattle.device_rules.specs.Trail.{replay}
use Rattle.collect_text.specs.Refusals.{printed_refused}
use Rattle.collect_text.specs.Rounds.{printed_round}
use Rattle.send_workers.specs.Rounds.{NoneLeft, was_taken}
use Rattle.send_workers.specs.Sends.{Sending, Waits, Comes, Begins, AreSent}

-- ---- its entries

-- what the entries of one send record
pub record Recorded : Type 0 where
  pub number : ℕ
  pub at : ℕ
  pub outcome : Outcome

abbrev pub send_entries : Recorded → List Entry
send_entries r = Done Script (SendBegun r.number r.at) ∷ Done Script (SendEnded r.number r.outcome) ∷ []

-- the script's entries of a whole round
abbrev pub round_entries : List Recorded → List Entry
round_entries sends =
    Done Script (TakeLock Send) ∷ (flat_map send_entries sends ++ Done Script (Release Instances) ∷ [])

-- these entries are the first of a round's, all of them, or none
pub record IsFrontOfRound (added : List Entry) : Type 0 where
  pub sends : List Recorded
  pub more : List Entry
  pub joined : added ++ more ≡ round_entries sends

-- the commands that a round gives
abbrev pub IsOfRound : Command → Type 0
IsOfRound (TakeLock Send) = Unit {0}
IsOfRound (SendBegun number at) = Unit {0}
IsOfRound (SendEnded number outcome) = Unit {0}
IsOfRound (Release Instances) = Unit {0}
IsOfRound command = ⊥

-- ---- what it prints

module _ (start : State) (entries : List Entry) where
  -- The lock is taken behind the last position printed, all that was due is sent, and the lock is given back by the entry
  -- at the position. How many were taken by the server is printed, and how many not.
  pub record IsRound (last position : ℕ) (piece : List ℕ) : Type 0 where
    pub no_lower : last ≤ position
    pub within : position ≤ length entries
    pub taken : List Entry
    pub takes : Comes Script (take last entries) (TakeLock Send) taken
    pub sends : List Sending
    pub sent : List Entry
    pub are_sent : AreSent start Script taken sends sent
    pub releases : Comes Script sent (Release Instances) (take position entries)
    pub refused : ℕ
    pub none_left : NoneLeft start Script sends refused sent releases.before
    pub printed : piece ≡ printed_round position (count_by was_taken sends) (count_by (λ s. not (was_taken s)) sends)

  -- a round up to a history in which no send is under way
  pub record IsAmid (earlier reached : List Entry) : Type 0 where
    pub taken : List Entry
    pub takes : Comes Script earlier (TakeLock Send) taken
    pub sends : List Sending
    pub are_sent : AreSent start Script taken sends reached

  -- The rules refuse what a round asks next behind the history that it has reached.
  pub data IsRefusedBehind (earlier reached : List Entry) (old : State) (why : Refused) : Type 0 where
    at_lock : reached ≡ earlier → step old (Done Script (TakeLock Send)) ≡ Err why
        → IsRefusedBehind earlier reached old why
    at_look : IsAmid earlier reached → answer_to old Script queries.NextSend ≡ Err why
        → IsRefusedBehind earlier reached old why
    at_begin : (number at : ℕ) → IsAmid earlier reached → step old (Done Script (SendBegun number at)) ≡ Err why
        → IsRefusedBehind earlier reached old why
    at_end : (named : NextSend) (at : ℕ) (outcome : Outcome) (before : List Entry) → IsAmid earlier before
        → Begins start Script before named at reached → step old (Done Script (SendEnded named.number outcome)) ≡ Err why
        → IsRefusedBehind earlier reached old why
    at_release : IsAmid earlier reached → step old (Done Script (Release Instances)) ≡ Err why
        → IsRefusedBehind earlier reached old why

  -- A call of the round is refused on the state at the position, and the refusal is printed.
  pub record IsStoppedRound (last position : ℕ) (piece : List ℕ) : Type 0 where
    pub no_lower : last ≤ position
    pub within : position ≤ length entries
    pub reached : List Entry
    pub waits : Waits Script reached (take position entries)
    pub old : State
    pub state : replay start (take position entries) ≡ Some old
    pub why : Refused
    pub refused : IsRefusedBehind (take last entries) reached old why
    pub printed : piece ≡ printed_refused position why
