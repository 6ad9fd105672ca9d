-- What was printed is the run's answers at their printed places. Other hands' entries may stand between the script's.
use Rattle.std.specs.Prelude.{◌≡◌, ◌⊎◌, ℕ, ◌+◌, ◌-◌, ◌≤◌, List, [], ◌∷◌, ◌++◌, length, take, drop, Some, slice_get}
use Rattle.std.specs.Prelude.{Ok, Err}
use Rattle.entry_form.specs.declared.command.Command.{Command}
use Rattle.entry_form.specs.declared.entry.Entry.{Entry}
use Rattle.entry_form.specs.declared.entry.Entry.TheVariants.{Done}
use Rattle.entry_form.specs.declared.hand.Hand.TheVariants.{Script}
use Rattle.device_rules.specs.declared.answer.Answer.{Answer}
use Rattle.device_rules.specs.declared.answer.Query.{Query}
use Rattle.device_rules.specs.declared.refused.Refused.{Refused}
use Rattle.device_state.specs.declared.state.State.{State}
use Rattle.device_rules.specs.Answers.{answer_to}
use Rattle.device_rules.specs.Caller.{of_hand}
use Rattle.device_rules.specs.Step.{step}
use Rattle.device_rules.specs.Trail.{replay}
use Rattle.collect_text.specs.Answers.{printed_answer, printed_word}
use Rattle.collect_text.specs.Line.{line_shape}
use Rattle.collect_text.specs.Refusals.{printed_refused}
use Rattle.collect_text.specs.declared.line.Line.{Line}
use Rattle.collect_text.specs.declared.line.Line.TheVariants.{Skipped, Bad, NotBuilt, Quit, Send, Look, Give}
use Rattle.collect_script.specs.Rounds.{IsFrontOfRound, IsRound, IsStoppedRound}

-- the script's commands among the entries
abbrev pub of_script : List Entry → List Entry
of_script = of_hand Script

-- the entries that a line of the script may add: none, that of its command, or some of a round's
abbrev pub MayAdd : Line → List Entry → Type 0
MayAdd (Give command) added = (added ≡ []) ⊎ (added ≡ Done Script command ∷ [])
MayAdd Send added = IsFrontOfRound added
MayAdd line added = added ≡ []

module _ (start : State) (entries : List Entry) where
  -- the state after this many of the entries
  abbrev pub IsStateAt : ℕ → State → Type 0
  IsStateAt position state = replay start (take position entries) ≡ Some state

  -- Position is at least the last one printed, the history has it, and no command of the script stands between.
  pub record Follows (last position : ℕ) : Type 0 where
    pub no_lower : last ≤ position
    pub within : position ≤ length entries
    pub none_between : of_script (take (position - last) (drop last entries)) ≡ []

  -- The command's entry stands at the position, and its answer is printed.
  pub record IsAccepted (last : ℕ) (command : Command) (position : ℕ) (piece : List ℕ) : Type 0 where
    pub before : ℕ
    pub position_is : position ≡ before + 1
    pub follows : Follows last before
    pub entry : slice_get entries before ≡ Some (Done Script command)
    pub old : State
    pub new : State
    pub answer : Answer
    pub state : IsStateAt before old
    pub stepped : step old (Done Script command) ≡ Ok (new, answer)
    pub printed : piece ≡ printed_answer position (line_shape (Give command)) answer

  -- The rules refuse the command on the state at the position, and the refusal is printed.
  pub record IsRefusedAt (last : ℕ) (command : Command) (position : ℕ) (piece : List ℕ) : Type 0 where
    pub follows : Follows last position
    pub old : State
    pub why : Refused
    pub state : IsStateAt position old
    pub stepped : step old (Done Script command) ≡ Err why
    pub printed : piece ≡ printed_refused position why

  -- The query's answer on the state at the position is printed.
  pub record IsTold (last : ℕ) (query : Query) (position : ℕ) (piece : List ℕ) : Type 0 where
    pub follows : Follows last position
    pub old : State
    pub answer : Answer
    pub state : IsStateAt position old
    pub answered : answer_to old Script query ≡ Ok answer
    pub printed : piece ≡ printed_answer position (line_shape (Look query)) answer

  -- The query has no answer on the state at the position, and why is printed.
  pub record IsUntold (last : ℕ) (query : Query) (position : ℕ) (piece : List ℕ) : Type 0 where
    pub follows : Follows last position
    pub old : State
    pub why : Refused
    pub state : IsStateAt position old
    pub refused : answer_to old Script query ≡ Err why
    pub printed : piece ≡ printed_refused position why

  -- the words of a line are printed
  pub record IsSaid (last : ℕ) (line : Line) (position : ℕ) (piece : List ℕ) : Type 0 where
    pub follows : Follows last position
    pub printed : piece ≡ printed_word position line

  -- what one line has printed, at which position, where the last one printed is given
  abbrev pub HasPrinted : ℕ → Line → ℕ → List ℕ → Type 0
  HasPrinted last Skipped position piece = (position ≡ last) × (piece ≡ [])
  HasPrinted last (Give command) position piece =
      IsAccepted last command position piece ⊎ IsRefusedAt last command position piece
  HasPrinted last (Look query) position piece = IsTold last query position piece ⊎ IsUntold last query position piece
  HasPrinted last Send position piece =
      IsRound start entries last position piece ⊎ IsStoppedRound start entries last position piece
  HasPrinted last Quit position piece = IsSaid last Quit position piece
  HasPrinted last Bad position piece = IsSaid last Bad position piece
  HasPrinted last NotBuilt position piece = IsSaid last NotBuilt position piece

  -- What the lines have printed one after another, from the last position printed before them to that after them.
  abbrev pub Transcript : ℕ → List Line → List ℕ → ℕ → Type 0
  Transcript last [] text position = (text ≡ []) × (position ≡ last)
  Transcript last (line ∷ lines) text position =
      (next : ℕ) × (piece : List ℕ) × (rest : List ℕ) × HasPrinted last line next piece × (text ≡ piece ++ rest)
      × Transcript next lines rest position

  -- the script has no entry behind the position
  abbrev pub AllAnswered : ℕ → Type 0
  AllAnswered position = of_script (drop position entries) ≡ []
