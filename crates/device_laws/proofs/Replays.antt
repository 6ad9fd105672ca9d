-- What each entry keeps, a whole run of them keeps.
use Rattle.std.proofs.Common.{◌≡◌, List, [], ◌∷◌, Some, Ok, Err, refl, subst}
use Rattle.std.specs.Prelude.{option_map}
use Rattle.std.specs.Option.{option_and_then}
use Rattle.std.specs.Result.{result_ok}
use Rattle.std.proofs.lemmas.Option.{same_Some}
use Rattle.device_rules.specs.declared.answer.Answer.{Answer}
use Rattle.device_rules.specs.Step.{step}
use Rattle.device_rules.specs.Tests.{Stepped}
use Rattle.device_rules.specs.Trail.{replay}
use Rattle.device_state.specs.declared.state.State.{State}
use Rattle.entry_form.specs.declared.entry.Entry.{Entry}

module _ (P : State → Type 0)
    (keeps : (state next : State) (entry : Entry) (answer : Answer) → P state → step state entry ≡ Ok (next, answer)
    → P next) where
  after_one : (start state : State) (entry : Entry) (entries : List Entry) (r : Stepped) → step start entry ≡ r
      → P start → ((next : State) → P next → replay next entries ≡ Some state → P state)
      → option_and_then (λ next. replay next entries) (option_map (λ (x : State × Answer). x.0) (result_ok r))
      ≡ Some state
      → P state
  after_one start state entry entries (Ok x) is holds rest reached =
      rest x.0 (keeps start x.0 entry x.1 holds is) reached
  after_one start state entry entries (Err why) is holds rest reached = absurd (cc reached)

  pub replay_keeps : (entries : List Entry) (start state : State) → P start → replay start entries ≡ Some state
      → P state
  replay_keeps [] start state holds reached = subst P (same_Some start state reached) holds
  replay_keeps (entry ∷ entries) start state holds reached =
      after_one start state entry entries (step start entry) refl holds
      (λ next good. replay_keeps entries next state good) reached
