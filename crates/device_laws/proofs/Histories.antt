-- Whatever names a form finds it, over every legal history.
use Rattle.std.proofs.Common.{◌≡◌, List, Some, Ok}
use Rattle.std.specs.List.{AllByRecursion}
use Rattle.field_text.proofs.StepLemmas.{then_ok}
use Rattle.device_rules.specs.declared.answer.Answer.{Answer}
use Rattle.device_rules.specs.Step.{entered, step}
use Rattle.device_rules.specs.Trail.{replay}
use Rattle.device_state.specs.declared.state.State.{State}
use Rattle.device_state.specs.Purging.{purged}
use Rattle.device_state.specs.State.{initial}
use Rattle.entry_form.specs.declared.entry.Entry.{Entry}
use Rattle.device_laws.specs.Soundness.{IsSound, KeepsUsedForms, StaysWhereNamed}
use Rattle.device_laws.proofs.Commands.{entered_keeps}
use Rattle.device_laws.proofs.Following.{came, carried_stays, purged_sound}
use Rattle.device_laws.proofs.Replays.{replay_keeps}

pub initial_sound : IsSound initial
initial_sound = record { instances = tt; savepoints = tt; entry = tt; read = tt; apart = tt }

pub step_sound : (state next : State) (entry : Entry) (answer : Answer) → IsSound state
    → step state entry ≡ Ok (next, answer) → IsSound next
step_sound state next entry answer sound is =
    let mid = then_ok (entered state entry) _ (next, answer) is in
    came IsSound (purged mid.0.0) mid.0.1 (next, answer) mid.2
    (purged_sound mid.0.0 (entered_keeps state entry mid.0 mid.1 sound).sound)

pub used_stay : (state next : State) (entry : Entry) (answer : Answer) → IsSound state
    → step state entry ≡ Ok (next, answer) → AllByRecursion (StaysWhereNamed next) state.forms.items
used_stay state next entry answer sound is =
    let mid = then_ok (entered state entry) _ (next, answer) is in
    came (λ s. AllByRecursion (StaysWhereNamed s) state.forms.items) (purged mid.0.0) mid.0.1 (next, answer) mid.2
    (carried_stays state.forms.items mid.0.0 (entered_keeps state entry mid.0 mid.1 sound).carries)

pub history_sound : (entries : List Entry) (state : State) → replay initial entries ≡ Some state → IsSound state
history_sound entries state reached = replay_keeps IsSound step_sound entries initial state initial_sound reached

pub history_keeps : (entries : List Entry) → KeepsUsedForms entries
history_keeps entries = record {
  sound = λ front behind state is reached. history_sound front state reached;
  stays = λ front behind entry state next answer is reached steps.
      used_stay state next entry answer (history_sound front state reached) steps;
}
