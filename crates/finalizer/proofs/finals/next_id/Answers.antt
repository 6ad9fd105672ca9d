use Rattle.std.proofs.Common.{◌≡◌, List, ℕ, IfOk, ap, subst, ◌∙◌}
use Rattle.field_ids.specs.Draws.{NextDraw}
use Rattle.field_ids.specs.Ids.{id_of, text_of_id}
use Rattle.finalizer.proofs.finals.next_id.Goals as goal

pub returns : goal.returns
returns c =
    let id = c.draw.ensures.value ∙ ap (λ (d : NextDraw). id_of d.device d.next) c.draws.view_is in
    subst (λ (t : List ℕ). IfOk c.text.result (λ (text : List ℕ). text ≡ t)) (ap text_of_id id) c.text.ensures
