use Rattle.std.proofs.Common.{◌≡◌, List, ℕ, IfOk, ap, subst, ◌∙◌}
use Rattle.field_ids.specs.Draws.{NextDraw}
use Rattle.field_ids.specs.Ids.{id_of, text_of_id}
use Rattle.entity_merge.proofs.branches.branch_of.Goals as goal

pub returns : goal.returns
returns c =
    let id = c.draw.ensures.value ∙ ap (λ (d : NextDraw). id_of d.device d.next) c.draws.view_is in
    subst (λ (b : List ℕ). IfOk c.text.result (λ (branch : List ℕ). branch ≡ b)) (ap text_of_id id) c.text.ensures
