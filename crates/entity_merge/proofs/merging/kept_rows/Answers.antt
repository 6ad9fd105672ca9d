use Rattle.std.proofs.Common.{◌≡◌, ◌+◌, ◌++◌, ◌∷◌, [], List, Option, Some, None, Vec, Global, take, ap, sym, ◌∙◌}
use Rattle.std.specs.List.{cons_option, filter_map}
use Rattle.entity_lists.specs.declared.entities.EntityRow.{EntityRow}
use Rattle.entity_merge.specs.Merging.{branch_by, contents, merged_row, server_row}
use Rattle.entity_merge.proofs.MergeLemmas.{local_step}
use Rattle.std.proofs.lemmas.List.{append-nil}
use Rattle.entity_merge.proofs.merging.kept_rows.Goals as goal
use Rattle.entity_merge.proofs.merging.kept_rows.Goals.{in-Some+in_ok-push, in_default}

pub loop-local-preserved : goal.loop-local-preserved
loop-local-preserved c =
    let locals = c.args.locals.now in
    let i = c.loop-local.local-index in
    let x = c.local-item.result in
    let kept = c.loop-local.kept.items in
    let f : EntityRow → Option EntityRow = λ r. merged_row (branch_by (contents c.args.drawing.now) c.args.draws) r (server_row c.args.rows.now r.id) in
    let step = local_step f locals i x c.loop-local-test.true c.local-item.is in
    let joined = λ (o : Option EntityRow) (is : f x ≡ o). sym (step ∙ ap (λ (n : Option EntityRow). filter_map f (take i locals) ++ cons_option n []) is) in
    elim c.match-branch-2.branch [
      | in-Some+in_ok-push w ↦
          ap (λ (v : Vec EntityRow Global). v.items) w.kept-is ∙ w.in_ok-push.ensures.items ∙ ap (λ (l : List EntityRow). l ++ w.in-Some.row ∷ []) c.loop-local.invariant
          ∙ joined (Some w.in-Some.row) (sym c.in_ok-row.ensures ∙ w.in-Some.is)
      | in_default w ↦
          ap (λ (v : Vec EntityRow Global). v.items) w.kept-is ∙ c.loop-local.invariant ∙ sym (append-nil _) ∙ joined None (sym c.in_ok-row.ensures ∙ w.in_default.is)
    ]
