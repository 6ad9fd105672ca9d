use Rattle.std.proofs.Common.{◌≡◌, ◌+◌, ◌++◌, ◌∷◌, [], List, Bor, Bool, Vec, Global, true, false, filter, take, ap, sym, ◌∙◌}
use Rattle.std.proofs.lemmas.List.{append-nil, map-append}
use Rattle.entity_lists.specs.declared.entities.ServerRow.{ServerRow}
use Rattle.entity_lists.proofs.FirstLemmas.{if_passes}
use Rattle.entity_merge.specs.Merging.{contents, draws_branch, first_rows, local_row}
use Rattle.entity_merge.proofs.MergeLemmas.{row_step}
use Rattle.entity_merge.proofs.merging.drawing.Goals as goal
use Rattle.entity_merge.proofs.merging.drawing.Goals.{then-draws_here+in_ok-push, else-draws_here}

pub loop-place-preserved : goal.loop-place-preserved
loop-place-preserved c =
    let rows = c.args.rows.now in
    let place = c.loop-place.place in
    let x = c.index-rows-place.result in
    let drawn = c.loop-place.drawing.items in
    let draws = λ (s : ServerRow). draws_branch (local_row c.args.locals.now s.id) s in
    let step = row_step draws rows place x c.draws_here.result c.loop-place-test.true c.index-rows-place.is c.draws_here.ensures in
    let joined = λ (b : Bool) (is : c.draws_here.result ≡ b). sym (step ∙ ap (λ (n : Bool). filter draws (first_rows (take place rows)) ++ if_passes n x) is) in
    elim c.if-draws_here.branch [
      | then-draws_here+in_ok-push w ↦
          ap (λ (v : Vec (Bor ServerRow) Global). contents v.items) w.drawing-is ∙ ap contents w.in_ok-push.ensures.items ∙ map-append (λ (r : Bor ServerRow). r.now) drawn _
          ∙ ap (λ (l : List ServerRow). l ++ x ∷ []) c.loop-place.invariant ∙ joined true w.if-draws_here.true
      | else-draws_here w ↦
          ap (λ (v : Vec (Bor ServerRow) Global). contents v.items) w.drawing-is ∙ c.loop-place.invariant ∙ sym (append-nil _) ∙ joined false w.if-draws_here.false
    ]
