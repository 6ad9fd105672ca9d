use Rattle.std.proofs.Common.{◌≡◌, ◌+◌, ◌++◌, ◌∷◌, [], List, Bool, Vec, Global, true, false, filter, is_none, map, take, ap, sym, ◌∙◌}
use Rattle.std.proofs.lemmas.List.{append-nil, map-append}
use Rattle.entity_lists.specs.declared.entities.EntityRow.{EntityRow}
use Rattle.entity_lists.specs.declared.entities.ServerRow.{ServerRow}
use Rattle.entity_lists.proofs.FirstLemmas.{if_passes}
use Rattle.entity_merge.specs.Merging.{branch_by, contents, local_row, taken_row}
use Rattle.entity_merge.proofs.MergeLemmas.{drawing_step}
use Rattle.entity_merge.proofs.merging.new_rows.Goals as goal
use Rattle.entity_merge.proofs.merging.new_rows.Goals.{then-is_unknown+in_ok-taken_row+in_ok-push, else-is_unknown}

pub loop-row-preserved : goal.loop-row-preserved
loop-row-preserved c =
    let drawing = c.args.drawing.now in
    let i = c.loop-row.row-index in
    let x = c.row-item.result in
    let new = c.loop-row.new.items in
    let unknown : ServerRow → Bool = λ s. is_none (local_row c.args.locals.now s.id) in
    let taken : ServerRow → EntityRow = λ s. taken_row s (branch_by (contents drawing) c.args.draws s) in
    let before = filter unknown (contents (take i drawing)) in
    let step = drawing_step unknown drawing i x c.is_unknown.result c.loop-row-test.true c.row-item.is c.is_unknown.ensures in
    let joined = λ (b : Bool) (is : c.is_unknown.result ≡ b).
    sym (ap (map taken) (step ∙ ap (λ (n : Bool). before ++ if_passes n x.now) is) ∙ map-append taken before (if_passes b x.now)) in
    elim c.if-is_unknown.branch [
      | then-is_unknown+in_ok-taken_row+in_ok-push w ↦
          ap (λ (v : Vec EntityRow Global). v.items) w.new-is ∙ w.in_ok-push.ensures.items ∙ ap (λ (r : EntityRow). new ++ r ∷ []) w.in_ok-taken_row.ensures
          ∙ ap (λ (l : List EntityRow). l ++ taken x.now ∷ []) c.loop-row.invariant ∙ joined true w.if-is_unknown.true
      | else-is_unknown w ↦
          ap (λ (v : Vec EntityRow Global). v.items) w.new-is ∙ c.loop-row.invariant ∙ sym (append-nil _) ∙ joined false w.if-is_unknown.false
    ]
