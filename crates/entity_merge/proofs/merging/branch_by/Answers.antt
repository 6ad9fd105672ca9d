use Rattle.std.proofs.Common.{◌≡◌, List, ℕ, Bor, Option, IfOk, unwrap_or, ap, sym, subst, ◌∙◌}
use Rattle.std.specs.Str.{bytes_eq}
use Rattle.field_ids.specs.Draws.{drawn}
use Rattle.entity_lists.specs.declared.entities.ServerRow.{ServerRow}
use Rattle.entity_lists.proofs.ColumnLemmas.{position-map}
use Rattle.entity_merge.specs.Branches.{branch_of}
use Rattle.entity_merge.specs.Merging.{contents, place_among}
use Rattle.entity_merge.proofs.merging.branch_by.Goals as goal

pub returns : goal.returns
returns c =
    let drawing = c.args.drawing.now in
    let id = c.args.server.now.id in
    let found = c.place_in.ensures ∙ sym (position-map (λ (s : ServerRow). bytes_eq s.id id) (λ (r : Bor ServerRow). r.now) drawing) in
    let place : c.unwrap_or-place.result ≡ place_among (contents drawing) id = c.unwrap_or-place.ensures ∙ ap (λ (o : Option ℕ). unwrap_or o 0) found in
    let is = ap branch_of (c.after.ensures ∙ ap (drawn c.args.draws) place) in
    subst (λ (b : List ℕ). IfOk c.branch_of.result (λ (branch : List ℕ). branch ≡ b)) is c.branch_of.ensures
