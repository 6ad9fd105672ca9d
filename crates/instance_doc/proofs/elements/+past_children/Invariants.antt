use Rattle.std.proofs.Common.{◌≡◌, ◌≤◌, ℕ, List, length}
use Rattle.instance_doc.specs.Elements.{behind, field_text, placed}
use Rattle.instance_doc.specs.Views.{rows_in}
use Rattle.instance_doc.proofs.elements.+past_children.Given as goal

abbrev pub decreases-past_children : goal.decreases-past_children
decreases-past_children l = length l.rows.now.fields.now

abbrev pub invariant-loop-row : goal.invariant-loop-row
invariant-loop-row l = record {
  left : (meta : List ℕ)
      → behind l.parent (placed (field_text meta) (rows_in l.rest)) ≡ behind l.parent
      (placed (field_text meta) (rows_in l.rows));
  shorter : length l.rest.fields.now ≤ length l.rows.fields.now;
}

abbrev pub decreases-loop-row : goal.decreases-loop-row
decreases-loop-row l = length l.rest.fields.now
