use Rattle.std.proofs.Common.{◌≡◌, ◌≤◌, ◌+◌, ◌*◌, ◌++◌, length}
use Rattle.instance_doc.specs.Elements.{behind, children, field_text, placed, values}
use Rattle.instance_doc.specs.Views.{rows_in}
use Rattle.instance_doc.proofs.elements.+elements.Given as goal

-- each call of a field's own functions comes behind its row
abbrev pub decreases-push_children : goal.decreases-push_children
decreases-push_children l = 3 * length l.rows.now.fields.now

abbrev pub decreases-push_inside : goal.decreases-push_inside
decreases-push_inside l = 3 * length l.others.now.fields.now + 1

abbrev pub decreases-push_field : goal.decreases-push_field
decreases-push_field l = 3 * length l.others.now.fields.now + 2

abbrev pub invariant-push_children-loop-row : goal.invariant-push_children-loop-row
invariant-push_children-loop-row l = record {
  left : behind l.parent (placed (field_text l.meta) (rows_in l.rest)) ≡ behind l.parent
      (placed (field_text l.meta) (rows_in l.rows));
  written : l.out.items ++ values (children l.parent (placed (field_text l.meta) (rows_in l.rest)))
      ≡ l.fn.out.items ++ values (children l.parent (placed (field_text l.meta) (rows_in l.rows)));
  shorter : length l.rest.fields.now ≤ length l.rows.fields.now;
}

abbrev pub decreases-push_children-loop-row : goal.decreases-push_children-loop-row
decreases-push_children-loop-row l = length l.rest.fields.now
