use Rattle.std.proofs.Common.{◌≡◌, ◌++◌, length}
use Rattle.std.specs.Prelude.{string_bytes}
use Rattle.instance_doc.specs.Elements.{field_text, placed, values}
use Rattle.instance_doc.specs.Views.{rows_in}
use Rattle.instance_doc.proofs.elements.push_fields.Given as goal

abbrev pub invariant-loop-row : goal.invariant-loop-row
invariant-loop-row l = l.out.items ++ values (placed (field_text (string_bytes l.meta)) (rows_in l.rest))
    ≡ l.fn.out.items ++ values (placed (field_text (string_bytes l.meta)) (rows_in l.rows))

abbrev pub decreases-loop-row : goal.decreases-loop-row
decreases-loop-row l = length l.rest.fields.now
