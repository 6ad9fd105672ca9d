use Rattle.std.proofs.Common.{◌∙◌}
use Rattle.form_order.proofs.RowLemmas.{order_of_fields, no_cycle_of_fields, first_of_fields, within_of_fields}
use Rattle.form_order.proofs.order.order_of.Goals as goal

pub walk_all-requires : goal.walk_all-requires
walk_all-requires c = within_of_fields c.args.fields.now c.as_slice.result.now (c.as_slice.ensures ∙ c.in_ok-rows.ensures) c.requires

pub returns-in-Some-clause-order : goal.returns-in-Some-clause-order
returns-in-Some-clause-order c =
    order_of_fields c.args.fields.now c.as_slice.result.now c.in-Some.order (c.as_slice.ensures ∙ c.in_ok-rows.ensures) (rw c.in-Some.is at c.in_ok-order.ensures)

pub returns-in-Some-clause-no_cycle : goal.returns-in-Some-clause-no_cycle
returns-in-Some-clause-no_cycle c =
    no_cycle_of_fields c.args.fields.now c.as_slice.result.now c.in-Some.order (c.as_slice.ensures ∙ c.in_ok-rows.ensures) (rw c.in-Some.is at c.in_ok-order.ensures)

pub first_cycle-requires-clause-within : goal.first_cycle-requires-clause-within
first_cycle-requires-clause-within c = within_of_fields c.args.fields.now c.as_slice-in-None.result.now (c.as_slice-in-None.ensures ∙ c.in_ok-rows.ensures) c.requires

pub returns-clause-refused : goal.returns-clause-refused
returns-clause-refused c = first_of_fields c.args.fields.now c.as_slice-in-None.result.now c.in_ok-field-in-None.field (c.as_slice-in-None.ensures ∙ c.in_ok-rows.ensures) c.in_ok-field-in-None.ensures
