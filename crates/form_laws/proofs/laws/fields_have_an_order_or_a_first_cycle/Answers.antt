use Rattle.form_laws.specs.CycleLaws.{order_or_cycle}
use Rattle.form_laws.proofs.laws.fields_have_an_order_or_a_first_cycle.Goals as goal

pub returns : goal.returns
returns c = order_or_cycle
