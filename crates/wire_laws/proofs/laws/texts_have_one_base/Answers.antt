use Rattle.wire_laws.proofs.BaseLaws.{has_base, one_base}
use Rattle.wire_laws.proofs.laws.texts_have_one_base.Goals as goal

pub returns-clause-has : goal.returns-clause-has
returns-clause-has c = has_base

pub returns-clause-one : goal.returns-clause-one
returns-clause-one c = one_base
