use Rattle.finalizer.proofs.DrawLemmas.{entity_behind, instance_first}
use Rattle.finalizer.proofs.laws.ids_are_drawn_in_turn.Goals as goal

pub returns-clause-instance : goal.returns-clause-instance
returns-clause-instance c = instance_first

pub returns-clause-entity : goal.returns-clause-entity
returns-clause-entity c = entity_behind
