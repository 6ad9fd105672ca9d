use Rattle.entity_merge.proofs.StayLemmas as stay
use Rattle.entity_merge.proofs.laws.newer_rows_stay.Goals as goal

pub returns : goal.returns
returns c = stay.newer_rows_stay
