use Rattle.entity_merge.proofs.StayLemmas as stay
use Rattle.entity_merge.proofs.laws.offline_rows_stay.Goals as goal

pub returns : goal.returns
returns c = stay.offline_rows_stay
