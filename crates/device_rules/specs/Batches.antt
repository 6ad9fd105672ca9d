-- What the code keeps while all are finalized, as the batch that it stands for.
use Rattle.device_rules.specs.declared.finalize_all.Bulk.{Bulk}
use Rattle.device_rules.specs.FinalizeAll.{Batch}

abbrev pub batch : Bulk → Batch
batch bulk = record { changed = bulk.changed.items; lists = bulk.lists.items; draws = bulk.draws }
