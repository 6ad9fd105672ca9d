use Rattle.std.proofs.Common.{◌≡◌, ◌-◌, length, map}
use Rattle.form_store.specs.Forms.{hidden_of}
use Rattle.field_rows.proofs.FromPlace.{mapped_from}
use Rattle.form_store.proofs.store.FormStore.hide_all.Given as goal

abbrev pub invariant-loop-place : goal.invariant-loop-place
invariant-loop-place l = record {
  same : mapped_from (hidden_of l.id) l.place l.self.items ≡ map (hidden_of l.id) l.initial.self.items;
  spare : l.self.spare ≡ l.initial.self.spare;
}

abbrev pub decreases-loop-place : goal.decreases-loop-place
decreases-loop-place l = length l.self.items - l.place
