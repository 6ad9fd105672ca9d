use Rattle.std.proofs.Common.{◌≡◌, ◌≤◌, ◌-◌, length, not}
use Rattle.field_rows.proofs.FromPlace.{filtered_from}
use Rattle.savepoints.specs.Savepoints.{removed_on, stands_on}
use Rattle.savepoints.proofs.store.Savepoints.remove_on.Given as goal

abbrev pub invariant-loop-place : goal.invariant-loop-place
invariant-loop-place l = record {
  same : filtered_from (λ s. not (stands_on l.fn.number s)) l.place l.self-inside.rows.items
      ≡ removed_on l.fn.number l.fn.self.items;
  spare : l.fn.self.spare ≤ l.self-inside.rows.spare;
}

abbrev pub decreases-loop-place : goal.decreases-loop-place
decreases-loop-place l = length l.self-inside.rows.items - l.place
