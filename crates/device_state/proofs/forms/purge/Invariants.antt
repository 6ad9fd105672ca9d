use Rattle.std.proofs.Common.{◌≡◌, ◌-◌, length}
use Rattle.std.specs.List.{filter}
use Rattle.field_rows.proofs.FromPlace.{filtered_from}
use Rattle.device_state.specs.Purging.{is_kept}
use Rattle.device_state.proofs.forms.purge.Given as goal

abbrev pub invariant-loop-place : goal.invariant-loop-place
invariant-loop-place l = filtered_from (is_kept l.instances.items l.savepoints.items l.entry) l.place l.forms.items
    ≡ filter (is_kept l.instances.items l.savepoints.items l.entry) l.initial.forms.items

abbrev pub decreases-loop-place : goal.decreases-loop-place
decreases-loop-place l = length l.forms.items - l.place
