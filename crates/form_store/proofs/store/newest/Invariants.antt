use Rattle.std.proofs.Common.{◌≡◌, length, max}
use Rattle.form_store.specs.Forms.{newest}
use Rattle.form_store.proofs.store.newest.Given as goal

abbrev pub invariant-loop-record : goal.invariant-loop-record
invariant-loop-record l = max l.newest (newest l.id l.rest) ≡ newest l.id l.records

abbrev pub decreases-loop-record : goal.decreases-loop-record
decreases-loop-record l = length l.rest
