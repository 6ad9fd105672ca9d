use Rattle.std.proofs.Common.{◌≡◌, ◌+◌, ◌++◌, length}
use Rattle.update_modes.specs.Places.{places, places_from}
use Rattle.update_modes.proofs.places.places.Given as goal

abbrev pub invariant-loop-element : goal.invariant-loop-element
invariant-loop-element g l = record {
  found : l.found ++ places_from (g.P.Test.test l.test) l.place l.rest ≡ places (g.P.Test.test l.test) l.elements;
  counted : l.place + length l.rest ≡ length l.elements;
}

abbrev pub decreases-loop-element : goal.decreases-loop-element
decreases-loop-element g l = length l.rest
