-- A caller that wasn't called has added nothing.
use Rattle.std.proofs.Common.{[], refl, sym, arith}
use Rattle.std.proofs.lemmas.List.{append-nil}
use Rattle.device_rules.specs.Caller.{CallerView, Grows}

pub grows_none : (view : CallerView) → Grows view view []
grows_none view = record {
  hand = refl;
  start = refl;
  trail = sym (append-nil view.trail);
  commands = tt;
  faults = omega arith;
  length = omega arith;
  refusals = omega arith;
  closings = omega arith;
}
