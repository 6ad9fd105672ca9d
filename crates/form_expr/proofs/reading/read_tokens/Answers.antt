use Rattle.std.proofs.Common.{◌∙◌, sym}
use Rattle.std.proofs.lemmas.Bool.{eqb-true, eqb-false}
use Rattle.form_expr.specs.Reading.{state_of}
use Rattle.form_expr.proofs.Readings.{taken_is_long, read_next, read_stops_at, read_ends}
use Rattle.form_expr.proofs.reading.read_tokens.Goals as goal

pub loop-alloc-smaller : goal.loop-alloc-smaller
loop-alloc-smaller c = taken_is_long (state_of c.loop-alloc.progress) (state_of c.in-Ok.next) c.loop-alloc.rest.now c.in-Ok.after.now c.in-Ok.ensures

pub loop-alloc-preserved : goal.loop-alloc-preserved
loop-alloc-preserved c = read_next (state_of c.loop-alloc.progress) (state_of c.in-Ok.next) c.loop-alloc.rest.now c.in-Ok.after.now c.in-Ok.ensures ∙ c.loop-alloc.invariant

pub returns-in-Err-Absent : goal.returns-in-Err-Absent
returns-in-Err-Absent c =
    let none = rw c.in-Err-Absent.field-0-is at c.in-Err-Absent.ensures in
    sym c.loop-alloc.invariant ∙ read_stops_at (state_of c.loop-alloc.progress) c.loop-alloc.rest.now (eqb-false _ _ (sym c.is_empty.ensures ∙ c.loop-alloc-test.true)) none

pub returns : goal.returns
returns c = sym c.loop-alloc.invariant ∙ read_ends (state_of c.loop-alloc.progress) c.loop-alloc.rest.now (eqb-true _ _ (sym c.is_empty.ensures ∙ c.loop-alloc-test.false))
