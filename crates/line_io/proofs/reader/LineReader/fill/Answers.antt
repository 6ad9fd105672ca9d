use Rattle.std.proofs.Common.{rules, ◌≡◌, ◌<◌, ℕ, [], length, take, true, false, refl, sym, ◌∙◌, ap, arith}
use Rattle.std.proofs.lemmas.List.{length-take-le}
use Rattle.line_io.specs.Reading.{StopsByte}
use Rattle.line_io.specs.Reading.StopsByte.{failed, starved, long_script}
use Rattle.line_io.proofs.reader.LineReader.fill.Goals as goal

pub returns-in-Err-clause-stopped : goal.returns-in-Err-clause-stopped
returns-in-Err-clause-stopped g c =
    failed c.in-Err.ensures.moves.failed (c.if-not-is_dry.ensures.dry refl) c.in-Err.ensures.cause.failed

pub returns-then-self-eq-MOST_BYTES-clause-stopped : goal.returns-then-self-eq-MOST_BYTES-clause-stopped
returns-then-self-eq-MOST_BYTES-clause-stopped g c =
    long_script (take c.in-Ok.count c.take.new.buf)
    (let long = length-take-le c.in-Ok.count c.take.new.buf c.in-Ok.ensures.moves.within in omega (arith, long, c.in-Ok.count-test))
    c.in-Ok.ensures.moves.moved (c.if-not-is_dry.ensures.dry refl) (sym (ap (λ v. v.taken) c.self.view_is) ∙ c.if-self-eq-MOST_BYTES.true) c.in-Ok.ensures.cause.kept

pub returns-in-Err-keep-clause-stopped : goal.returns-in-Err-keep-clause-stopped
returns-in-Err-keep-clause-stopped g c =
    starved (take c.in-Ok.count c.take.new.buf) c.in-Ok.ensures.moves.moved c.in-Ok.ensures.cause.kept
