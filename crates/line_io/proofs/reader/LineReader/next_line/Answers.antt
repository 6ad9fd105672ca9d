use Rattle.std.proofs.Common.{refl, sym, ◌∙◌, ap, arith, ◌∷◌, [], ◌++◌, length, ◌<◌, subst}
use Rattle.std.proofs.lemmas.Result.{err_from_is_err_and}
use Rattle.line_io.specs.Reading.{GivesByte}
use Rattle.line_io.proofs.Lines.{no_line, line_more, line_fed, line_too_long, line_starved, line_ended, none_ended, none_more, stops_on, falls}
use Rattle.line_io.proofs.reader.LineReader.next_line.Goals as goal

pub bytes-init : goal.bytes-init
bytes-init g c = no_line _ _ _ c.new-line.ensures.items c.requires

pub returns-in_err-byte-clause-stopped : goal.returns-in_err-byte-clause-stopped
returns-in_err-byte-clause-stopped g c =
    let p = err_from_is_err_and c.from_residual.result c.from_residual.ensures.1 in
    rw (p.1, p.2) (stops_on _ _ _ _ _ _ c.bytes.invariant _ c.in_err-byte.ensures.stopped)

pub returns-then-byte-eq10-clause-given : goal.returns-then-byte-eq10-clause-given
returns-then-byte-eq10-clause-given g c =
    line_fed _ _ _ _ _ _ _ c.bytes.invariant _ (rw c.in-Some.is at c.in_ok-byte.ensures.given) c.if-byte-eq10.true

pub returns-then-len-eq-LONGEST_LINE-clause-stopped : goal.returns-then-len-eq-LONGEST_LINE-clause-stopped
returns-then-len-eq-LONGEST_LINE-clause-stopped g c =
    line_too_long _ _ _ _ _ _ _ c.bytes.invariant _ (rw c.in-Some.is at c.in_ok-byte.ensures.given) c.if-byte-eq10.false
    (sym c.bytes.line.ok.0 ∙ sym c.len.ensures ∙ c.if-len-eq-LONGEST_LINE.true)

pub returns-in-Err-clause-stopped : goal.returns-in-Err-clause-stopped
returns-in-Err-clause-stopped g c =
    line_starved _ _ _ _ _ _ _ c.bytes.invariant _ (rw c.in-Some.is at c.in_ok-byte.ensures.given)

pub bytes-smaller : goal.bytes-smaller
bytes-smaller g c =
    falls _ _ _ _ _ (rw c.in-Some.is at c.in_ok-byte.ensures.given) c.in_ok-byte.ensures.given.takes.kept.within

pub bytes-preserved : goal.bytes-preserved
bytes-preserved g c =
    rw c.in-Ok.ensures (line_more _ _ _ _ _ _ _ c.bytes.invariant _ (rw c.in-Some.is at c.in_ok-byte.ensures.given) c.if-byte-eq10.false
    (λ full. c.if-len-eq-LONGEST_LINE.false (c.len.ensures ∙ c.bytes.line.ok.0 ∙ full)))

pub returns-then-is_empty-clause-given : goal.returns-then-is_empty-clause-given
returns-then-is_empty-clause-given g c =
    none_ended _ _ _ _ _ _ _ c.bytes.invariant (rw c.in_default.is at c.in_ok-byte.ensures.given) (sym c.deref.ensures.value ∙ c.if-is_empty.ensures.none refl)

pub returns-clause-given : goal.returns-clause-given
returns-clause-given g c =
    line_ended _ _ _ _ _ _ _ c.bytes.invariant (rw c.in_default.is at c.in_ok-byte.ensures.given)
    (subst (λ l. 0 < length l) c.deref.ensures.value (c.if-is_empty.ensures.some refl))

pub returns-then-self-clause-given : goal.returns-then-self-clause-given
returns-then-self-clause-given g c = none_more _ _ c.requires (sym (ap (λ v. v.at_end) c.self.view_is) ∙ c.if-self.true)
