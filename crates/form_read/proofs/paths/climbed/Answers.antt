use Rattle.std.proofs.Common.{◌≡◌, ◌∙◌, sym, ap, rules, [], false}
use Rattle.form_read.specs.Lists.{is_empty}
use Rattle.form_read.specs.Paths.{climbed}
use Rattle.form_read.proofs.PathLemmas.{climbed_up, not_empty}
use Rattle.form_read.proofs.paths.climbed.Goals as goal

pub loop-after-preserved : goal.loop-after-preserved
loop-after-preserved c =
    let h : c.loop-after.at.now ≡ [] → ⊥ = search rules in
    let e : is_empty c.loop-after.at.now ≡ false = not_empty c.loop-after.at.now h in
    let s = climbed_up c.loop-after.at.now c.loop-after.rest.now c.in-Some.after.now (sym c.in-Some.ensures) in
    ap (λ at. climbed at c.in-Some.after.now) c.parent_path-at.ensures ∙ (sym (rw e at s) ∙ c.loop-after.invariant)
