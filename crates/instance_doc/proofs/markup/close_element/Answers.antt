use Rattle.std.proofs.Common.{ℕ, ◌-◌, take, ap, ◌∙◌, arith}
use Rattle.std.proofs.lemmas.Grind.{common_steps}
use Rattle.instance_doc.proofs.MarkupLemmas.{emptied}
use Rattle.instance_doc.proofs.markup.close_element.Goals as goal

pub returns : goal.returns
returns c = λ before content h k.
    let out = c.args.out.now in
    emptied c.args.name.now before content out.items c.pop.new.self.items c.extend_from_slice.new.self.items h
    (grind (arith, common_steps, k, out.ok.0, c.len.ensures, c.if-len-inside.false))
    (c.pop.ensures.rest ∙ ap (λ (n : ℕ). take (n - 1) out.items) out.ok.0) c.in_ok-extend_from_slice.ensures.items
