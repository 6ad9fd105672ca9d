use Rattle.std.proofs.Common.{List, ℕ, ◌++◌, ap, sym, ◌∙◌}
use Rattle.std.proofs.lemmas.Str.{encodes-chars}
use Rattle.instance_doc.proofs.markup.push_name.Goals as goal

pub returns : goal.returns
returns c =
    c.in_ok-extend_from_slice.ensures.items
    ∙ ap (λ (x : List ℕ). c.args.out.now.items ++ x)
    (c.as_bytes.ensures.value ∙ sym (encodes-chars c.args.name.now c.utf8.name))
