use Rattle.std.proofs.Common.{◌∙◌, ap, subst, sym}
use Rattle.std.specs.Str.{IsUtf8}
use Rattle.rosa_nodes.specs.Trimming.{trimmed_front, trimmed_back}
use Rattle.rosa_nodes.proofs.TrimLemmas.{trimmed-IsUtf8}
use Rattle.rosa_nodes.proofs.trimming.trimmed.Goals as goal

pub text_from-requires : goal.text_from-requires
text_from-requires c =
    let left = c.trimmed_back.ensures ∙ ap trimmed_back (c.trimmed_front.ensures ∙ ap trimmed_front c.bytes.ensures.value) in
    subst IsUtf8 (sym left) (trimmed-IsUtf8 c.args.text.now c.bytes.ensures.utf8)
