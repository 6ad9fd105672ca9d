use Rattle.std.proofs.Common.{◌≡◌, true, false, ap, ◌∙◌, subst, IsUtf8}
use Rattle.std.specs.String.{string_bytes}
use Rattle.std.specs.Str.{is_utf8}
use Rattle.std.proofs.lemmas.Str.{is_utf8-from_IsUtf8, IsUtf8-from_is_utf8, IsUtf8-string_bytes}
use Rattle.collect_text.proofs.Cuts.{is_false}
use Rattle.collect_text.proofs.word.text_of.Goals as goal

pub returns-in-Ok : goal.returns-in-Ok
returns-in-Ok c =
    let same : string_bytes c.in-Ok.text ≡ c.args.word.items = ap (λ v. v.items) c.in-Ok.ensures.ok in
    (is_utf8-from_IsUtf8 _ (subst IsUtf8 same (IsUtf8-string_bytes c.in-Ok.text)), c.from_string.ensures ∙ same)

pub returns : goal.returns
returns c =
    let succeeds = c.in-Err.ensures.succeeds in
    is_false (is_utf8 c.args.word.items) (λ good. let t : false ≡ true = succeeds (IsUtf8-from_is_utf8 _ good) in cc)
