use Rattle.std.proofs.Common.{rules}
use Rattle.form_outline.proofs.PrimaryLemmas.{child_appended, on_ok, parts_of-Words}
use Rattle.form_outline.proofs.primary.+parts.Goals as goal

pub push_part-returns-in_ok-push-in-Child : goal.push_part-returns-in_ok-push-in-Child
push_part-returns-in_ok-push-in-Child t c =
    rw c.in-Child.is
    (on_ok c.push_parts.result (child_appended _ _ _ _ _ _ _ _ _ _ c.as_str.ensures c.in_ok-path-in-Child.ensures c.in_ok-field_at-in-Child.ensures c.in_ok-push-in-Child.ensures.items c.as_str-in-Child.ensures c.as_slice.ensures) c.push_parts.ensures)

pub push_part-returns-in-Words : goal.push_part-returns-in-Words
push_part-returns-in-Words t c = rw (c.in-Words.is, parts_of-Words) (search rules)
