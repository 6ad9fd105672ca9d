use Rattle.form_outline.proofs.PrimaryLemmas.{seven_appended}
use Rattle.form_outline.proofs.primary.entity_fields.Goals as goal

pub returns : goal.returns
returns c =
    seven_appended _ _ _ _ _ _ _ _ _ _ _ _ _ _ _ c.new-fields.ensures c.in_ok-push_attribute.ensures c.in_ok-push_attribute-2.ensures c.in_ok-push_attribute-3.ensures c.in_ok-push_attribute-4.ensures c.in_ok-push_attribute-5.ensures c.in_ok-push_attribute-6.ensures c.in_ok-push_labels.ensures
