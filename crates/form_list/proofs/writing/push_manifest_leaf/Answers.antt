use Rattle.form_list.proofs.AppendLemmas.{last_grown}
use Rattle.form_list.proofs.writing.push_manifest_leaf.Goals as goal

pub returns-in_ok-push_leaf-in-Some : goal.returns-in_ok-push_leaf-in-Some
returns-in_ok-push_leaf-in-Some c = rw c.in-Some.is (last_grown _ _ _ c.in_ok-push_leaf-in-Some.ensures)
