use Rattle.form_laws.proofs.FormLaws.{never_starved}
use Rattle.form_laws.proofs.laws.memory_is_never_wanted.Goals as goal

pub returns : goal.returns
returns c = never_starved
