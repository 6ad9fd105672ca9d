use Rattle.entry_codec.proofs.Found.{begins_none}
use Rattle.entry_codec.proofs.laws.no_spelling_begins_another.Goals as goal

pub returns : goal.returns
returns c = begins_none
