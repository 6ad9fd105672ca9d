use Rattle.std.proofs.Common.{sym, ◌∙◌}
use Rattle.instance_store.proofs.Places.{place-Some}
use Rattle.device_state.proofs.changes.replace.Goals as goal

pub replace-replaced-requires-clause-number : goal.replace-replaced-requires-clause-number
replace-replaced-requires-clause-number c =
    (place-Some c.args.item.number c.args.instances.now.items c.in-Some.place (sym c.place_of.ensures ∙ c.in-Some.is)).1
