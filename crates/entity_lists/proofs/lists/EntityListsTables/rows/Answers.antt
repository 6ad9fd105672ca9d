use Rattle.std.proofs.Common.{sym, ap, ◌∙◌}
use Rattle.std.specs.Option.{option_copied}
use Rattle.entity_lists.proofs.TableLemmas.{row_count-list, row_count-none}
use Rattle.entity_lists.proofs.lists.EntityListsTables.rows.Goals as goal

pub returns-in-Some : goal.returns-in-Some
returns-in-Some c =
    c.count.ensures
    ∙ sym (row_count-list c.args.self.now.items c.args.list.now _ (sym c.named.ensures ∙ ap option_copied c.in-Some.is))

pub returns-in-None : goal.returns-in-None
returns-in-None c =
    sym (row_count-none c.args.self.now.items c.args.list.now (sym c.named.ensures ∙ ap option_copied c.in-None.is))
