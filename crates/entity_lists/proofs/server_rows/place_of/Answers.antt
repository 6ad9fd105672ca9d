use Rattle.std.proofs.Common.{rules, tests, Bor, List, ℕ, sym, ◌∙◌}
use Rattle.std.specs.Str.{bytes_eq}
use Rattle.std.proofs.lemmas.Iterator.{YieldsList-from_slice}
use Rattle.std.proofs.lemmas.Iterator.Search.{position_from_yields_List}
use Rattle.entity_lists.proofs.ColumnLemmas.{position-map}
use Rattle.entity_lists.proofs.server_rows.place_of.Goals as goal

pub returns : goal.returns
returns c =
    let name = c.args.name.now in
    let found = position_from_yields_List (λ (b : Bor (List ℕ)). bytes_eq b.now name) _ _ c.position.result c.position.ensures.ran (YieldsList-from_slice c.args.header.now cc) (λ x b q k. search (rules, tests)) in
    found ∙ sym (position-map (λ (column : List ℕ). bytes_eq column name) (λ (b : Bor (List ℕ)). b.now) c.args.header.now)
