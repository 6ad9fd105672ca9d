use Rattle.std.proofs.Common.{rules, tests, Bor, List, ℕ, sym, ◌∙◌}
use Rattle.std.specs.Str.{is_utf8}
use Rattle.std.proofs.lemmas.Iterator.{YieldsList-from_slice}
use Rattle.std.proofs.lemmas.Iterator.Search.{all_from_yields_List}
use Rattle.std.proofs.lemmas.List.Folds.{list_all-map}
use Rattle.entity_lists.proofs.server_rows.all_text.Goals as goal

pub returns : goal.returns
returns c =
    let all = all_from_yields_List (λ (b : Bor (List ℕ)). is_utf8 b.now) _ _ c.all.result c.all.ensures.ran (YieldsList-from_slice c.args.fields.now cc) (λ x b q k. search (rules, tests)) in
    all ∙ sym (list_all-map is_utf8 (λ (b : Bor (List ℕ)). b.now) c.args.fields.now)
