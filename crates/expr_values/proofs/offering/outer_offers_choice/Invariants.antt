use Rattle.std.proofs.Common.{◌≡◌, map, drop}
use Rattle.field_text.specs.Tables.{table_rows, text_in}
use Rattle.expr_values.specs.Seen.{surroundings_seen}
use Rattle.expr_values.specs.Evaluation.{offers, is_offered}
use Rattle.expr_values.proofs.offering.outer_offers_choice.Given as goal

abbrev pub invariant-loop-number : goal.invariant-loop-number
invariant-loop-number g l =
    let tables = g.T.Tables.tables l.scope.tables.now in
    let s = surroundings_seen tables l.scope in
    is_offered (offers s l.filter l.column (map text_in (drop l.number (table_rows tables l.list)))) l.choice
    ≡ is_offered (offers s l.filter l.column (map text_in (table_rows tables l.list))) l.choice
