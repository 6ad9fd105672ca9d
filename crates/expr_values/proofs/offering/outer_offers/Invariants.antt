use Rattle.std.proofs.Common.{◌≡◌, take, map}
use Rattle.field_text.specs.Tables.{table_rows, text_in}
use Rattle.expr_values.specs.Seen.{surroundings_seen}
use Rattle.expr_values.specs.Evaluation.{offers}
use Rattle.expr_values.proofs.offering.outer_offers.Given as goal

abbrev pub invariant-loop-number : goal.invariant-loop-number
invariant-loop-number g l =
    let tables = g.T.Tables.tables l.scope.tables.now in
    let s = surroundings_seen tables l.scope in
    l.values.items ≡ offers s l.filter l.column (map text_in (take l.number (table_rows tables l.list)))
