use Rattle.std.proofs.Common.{◌≡◌, take, map}
use Rattle.expr_values.specs.Rows.{columns_of}
use Rattle.expr_values.specs.Seen.{surroundings_seen}
use Rattle.expr_values.specs.Evaluation.{offers}
use Rattle.expr_values.proofs.offering.inner_offers.Given as goal

abbrev pub invariant-loop-cells : goal.invariant-loop-cells
invariant-loop-cells g l =
    let s = surroundings_seen (g.T.Tables.tables l.scope.tables.now) l.scope in
    l.values.items ≡ offers s l.filter l.column (map columns_of (take l.cells-index l.rows))
