use Rattle.std.proofs.Common.{◌≡◌, length, map}
use Rattle.expr_values.specs.Rows.{columns_of}
use Rattle.expr_values.specs.Seen.{surroundings_seen}
use Rattle.expr_values.specs.Evaluation.{offers, is_offered}
use Rattle.expr_values.proofs.offering.inner_offers_choice.Given as goal

abbrev pub invariant-loop-first : goal.invariant-loop-first
invariant-loop-first g l =
    let s = surroundings_seen (g.T.Tables.tables l.scope.tables.now) l.scope in
    is_offered (offers s l.filter l.column (map columns_of l.rest)) l.choice
    ≡ is_offered (offers s l.filter l.column (map columns_of l.rows)) l.choice

abbrev pub decreases-loop-first : goal.decreases-loop-first
decreases-loop-first g l = length l.rest
