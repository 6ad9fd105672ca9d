use Rattle.std.proofs.Common.{◌≡◌, length, map, take, drop}
use Rattle.field_text.specs.Tables.{table_rows, text_in}
use Rattle.expr_values.specs.Rows.{columns_of}
use Rattle.expr_values.specs.Seen.{columns_seen, surroundings_seen}
use Rattle.expr_values.specs.Evaluation.{looked_up, value_in}
use Rattle.expr_values.proofs.evaluation.+evaluation.Given as goal

abbrev pub invariant-evaluate_all-loop-expr : goal.invariant-evaluate_all-loop-expr
invariant-evaluate_all-loop-expr g l =
    let tables = g.T.Tables.tables l.scope.tables.now in
    let s = surroundings_seen tables l.scope in
    l.values.items ≡ map (λ expr. value_in s expr (columns_seen tables l.row)) (take l.expr-index l.exprs)

abbrev pub invariant-look_up_inner-loop-first : goal.invariant-look_up_inner-loop-first
invariant-look_up_inner-loop-first g l =
    let s = surroundings_seen (g.T.Tables.tables l.scope.tables.now) l.scope in
    looked_up (value_in s l.filter) l.column (map columns_of l.rest) ≡ looked_up (value_in s l.filter) l.column (map columns_of l.rows)

abbrev pub decreases-look_up_inner-loop-first : goal.decreases-look_up_inner-loop-first
decreases-look_up_inner-loop-first g l = length l.rest

abbrev pub invariant-look_up_outer-loop-number : goal.invariant-look_up_outer-loop-number
invariant-look_up_outer-loop-number g l =
    let tables = g.T.Tables.tables l.scope.tables.now in
    let s = surroundings_seen tables l.scope in
    looked_up (value_in s l.filter) l.column (map text_in (drop l.number (table_rows tables l.list))) ≡ looked_up (value_in s l.filter) l.column (map text_in (table_rows tables l.list))
