use Rattle.form_expr.proofs.Nesting.{expr_within, expr_has_room, itemset_within, itemset_has_room}
use Rattle.form_expr.proofs.laws.room_is_nesting.Goals as goal

pub returns-clause-expr : goal.returns-clause-expr
returns-clause-expr c = expr_within

pub returns-clause-expr_back : goal.returns-clause-expr_back
returns-clause-expr_back c = expr_has_room

pub returns-clause-itemset : goal.returns-clause-itemset
returns-clause-itemset c = itemset_within

pub returns-clause-itemset_back : goal.returns-clause-itemset_back
returns-clause-itemset_back c = itemset_has_room
