use Rattle.std.proofs.lemmas.Int.{ints}
use Rattle.std.proofs.Common.{rules, ◌≡◌, true, false}
use Rattle.std.proofs.lemmas.Result.{err_from_is_err_and}
use Rattle.form_read.specs.Expressions.{is_declared}
use Rattle.form_read.proofs.ResolvedLemmas.{resolved-Number, resolved-Words, resolved-Own, resolved-Path, resolved-Column, item_unknown, item_refused, item_resolved, call_refused, call_resolved, left_refused, right_refused, pair_resolved, negative_refused, negative_resolved}
use Rattle.form_read.proofs.expressions.+resolving.Goals as goal

pub resolved-returns-in-Number : goal.resolved-returns-in-Number
resolved-returns-in-Number t c = rw (c.in-Number.is, resolved-Number c.args.scope.now c.args.own.now c.in-Number.number) (search (rules, ints))

pub resolved-returns-in_ok-copy-in-Words : goal.resolved-returns-in_ok-copy-in-Words
resolved-returns-in_ok-copy-in-Words t c = rw (c.in-Words.is, c.in_ok-copy-in-Words.ensures) (resolved-Words c.args.scope.now c.args.own.now c.in-Words.text)

pub resolved-returns-in-Own : goal.resolved-returns-in-Own
resolved-returns-in-Own t c = rw c.in-Own.is (resolved-Own c.args.scope.now c.args.own.now)

pub resolved-returns-in-Path : goal.resolved-returns-in-Path
resolved-returns-in-Path t c = rw (c.in-Path.is, resolved-Path c.args.scope.now c.args.own.now c.in-Path.path) c.path_resolved.ensures

pub resolved-returns-in_ok-copy-in-Column : goal.resolved-returns-in_ok-copy-in-Column
resolved-returns-in_ok-copy-in-Column t c = rw (c.in-Column.is, c.in_ok-copy-in-Column.ensures) (resolved-Column c.args.scope.now c.args.own.now c.in-Column.column)

pub resolved-returns-then-not-is_declared : goal.resolved-returns-then-not-is_declared
resolved-returns-then-not-is_declared t c =
    let h : is_declared c.args.scope.now c.in-Item.table ≡ false = search rules in
    rw (c.in-Item.is, c.in_ok-copy-in-Item.ensures) (item_unknown c.args.scope.now c.args.own.now _ _ _ h)

pub resolved-returns-in_ok-copy-in-Item-3 : goal.resolved-returns-in_ok-copy-in-Item-3
resolved-returns-in_ok-copy-in-Item-3 t c =
    let h : is_declared c.args.scope.now c.in-Item.table ≡ true = search rules in
    let g = rw c.get.ensures at c.in_ok-filter-in-Item.ensures in
    rw (c.in-Item.is, item_resolved c.args.scope.now c.args.own.now _ _ _ _ h g) (search rules)

pub resolved-returns-in_ok-args-in-Call : goal.resolved-returns-in_ok-args-in-Call
resolved-returns-in_ok-args-in-Call t c =
    let g = rw c.as_slice.ensures at c.in_ok-args-in-Call.ensures in
    rw c.in-Call.is (call_resolved c.args.scope.now c.args.own.now c.in-Call.func _ _ g)

pub resolved-returns-in_ok-new-in-Pair-2 : goal.resolved-returns-in_ok-new-in-Pair-2
resolved-returns-in_ok-new-in-Pair-2 t c =
    let i = rw c.get-in-Pair.ensures at c.in_ok-left-in-Pair.ensures in
    let g = rw c.get-in-Pair-2.ensures at c.in_ok-right-in-Pair.ensures in
    rw (c.in-Pair.is, pair_resolved c.args.scope.now c.args.own.now c.in-Pair.op _ _ _ _ i g) (search rules)

pub resolved-returns-in_ok-new-in-Negative : goal.resolved-returns-in_ok-new-in-Negative
resolved-returns-in_ok-new-in-Negative t c =
    let g = rw c.get-in-Negative.ensures at c.in_ok-negated-in-Negative.ensures in
    rw (c.in-Negative.is, negative_resolved c.args.scope.now c.args.own.now _ _ g) (search rules)

pub resolved-returns-in_err-filter-in-Item : goal.resolved-returns-in_err-filter-in-Item
resolved-returns-in_err-filter-in-Item t c =
    let p = err_from_is_err_and c.from_residual-in_err-filter-in-Item.result c.from_residual-in_err-filter-in-Item.ensures.1 in
    let h : is_declared c.args.scope.now c.in-Item.table ≡ true = search rules in
    let g = rw c.get.ensures at c.in_err-filter-in-Item.ensures in
    rw (p.1, p.2, c.in-Item.is) (item_refused c.args.scope.now c.args.own.now _ _ _ _ h g)

pub resolved-returns-in_err-args-in-Call : goal.resolved-returns-in_err-args-in-Call
resolved-returns-in_err-args-in-Call t c =
    let p = err_from_is_err_and c.from_residual-in_err-args-in-Call.result c.from_residual-in_err-args-in-Call.ensures.1 in
    let g = rw c.as_slice.ensures at c.in_err-args-in-Call.ensures in
    rw (p.1, p.2, c.in-Call.is) (call_refused c.args.scope.now c.args.own.now c.in-Call.func _ _ g)

pub resolved-returns-in_err-left-in-Pair : goal.resolved-returns-in_err-left-in-Pair
resolved-returns-in_err-left-in-Pair t c =
    let p = err_from_is_err_and c.from_residual-in_err-left-in-Pair.result c.from_residual-in_err-left-in-Pair.ensures.1 in
    let g = rw c.get-in-Pair.ensures at c.in_err-left-in-Pair.ensures in
    rw (p.1, p.2, c.in-Pair.is) (left_refused c.args.scope.now c.args.own.now c.in-Pair.op _ _ _ g)

pub resolved-returns-in_err-right-in-Pair : goal.resolved-returns-in_err-right-in-Pair
resolved-returns-in_err-right-in-Pair t c =
    let p = err_from_is_err_and c.from_residual-in_err-right-in-Pair.result c.from_residual-in_err-right-in-Pair.ensures.1 in
    let i = rw c.get-in-Pair.ensures at c.in_ok-left-in-Pair.ensures in
    let g = rw c.get-in-Pair-2.ensures at c.in_err-right-in-Pair.ensures in
    rw (p.1, p.2, c.in-Pair.is) (right_refused c.args.scope.now c.args.own.now c.in-Pair.op _ _ _ _ i g)

pub resolved-returns-in_err-negated-in-Negative : goal.resolved-returns-in_err-negated-in-Negative
resolved-returns-in_err-negated-in-Negative t c =
    let p = err_from_is_err_and c.from_residual-in_err-negated-in-Negative.result c.from_residual-in_err-negated-in-Negative.ensures.1 in
    let g = rw c.get-in-Negative.ensures at c.in_err-negated-in-Negative.ensures in
    rw (p.1, p.2, c.in-Negative.is) (negative_refused c.args.scope.now c.args.own.now _ _ g)
