use Rattle.std.proofs.Common.{◌≡◌, ◌≢◌, ◌<◌, length, sym, ap, ◌∙◌, subst, arith, rules}
use denote.Enum.Bare.{same_true, same_false}
use Rattle.form_order.specs.contracts.walk.Mark.{the_type}
use Rattle.form_order.specs.declared.walk.Mark.TheVariants.{OnPath}
use Rattle.form_order.specs.declared.walk.Walk.{Walk}
use Rattle.form_order.specs.Rows.{row}
use Rattle.form_order.specs.Walks.{mark_at, entered, TakesTurn}
use Rattle.form_order.proofs.WalkLemmas.{meets_cycle, takes_turn-entered}
use Rattle.form_order.proofs.walk.Walk.follow.Goals as goal

pub returns-then-eq : goal.returns-then-eq
returns-then-eq c =
    let mark : c.mark_at.result ≡ mark_at c.args.self.now.marks c.args.next = c.mark_at.ensures ∙ ap (λ m. mark_at m c.args.next) c.as_slice.ensures in
    let on : c.mark_at.result ≡ OnPath = same_true the_type (search rules) _ _ (sym c.if-eq.ensures) in
    meets_cycle c.args.rows.now c.args.number c.args.next c.args.self.now c.requires.walk c.requires.needed (sym mark ∙ on)

pub enter-requires : goal.enter-requires
enter-requires c =
    let low : c.args.next < length c.args.rows.now = c.requires.within c.args.number c.args.next c.requires.needed in
    let long : length c.args.self.now.marks ≡ length c.args.rows.now = c.requires.walk.marked in
    omega arith

pub returns : goal.returns
returns c =
    let mark : c.mark_at.result ≡ mark_at c.args.self.now.marks c.args.next = c.mark_at.ensures ∙ ap (λ m. mark_at m c.args.next) c.as_slice.ensures in
    let other : c.mark_at.result ≢ OnPath = same_false the_type c.mark_at.result OnPath (sym c.eq.ensures ∙ c.if-eq.false) in
    let takes = takes_turn-entered c.args.rows.now c.args.number c.args.next c.args.self.now c.requires.within c.requires.walk c.requires.needed c.requires.unplaced (λ same. other (mark ∙ same)) in
    let path = c.in_ok-push.ensures.ok in
    subst (λ (w : Walk). TakesTurn (row c.args.rows.now) (length c.args.rows.now) c.args.self.now w)
    (sym (c.in_ok-enter.ensures ∙ ap (λ p. entered (record { marks = c.args.self.now.marks; path = p; order = c.args.self.now.order; passed = c.args.self.now.passed }) c.args.next) path)) takes
