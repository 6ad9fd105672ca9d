-- A turn of the loop.
use Rattle.std.proofs.Common.{ℕ, List, subst}
use Rattle.http_reply.specs.Heads.{ReadsHead, stays_short, stays_bad}
use Rattle.http_reply.specs.Reads.{short, bad}
use Rattle.http_reply.proofs.HeadLoops.{fits, goes_on, ends}
use Rattle.http_reply.proofs.head.final_head.Goals as goal

pub returns-in-Short : goal.returns-in-Short
returns-in-Short c = c.loop-head.invariant.leads short (stays_short (subst (λ (xs : List ℕ). ReadsHead xs short) c.behind.ensures c.in-Short.ensures))

pub returns-in-Bad : goal.returns-in-Bad
returns-in-Bad c = c.loop-head.invariant.leads bad (stays_bad (subst (λ (xs : List ℕ). ReadsHead xs bad) c.behind.ensures c.in-Bad.ensures))

pub returns-then-not-is_interim : goal.returns-then-not-is_interim
returns-then-not-is_interim c =
    let before = c.loop-head.invariant in
    ends c.args.bytes.now c.behind.result.now c.loop-head.at c.in-Whole.head before.leads c.behind.ensures c.in-Whole.ensures before.within c.if-not-is_interim.ensures

pub loop-head-preserved : goal.loop-head-preserved
loop-head-preserved c =
    let before = c.loop-head.invariant in
    record {
      within = fits c.args.bytes.now c.behind.result.now c.loop-head.at c.in-Whole.head before.leads c.behind.ensures c.in-Whole.ensures before.within;
      leads = goes_on c.args.bytes.now c.behind.result.now c.loop-head.at c.in-Whole.head before.leads c.behind.ensures c.in-Whole.ensures c.if-not-is_interim.ensures;
    }
