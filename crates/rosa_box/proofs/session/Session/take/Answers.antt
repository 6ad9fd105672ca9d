use Rattle.std.proofs.Common.{ap, sym, subst, ◌∙◌, IfSome, true≢false}
use Rattle.rosa_box.specs.Answering.{HasAnswered}
use Rattle.rosa_box.specs.Sessions.{SessionView, Stands, first_state}
use Rattle.rosa_box.proofs.Standing.{first_answered, kept_answered, within_answered, within_moved, take_stands, on_ok}
use Rattle.rosa_box.proofs.Standing.{no_log}
use Rattle.rosa_box.proofs.session.Session.take.Goals as goal

pub give-count-requires-clause-within : goal.give-count-requires-clause-within
give-count-requires-clause-within c =
    let i = c.self.inside in
    within_answered i.first i.state c.ask.new.state c.as_slice-sent.result.now i.reply c.ask.new.reply c.ask.result
    c.if-is_err.ensures.negation c.ask.ensures.asked i.count c.self.invariant.within

pub invariant_of-self-in_err-taken : goal.invariant_of-self-in_err-taken
invariant_of-self-in_err-taken c =
    let i = c.self.inside in
    let after = c.ask.new.state in
    record {
      begun = kept_answered i.first i.state after c.as_slice-sent.result.now i.reply c.ask.new.reply c.ask.result
          c.if-is_err.ensures.negation c.ask.ensures.asked c.self.invariant.begun;
      within = within_moved i.first i.state after c.as_slice-sent.result.now i.reply c.ask.new.reply c.ask.result
          c.if-is_err.ensures.negation c.ask.ensures.asked i.count c.give-count.new.at c.give-count.new.buf
          c.give-count.result c.self.invariant.within c.give-count.ensures.moves;
      fresh = λ is. absurd (true≢false is);
      stands = no_log c.taken.new.self
          (Stands (first_state i.first after) after i.is_open i.sent c.give-count.new.at c.ask.new.reply)
          c.in_err-taken.ensures.forgotten;
    }

pub returns-in_err-taken-clause-start : goal.returns-in_err-taken-clause-start
returns-in_err-taken-clause-start c =
    let i = c.self.inside in
    first_answered i.first i.state c.ask.new.state c.as_slice-sent.result.now i.reply c.ask.new.reply c.ask.result
    c.if-is_err.ensures.negation c.ask.ensures.asked c.self.invariant.begun
    ∙ ap (λ (v : SessionView). v.start) c.self.view_is

pub invariant_of-self-2 : goal.invariant_of-self-2
invariant_of-self-2 c =
    let i = c.self.inside in
    let after = c.ask.new.state in
    let first = first_answered i.first i.state after c.as_slice-sent.result.now i.reply c.ask.new.reply c.ask.result
    c.if-is_err.ensures.negation c.ask.ensures.asked c.self.invariant.begun in
    let has = subst (λ s. HasAnswered i.state s after i.reply c.ask.new.reply) c.as_slice-sent.ensures
    (on_ok c.ask.result c.if-is_err.ensures.negation c.ask.ensures.asked) in
    record {
      begun = kept_answered i.first i.state after c.as_slice-sent.result.now i.reply c.ask.new.reply c.ask.result
          c.if-is_err.ensures.negation c.ask.ensures.asked c.self.invariant.begun;
      within = within_moved i.first i.state after c.as_slice-sent.result.now i.reply c.ask.new.reply c.ask.result
          c.if-is_err.ensures.negation c.ask.ensures.asked i.count c.give-count.new.at c.give-count.new.buf
          c.give-count.result c.self.invariant.within c.give-count.ensures.moves;
      fresh = λ is. absurd (true≢false is);
      stands = subst (λ start. IfSome c.taken.new.self
          (Stands start after i.is_open i.sent c.give-count.new.at c.ask.new.reply)) (sym first)
          (take_stands (first_state i.first i.state) i.state i.is_open i.sent i.count i.reply i.log c.taken.new.self
          c.self.invariant.stands after c.ask.new.reply c.give-count.new.at c.give-count.new.buf c.give-count.result
          c.in_ok-taken.ensures.made (ap (λ (v : SessionView). v.is_open) c.self.view_is ∙ c.requires.opened)
          c.give-count.ensures.room has c.give-count.ensures.moves);
    }

pub returns-clause-start : goal.returns-clause-start
returns-clause-start c =
    let i = c.self.inside in
    first_answered i.first i.state c.ask.new.state c.as_slice-sent.result.now i.reply c.ask.new.reply c.ask.result
    c.if-is_err.ensures.negation c.ask.ensures.asked c.self.invariant.begun
    ∙ ap (λ (v : SessionView). v.start) c.self.view_is
