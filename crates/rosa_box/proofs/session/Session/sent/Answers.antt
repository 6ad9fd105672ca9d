use Rattle.std.proofs.Common.{ap, ◌∙◌}
use Rattle.rosa_box.specs.Sessions.{SessionView, first_state}
use Rattle.rosa_box.proofs.Standing.{send_stands, on_ok}
use Rattle.rosa_box.proofs.session.Session.sent.Goals as goal

pub invariant_of-self-2 : goal.invariant_of-self-2
invariant_of-self-2 c =
    let i = c.self.inside in
    record {
      begun = c.self.invariant.begun;
      within = c.self.invariant.within;
      fresh = c.self.invariant.fresh;
      stands = send_stands (first_state i.first i.state) i.state i.is_open i.sent i.count i.reply i.log c.sent.new.self
          c.self.invariant.stands c.args.bytes.now c.add_sent.new.sent c.args.count c.sent.ensures.made
          (ap (λ (v : SessionView). v.is_open) c.self.view_is ∙ c.requires.opened)
          (c.self.invariant.fresh (ap (λ (v : SessionView). v.has_taken) c.self.view_is ∙ c.requires.fresh))
          (on_ok c.add_sent.result c.if-is_err.ensures.negation c.add_sent.ensures);
    }
