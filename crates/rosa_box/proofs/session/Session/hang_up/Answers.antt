use Rattle.rosa_box.specs.Sessions.{first_state}
use Rattle.rosa_box.proofs.Standing.{shut_stands}
use Rattle.rosa_box.proofs.session.Session.hang_up.Goals as goal

pub invariant_of-self : goal.invariant_of-self
invariant_of-self c =
    let i = c.self.inside in
    record {
      begun = c.self.invariant.begun;
      within = c.self.invariant.within;
      fresh = c.self.invariant.fresh;
      stands = shut_stands (first_state i.first i.state) i.state i.is_open i.sent i.count i.reply i.log
          c.self.invariant.stands;
    }
