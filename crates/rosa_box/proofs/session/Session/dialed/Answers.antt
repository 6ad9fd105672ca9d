use Rattle.std.proofs.Common.{refl}
use Rattle.rosa_box.specs.Sessions.{first_state}
use Rattle.rosa_box.proofs.Standing.{dial_stands}
use Rattle.rosa_box.proofs.session.Session.dialed.Goals as goal

pub invariant_of-self-2 : goal.invariant_of-self-2
invariant_of-self-2 c =
    let i = c.self.inside in
    record {
      begun = c.self.invariant.begun;
      within = refl;
      fresh = λ _. refl;
      stands = dial_stands (first_state i.first i.state) i.state i.is_open i.sent i.count i.reply i.log
          c.dialed.new.self c.self.invariant.stands c.args.authority.now c.args.reached c.is_ok-self-inside.result
          c.new.result c.in_ok-dialed.ensures.made c.is_ok-self-inside.ensures.value c.new.ensures;
    }
