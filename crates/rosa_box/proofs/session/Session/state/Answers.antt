use Rattle.std.proofs.Common.{IfSome, subst}
use Rattle.rosa_box.specs.Carried.{Leads}
use Rattle.rosa_box.specs.Sessions.{SessionView, first_state}
use Rattle.rosa_box.proofs.Standing.{told_lead}
use Rattle.rosa_box.proofs.session.Session.state.Goals as goal

pub returns-clause-leads : goal.returns-clause-leads
returns-clause-leads c =
    let i = c.self.inside in
    subst (λ (v : SessionView). IfSome v.carried (λ xs. Leads v.start xs v.state)) c.self.view_is
    (told_lead (first_state i.first i.state) i.state i.is_open i.sent i.count i.reply i.log i.log c.self.invariant.stands)
