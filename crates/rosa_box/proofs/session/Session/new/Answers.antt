use Rattle.std.proofs.Common.{arith, refl, sym, subst, IfSome, None, false}
use Rattle.rosa_box.specs.Sessions.{Stands, first_state}
use Rattle.rosa_box.specs.Sessions.Stands.{before_all}
use Rattle.rosa_box.proofs.Standing.{first_all}
use Rattle.rosa_box.proofs.session.Session.new.Goals as goal

pub invariant_of-result : goal.invariant_of-result
invariant_of-result c =
    let start = first_state c.len.result c.args.state in
    record {
      begun = omega (arith, c.len.ensures);
      within = refl;
      fresh = λ _. refl;
      stands = subst (λ log. IfSome log (Stands start c.args.state false c.new-2.result 0 None)) (sym c.new.ensures)
          (before_all (sym (first_all c.len.result c.args.state c.len.ensures)) refl);
    }
