use Rattle.rosa_box.proofs.Asking.{not_there, not_posted, none_submitted, one_submitted}
use Rattle.rosa_box.proofs.asked.asked_by.Goals as goal

pub returns-then-not-is_text : goal.returns-then-not-is_text
returns-then-not-is_text c = not_there c.args.request.now c.if-not-is_text.ensures

pub returns-then-not-is_text-2 : goal.returns-then-not-is_text-2
returns-then-not-is_text-2 c = not_posted c.args.request.now c.if-not-is_text.ensures c.if-not-is_text-2.ensures

pub returns-in-Some : goal.returns-in-Some
returns-in-Some c =
    one_submitted c.args.request.now c.in_ok-kept.field-0 c.in-Some.kept c.if-not-is_text.ensures
    c.if-not-is_text-2.ensures c.in-Some.is c.in_ok-kept.ensures

pub returns-in-None : goal.returns-in-None
returns-in-None c =
    none_submitted c.args.request.now c.in_ok-kept.field-0 c.if-not-is_text.ensures c.if-not-is_text-2.ensures
    c.in-None.is c.in_ok-kept.ensures
