use Rattle.std.proofs.Common.{ap, not, ◌∙◌}
use Rattle.rosa_box.proofs.Standing.{asked_now, asked_before}
use Rattle.rosa_box.proofs.session.ask.Goals as goal

pub returns-in_ok-serve-clause-asked : goal.returns-in_ok-serve-clause-asked
returns-in_ok-serve-clause-asked c =
    asked_now c.args.state.now c.serve.new.state c.args.sent.now c.args.reply.now c.in_ok-serve.field-0
    (c.is_none.ensures ∙ ap not c.if-is_none.true) c.in_ok-serve.ensures.served

pub returns-else-is_none-clause-asked : goal.returns-else-is_none-clause-asked
returns-else-is_none-clause-asked c =
    asked_before c.args.state.now c.args.sent.now c.args.reply.now (c.is_none.ensures ∙ ap not c.if-is_none.false)
