use Rattle.std.proofs.Common.{refl, sym, ◌∙◌, ap}
use Rattle.collect_text.specs.Line.{meaning}
use Rattle.collect_script.specs.Script.{is_quit}
use Rattle.collect_script.proofs.Ending.{ends_whole, ends_unread, ends_starved, ends_unanswered, ends_quit, so_far_more}
use Rattle.collect_script.proofs.Exchanging.{exchanged_line, exchanged_none}
use Rattle.collect_script.proofs.SoFar.{so_far_none, read_falls}
use Rattle.collect_script.proofs.lines.answer_lines.Goals as goal

pub lines-init : goal.lines-init
lines-init g c = (
  so_far_none _ _ _ _ _ c.new-reader.ensures c.requires.hand c.requires.none_left (g.met.K.Caller.stays c.args.caller.now),
  exchanged_none _ _,
  refl,
)

pub returns-in-Ok-None : goal.returns-in-Ok-None
returns-in-Ok-None g c = record {
  answers = ends_whole _ _ _ _ _ c.next_line.new.self _ _ c.lines.invariant.0 _ _ (rw c.in-Ok-None.field-0-is at c.in-Ok-None.ensures.given);
  exchanged = c.lines.invariant.1;
  peer = c.lines.invariant.2;
}

pub returns-in-Err : goal.returns-in-Err
returns-in-Err g c = record {
  answers = rw c.stop_of.ensures (ends_unread _ _ _ _ _ c.next_line.new.self _ _ c.lines.invariant.0 _ _ c.in-Err.stop c.in-Err.ensures.stopped
      (λ e. absurd (cc (c.next_line.ensures.ended e, c.in-Err.is))));
  exchanged = c.lines.invariant.1;
  peer = c.lines.invariant.2;
}

pub returns-in-Err-read_line : goal.returns-in-Err-read_line
returns-in-Err-read_line g c = record {
  answers = ends_starved _ _ _ _ _ c.next_line.new.self _ _ c.lines.invariant.0 _ _ c.in-Ok-Some.raw.items (rw c.in-Ok-Some.field-0-is at c.in-Ok-Some.ensures.given)
      (λ e. absurd (cc (c.next_line.ensures.ended e, c.in-Ok-Some.is, c.in-Ok-Some.field-0-is)));
  exchanged = c.lines.invariant.1;
  peer = c.lines.invariant.2;
}

pub returns-in-Err-answer_line : goal.returns-in-Err-answer_line
returns-in-Err-answer_line g c = record {
  answers = ends_unanswered _ _ _ _ _ c.next_line.new.self _ _ c.lines.invariant.0 _ _ c.in-Ok-Some.raw.items (rw c.in-Ok-Some.field-0-is at c.in-Ok-Some.ensures.given)
      (λ e. absurd (cc (c.next_line.ensures.ended e, c.in-Ok-Some.is, c.in-Ok-Some.field-0-is)))
      c.answer_line.new.caller _ _ (g.met.K.Caller.leads_on _ _ _ c.lines.invariant.0.on c.answer_line.ensures.leads) c.in-Err-answer_line.stop
      (rw (sym (ap meaning c.deref.ensures.value), sym c.in-Ok.ensures) c.in-Err-answer_line.ensures.stopped);
  exchanged = exchanged_line _ _ _ _ c.lines.invariant.0.answers.grows c.lines.invariant.1 c.in-Ok-Some.raw.items _ (c.in-Ok.ensures ∙ ap meaning c.deref.ensures.value) c.answer_line.ensures.exchanged;
  peer = c.answer_line.ensures.peer ∙ c.lines.invariant.2;
}

pub returns-then-is_last : goal.returns-then-is_last
returns-then-is_last g c = record {
  answers = ends_quit _ _ _ _ _ c.next_line.new.self _ _ c.lines.invariant.0 _ _ c.in-Ok-Some.raw.items (rw c.in-Ok-Some.field-0-is at c.in-Ok-Some.ensures.given)
      (λ e. absurd (cc (c.next_line.ensures.ended e, c.in-Ok-Some.is, c.in-Ok-Some.field-0-is)))
      c.answer_line.new.caller _ _ (g.met.K.Caller.leads_on _ _ _ c.lines.invariant.0.on c.answer_line.ensures.leads)
      (rw (sym (ap meaning c.deref.ensures.value), sym c.in-Ok.ensures) c.in-Ok-answer_line.ensures.answered)
      (sym (ap is_quit (c.in-Ok.ensures ∙ ap meaning c.deref.ensures.value)) ∙ sym c.is_quit-is_last.ensures ∙ c.if-is_last.true);
  exchanged = exchanged_line _ _ _ _ c.lines.invariant.0.answers.grows c.lines.invariant.1 c.in-Ok-Some.raw.items _ (c.in-Ok.ensures ∙ ap meaning c.deref.ensures.value) c.answer_line.ensures.exchanged;
  peer = c.answer_line.ensures.peer ∙ c.lines.invariant.2;
}

pub lines-smaller : goal.lines-smaller
lines-smaller g c = read_falls _ _ _ _ _ (rw c.in-Ok-Some.field-0-is at c.in-Ok-Some.ensures.given)

pub lines-preserved : goal.lines-preserved
lines-preserved g c = (
  so_far_more _ _ _ _ _ c.next_line.new.self _ _ c.lines.invariant.0 _ _ c.in-Ok-Some.raw.items (rw c.in-Ok-Some.field-0-is at c.in-Ok-Some.ensures.given)
      (λ e. absurd (cc (c.next_line.ensures.ended e, c.in-Ok-Some.is, c.in-Ok-Some.field-0-is)))
      c.answer_line.new.caller _ _ (g.met.K.Caller.leads_on _ _ _ c.lines.invariant.0.on c.answer_line.ensures.leads)
      (rw (sym (ap meaning c.deref.ensures.value), sym c.in-Ok.ensures) c.in-Ok-answer_line.ensures.answered)
      (sym (ap is_quit (c.in-Ok.ensures ∙ ap meaning c.deref.ensures.value)) ∙ sym c.is_quit-is_last.ensures ∙ c.if-is_last.false),
  exchanged_line _ _ _ _ c.lines.invariant.0.answers.grows c.lines.invariant.1 c.in-Ok-Some.raw.items _ (c.in-Ok.ensures ∙ ap meaning c.deref.ensures.value) c.answer_line.ensures.exchanged,
  c.answer_line.ensures.peer ∙ c.lines.invariant.2,
)
