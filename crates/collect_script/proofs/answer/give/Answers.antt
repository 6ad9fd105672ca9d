use Rattle.std.proofs.Common.{◌∙◌, ap}
use Rattle.collect_script.specs.Answering.{accepts}
use Rattle.collect_script.proofs.Saying.{if_err, if_ok, call_stops, call_says, accepted_starved}
use Rattle.collect_text.specs.Answers.{printed_answer}
use Rattle.collect_script.proofs.answer.give.Goals as goal

pub returns-in-Ok-answer_text-clause-says : goal.returns-in-Ok-answer_text-clause-says
returns-in-Ok-answer_text-clause-says g c = accepts _ _ c.in-Ok.ensures.calls (c.in-Ok-answer_text.ensures ∙ ap (λ s. printed_answer c.in-Ok.told.position s c.in-Ok.told.answer) c.requires.shape)

pub returns-in-Err-answer_text-clause-stops : goal.returns-in-Err-answer_text-clause-stops
returns-in-Err-answer_text-clause-stops g c = accepted_starved _ _ _ _ c.requires.hand c.in-Ok.ensures.calls

pub returns-in-Err-clause-says : goal.returns-in-Err-clause-says
returns-in-Err-clause-says g c = if_ok _ _ _ (λ text is. call_says _ _ _ c.in-Err.fault _ c.in-Err.ensures.calls is) c.fault_text.ensures.text

pub returns-in-Err-clause-stops : goal.returns-in-Err-clause-stops
returns-in-Err-clause-stops g c = if_err _ _ _ (λ stop is. call_stops _ _ _ c.in-Err.fault stop c.in-Err.ensures.calls is) c.fault_text.ensures.stop
