use Rattle.std.proofs.Common.{◌∙◌, ap}
use Rattle.collect_script.specs.Answering.{shows}
use Rattle.collect_script.proofs.Saying.{if_err, if_ok, look_stops, look_says, shown_starved}
use Rattle.collect_text.specs.Answers.{printed_answer}
use Rattle.collect_script.proofs.answer.look.Goals as goal

pub returns-in-Ok-answer_text-clause-says : goal.returns-in-Ok-answer_text-clause-says
returns-in-Ok-answer_text-clause-says g c = shows _ _ c.in-Ok.ensures.looks (c.in-Ok-answer_text.ensures ∙ ap (λ s. printed_answer c.in-Ok.told.position s c.in-Ok.told.answer) c.requires)

pub returns-in-Ok-clause-stops : goal.returns-in-Ok-clause-stops
returns-in-Ok-clause-stops g c = shown_starved _ _ _ _ _ c.in-Ok.ensures.looks

pub returns-clause-says : goal.returns-clause-says
returns-clause-says g c = if_ok _ _ _ (λ text is. look_says _ _ _ c.in-Err.fault _ c.in-Err.ensures.looks is) c.fault_text.ensures.text

pub returns-clause-stops : goal.returns-clause-stops
returns-clause-stops g c = if_err _ _ _ (λ stop is. look_stops _ _ _ _ c.in-Err.fault stop c.in-Err.ensures.looks is) c.fault_text.ensures.stop
