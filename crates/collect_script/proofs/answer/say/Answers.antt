use Rattle.collect_script.proofs.Saying.{look_stops, shown_starved, word_says}
use Rattle.collect_script.proofs.answer.say.Goals as goal

pub returns-in-Ok-word_text-clause-says : goal.returns-in-Ok-word_text-clause-says
returns-in-Ok-word_text-clause-says g c = word_says _ _ _ _ _ _ c.requires c.in-Ok.ensures.looks c.in-Ok-word_text.ensures

pub returns-in-Err-word_text-clause-stops : goal.returns-in-Err-word_text-clause-stops
returns-in-Err-word_text-clause-stops g c = shown_starved _ _ _ _ _ c.in-Ok.ensures.looks

pub returns-in-Err-clause-stops : goal.returns-in-Err-clause-stops
returns-in-Err-clause-stops g c = look_stops _ _ _ _ c.in-Err.fault _ c.in-Err.ensures.looks c.fault_stop.ensures
