use Rattle.collect_script.proofs.Saying.{if_err, if_ok}
use Rattle.collect_script.proofs.RoundEnds.{round_says, round_stops}
use Rattle.send_workers.proofs.Agreeing.{rounds_exchanged}
use Rattle.collect_script.proofs.round.send.Goals as goal

pub returns-clause-says : goal.returns-clause-says
returns-clause-says g c =
    if_ok _ _ _ (λ text is. round_says _ _ _ _ c.requires c.send_round-end.result _ c.send_round-end.ensures.rounds is) c.round_text.ensures.text

pub returns-clause-stops : goal.returns-clause-stops
returns-clause-stops g c =
    if_err _ _ _ (λ stop is. round_stops _ _ _ _ c.requires c.send_round-end.result stop c.send_round-end.ensures.rounds is) c.round_text.ensures.stop

pub returns-clause-exchanged : goal.returns-clause-exchanged
returns-clause-exchanged g c = rounds_exchanged _ _ c.send_round-end.result c.send_round-end.ensures.rounds
