-- What a line says of a round, by its end.
use Rattle.std.proofs.Common.{◌≡◌, ℕ, List, Option, sym, subst}
use Rattle.entry_form.specs.declared.command.Command.TheVariants.{TakeLock}
use Rattle.entry_form.specs.declared.hand.Hand.TheVariants.{Script}
use Rattle.entry_form.specs.declared.hand.Round.TheVariants as rounds
use Rattle.field_io.specs.declared.exchange.Exchange.{Exchange}
use Rattle.device_rules.specs.declared.refused.Refused.TheVariants.{Busy}
use Rattle.device_rules.specs.Caller.{CallerView}
use Rattle.collect_text.specs.declared.line.Line.TheVariants.{Send}
use Rattle.collect_script.specs.declared.stop.ScriptStop.{ScriptStop}
use Rattle.collect_script.specs.Answering.{RoundStop, RoundText, Says, SaysNothing, busy, ran, stopped}
use Rattle.collect_script.proofs.RoundEntries.{refused_nothing, run_nothing, starves_nothing, stops_nothing}
use Rattle.send_workers.specs.Rounds.{Rounds, view}
use Rattle.send_workers.specs.declared.round.RoundEnd.{RoundEnd}
use Rattle.send_workers.specs.declared.round.RoundEnd.TheVariants as ends

module _ (old new : CallerView) (c d : Option (List Exchange)) (is_script : old.hand ≡ Script) where
  pub round_says : (end : RoundEnd) (text : List ℕ) → Rounds (view old c) (view new d) end → RoundText end text
      → Says old new text Send
  round_says (ends.Ran position good lost hidden) text x is = ran c d position good lost x.0 is
  round_says (ends.Busy position held) text x is = busy position held.since held.hand x.0 is
  round_says (ends.Stopped fault) text x is = stopped c d fault x is
  round_says ends.NoMemory text x is = absurd is

  pub round_stops : (end : RoundEnd) (stop : ScriptStop) → Rounds (view old c) (view new d) end → RoundStop end stop
      → SaysNothing old new Send stop
  round_stops (ends.Ran position good lost hidden) stop x is =
      subst (SaysNothing old new Send) (sym is) (run_nothing old is_script new c d position good lost x.0)
  round_stops (ends.Busy position held) stop x is =
      subst (SaysNothing old new Send) (sym is)
      (refused_nothing old is_script new (TakeLock rounds.Send) position (Busy held.hand held.since) x.0)
  round_stops (ends.Stopped fault) stop x is = stops_nothing old is_script new c d fault stop x is
  round_stops ends.NoMemory stop x is = subst (SaysNothing old new Send) (sym is) (starves_nothing old is_script new c d x)
