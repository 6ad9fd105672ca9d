-- The exchanges of a script's lines, one behind the other.
use Rattle.std.proofs.Common.{◌≡◌, ℕ, List, Option, Result, IfOk, IfErr, refl, ◌∙◌, ap}
use Rattle.std.specs.Prelude.{true}
use Rattle.entry_form.specs.declared.entry.Entry.{Entry}
use Rattle.entry_form.specs.declared.hand.Hand.TheVariants.{Script}
use Rattle.field_io.specs.declared.exchange.Exchange.{Exchange}
use Rattle.device_rules.specs.Caller.{CallerView, Grows}
use Rattle.collect_text.specs.Line.{meaning}
use Rattle.collect_text.specs.declared.line.Line.{Line}
use Rattle.collect_text.specs.declared.line.Line.TheVariants.{Send}
use Rattle.collect_script.specs.declared.stop.ScriptStop.{ScriptStop}
use Rattle.collect_script.specs.Answering.{Says, SaysNothing}
use Rattle.collect_script.specs.Exchanged.{is_plain}
use Rattle.collect_script.proofs.OwnSends.{line_goes}
use Rattle.collect_script.proofs.Plain.{meaning_plain}
use Rattle.send_workers.specs.Agreement.{HasExchanged}
use Rattle.send_workers.specs.Rounds.{RoundView, view}
use Rattle.send_workers.proofs.Agreeing.{exchanged_more, goes_none, went_by}

-- nothing is exchanged before the first line
pub exchanged_none : (seen : CallerView) (carried : Option (List Exchange))
    → HasExchanged (view seen carried) (view seen carried)
exchanged_none seen carried = went_by (view seen carried) (view seen carried) (goes_none seen.hand seen.trail) refl

-- a line that makes no round
pub exchanged_alone : {T : Type 0} (bytes : T → List ℕ) (old new : CallerView) (c : Option (List Exchange))
    → old.hand ≡ Script → (line : Line) (result : Result T ScriptStop) → is_plain line ≡ true → (line ≡ Send → ⊥)
    → IfOk result (λ text. Says old new (bytes text) line) → IfErr result (SaysNothing old new line)
    → HasExchanged (view old c) (view new c)
exchanged_alone bytes old new c is_script line result plain other says stops =
    went_by (view old c) (view new c) (line_goes old new is_script bytes line result plain other says stops) refl

-- one line more
pub exchanged_line : (old now new : RoundView) (added : List Entry) → Grows old.caller now.caller added
    → HasExchanged old now → (raw : List ℕ) (line : Line) → line ≡ meaning raw
    → (is_plain line ≡ true → HasExchanged now new) → HasExchanged old new
exchanged_line old now new added grows before raw line is after =
    exchanged_more old now new grows.start grows.hand before (after (ap is_plain is ∙ meaning_plain raw))
