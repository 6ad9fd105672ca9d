use Rattle.std.proofs.Common.{Vec, Global, ℕ, refl, sym, ◌∙◌, ap}
use Rattle.collect_text.specs.declared.line.Line.TheVariants.{Bad, NotBuilt, Quit, Look, Give}
use Rattle.collect_script.specs.Answering.{skips}
use Rattle.collect_script.specs.Exchanged.{is_plain}
use Rattle.collect_script.proofs.Exchanging.{exchanged_alone}
use Rattle.collect_script.proofs.Saying.{starved_at_once}
use Rattle.collect_script.proofs.answer.line_text.Goals as goal

pub returns-in-Skipped-clause-says : goal.returns-in-Skipped-clause-says
returns-in-Skipped-clause-says g c = rw c.in-Skipped.is (skips refl c.new.ensures.items)

pub returns-in-Err-clause-stops : goal.returns-in-Err-clause-stops
returns-in-Err-clause-stops g c = starved_at_once _ _

pub returns-in-Quit-clause-exchanged : goal.returns-in-Quit-clause-exchanged
returns-in-Quit-clause-exchanged g c = λ plain.
    exchanged_alone (λ (v : Vec ℕ Global). v.items) _ _ _ c.requires Quit c.say.result refl (λ e. absurd (cc e))
    c.say.ensures.says c.say.ensures.stops

pub returns-in-Bad-clause-exchanged : goal.returns-in-Bad-clause-exchanged
returns-in-Bad-clause-exchanged g c = λ plain.
    exchanged_alone (λ (v : Vec ℕ Global). v.items) _ _ _ c.requires Bad c.say-in-Bad.result refl (λ e. absurd (cc e))
    c.say-in-Bad.ensures.says c.say-in-Bad.ensures.stops

pub returns-in-NotBuilt-clause-exchanged : goal.returns-in-NotBuilt-clause-exchanged
returns-in-NotBuilt-clause-exchanged g c = λ plain.
    exchanged_alone (λ (v : Vec ℕ Global). v.items) _ _ _ c.requires NotBuilt c.say-in-NotBuilt.result refl
    (λ e. absurd (cc e)) c.say-in-NotBuilt.ensures.says c.say-in-NotBuilt.ensures.stops

pub returns-in-Look-clause-exchanged : goal.returns-in-Look-clause-exchanged
returns-in-Look-clause-exchanged g c = λ plain.
    exchanged_alone (λ (v : Vec ℕ Global). v.items) _ _ _ c.requires (Look c.in-Look.query) c.look.result refl
    (λ e. absurd (cc e)) c.look.ensures.says c.look.ensures.stops

pub returns-clause-exchanged : goal.returns-clause-exchanged
returns-clause-exchanged g c = λ plain.
    exchanged_alone (λ (v : Vec ℕ Global). v.items) _ _ _ c.requires (Give c.in-Give.command) c.give.result
    (ap is_plain (sym c.in-Give.is) ∙ plain) (λ e. absurd (cc e)) c.give.ensures.says c.give.ensures.stops
