-- A text that stands in the transcript at a position.
use Rattle.std.proofs.Common.{◌≡◌, ◌≢◌, ℕ, ◌≤◌, List, length, Result, Err, refl}
use Rattle.field_text.specs.Steps.{Tells}
use Rattle.device_rules.specs.declared.refused.Refused.{Refused}
use Rattle.device_rules.specs.declared.refused.Refused.TheVariants as refusals
use Rattle.device_rules.specs.Caller.{CallerView}
use Rattle.device_rules.specs.Refused.{rule_of}
use Rattle.collect_text.specs.declared.line.Line.{Line}
use Rattle.collect_script.specs.Transcript.{AllAnswered, HasPrinted}

-- a refusal other than want of memory is the rules'
pub told_by_rules : {T : Type 0} (why : Refused) (result : Result T Refused) → why ≢ refusals.NoMemory → Tells (rule_of why) result → result ≡ Err why
told_by_rules refusals.BadValue result other tells = tells
told_by_rules (refusals.Busy hand since) result other tells = tells
told_by_rules (refusals.NotHolder holder) result other tells = tells
told_by_rules refusals.NothingDue result other tells = tells
told_by_rules refusals.NoForm result other tells = tells
told_by_rules refusals.NoVersion result other tells = tells
told_by_rules refusals.NoInstance result other tells = tells
told_by_rules refusals.NoEntry result other tells = tells
told_by_rules refusals.EntryThere result other tells = tells
told_by_rules refusals.SavepointThere result other tells = tells
told_by_rules refusals.NoSavepoint result other tells = tells
told_by_rules (refusals.WrongStatus status) result other tells = tells
told_by_rules (refusals.HasEdit number) result other tells = tells
told_by_rules (refusals.InUse number) result other tells = tells
told_by_rules (refusals.Answer why) result other tells = tells
told_by_rules (refusals.FormRefused why) result other tells = tells
told_by_rules (refusals.NotFinal why) result other tells = tells
told_by_rules (refusals.OtherBytes kept new) result other tells = tells
told_by_rules (refusals.Limit which number) result other tells = tells
told_by_rules refusals.NotInFlight result other tells = tells
told_by_rules (refusals.InFlight number) result other tells = tells
told_by_rules refusals.NoMemory result other tells = absurd (other refl)
told_by_rules refusals.NotBuilt result other tells = tells

-- the line has printed its text at a position behind which nothing of the script's is
pub record IsPrinted (view : CallerView) (last : ℕ) (line : Line) (text : List ℕ) : Type 0 where
  pub position : ℕ
  pub within : position ≤ length view.trail
  pub printed : HasPrinted view.start view.trail last line position text
  pub settled : AllAnswered view.start view.trail position
