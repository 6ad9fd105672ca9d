-- The headline: what holds of every call, whatever its words, script and disk, and wherever a call of the outside
-- fails.
use Rattle.std.specs.Prelude.{◌≡◌, ℕ, Option}
use Rattle.device_rules.specs.declared.trail.Trail.{Trail}
use Rattle.collect_top.specs.declared.words.Work.{Work}
use Rattle.collect_top.specs.Crash.{CrashPrefix}
use Rattle.collect_top.specs.Outside.{Images, Outside}
use Rattle.collect_top.specs.Parts.{Course, PrintedAnswers, SerialRun}
use Rattle.collect_top.specs.Status.{EndCauses}
use Rattle.collect_top.specs.Stop.{end_status}

pub record Headline {D : Type 0} (images : Images D) (old new : D) (work : Option Work) (before after : Outside)
    (status : ℕ) (trail : Trail) : Type 0 where
  -- what joins the parts
  pub course : Course
  pub status_is : status ≡ end_status course.end
  pub serial_run : SerialRun before.image course trail
  pub printed_answers : PrintedAnswers work before after course trail
  pub crash : CrashPrefix images before.image old new course trail
  pub causes : EndCauses work before after course.end
