-- What a crash at any moment of a call leaves on the disk.
use Rattle.std.specs.Prelude.{◌≡◌, ◌⊎◌, ℕ, List, [], ◌++◌, Option, Some, None, Err}
use Rattle.entry_form.specs.declared.entry.Entry.{Entry}
use Rattle.device_journal.specs.declared.fault.OpenFault.{OpenFault}
use Rattle.device_journal.specs.Moments.{LeavesFrom, synced_at}
use Rattle.device_rules.specs.declared.trail.Marked.{Marked}
use Rattle.device_rules.specs.declared.trail.Trail.{Trail}
use Rattle.device_rules.specs.Trail.{entries_of}
use Rattle.device_core.specs.Crash.{Crash, HasAtLeast, LeavesUnopened}
use Rattle.collect_script.specs.declared.stop.ScriptStop.TheVariants as script
use Rattle.collect_top.specs.declared.stop.Stop.TheVariants.{Usage, Opening, Script}
use Rattle.collect_top.specs.Outside.{Images}
use Rattle.collect_top.specs.Parts.{Course, own_opening}
use Rattle.collect_top.specs.Stop.{End}

-- Before the opening's first sync a crash leaves what it might have left before the call. From that moment on it
-- leaves the first of the entries and the one behind them: no fewer than were found, and since the moment of an entry
-- that entry too.
pub record LeavesEntries {D : Type 0} (images : Images D) (old new : D) (found : ℕ) (entries : List Marked)
    (rest : List Entry) : Type 0 where
  pub leaves : LeavesFrom images.clock images.since old new (synced_at images.clock old)
      (HasAtLeast (entries_of entries ++ rest) found)
  pub crash : Crash images.since images.clock new (synced_at images.clock old) found entries rest

-- what a call leaves of the disk, by how it ended and whether it has opened the device
pub data Leaves {D : Type 0} (images : Images D) (image : Option (List ℕ)) (old new : D) (entries : List Marked)
    (rest : List Entry) : End → Option ℕ → Type 0 where
  -- the disk wasn't touched
  untouched : new ≡ old → Leaves images image old new entries rest (Err Usage) None
  unopened : (fault : OpenFault) → LeavesUnopened images.clock images.may images.since image own_opening fault old new
      → Leaves images image old new entries rest (Err (Opening fault)) None
  opened : (end : End) (found : ℕ) → LeavesEntries images old new found entries rest
      → Leaves images image old new entries rest end (Some found)

-- A crash at any moment leaves a front of the run that holds all that was acknowledged. An entry stands behind the
-- run only where a fault of the disk ended it.
pub record CrashPrefix {D : Type 0} (images : Images D) (image : Option (List ℕ)) (old new : D) (course : Course)
    (trail : Trail) : Type 0 where
  pub leaves : Leaves images image old new trail.entries course.rest course.end course.found
  pub rest : course.rest ≡ [] ⊎ course.end ≡ Err (Script script.DiskFault)
