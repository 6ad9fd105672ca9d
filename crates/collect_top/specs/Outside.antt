-- The outside of a call: what its source, sink and disk tell at one moment, and their counts of faults.
use Rattle.std.specs.Prelude.{ℕ, List, Option}
use Rattle.field_io.specs.Causes.{Rose}
use Rattle.collect_script.specs.Ends.{Streams}

pub record Outside : Type 0 where
  -- what the source has left
  pub left : Option (List ℕ)
  -- what the sink holds
  pub held : Option (List ℕ)
  -- what the disk reads as
  pub image : Option (List ℕ)
  pub source_faults : ℕ
  pub sink_faults : ℕ
  pub disk_faults : ℕ

abbrev pub streams_of : Outside → Streams
streams_of outside = record {
  left = outside.left;
  held = outside.held;
  source_faults = outside.source_faults;
  sink_faults = outside.sink_faults;
}

abbrev pub SourceFails : Outside → Outside → Type 0
SourceFails before after = Rose before.source_faults after.source_faults

abbrev pub SinkFails : Outside → Outside → Type 0
SinkFails before after = Rose before.sink_faults after.sink_faults

abbrev pub DiskFails : Outside → Outside → Type 0
DiskFails before after = Rose before.disk_faults after.disk_faults

-- what a disk tells of crashes: its moment, the images that a crash leaves now, and those since a moment
pub record Images (D : Type 0) : Type 1 where
  pub clock : D → ℕ
  pub may : D → List ℕ → Type 0
  pub since : D → ℕ → List ℕ → Type 0
