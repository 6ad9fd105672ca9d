use Rattle.std.proofs.Common.{sym}
use Rattle.device_laws.proofs.FinalHistories.{history_keeps_finals}
use Rattle.device_laws.proofs.Histories.{history_keeps}
use Rattle.device_laws.proofs.IdHistories.{history_keeps_ids_apart}
use Rattle.device_laws.proofs.SendHistories.{history_keeps_sends}
use Rattle.collect_top.proofs.Headlines.{headline, headline_of_usage}
use Rattle.collect_top.proofs.Transmitting.{transmits_none}
use Rattle.collect_top.proofs.top.collect_alone.Goals as goal

pub returns-in_default-clause-headline : goal.returns-in_default-clause-headline
returns-in_default-clause-headline g c =
    let d = g.D.Disk in
    rw (sym c.work_of.ensures, c.in_default.is) (headline_of_usage _ d.content d.faults _
    (record { left = g.So.Source.left c.args.source.now; held = g.Si.Sink.held c.args.sink.now; source_faults = g.So.Source.faults c.args.source.now; sink_faults = g.Si.Sink.faults c.args.sink.now })
    (record { left = g.So.Source.left c.args.source.now; held = g.Si.Sink.held c.finish-status.new.sink; source_faults = g.So.Source.faults c.args.source.now; sink_faults = g.Si.Sink.faults c.finish-status.new.sink })
    _ _ c.no_trail.ensures.start c.no_trail.ensures.entries c.finish-status.ensures.status
    (c.finish-status.ensures.stop (g.So.Source.left c.args.source.now) (g.So.Source.faults c.args.source.now)))

pub returns-clause-headline : goal.returns-clause-headline
returns-clause-headline g c =
    let d = g.D.Disk in
    rw (sym c.work_of.ensures, c.in-Some.is) (headline _ d.content d.faults c.in-Some.work _ _
    (record { left = g.So.Source.left c.args.source.now; held = g.Si.Sink.held c.args.sink.now; source_faults = g.So.Source.faults c.args.source.now; sink_faults = g.Si.Sink.faults c.args.sink.now })
    (record { left = g.So.Source.left c.run-disk.new.source; held = g.Si.Sink.held c.run-disk.new.sink; source_faults = g.So.Source.faults c.run-disk.new.source; sink_faults = g.Si.Sink.faults c.run-disk.new.sink })
    (record { left = g.So.Source.left c.run-disk.new.source; held = g.Si.Sink.held c.finish-status-2.new.sink; source_faults = g.So.Source.faults c.run-disk.new.source; sink_faults = g.Si.Sink.faults c.finish-status-2.new.sink })
    _ _ c.run-disk.ensures.ran (c.finish-status-2.ensures.stop (g.So.Source.left c.run-disk.new.source) (g.So.Source.faults c.run-disk.new.source)) _ c.finish-status-2.ensures.status)

pub returns-in_default-clause-used_forms : goal.returns-in_default-clause-used_forms
returns-in_default-clause-used_forms g c = history_keeps _

pub returns-clause-used_forms : goal.returns-clause-used_forms
returns-clause-used_forms g c = history_keeps _

pub returns-in_default-clause-finals : goal.returns-in_default-clause-finals
returns-in_default-clause-finals g c = history_keeps_finals _

pub returns-clause-finals : goal.returns-clause-finals
returns-clause-finals g c = history_keeps_finals _

pub returns-in_default-clause-ids : goal.returns-in_default-clause-ids
returns-in_default-clause-ids g c = history_keeps_ids_apart _

pub returns-clause-ids : goal.returns-clause-ids
returns-clause-ids g c = history_keeps_ids_apart _

pub returns-in_default-clause-sends : goal.returns-in_default-clause-sends
returns-in_default-clause-sends g c = history_keeps_sends _

pub returns-clause-sends : goal.returns-clause-sends
returns-clause-sends g c = history_keeps_sends _

pub returns-in_default-clause-transmissions : goal.returns-in_default-clause-transmissions
returns-in_default-clause-transmissions g c = rw c.no_trail.ensures.entries (transmits_none _)
