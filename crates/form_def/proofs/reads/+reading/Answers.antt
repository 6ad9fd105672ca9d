use Rattle.std.proofs.Common.{append_assoc}
use Rattle.form_def.proofs.ReadsLemmas.{reads-Call, reads-Pair}
use Rattle.form_def.proofs.reads.+reading.Goals as goal

pub push_reads-returns-in-Call : goal.push_reads-returns-in-Call
push_reads-returns-in-Call t c = rw (c.in-Call.is, reads-Call, ← c.as_slice.ensures) c.push_all_reads.ensures

pub push_reads-returns-in_ok-push_reads-in-Pair : goal.push_reads-returns-in_ok-push_reads-in-Pair
push_reads-returns-in_ok-push_reads-in-Pair t c =
    rw (c.in-Pair.is, reads-Pair, ← append_assoc, ← c.get-in-Pair.ensures, ← c.in_ok-push_reads-in-Pair.ensures, ← c.get-in-Pair-2.ensures) c.push_reads-in-Pair-2.ensures
