use Rattle.std.proofs.Common.{◌≡◌, length, Some, sym, ap, ◌∙◌}
use Rattle.std.specs.Prelude.{option_map}
use Rattle.std.specs.Option.{option_to_list}
use Rattle.std.proofs.lemmas.Option.{same_Some}
use Rattle.collect_script.proofs.Saying.{if_ok}
use Rattle.device_rules.proofs.Replays.{legal_front}
use Rattle.device_rules.specs.Trail.{entries_of}
use Rattle.device_state.specs.State.{initial}
use Rattle.collect_top.specs.declared.words.Work.TheVariants.{Check}
use Rattle.collect_top.specs.Shown.{counts_line, shown_text}
use Rattle.collect_top.proofs.run.print_counts.Goals as goal

pub returns : goal.returns
returns g c = λ left faults.
    let entries = entries_of c.args.device.entries in
    let closed = c.close.ensures.closed in
    let legal = legal_front initial entries (option_to_list c.args.device.rest) closed.legal in
    let is = ap (option_map (counts_line (length entries))) legal.1 in
    record {
      closed = closed;
      text = counts_line (length entries) legal.0;
      is = is;
      shows = rw c.close.ensures.end (c.put_text-end.ensures left faults (counts_line (length entries) legal.0)
          (if_ok c.check_text.result (λ made. shown_text Check entries ≡ Some made.items)
          (λ made. made.items ≡ counts_line (length entries) legal.0)
          (λ made shown. same_Some _ _ (sym shown ∙ is)) c.check_text.ensures));
    }
