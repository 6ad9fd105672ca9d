use Rattle.std.proofs.Common.{◌≡◌, refl, ap, ◌∙◌}
use Rattle.collect_script.proofs.Saying.{if_ok}
use Rattle.device_rules.specs.Trail.{entries_of}
use Rattle.collect_top.specs.Log.{log_text}
use Rattle.collect_top.proofs.run.print_log.Goals as goal

pub returns : goal.returns
returns g c = λ left faults. record {
  closed = c.close-worked.ensures.closed;
  text = log_text (entries_of c.args.device.entries);
  is = refl;
  shows = c.put_text-end.ensures left faults (log_text (entries_of c.args.device.entries))
      (if_ok c.log_text.result (λ made. made.items ≡ log_text (entries_of c.as_slice.result.now))
      (λ made. made.items ≡ log_text (entries_of c.args.device.entries)) (λ made is. is ∙ ap (λ es. log_text (entries_of es))
      (c.as_slice.ensures ∙ c.close-worked.ensures.closed.entries_are)) c.log_text.ensures);
}
