use Rattle.device_rules.proofs.Payloads.{good_fits}
use Rattle.device_rules.proofs.laws.entries_within_limits_fit_a_payload.Goals as goal

pub returns : goal.returns
returns c = good_fits
