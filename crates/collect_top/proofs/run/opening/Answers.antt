use Rattle.std.proofs.Common.{rules, ◌≡◌, ap, ◌∙◌}
use Rattle.std.specs.Prelude.{codes}
use Rattle.device_rules.specs.Opened.{is_server}
use Rattle.collect_top.proofs.DefaultServer.{default_is_server}
use Rattle.collect_top.proofs.run.opening.Goals as goal

pub returns-clause-known : goal.returns-clause-known
returns-clause-known c =
    let same : c.from_string.result ≡ codes "http://localhost:8080" = search rules in
    ap is_server same ∙ default_is_server
