use Rattle.std.proofs.Common.{◌≡◌, ◌∷◌, [], ◌++◌, ◌∙◌, ap, rules}
use Rattle.disk_model.specs.Images.{held_after_all}
use Rattle.disk_model.proofs.Kept.{held-push}
use Rattle.disk_model.proofs.memory.keep.Goals as goal

pub returns-clause-same : goal.returns-clause-same
returns-clause-same c first =
    let added : c.push.new.self.items ≡ c.args.calls.now.items ++ c.args.call ∷ [] = search rules in
    ap (held_after_all first) added ∙ held-push first c.args.calls.now.items c.args.call ∙ c.requires _
