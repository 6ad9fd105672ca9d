use Rattle.std.proofs.Common.{◌≡◌, ◌∷◌, [], ◌++◌, sym, ◌∙◌, ap, rules}
use Rattle.disk_model.specs.Disk.{written}
use Rattle.disk_model.specs.Images.{held_after_all}
use Rattle.disk_model.specs.declared.calls.Call.TheVariants.{Write}
use Rattle.disk_model.proofs.Kept.{adds_write, held-push}
use Rattle.disk_model.proofs.memory.MemDiskDisk.write_at.Goals as goal

pub invariant_of-self-else-is_err : goal.invariant_of-self-else-is_err
invariant_of-self-else-is_err c =
    let wrote : c.write_kept.new.bytes.items ≡ written c.args.at c.args.bytes.now c.args.self.now.bytes.items = search rules in
    let kept : c.write_kept.new.calls.items ≡ c.args.self.now.calls.items ++ Write c.args.at c.args.bytes.now ∷ [] = search rules in
    record {
      replayed = wrote ∙ ap (written c.args.at c.args.bytes.now) c.args.self.now.replayed
          ∙ sym (ap (held_after_all c.args.self.now.first.items) kept ∙ held-push c.args.self.now.first.items c.args.self.now.calls.items (Write c.args.at c.args.bytes.now));
    }

pub returns-clause-images : goal.returns-clause-images
returns-clause-images c =
    let kept : c.write_kept.new.calls.items ≡ c.args.self.now.calls.items ++ Write c.args.at c.args.bytes.now ∷ [] = search rules in
    let p = adds_write c.args.self.now.first.items c.args.self.now.calls.items c.write_kept.new.calls.items c.args.at c.args.bytes.now kept in
    record { later = p.later; now = p.now; past = p.past; keeps = p.keeps }
