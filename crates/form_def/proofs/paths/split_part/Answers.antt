use Rattle.form_def.proofs.PathLemmas.{parts_of-split, parts_of-shorter}
use Rattle.form_def.proofs.paths.split_part.Goals as goal

pub returns : goal.returns
returns c = record {
  parts = parts_of-split c.args.path.now c.split_once.result c.split_once.ensures.cases;
  shorter = parts_of-shorter c.args.path.now c.split_once.result c.split_once.ensures.cases;
}
