use Rattle.std.proofs.Common.{Some, None, rules}
use Rattle.form_def.proofs.PathLemmas.{parts_of-split}
use Rattle.instance_doc.proofs.RowLemmas.{name_alone, name_behind}
use Rattle.instance_doc.proofs.rows.last_name.Goals as goal

pub loop-behind-preserved : goal.loop-behind-preserved
loop-behind-preserved c = (
  name_behind c.loop-behind.rest.now c.in-Some.field-0-0.now c.in-Some.behind.now c.args.path.now
      (parts_of-split c.loop-behind.rest.now (Some (c.in-Some.field-0-0, c.in-Some.behind)) c.in-Some.ensures.cases)
      c.loop-behind.invariant.0,
  search rules,
)

pub returns : goal.returns
returns c = name_alone c.loop-behind.rest.now c.args.path.now
    (parts_of-split c.loop-behind.rest.now None c.in_default.ensures.cases) c.loop-behind.invariant.0
