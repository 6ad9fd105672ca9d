use Rattle.std.proofs.Common.{sym, ◌∙◌, rules}
use Rattle.form_def.proofs.PathLemmas.{names_stop, names_go_on}
use Rattle.form_def.proofs.paths.are_names.Goals as goal

pub returns-then-not-is_local_name : goal.returns-then-not-is_local_name
returns-then-not-is_local_name c =
    names_stop c.loop-name.rest.now c.in-Some.name.now c.in-Some.behind.now c.args.path.now c.in-Some.ensures.parts
    (sym c.is_local_name.ensures ∙ c.if-not-is_local_name.true) c.loop-name.invariant.0

pub loop-name-preserved : goal.loop-name-preserved
loop-name-preserved c = (
  names_go_on c.loop-name.rest.now c.in-Some.name.now c.in-Some.behind.now c.args.path.now c.in-Some.ensures.parts
      (sym c.is_local_name.ensures ∙ c.if-not-is_local_name.false) c.loop-name.invariant.0,
  search rules,
)
