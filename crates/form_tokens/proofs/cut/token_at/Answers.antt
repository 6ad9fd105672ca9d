use Rattle.form_tokens.proofs.Laws.{found_of, longest_of, none_of}
use Rattle.form_tokens.proofs.cut.token_at.Goals as goal

pub returns-clause-found : goal.returns-clause-found
returns-clause-found c = found_of c.args.chars.now c.front_token.result c.front_token.ensures

pub returns-clause-longest : goal.returns-clause-longest
returns-clause-longest c = longest_of c.args.chars.now c.front_token.result c.front_token.ensures

pub returns-clause-none : goal.returns-clause-none
returns-clause-none c = none_of c.args.chars.now c.front_token.result c.front_token.ensures
