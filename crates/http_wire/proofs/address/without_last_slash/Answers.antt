use Rattle.std.proofs.Common.{◌≡◌, ◌∷◌, [], ◌++◌, lit<, ap, sym, ◌∙◌, Some, None}
use Rattle.std.proofs.lemmas.Str.Pattern.{strip_suffix_char}
use Rattle.http_wire.specs.Addresses.{without_last_slash}
use Rattle.http_wire.proofs.Slashes.{slash_lost, path_kept}
use Rattle.http_wire.proofs.address.without_last_slash.Goals as goal

pub returns-in-Some : goal.returns-in-Some
returns-in-Some c =
    let e : c.args.path.now ≡ c.in-Some.front.now ++ 47 ∷ [] =
    strip_suffix_char 47 c.args.path.now (Some c.in-Some.front) c.in-Some.ensures.cases (lit< tt) in
    sym (ap without_last_slash e ∙ slash_lost c.in-Some.front.now)

pub returns-in-None : goal.returns-in-None
returns-in-None c =
    sym (path_kept c.args.path.now (strip_suffix_char 47 c.args.path.now None c.in-None.ensures.cases (lit< tt)))
