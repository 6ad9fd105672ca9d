-- What may follow at the end of the bytes.
use Rattle.std.proofs.Common.{List, ℕ, [], ◌∷◌, ◌++◌, ap, ◌∙◌}
use Rattle.std.proofs.lemmas.List.{nil_from_length}
use Rattle.http_reply.proofs.ChunkCases.{nonempty_list}
use Rattle.http_reply.proofs.chunks.line_end.Goals as goal

pub returns-in_default : goal.returns-in_default
returns-in_default c =
    (13 ∷ 10 ∷ [], ap (λ (xs : List ℕ). xs ++ (13 ∷ 10 ∷ [])) (nil_from_length c.args.bytes.now c.in_default.ensures.cases), nonempty_list 13 (10 ∷ []))

pub returns-in_default-split_first : goal.returns-in_default-split_first
returns-in_default-split_first c = (
  10 ∷ [],
  ap (λ (xs : List ℕ). xs ++ (10 ∷ []))
      (c.in-Some.ensures.cases.0 ∙ ap (λ (b : ℕ). b ∷ c.in-Some.others.now) c.if-first-ne13.false ∙ ap (λ (xs : List ℕ). 13 ∷ xs) (nil_from_length c.in-Some.others.now c.in_default-split_first.ensures.cases)),
  nonempty_list 10 [],
)
