-- What is appended one by one.
use Rattle.std.proofs.Common.{◌≡◌, ℕ, List, [], ◌++◌, ap, sym, ◌∙◌, append_assoc}
use Rattle.std.proofs.lemmas.List.{append-nil}

pub grown : (out new a rest : List ℕ) → new ≡ out ++ a → new ++ rest ≡ out ++ (a ++ rest)
grown out new a rest h = ap (λ (x : List ℕ). x ++ rest) h ∙ append_assoc out a rest

pub last_grown : (out new a : List ℕ) → new ≡ out ++ a → new ≡ out ++ (a ++ [])
last_grown out new a h = sym (append-nil new) ∙ grown out new a [] h
