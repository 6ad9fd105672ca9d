-- What holds of the document, which is within its limit, holds of what is given.
use Rattle.std.proofs.Common.{◌≡◌, ℕ, ◌≤◌, true, false, cond, List, Result, Ok, Err, IfOk, length, nat_lt, refl}
use Rattle.std.proofs.Common.{subst}
use Rattle.std.proofs.lemmas.Bool.{ltb-false}
use Rattle.field_text.specs.Steps.{Gives}
use Rattle.instance_doc.specs.declared.fault.DocFault.{DocFault}
use Rattle.instance_doc.specs.declared.fault.DocFault.TheVariants.{TooLong}
use Rattle.instance_doc.specs.Documents.{document_limit, fault_of, limited}

abbrev Answer : Type 0
Answer = Result (List ℕ) DocFault

refused : (document blob : List ℕ) → ◌≡◌ {A = Answer} (Err (TooLong (length document))) (Ok blob) → ⊥
refused document blob e = cc

same : (document blob : List ℕ) → ◌≡◌ {A = Answer} (Ok document) (Ok blob) → document ≡ blob
same document blob e = cc

pub given_document : (P : List ℕ → Type 0) (r : Answer) (document : List ℕ)
    → Gives fault_of (λ b. b) r (limited document)
    → (length document ≤ document_limit → P document) → IfOk r P
given_document P (Ok blob) document h p =
    elim (nat_lt document_limit (length document)) as (λ b. nat_lt document_limit (length document) ≡ b
    → ◌≡◌ {A = Answer} (cond b (Err (TooLong (length document))) (Ok document)) (Ok blob) → P blob) [
      | true ↦ λ long e. absurd (refused document blob e)
      | false ↦ λ short e. subst P (same document blob e) (p (ltb-false document_limit (length document) short))
    ] refl h
given_document P (Err fault) document h p = tt
