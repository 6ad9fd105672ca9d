-- Where the instance with a number stands.
use Rattle.std.proofs.Common.{◌≡◌, ℕ, ◌<◌, Bool, true, List, [], ◌∷◌, length, get_or, Option, Some, ap, ◌∙◌, arith}
use Rattle.std.specs.Prelude.{◌==◌, option_map, slice_get}
use Rattle.std.proofs.lemmas.Bool.Decides.{nat_tests}
use Rattle.std.proofs.lemmas.List.Quantifiers.{position-Some}
use Rattle.std.proofs.lemmas.Option.{slice_get-get_or}
use Rattle.instance_store.specs.Instances.{has_number, place_of}
use Rattle.instance_store.specs.declared.records.InstanceRec.{InstanceRec}

same_number : (number : ℕ) (r : InstanceRec) → has_number number r ≡ true → r.number ≡ number
same_number number r is = grind (arith, nat_tests, is)

pub place-Some : (number : ℕ) (records : List InstanceRec) (place : ℕ) → place_of number records ≡ Some place
    → (place < length records) × (option_map (λ (kept : InstanceRec). kept.number) (slice_get records place) ≡ Some number)
place-Some number [] place is = absurd (cc is)
place-Some number (r ∷ rs) place is =
    let at = position-Some (has_number number) (r ∷ rs) place r is in (
      at.0,
      ap (option_map (λ (kept : InstanceRec). kept.number)) (slice_get-get_or (r ∷ rs) place r at.0)
          ∙ ap (λ n. Some n) (same_number number (get_or (r ∷ rs) place r) at.1),
    )
