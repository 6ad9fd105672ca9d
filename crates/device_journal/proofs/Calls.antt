-- How a run of disk calls goes on.
use Rattle.std.proofs.Common.{◌≡◌, inl, inr, ⊎_elim, ℕ, List, refl, arith}
use Rattle.std.specs.Prelude.{Option, Some, None, option_map}
use Rattle.disk_model.specs.Disk.{AddsImages, AddsNoImage}
use Rattle.device_journal.specs.Moments.{LeavesOnly}

pub some_of_map : (f : List ℕ → List ℕ) (o : Option (List ℕ)) (d : List ℕ) → option_map f o ≡ Some d → (x : List ℕ) × (o ≡ Some x) × (f x ≡ d)
some_of_map f None d is = absurd (cc)
some_of_map f (Some x) d is = (x, refl, (cc))

module _ {D : Type 0} (clock : D → ℕ) (may : D → List ℕ → Type 0) (since : D → ℕ → List ℕ → Type 0) where
  -- before the first call
  pub begun : (old : D) (P : List ℕ → Type 0) → ((c : List ℕ) → since old (clock old) c → P c) → LeavesOnly clock since old old P
  begun old P here = record { later = omega arith; each = here; before = λ t c le left. inl left }

  -- one more call that adds images
  pub after_images : (old mid new : D) (P : List ℕ → Type 0) (step : List ℕ → List ℕ → Type 0) → LeavesOnly clock since old mid P → AddsImages clock may since step mid new → ((c : List ℕ) → may new c → P c) → LeavesOnly clock since old new P
  after_images old mid new P step so_far adds here = record {
    later = omega (arith, so_far.later, adds.later);
    each = λ c left. ⊎_elim (so_far.each c) (here c) (adds.past (clock old) c so_far.later left);
    before = λ t c le left. ⊎_elim (so_far.before t c le) (λ now. inr (here c now)) (adds.past t c (omega (arith, le, so_far.later)) left);
  }

  -- one more call that adds none
  pub after_none : (old mid new : D) (P : List ℕ → Type 0) → LeavesOnly clock since old mid P → AddsNoImage clock may since mid new → LeavesOnly clock since old new P
  after_none old mid new P so_far adds = record {
    later = omega (arith, so_far.later, adds.later);
    each = λ c left. so_far.each c (adds.past (clock old) c so_far.later left);
    before = λ t c le left. so_far.before t c le (adds.past t c (omega (arith, le, so_far.later)) left);
  }
