-- Proofs of the laws that an implementation of a disk owes, and no definitions: an implementation may cite only what
-- stands in this folder.
use Rattle.std.specs.Prelude.{◌≡◌, ℕ, ◌+◌, ◌-◌, ◌≤◌, ◌<◌, min, List, [], ◌∷◌, ◌++◌, length, take, drop, refl, Some}
use Rattle.std.specs.Prelude.{None}
use Rattle.std.proofs.Common.{⊎_elim, sym, subst, arith, length-append, length-take, length-drop, append_assoc}
use Rattle.std.proofs.lemmas.Bool.{cases_lt}
use Rattle.std.proofs.lemmas.List.{take_at, drop_at, take_all, drop_all}
use Rattle.disk_model.specs.Disk.{written, Torn, BeginsWith}
use Rattle.disk_model.specs.Images.{held_after_all, LeftAfter, LeftAfterAll, IsImage, WasImage}
use Rattle.disk_model.specs.declared.calls.Call.{Call}
use Rattle.disk_model.specs.declared.calls.Call.TheVariants.{Len, Read, Write, Sync}

-- a whole write is one of the outcomes of a torn one
pub torn_whole : (at : ℕ) (bytes old : List ℕ) → Torn at (length bytes) old (written at bytes old)
torn_whole at bytes old = record {
  before = rw append_assoc (take_at (take at old) (bytes ++ drop (at + length bytes) old) (length (take at old)) refl);
  behind = ⊎_elim past_end in_range (cases_lt (length old) at);
  no_shorter = omega (arith, sizes);
  no_longer = omega (arith, sizes);
}
  where
    sizes : length (written at bytes old) ≡ min at (length old) + length bytes + (length old - (at + length bytes))
    sizes = simp (length-append, length-take, length-drop)

    in_range : at ≤ length old → BeginsWith (drop (at + length bytes) (written at bytes old))
        (drop (at + length bytes) old)
    in_range le =
        let long : length (take at old ++ bytes) ≡ at + length bytes =
        omega (arith, length-append (take at old) bytes, length-take at old) in
        let same : drop (at + length bytes) (written at bytes old) ≡ drop (at + length bytes) old =
        drop_at (take at old ++ bytes) (drop (at + length bytes) old) (at + length bytes) long in
        subst (λ (l : List ℕ). BeginsWith l (drop (at + length bytes) old)) (sym same) (take_all _ _ (omega arith))

    past_end : length old < at → BeginsWith (drop (at + length bytes) (written at bytes old))
        (drop (at + length bytes) old)
    past_end lt =
        let none : drop (at + length bytes) old ≡ [] = drop_all (at + length bytes) old (omega arith) in
        subst (λ (l : List ℕ). BeginsWith (drop (at + length bytes) (written at bytes old)) l) (sym none) refl

reads_after : (held : List ℕ) (left : List ℕ → Type 0) (calls : List Call) → left held
    → LeftAfterAll held left calls (held_after_all held calls)
reads_after held left [] here = here
reads_after held left (Len ∷ calls) here = reads_after held left calls here
reads_after held left (Read ∷ calls) here = reads_after held left calls here
reads_after held left (Write at bytes ∷ calls) here =
    reads_after (written at bytes held) (LeftAfter held left (Write at bytes)) calls
    (held, here, torn_whole at bytes held)
reads_after held left (Sync ∷ calls) here = reads_after held (LeftAfter held left Sync) calls refl

-- what a disk reads as is among its images
pub reads_as_image : (first : List ℕ) (calls : List Call) → IsImage first calls (held_after_all first calls)
reads_as_image first calls = reads_after first (λ d. d ≡ first) calls refl

pub reads_as_told : (first : List ℕ) (calls : List Call) (bytes : List ℕ)
    → Some (held_after_all first calls) ≡ Some bytes → IsImage first calls bytes
reads_as_told first calls bytes is =
    let same : held_after_all first calls ≡ bytes = cc in
    subst (λ (l : List ℕ). IsImage first calls l) same (reads_as_image first calls)

pub counts_now_image : (first : List ℕ) (calls : List Call) (t : ℕ) (c : List ℕ) → t ≤ length calls
    → IsImage first calls c → WasImage first calls t c
counts_now_image first calls t c le now = (
  length calls,
  le,
  omega arith,
  subst (λ (l : List Call). IsImage first l c)
      (sym (take_all (length calls) calls (omega arith))) now,
)

pub only_now_image : (first : List ℕ) (calls : List Call) (c : List ℕ) → WasImage first calls (length calls) c
    → IsImage first calls c
only_now_image first calls c was = subst (λ (l : List Call). IsImage first l c) (take_all was.0 calls was.1) was.3

pub earlier_image : (first : List ℕ) (calls : List Call) (t u : ℕ) (c : List ℕ) → t ≤ u → WasImage first calls u c
    → WasImage first calls t c
earlier_image first calls t u c le was = (was.0, omega (arith, le, was.1), was.2, was.3)

-- a disk that tells nothing has no image as it reads
pub none_told : (bytes : List ℕ) → None ≡ Some bytes → ⊥
none_told bytes told = cc
