-- One more call joins those that a disk in memory has kept.
use Rattle.std.proofs.Common.{◌≡◌, ◌⊎◌, inl, inr, ⊎_elim, ℕ, ◌+◌, ◌≤◌, ◌<◌, List, [], ◌∷◌, ◌++◌, length, take, refl, sym, ◌∙◌, ap, subst, arith, length-append}
use Rattle.std.specs.Prelude.{Some}
use Rattle.std.proofs.lemmas.List.{take_all, take-append-le}
use Rattle.std.proofs.lemmas.Bool.{cases_lt}
use Rattle.disk_model.specs.Disk.{Torn, Only, AddsNoImage, AddsImages, Follows}
use Rattle.disk_model.specs.Images.{held_after, held_after_all, LeftAfter, LeftAfterAll, IsImage, WasImage}
use Rattle.disk_model.specs.Laws.{reads_as_image, counts_now_image}
use Rattle.disk_model.specs.declared.calls.Call.{Call}
use Rattle.disk_model.specs.declared.calls.Call.TheVariants.{Len, Read, Write, Sync}

pub held-push : (held : List ℕ) (calls : List Call) (call : Call) → held_after_all held (calls ++ call ∷ []) ≡ held_after (held_after_all held calls) call
held-push held [] call = refl
held-push held (first ∷ calls) call = held-push (held_after held first) calls call

left-push : (held : List ℕ) (left : List ℕ → Type 0) (calls : List Call) (call : Call) (c : List ℕ) → LeftAfterAll held left (calls ++ call ∷ []) c → LeftAfter (held_after_all held calls) (LeftAfterAll held left calls) call c
left-push held left [] call c is = is
left-push held left (first ∷ calls) call c is = left-push (held_after held first) (LeftAfter held left first) calls call c is

-- what a crash may leave once the call was made
pub image-push : (first : List ℕ) (calls later : List Call) (call : Call) → later ≡ calls ++ call ∷ [] → (c : List ℕ) → IsImage first later c → LeftAfter (held_after_all first calls) (IsImage first calls) call c
image-push first calls later call is c image = left-push first (λ d. d ≡ first) calls call c (subst (λ (l : List Call). IsImage first l c) is image)

module _ (first : List ℕ) (calls later : List Call) (call : Call) (is : later ≡ calls ++ call ∷ []) where
  long : length later ≡ length calls + 1
  long = ap length is ∙ length-append calls (call ∷ [])

  front : (k : ℕ) → k ≤ length calls → take k later ≡ take k calls
  front k le = ap (take k) is ∙ take-append-le k calls (call ∷ []) le

  -- an earlier image, or one of now
  pub past-push : (t : ℕ) (c : List ℕ) → WasImage first later t c → WasImage first calls t c ⊎ IsImage first later c
  past-push t c was = ⊎_elim here before (cases_lt (length calls) was.0)
    where
      here : length calls < was.0 → WasImage first calls t c ⊎ IsImage first later c
      here lt = inr (subst (λ (l : List Call). IsImage first l c) (take_all was.0 later (omega (arith, long))) was.3)

      before : was.0 ≤ length calls → WasImage first calls t c ⊎ IsImage first later c
      before le = inl (was.0, was.1, le, subst (λ (l : List Call). IsImage first l c) (front was.0 le) was.3)

  pub keeps-push : (t : ℕ) (c : List ℕ) → WasImage first calls t c → WasImage first later t c
  keeps-push t c was = (was.0, was.1, omega (arith, was.2, long), subst (λ (l : List Call). IsImage first l c) (sym (front was.0 was.2)) was.3)

  -- a call that leaves nothing else
  pub adds_none : ((c : List ℕ) → IsImage first later c → IsImage first calls c) → AddsNoImage {D = List Call} length (IsImage first) (WasImage first) calls later
  adds_none none = record {
    later = omega (arith, long);
    now = none;
    past = λ t c le was. ⊎_elim (λ before. before) (λ here. counts_now_image first calls t c le (none c here)) (past-push t c was);
    keeps = λ t c le was. keeps-push t c was;
  }

  pub adds_some : (step : List ℕ → List ℕ → Type 0) → Follows step (IsImage first calls) (IsImage first later) → AddsImages {D = List Call} length (IsImage first) (WasImage first) step calls later
  adds_some step follows = record {
    later = omega (arith, long);
    now = follows;
    past = λ t c le was. past-push t c was;
    keeps = λ t c le was. keeps-push t c was;
  }

pub adds_none_len : (first : List ℕ) (calls later : List Call) → later ≡ calls ++ Len ∷ [] → AddsNoImage {D = List Call} length (IsImage first) (WasImage first) calls later
adds_none_len first calls later is = adds_none first calls later Len is (image-push first calls later Len is)

pub adds_none_read : (first : List ℕ) (calls later : List Call) → later ≡ calls ++ Read ∷ [] → AddsNoImage {D = List Call} length (IsImage first) (WasImage first) calls later
adds_none_read first calls later is = adds_none first calls later Read is (image-push first calls later Read is)

pub adds_none_sync : (first : List ℕ) (calls later : List Call) → later ≡ calls ++ Sync ∷ [] → AddsNoImage {D = List Call} length (IsImage first) (WasImage first) calls later
adds_none_sync first calls later is =
    adds_none first calls later Sync is (λ c image. subst (IsImage first calls) (sym (image-push first calls later Sync is c image)) (reads_as_image first calls))

pub adds_write : (first : List ℕ) (calls later : List Call) (at : ℕ) (bytes : List ℕ) → later ≡ calls ++ Write at bytes ∷ [] → AddsImages {D = List Call} length (IsImage first) (WasImage first) (Torn at (length bytes)) calls later
adds_write first calls later at bytes is = adds_some first calls later (Write at bytes) is (Torn at (length bytes)) (image-push first calls later (Write at bytes) is)

-- nothing was kept
pub adds_nothing : (first : List ℕ) (calls later : List Call) → later ≡ calls → AddsNoImage {D = List Call} length (IsImage first) (WasImage first) calls later
adds_nothing first calls later is =
    let P = λ (l : List Call). AddsNoImage {D = List Call} length (IsImage first) (WasImage first) calls l in
    subst P (sym is) (record { later = omega arith; now = λ c image. image; past = λ t c le was. was; keeps = λ t c le was. was })

pub only_synced : (first : List ℕ) (calls later : List Call) → later ≡ calls ++ Sync ∷ [] → Only (Some (held_after_all first later)) (IsImage first later)
only_synced first calls later is c image =
    ap (λ (l : List ℕ). Some l) (ap (held_after_all first) is ∙ held-push first calls Sync ∙ sym (image-push first calls later Sync is c image))
