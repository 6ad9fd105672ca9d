-- What a crash leaves while a journal is opened.
use Rattle.std.proofs.Common.{◌≡◌, inl, inr, ⊎_elim, ℕ, ◌≤◌, List, [], ◌++◌, length, refl, sym, ◌∙◌, ap, subst, arith}
use Rattle.std.specs.Prelude.{Option, Some, option_map}
use Rattle.std.proofs.lemmas.List.{drop_all, append-nil}
use Rattle.disk_model.specs.Disk.{written, Torn, Only, AddsImages, AddsNoImage}
use Rattle.device_journal.specs.Frames.{start, HasFrames}
use Rattle.device_journal.specs.Moments.{LeavesOnly, LeavesFrom, LeavesAsRead, synced, synced_at, IsAsRead}
use Rattle.device_journal.specs.Opened.{IsOpened}
use Rattle.device_journal.specs.Sound.{EndsAt}
use Rattle.device_journal.proofs.Calls.{begun, after_images, some_of_map}
use Rattle.device_journal.proofs.Images.{ends_has_frames}

module _ {D : Type 0} (clock : D → ℕ) (may : D → List ℕ → Type 0) (since : D → ℕ → List ℕ → Type 0) (content : D → Option (List ℕ)) where
  -- before the first call that is spoken of
  pub as_read : (old : D) → Only (content old) (may old) → ((c : List ℕ) → since old (clock old) c → may old c) → LeavesOnly clock since old old (IsAsRead (content old))
  as_read old only only_now = begun clock may since old (IsAsRead (content old)) (λ c left. (c, only c (only_now c left), inl refl))

  pub wrote_start : (old new : D) → Only (content old) (may old) → ((c : List ℕ) → since old (clock old) c → may old c) → ((image : List ℕ) → content old ≡ Some image → length image ≤ 9) → AddsImages clock may since (Torn 0 9) old new → LeavesOnly clock since old new (IsAsRead (content old))
  wrote_start old new only only_now short adds =
      after_images clock may since old old new (IsAsRead (content old)) (Torn 0 9) (as_read old only only_now) adds torn
    where
      torn : (c : List ℕ) → may new c → IsAsRead (content old) c
      torn c left =
          let from = adds.now c left in
          let le = short from.0 (only from.0 from.1) in
          (from.0, only from.0 from.1, inr (le, omega (arith, le, from.2.no_longer)))

  pub leaves_trans : (old mid new : D) (P : List ℕ → Type 0) → LeavesOnly clock since old mid P → LeavesOnly clock since mid new P → LeavesOnly clock since old new P
  leaves_trans old mid new P first second = record {
    later = omega (arith, first.later, second.later);
    each = λ c left. ⊎_elim (first.each c) (λ p. p) (second.before (clock old) c first.later left);
    before = λ t c le left. ⊎_elim (first.before t c le) (λ p. inr p) (second.before t c (omega (arith, le, first.later)) left);
  }

  -- from the sync on
  pub from_sync : (old mid new : D) (P : List ℕ → Type 0) → AddsNoImage clock may since old mid → LeavesOnly clock since mid new P → LeavesFrom clock since old new (clock mid) P
  from_sync old mid new P first leaves = record {
    begins = first.later;
    ends = leaves.later;
    each = leaves.each;
    before = λ u c le left. ⊎_elim (λ was. inl (first.past u c le was)) (λ p. inr p) (leaves.before u c (omega (arith, le, first.later)) left);
  }

module _ {D : Type 0} (clock : D → ℕ) (may : D → List ℕ → Type 0) (since : D → ℕ → List ℕ → Type 0) (content : D → Option (List ℕ)) (old mid : D) (sync : AddsNoImage clock may since old mid) (same : content mid ≡ content old) where
  -- what was done behind the first sync
  pub from_first : (new : D) (t : ℕ) → t ≡ clock mid → LeavesOnly clock since mid new (IsAsRead (content mid)) → LeavesFrom clock since old new t (IsAsRead (content old))
  from_first new t is leaves =
      let leaves' = subst (λ (o : Option (List ℕ)). LeavesOnly clock since mid new (IsAsRead o)) same leaves in
      subst (λ (k : ℕ). LeavesFrom clock since old new k (IsAsRead (content old))) (sym is) (from_sync clock may since content old mid new (IsAsRead (content old)) sync leaves')

  pub failed_after : (new : D) → clock mid ≡ synced_at clock old → LeavesOnly clock since mid new (IsAsRead (content mid)) → LeavesAsRead clock may since (content old) old new
  failed_after new next leaves = synced (from_first new (synced_at clock old) (sym next) leaves)

-- at most 9 bytes written over are the new ones alone
start_is : (image : List ℕ) → length image ≤ 9 → written 0 start image ≡ start
start_is image le = ap (λ (l : List ℕ). start ++ l) (drop_all 9 image le) ∙ append-nil start

start_ends : EndsAt start 8 []
start_ends = record { fit = tt; place = refl; within = omega arith; small = omega arith; front = refl; shut = λ e. omega (arith, e) }

-- a journal that was made
pub created : (old new : Option (List ℕ)) → ((image : List ℕ) → old ≡ Some image → length image ≤ 9) → new ≡ option_map (written 0 start) old → IsOpened old new [] 8
created old new short done = record {
  found = λ image is. inl (short image is, refl);
  stands = λ image is. subst (λ (l : List ℕ). HasFrames l []) (sym (new_is image is)) (ends_has_frames start 8 [] start_ends);
  ends = λ image is. ∣ ([], subst (λ (l : List ℕ). EndsAt l 8 []) (sym (new_is image is)) start_ends) ∣₁;
  size = refl;
  within = omega arith;
}
  where
    new_is : (image : List ℕ) → new ≡ Some image → image ≡ start
    new_is image is =
        let was = some_of_map (written 0 start) old image (sym done ∙ is) in
        sym was.2 ∙ start_is was.0 (short was.0 was.1)

-- a journal that was read
pub found : (old new : Option (List ℕ)) (bytes : List ℕ) (payloads : List (List ℕ)) (gate : ℕ) → new ≡ old → ((image : List ℕ) → old ≡ Some image → bytes ≡ image) → EndsAt bytes gate payloads → IsOpened old new payloads gate
found old new bytes payloads gate same read ends = record {
  found = has;
  stands = λ image is. has image (sym same ∙ is);
  ends = λ image is. ∣ (payloads, ends_at image (sym same ∙ is)) ∣₁;
  size = omega (arith, ends.place);
  within = omega (arith, ends.within, ends.small);
}
  where
    ends_at : (image : List ℕ) → old ≡ Some image → EndsAt image gate payloads
    ends_at image is = subst (λ (l : List ℕ). EndsAt l gate payloads) (read image is) ends

    has : (image : List ℕ) → old ≡ Some image → HasFrames image payloads
    has image is = ends_has_frames image gate payloads (ends_at image is)
