-- From what the disk calls of an append leave to what it stands for.
use Rattle.std.proofs.Common.{◌≡◌, inl, inr, ⊎_elim, ℕ, ◌+◌, ◌≤◌, List, [], ◌∷◌, ◌++◌, length, sym, ◌∙◌, subst, arith, length-append}
use Rattle.std.specs.Prelude.{Option, Some, option_map, Result, Ok, Err, IfOk, OnOk, OnErr}
use Rattle.std.specs.Int.{w32, to_le_bytes}
use Rattle.std.proofs.Math.Logic.{∥∥₁_elim}
use Rattle.std.proofs.Props.{props}
use Rattle.device_journal.specs.Frames.{limit, HasFrames, IsPayload, Stands}
use Rattle.device_journal.specs.Moments.{LeavesOnly}
use Rattle.device_journal.specs.Sound.{HasEnd, EndsAt, framed, body_of, IsBetween, IsBeforeOrAfter}
use Rattle.device_journal.proofs.Calls.{some_of_map}
use Rattle.device_journal.proofs.Chains.{length-le}
use Rattle.device_journal.proofs.Images.{ends_known, ends_has_frames, torn_behind, torn_gate, framed_ends}

pub on_ok_map : {T E : Type 0} (r : Result T E) (P Q : Type 0) → (P → Q) → OnOk r P → OnOk r Q
on_ok_map (Ok x) P Q f p = f p
on_ok_map (Err e) P Q f p = tt

pub leaves_map : {D : Type 0} (clock : D → ℕ) (since : D → ℕ → List ℕ → Type 0) (old new : D) (P Q : List ℕ → Type 0) → ((c : List ℕ) → P c → Q c) → LeavesOnly clock since old new P → LeavesOnly clock since old new Q
leaves_map clock since old new P Q f leaves = record {
  later = leaves.later;
  each = λ c left. f c (leaves.each c left);
  before = λ t c le left. ⊎_elim (λ was. inl was) (λ p. inr (f c p)) (leaves.before t c le left);
}

module _ (content : Option (List ℕ)) (gate : ℕ) (payload : List ℕ) (one : IsPayload payload) (fits : gate + 6 + length payload ≤ limit) where
  long : length (body_of payload) ≡ 5 + length payload
  long = omega (arith, length-append (to_le_bytes w32 (length payload) ++ payload) (0 ∷ []), length-append (to_le_bytes w32 (length payload)) payload, length-le (length payload))

  module _ (ends : (image : List ℕ) → content ≡ Some image → ∥ HasEnd image gate ∥₁) where
    pub within_ends : (image : List ℕ) → content ≡ Some image → gate + 1 ≤ length image
    within_ends image is = ∥∥₁_elim (ends image is) (hlevel props) (λ e. omega (arith, e.1.within))

    pub ends_framed : (new : Option (List ℕ)) → new ≡ option_map (framed gate (body_of payload)) content → (image : List ℕ) → new ≡ Some image → ∥ HasEnd image (gate + 5 + length payload) ∥₁
    ends_framed new done image is =
        let was = some_of_map (framed gate (body_of payload)) content image (sym done ∙ is) in
        ∥∥₁_elim (ends was.0 was.1) (hlevel props) (λ e. ∣ (e.0 ++ payload ∷ [], subst (λ (l : List ℕ). EndsAt l (gate + 5 + length payload) (e.0 ++ payload ∷ [])) was.2 (framed_ends was.0 gate e.0 e.1 payload one fits)) ∣₁)

    module _ (payloads : List (List ℕ)) (stands : Stands content payloads) where
      known : (image : List ℕ) → content ≡ Some image → EndsAt image gate payloads
      known image is = ends_known image gate payloads (stands image is) (ends image is)

      pub between : (c : List ℕ) → IsBetween content gate (body_of payload) c → IsBeforeOrAfter payloads payload c
      between c b =
          let e = known b.0 b.1 in
          ⊎_elim (λ behind. inl (torn_behind b.0 gate payloads e (length (body_of payload)) c (omega (arith, long, fits)) behind)) (torn_gate b.0 gate payloads e payload one fits c) b.2

      pub stands_framed : (new : Option (List ℕ)) → new ≡ option_map (framed gate (body_of payload)) content → Stands new (payloads ++ payload ∷ [])
      stands_framed new done image is =
          let was = some_of_map (framed gate (body_of payload)) content image (sym done ∙ is) in
          subst (λ (l : List ℕ). HasFrames l (payloads ++ payload ∷ [])) was.2
          (ends_has_frames (framed gate (body_of payload) was.0) (gate + 5 + length payload) (payloads ++ payload ∷ []) (framed_ends was.0 gate payloads (known was.0 was.1) payload one fits))

pub if_ok_map : {T E : Type 0} (r : Result T E) (P Q : T → Type 0) → ((x : T) → P x → Q x) → IfOk r P → IfOk r Q
if_ok_map (Ok x) P Q f p = f x p
if_ok_map (Err e) P Q f p = tt

pub on_err_any : {T E : Type 0} (r : Result T E) (P : Type 0) → P → OnErr r P
on_err_any (Ok x) P p = tt
on_err_any (Err e) P p = p
