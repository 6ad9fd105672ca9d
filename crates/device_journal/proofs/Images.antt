-- What images stand for while a frame is written.
use Rattle.std.proofs.Common.{◌≡◌, inl, inr, ℕ, ◌+◌, ◌-◌, ◌≤◌, List, [], ◌∷◌, ◌++◌, length, take, drop, get_or, refl, sym, ◌∙◌, ap, subst, arith, append_assoc, length-append, length-drop, take-append-drop}
use Rattle.std.proofs.Math.Logic.{∥∥₁_elim}
use Rattle.std.proofs.Props.{props}
use Rattle.std.specs.Int.{w32, to_le_bytes}
use Rattle.std.proofs.lemmas.List.{take_at, drop_at, take_all, drop_more}
use Rattle.std.proofs.lemmas.Bool.{cases_eq}
use Rattle.disk_model.specs.Disk.{written, Torn}
use Rattle.device_journal.specs.Frames.{header, open_gate, limit, frame, chain, IsPayload, ArePayloads, HasFrames}
use Rattle.device_journal.specs.Sound.{EndsAt, HasEnd, framed, body_of, IsBeforeOrAfter}
use Rattle.device_journal.proofs.Chains.{length-le, length-frame, chain-push, fit-push, chain_none, chain_front, has_frames}

-- a torn write leaves what stands before it
torn_front : (front back c : List ℕ) (at n : ℕ) → length front ≡ at → Torn at n (front ++ back) c → c ≡ front ++ drop at c
torn_front front back c at n long torn =
    let same : take at (front ++ back) ≡ front = take_at front back at long in
    let begins : take (length front) c ≡ front = subst (λ (l : List ℕ). take (length l) c ≡ l) same torn.before in
    let kept : take at c ≡ front = ap (λ (k : ℕ). take k c) (sym long) ∙ begins in
    sym (take-append-drop at c) ∙ ap (λ (l : List ℕ). l ++ drop at c) kept

-- and what stands behind it, where it is within the old bytes
torn_back : (front mid back c : List ℕ) (at n : ℕ) → length front ≡ at → length mid ≡ n → Torn at n (front ++ mid ++ back) c → drop (at + n) c ≡ back
torn_back front mid back c at n long size torn =
    let old : length (front ++ mid ++ back) ≡ at + n + length back = omega (arith, long, size, length-append (front ++ mid) back, length-append front mid) in
    let same : drop (at + n) (front ++ mid ++ back) ≡ back = drop_at (front ++ mid) back (at + n) (omega (arith, long, size, length-append front mid)) in
    let begins : take (length back) (drop (at + n) c) ≡ back = subst (λ (l : List ℕ). take (length l) (drop (at + n) c) ≡ l) same torn.behind in
    let short : length (drop (at + n) c) ≤ length back = omega (arith, length-drop (at + n) c, old, torn.no_longer) in
    sym (take_all (length back) (drop (at + n) c) short) ∙ begins

module _ (image : List ℕ) (gate : ℕ) (payloads : List (List ℕ)) (ends : EndsAt image gate payloads) where
  front : List ℕ
  front = header ++ chain payloads

  long : length (header ++ chain payloads) ≡ gate
  long = omega (arith, ends.place, length-append header (chain payloads))

  -- the gate and what stands behind it
  split : image ≡ header ++ chain payloads ++ get_or image gate 0 ∷ drop (gate + 1) image
  split =
      sym (take-append-drop gate image) ∙ ap (λ (l : List ℕ). l ++ drop gate image) ends.front
      ∙ ap (λ (l : List ℕ). header ++ chain payloads ++ l) (drop_more image gate 0 ends.within)

  pub ends_has_frames : HasFrames image payloads
  ends_has_frames = has_frames image payloads (get_or image gate 0) (drop (gate + 1) image) ends.fit ends.small split ends.shut

  split_gate : image ≡ header ++ chain payloads ++ get_or image gate 0 ∷ [] ++ drop (gate + 1) image
  split_gate = split ∙ sym (append_assoc (header ++ chain payloads) (get_or image gate 0 ∷ []) (drop (gate + 1) image))

  long_gate : length (header ++ chain payloads ++ get_or image gate 0 ∷ []) ≡ gate + 1
  long_gate = omega (arith, long, length-append (header ++ chain payloads) (get_or image gate 0 ∷ []))

  -- while bytes are written behind the gate, it stays shut
  pub torn_behind : (n : ℕ) (c : List ℕ) → gate + 1 + n ≤ limit → Torn (gate + 1) n image c → HasFrames c payloads
  torn_behind n c fits torn =
      let torn' = subst (λ (l : List ℕ). Torn (gate + 1) n l c) split_gate torn in
      let is = torn_front (header ++ chain payloads ++ get_or image gate 0 ∷ []) (drop (gate + 1) image) c (gate + 1) n long_gate torn' in
      has_frames c payloads (get_or image gate 0) (drop (gate + 1) c) ends.fit (omega (arith, torn.no_longer, ends.small)) (is ∙ append_assoc (header ++ chain payloads) (get_or image gate 0 ∷ []) (drop (gate + 1) c)) ends.shut

  module _ (payload : List ℕ) (one : IsPayload payload) (fits : gate + 6 + length payload ≤ limit) where
    body : List ℕ
    body = body_of payload

    size : length (body_of payload) ≡ 5 + length payload
    size = omega (arith, length-append (to_le_bytes w32 (length payload) ++ payload) (0 ∷ []), length-append (to_le_bytes w32 (length payload)) payload, length-le (length payload))

    junk : List ℕ
    junk = drop (gate + 1 + length (body_of payload)) image

    is_staged : written (gate + 1) (body_of payload) image ≡ header ++ chain payloads ++ get_or image gate 0 ∷ (body_of payload ++ drop (gate + 1 + length (body_of payload)) image)
    is_staged =
        ap (λ (l : List ℕ). l ++ body_of payload ++ drop (gate + 1 + length (body_of payload)) image)
        (ap (take (gate + 1)) split_gate ∙ take_at (header ++ chain payloads ++ get_or image gate 0 ∷ []) (drop (gate + 1) image) (gate + 1) long_gate)
        ∙ append_assoc (header ++ chain payloads ++ get_or image gate 0 ∷ []) (body_of payload) (drop (gate + 1 + length (body_of payload)) image)
        ∙ append_assoc (header ++ chain payloads) (get_or image gate 0 ∷ []) (body_of payload ++ drop (gate + 1 + length (body_of payload)) image)

    -- behind an open gate the body is one frame more
    opened : (back : List ℕ) → header ++ chain payloads ++ open_gate ∷ (body_of payload ++ back) ≡ header ++ chain (payloads ++ payload ∷ []) ++ 0 ∷ back
    opened back =
        ap (λ (l : List ℕ). header ++ (chain payloads ++ open_gate ∷ (to_le_bytes w32 (length payload) ++ l))) (append_assoc payload (0 ∷ []) back)
        ∙ ap (λ (l : List ℕ). header ++ l) (sym (append_assoc (chain payloads) (frame payload) (0 ∷ back)) ∙ ap (λ (l : List ℕ). l ++ 0 ∷ back) (sym (chain-push payloads payload)))

    tail : List ℕ
    tail = body_of payload ++ drop (gate + 1 + length (body_of payload)) image

    long_staged : length (written (gate + 1) (body_of payload) image) ≡ gate + 6 + length payload + (length image - (gate + 6 + length payload))
    long_staged =
        omega (arith, ap length is_staged, long, size, length-append (header ++ chain payloads) (get_or image gate 0 ∷ (body_of payload ++ drop (gate + 1 + length (body_of payload)) image)), length-append (body_of payload) (drop (gate + 1 + length (body_of payload)) image), length-drop (gate + 1 + length (body_of payload)) image)

    -- while the gate is opened, the body stands whole behind it
    pub torn_gate : (c : List ℕ) → Torn gate 1 (written (gate + 1) (body_of payload) image) c → IsBeforeOrAfter payloads payload c
    torn_gate c torn = elim (cases_eq x open_gate) [
      | inl is_open ↦ inr (has_frames c (payloads ++ payload ∷ []) 0 (drop (gate + 1 + length (body_of payload)) image) (fit-push payloads payload ends.fit one) small (whole ∙ (λ i. header ++ chain payloads ++ is_open i ∷ behind) ∙ opened (drop (gate + 1 + length (body_of payload)) image)) (λ e. omega (arith, e)))
      | inr shut ↦ inl (has_frames c payloads x behind ends.fit small whole shut)
    ]
      where
        x : ℕ
        x = get_or c gate 0

        behind : List ℕ
        behind = body_of payload ++ drop (gate + 1 + length (body_of payload)) image

        is_front : c ≡ header ++ chain payloads ++ drop gate c
        is_front = torn_front (header ++ chain payloads) (get_or image gate 0 ∷ behind) c gate 1 long (subst (λ (l : List ℕ). Torn gate 1 l c) is_staged torn)

        is_back : drop (gate + 1) c ≡ behind
        is_back =
            torn_back (header ++ chain payloads) (get_or image gate 0 ∷ []) behind c gate 1 long refl
            (subst (λ (l : List ℕ). Torn gate 1 l c) (is_staged ∙ sym (append_assoc (header ++ chain payloads) (get_or image gate 0 ∷ []) behind)) torn)

        whole : c ≡ header ++ chain payloads ++ get_or c gate 0 ∷ behind
        whole =
            is_front ∙ ap (λ (l : List ℕ). header ++ chain payloads ++ l) (drop_more c gate 0 (omega (arith, torn.no_shorter, long_staged)) ∙ ap (λ (l : List ℕ). get_or c gate 0 ∷ l) is_back)

        small : length c ≤ limit
        small = omega (arith, torn.no_longer, long_staged, ends.small, fits)

    -- both writes done, the frame counts and a shut gate stands behind it
    pub framed_is : framed gate (body_of payload) image ≡ header ++ chain (payloads ++ payload ∷ []) ++ 0 ∷ drop (gate + 1 + length (body_of payload)) image
    framed_is =
        ap (λ (l : List ℕ). take gate l ++ open_gate ∷ [] ++ drop (gate + 1) l) is_staged
        ∙ ap (λ (l : List ℕ). l ++ open_gate ∷ [] ++ drop (gate + 1) (header ++ chain payloads ++ get_or image gate 0 ∷ (body_of payload ++ drop (gate + 1 + length (body_of payload)) image))) (take_at (header ++ chain payloads) (get_or image gate 0 ∷ (body_of payload ++ drop (gate + 1 + length (body_of payload)) image)) gate long)
        ∙ ap (λ (l : List ℕ). header ++ chain payloads ++ open_gate ∷ [] ++ l) (ap (drop (gate + 1)) (sym (append_assoc (header ++ chain payloads) (get_or image gate 0 ∷ []) (body_of payload ++ drop (gate + 1 + length (body_of payload)) image))) ∙ drop_at (header ++ chain payloads ++ get_or image gate 0 ∷ []) (body_of payload ++ drop (gate + 1 + length (body_of payload)) image) (gate + 1) long_gate)
        ∙ append_assoc (header ++ chain payloads) (open_gate ∷ []) (body_of payload ++ drop (gate + 1 + length (body_of payload)) image)
        ∙ opened (drop (gate + 1 + length (body_of payload)) image)

    pub framed_ends : EndsAt (framed gate (body_of payload) image) (gate + 5 + length payload) (payloads ++ payload ∷ [])
    framed_ends = record {
      fit = fit-push payloads payload ends.fit one;
      place = omega (arith, new_front);
      within = omega (arith, new_long, new_front);
      small = omega (arith, new_long, new_front, long_junk, size, ends.small, fits);
      front = ap (take (gate + 5 + length payload)) framed_is ∙ take_at (header ++ chain (payloads ++ payload ∷ [])) (0 ∷ drop (gate + 1 + length (body_of payload)) image) (gate + 5 + length payload) new_front;
      shut = λ e. omega (arith, e, is_shut);
    }
      where
        new_front : length (header ++ chain (payloads ++ payload ∷ [])) ≡ gate + 5 + length payload
        new_front =
            omega (arith, ends.place, length-append header (chain (payloads ++ payload ∷ [])), ap length (chain-push payloads payload), length-append (chain payloads) (frame payload), length-frame payload)

        new_long : length (framed gate (body_of payload) image) ≡ length (header ++ chain (payloads ++ payload ∷ [])) + 1 + length (drop (gate + 1 + length (body_of payload)) image)
        new_long = omega (arith, ap length framed_is, length-append (header ++ chain (payloads ++ payload ∷ [])) (0 ∷ drop (gate + 1 + length (body_of payload)) image))

        long_junk : length (drop (gate + 1 + length (body_of payload)) image) ≡ length image - (gate + 1 + length (body_of payload))
        long_junk = length-drop (gate + 1 + length (body_of payload)) image

        is_rest : drop (gate + 5 + length payload) (framed gate (body_of payload) image) ≡ 0 ∷ drop (gate + 1 + length (body_of payload)) image
        is_rest = ap (drop (gate + 5 + length payload)) framed_is ∙ drop_at (header ++ chain (payloads ++ payload ∷ [])) (0 ∷ drop (gate + 1 + length (body_of payload)) image) (gate + 5 + length payload) new_front

        is_shut : get_or (framed gate (body_of payload) image) (gate + 5 + length payload) 0 ≡ 0
        is_shut =
            ap (λ (l : List ℕ). get_or l 0 0) (sym (drop_more (framed gate (body_of payload) image) (gate + 5 + length payload) 0 (omega (arith, new_long, new_front))) ∙ is_rest)

-- an image stands for the frames that its end is behind, and for no others
pub ends_unique : (image : List ℕ) (gate : ℕ) (payloads others : List (List ℕ)) → HasFrames image payloads → EndsAt image gate others → payloads ≡ others
ends_unique image gate payloads others (inl none) ends =
    none.1 ∙ sym (chain_none others (omega (arith, none.0, ends.within, ends.place)))
ends_unique image gate payloads others (inr some) ends =
    let s = some.2 in
    chain_front payloads others s.gate (get_or image gate 0) s.rest (drop (gate + 1) image) s.fit ends.fit s.shut ends.shut (ap (drop 8) (sym s.spelled ∙ split image gate others ends))

ArePayloads-prop : (payloads : List (List ℕ)) → IsProp (ArePayloads payloads)
ArePayloads-prop [] = hlevel props
ArePayloads-prop (p ∷ payloads) = hlevel (props, ArePayloads-prop payloads)

pub EndsAt-prop : (image : List ℕ) (gate : ℕ) (payloads : List (List ℕ)) → IsProp (EndsAt image gate payloads)
EndsAt-prop image gate payloads = hlevel (props, ArePayloads-prop payloads)

-- where the frames are known, so is their end
pub ends_known : (image : List ℕ) (gate : ℕ) (payloads : List (List ℕ)) → HasFrames image payloads → ∥ HasEnd image gate ∥₁ → EndsAt image gate payloads
ends_known image gate payloads has some =
    ∥∥₁_elim some (EndsAt-prop image gate payloads) (λ e. subst (EndsAt image gate) (sym (ends_unique image gate payloads e.0 has e.1)) e.1)
