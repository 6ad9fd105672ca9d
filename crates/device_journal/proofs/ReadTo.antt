-- How far an image was read.
use Rattle.std.proofs.Math.Seq.{take-append-add}
use Rattle.std.proofs.Common.{◌≡◌, ◌≢◌, ℕ, ◌+◌, ◌-◌, ◌<◌, ◌≤◌, List, [], ◌∷◌, ◌++◌, length, take, drop, get_or, refl, sym, ◌∙◌, ap, arith, append_assoc, length-append, length-drop, take-append-drop}
use Rattle.std.proofs.lemmas.List.{take_all, drop_more}
use Rattle.device_journal.specs.Frames.{header, open_gate, limit, frame, chain, IsPayload, ArePayloads, IsOffAt, no_frame, too_long, BeginsWithFrame}
use Rattle.device_journal.proofs.Chains.{length-frame, chain-push, fit-push}

-- the header and these frames stand before a place
pub record ReadTo (image : List ℕ) (gate : ℕ) (payloads : List (List ℕ)) : Type 0 where
  pub fit : ArePayloads payloads
  pub place : gate ≡ 8 + length (chain payloads)
  pub within : gate < length image
  pub front : take gate image ≡ header ++ chain payloads

module _ (image : List ℕ) (gate : ℕ) (payloads : List (List ℕ)) (read : ReadTo image gate payloads) where
  split : image ≡ header ++ chain payloads ++ get_or image gate 0 ∷ drop (gate + 1) image
  split =
      sym (take-append-drop gate image) ∙ ap (λ (l : List ℕ). l ++ drop gate image) read.front
      ∙ ap (λ (l : List ℕ). header ++ chain payloads ++ l) (drop_more image gate 0 read.within)

  -- the gate is open, and no frame begins there
  pub cut_off : get_or image gate 0 ≡ open_gate → (BeginsWithFrame (open_gate ∷ drop (gate + 1) image) → ⊥) → 9 < length image → IsOffAt image gate
  cut_off is_open cut long =
      no_frame long payloads (record { fit = read.fit; rest = drop (gate + 1) image; spelled = split ∙ ap (λ (x : ℕ). header ++ chain payloads ++ x ∷ drop (gate + 1) image) is_open; cut = cut }) read.place

  -- nothing is off but the length
  pub limit_off : get_or image gate 0 ≢ open_gate → limit < length image → IsOffAt image limit
  limit_off shut big = too_long big payloads (record { fit = read.fit; gate = get_or image gate 0; shut = shut; rest = drop (gate + 1) image; spelled = split }) refl

  -- one more frame
  pub read_more : (payload : List ℕ) → get_or image gate 0 ≡ open_gate → IsPayload payload → take (5 + length payload) (open_gate ∷ drop (gate + 1) image) ≡ frame payload → 5 + length payload ≤ length (drop (gate + 1) image) → ReadTo image (gate + (5 + length payload)) (payloads ++ payload ∷ [])
  read_more payload is_open one is room = record {
    fit = fit-push payloads payload read.fit one;
    place = omega (arith, read.place, ap length (chain-push payloads payload), length-append (chain payloads) (frame payload), length-frame payload);
    within = omega (arith, room, length-drop (gate + 1) image);
    front = ap (take (gate + (5 + length payload))) whole ∙ ap (λ (k : ℕ). take (k + (5 + length payload)) (header ++ chain payloads ++ (open_gate ∷ drop (gate + 1) image))) (sym long) ∙ take-append-add (header ++ chain payloads) (open_gate ∷ drop (gate + 1) image) (5 + length payload) ∙ ap (λ (l : List ℕ). header ++ chain payloads ++ l) is ∙ append_assoc header (chain payloads) (frame payload) ∙ ap (λ (l : List ℕ). header ++ l) (sym (chain-push payloads payload));
  }
    where
      long : length (header ++ chain payloads) ≡ gate
      long = omega (arith, read.place, length-append header (chain payloads))

      whole : image ≡ header ++ chain payloads ++ open_gate ∷ drop (gate + 1) image
      whole = split ∙ ap (λ (x : ℕ). header ++ chain payloads ++ x ∷ drop (gate + 1) image) is_open

-- the rest of a list, as a slice of it gives it
pub slice_rest : (image : List ℕ) (k : ℕ) → take (length image - k) (drop k image) ≡ drop k image
slice_rest image k = take_all (length image - k) (drop k image) (omega (arith, length-drop k image))
