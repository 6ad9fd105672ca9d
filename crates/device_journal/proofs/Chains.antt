-- What frames one after the other spell.
use Rattle.std.proofs.Common.{◌≡◌, ◌≢◌, inl, inr, ⊎_elim, ℕ, ◌+◌, ◌<◌, ◌≤◌, List, [], ◌∷◌, ◌++◌, length, take, drop, get_or, refl, sym, ◌∙◌, ap, arith, append_assoc, length-append}
use Rattle.std.specs.Int.{w32, to_le_bytes, from_le_bytes}
use Rattle.std.proofs.lemmas.Nat.{from_le_bytes-to_le_bytes_4}
use Rattle.std.proofs.lemmas.List.{take_at, drop_at, append-nil}
use Rattle.std.proofs.lemmas.Bool.{cases_lt}
use Rattle.device_journal.specs.Frames.{header, open_gate, limit, frame, chain, IsPayload, ArePayloads, HasFrames}

pub length-le : (n : ℕ) → length (to_le_bytes w32 n) ≡ 4
length-le n = refl

pub length-frame : (payload : List ℕ) → length (frame payload) ≡ 5 + length payload
length-frame payload = omega (arith, length-append (to_le_bytes w32 (length payload)) payload, length-le (length payload))

pub chain-push : (payloads : List (List ℕ)) (payload : List ℕ) → chain (payloads ++ payload ∷ []) ≡ chain payloads ++ frame payload
chain-push [] payload = append-nil (frame payload)
chain-push (p ∷ payloads) payload = ap (λ (l : List ℕ). frame p ++ l) (chain-push payloads payload) ∙ sym (append_assoc (frame p) (chain payloads) (frame payload))

pub fit-push : (payloads : List (List ℕ)) (payload : List ℕ) → ArePayloads payloads → IsPayload payload → ArePayloads (payloads ++ payload ∷ [])
fit-push [] payload fit one = (one, tt)
fit-push (p ∷ payloads) payload fit one = (fit.0, fit-push payloads payload fit.1 one)

-- a chain of no bytes has no frame
pub chain_none : (payloads : List (List ℕ)) → length (chain payloads) ≡ 0 → payloads ≡ []
chain_none [] none = refl
chain_none (p ∷ payloads) none = absurd (omega (arith, length-append (frame p) (chain payloads), length-frame p))

-- a frame at the front is read in one way
pub frame_front : (p q back other : List ℕ) → IsPayload p → IsPayload q → frame p ++ back ≡ frame q ++ other → (p ≡ q) × (back ≡ other)
frame_front p q back other fit fit' is = (same, rest)
  where
    sizes : to_le_bytes w32 (length p) ++ (p ++ back) ≡ to_le_bytes w32 (length q) ++ (q ++ other)
    sizes =
        sym (append_assoc (to_le_bytes w32 (length p)) p back) ∙ ap (drop 1) is ∙ append_assoc (to_le_bytes w32 (length q)) q other

    four : to_le_bytes w32 (length p) ≡ to_le_bytes w32 (length q)
    four =
        sym (take_at (to_le_bytes w32 (length p)) (p ++ back) 4 (length-le (length p))) ∙ ap (take 4) sizes ∙ take_at (to_le_bytes w32 (length q)) (q ++ other) 4 (length-le (length q))

    long : length p ≡ length q
    long =
        sym (from_le_bytes-to_le_bytes_4 (length p) fit.1) ∙ ap (from_le_bytes w32) four ∙ from_le_bytes-to_le_bytes_4 (length q) fit'.1

    behind : p ++ back ≡ q ++ other
    behind =
        sym (drop_at (to_le_bytes w32 (length p)) (p ++ back) 4 (length-le (length p))) ∙ ap (drop 4) sizes ∙ drop_at (to_le_bytes w32 (length q)) (q ++ other) 4 (length-le (length q))

    same : p ≡ q
    same = sym (take_at p back (length p) refl) ∙ ap (take (length p)) behind ∙ take_at q other (length p) (sym long)

    rest : back ≡ other
    rest = sym (drop_at p back (length p) refl) ∙ ap (drop (length p)) behind ∙ drop_at q other (length p) (sym long)

-- frames up to a gate that isn't open are read in one way
pub chain_front : (ps qs : List (List ℕ)) (g h : ℕ) (back other : List ℕ) → ArePayloads ps → ArePayloads qs → g ≢ open_gate → h ≢ open_gate → chain ps ++ g ∷ back ≡ chain qs ++ h ∷ other → ps ≡ qs
chain_front [] [] g h back other fit fit' shut shut' is = refl
chain_front [] (q ∷ qs) g h back other fit fit' shut shut' is = absurd (shut (ap (λ (l : List ℕ). get_or l 0 0) is))
chain_front (p ∷ ps) [] g h back other fit fit' shut shut' is = absurd (shut' (sym (ap (λ (l : List ℕ). get_or l 0 0) is)))
chain_front (p ∷ ps) (q ∷ qs) g h back other fit fit' shut shut' is =
    let both = frame_front p q (chain ps ++ g ∷ back) (chain qs ++ h ∷ other) fit.0 fit'.0 (sym (append_assoc (frame p) (chain ps) (g ∷ back)) ∙ is ∙ append_assoc (frame q) (chain qs) (h ∷ other)) in
    (λ i. both.0 i ∷ chain_front ps qs g h back other fit.1 fit'.1 shut shut' both.1 i)

-- the header, frames and a gate that isn't open stand for the frames
pub has_frames : (c : List ℕ) (payloads : List (List ℕ)) (gate : ℕ) (rest : List ℕ) → ArePayloads payloads → length c ≤ limit → c ≡ header ++ chain payloads ++ gate ∷ rest → gate ≢ open_gate → HasFrames c payloads
has_frames c payloads gate rest fit small is shut = ⊎_elim long short (cases_lt 9 (length c))
  where
    size : length c ≡ 9 + length (chain payloads) + length rest
    size = omega (arith, ap length is, length-append (header ++ chain payloads) (gate ∷ rest), length-append header (chain payloads))

    long : 9 < length c → HasFrames c payloads
    long lt = inr (lt, small, record { fit = fit; gate = gate; shut = shut; rest = rest; spelled = is })

    short : length c ≤ 9 → HasFrames c payloads
    short le = inl (le, chain_none payloads (omega (arith, size)))
