-- An image stands for one list of payloads, or is off, and not both.
use Rattle.std.proofs.Common.{◌+◌, length, refl, ◌≡◌, ◌≢◌, inl, inr, ℕ, List, [], ◌∷◌, ◌++◌, take, drop, get_or, sym, ◌∙◌, ap, arith, append_assoc}
use Rattle.device_journal.specs.Frames.{open_gate, frame, chain, IsPayload, ArePayloads, HasFrames, IsOffAt, no_header, no_frame, too_long, BeginsWithFrame}
use Rattle.device_journal.proofs.Chains.{frame_front, chain_front}

pub unique : (image : List ℕ) (payloads others : List (List ℕ)) → HasFrames image payloads → HasFrames image others → payloads ≡ others
unique image payloads others (inl a) (inl b) = a.1 ∙ sym b.1
unique image payloads others (inl a) (inr b) = absurd (omega (arith, a.0, b.0))
unique image payloads others (inr a) (inl b) = absurd (omega (arith, a.0, b.0))
unique image payloads others (inr a) (inr b) =
    chain_front payloads others a.2.gate b.2.gate a.2.rest b.2.rest a.2.fit b.2.fit a.2.shut b.2.shut (ap (drop 8) (sym a.2.spelled ∙ b.2.spelled))

-- a frame that another one or a gate stands behind
followed : (p : List ℕ) (payloads : List (List ℕ)) (g : ℕ) (back bytes : List ℕ) → IsPayload p → frame p ++ (chain payloads ++ g ∷ back) ≡ bytes → BeginsWithFrame bytes
followed p [] g back bytes one is = (p, back, g, one, sym is)
followed p (q ∷ payloads) g back bytes one is =
    (p, drop 1 (frame q) ++ chain payloads ++ g ∷ back, open_gate, one, sym is)

-- no list of frames goes past an open gate that begins none
no_cut : (ps qs : List (List ℕ)) (g : ℕ) (back other : List ℕ) → ArePayloads ps → ArePayloads qs → g ≢ open_gate → chain ps ++ g ∷ back ≡ chain qs ++ open_gate ∷ other → BeginsWithFrame (open_gate ∷ other)
no_cut [] [] g back other fit fit' shut is = absurd (shut (ap (λ (l : List ℕ). get_or l 0 0) is))
no_cut [] (q ∷ qs) g back other fit fit' shut is = absurd (shut (ap (λ (l : List ℕ). get_or l 0 0) is))
no_cut (p ∷ ps) [] g back other fit fit' shut is = followed p ps g back (open_gate ∷ other) fit.0 (sym (append_assoc (frame p) (chain ps) (g ∷ back)) ∙ is)
no_cut (p ∷ ps) (q ∷ qs) g back other fit fit' shut is =
    let both = frame_front p q (chain ps ++ g ∷ back) (chain qs ++ open_gate ∷ other) fit.0 fit'.0 (sym (append_assoc (frame p) (chain ps) (g ∷ back)) ∙ is ∙ append_assoc (frame q) (chain qs) (open_gate ∷ other)) in
    no_cut ps qs g back other fit.1 fit'.1 shut both.1

pub not_both : (image : List ℕ) (payloads : List (List ℕ)) (at : ℕ) → HasFrames image payloads → IsOffAt image at → ⊥
not_both image payloads at (inl a) (no_header long none is) = omega (arith, a.0, long)
not_both image payloads at (inl a) (no_frame long others cut is) = omega (arith, a.0, long)
not_both image payloads at (inl a) (too_long long others spelled is) = omega (arith, a.0, long)
not_both image payloads at (inr a) (no_header long none is) = none (ap (take 8) a.2.spelled)
not_both image payloads at (inr a) (no_frame long others cut is) =
    cut.cut (no_cut payloads others a.2.gate a.2.rest cut.rest a.2.fit cut.fit a.2.shut (ap (drop 8) (sym a.2.spelled ∙ cut.spelled)))
not_both image payloads at (inr a) (too_long long others spelled is) = omega (arith, a.1, long)

-- two cuts of the same bytes stand at one place
cut_once : (ps qs : List (List ℕ)) (back other : List ℕ) → ArePayloads ps → ArePayloads qs → (BeginsWithFrame (open_gate ∷ back) → ⊥) → (BeginsWithFrame (open_gate ∷ other) → ⊥) → chain ps ++ open_gate ∷ back ≡ chain qs ++ open_gate ∷ other → ps ≡ qs
cut_once [] [] back other fit fit' cut cut' is = refl
cut_once [] (q ∷ qs) back other fit fit' cut cut' is = absurd (cut (followed q qs open_gate other (open_gate ∷ back) fit'.0 (sym (append_assoc (frame q) (chain qs) (open_gate ∷ other)) ∙ sym is)))
cut_once (p ∷ ps) [] back other fit fit' cut cut' is = absurd (cut' (followed p ps open_gate back (open_gate ∷ other) fit.0 (sym (append_assoc (frame p) (chain ps) (open_gate ∷ back)) ∙ is)))
cut_once (p ∷ ps) (q ∷ qs) back other fit fit' cut cut' is =
    let both = frame_front p q (chain ps ++ open_gate ∷ back) (chain qs ++ open_gate ∷ other) fit.0 fit'.0 (sym (append_assoc (frame p) (chain ps) (open_gate ∷ back)) ∙ is ∙ append_assoc (frame q) (chain qs) (open_gate ∷ other)) in
    (λ i. both.0 i ∷ cut_once ps qs back other fit.1 fit'.1 cut cut' both.1 i)

-- an image is off at one place
pub off_once : (image : List ℕ) (a b : ℕ) → IsOffAt image a → IsOffAt image b → a ≡ b
off_once image a b (no_header long none is) (no_header long' none' is') = is ∙ sym is'
off_once image a b (no_header long none is) (no_frame long' others cut is') = absurd (none (ap (take 8) cut.spelled))
off_once image a b (no_header long none is) (too_long long' others spelled is') = absurd (none (ap (take 8) spelled.spelled))
off_once image a b (no_frame long payloads cut is) (no_header long' none is') = absurd (none (ap (take 8) cut.spelled))
off_once image a b (no_frame long payloads cut is) (no_frame long' others cut' is') =
    let same = cut_once payloads others cut.rest cut'.rest cut.fit cut'.fit cut.cut cut'.cut (ap (drop 8) (sym cut.spelled ∙ cut'.spelled)) in
    is ∙ ap (λ (l : List (List ℕ)). 8 + length (chain l)) same ∙ sym is'
off_once image a b (no_frame long payloads cut is) (too_long long' others spelled is') =
    absurd (cut.cut (no_cut others payloads spelled.gate spelled.rest cut.rest spelled.fit cut.fit spelled.shut (ap (drop 8) (sym spelled.spelled ∙ cut.spelled))))
off_once image a b (too_long long payloads spelled is) (no_header long' none is') = absurd (none (ap (take 8) spelled.spelled))
off_once image a b (too_long long payloads spelled is) (no_frame long' others cut is') =
    absurd (cut.cut (no_cut payloads others spelled.gate spelled.rest cut.rest spelled.fit cut.fit spelled.shut (ap (drop 8) (sym spelled.spelled ∙ cut.spelled))))
off_once image a b (too_long long payloads spelled is) (too_long long' others spelled' is') = is ∙ sym is'
