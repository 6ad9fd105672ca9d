use Rattle.std.proofs.Common.{◌≡◌, List, ℕ, Result, Ok, Err, MatchResult, IsUtf8, sym, inl, inr, ◌∙◌}
use Rattle.std.specs.Result.{is_ok}
use Rattle.std.specs.Str.{is_utf8}
use Rattle.std.proofs.lemmas.Bool.{cases_Bool}
use Rattle.std.proofs.lemmas.Str.{IsUtf8-from_is_utf8, is_utf8-from_IsUtf8}
use Rattle.entity_lists.proofs.server_rows.is_text.Goals as goal

-- what tells apart texts from other bytes is the test for them
told : {T E : Type 0} (r : Result T E) (P : T → Type 0) (Q : E → Type 0) (bytes : List ℕ) → MatchResult r P Q
    → ((x : T) → P x → IsUtf8 bytes) → ((e : E) → Q e → IsUtf8 bytes → ⊥) → is_ok r ≡ is_utf8 bytes
told (Ok x) P Q bytes h good bad = sym (is_utf8-from_IsUtf8 bytes (good x h))
told (Err e) P Q bytes h good bad = elim (cases_Bool (is_utf8 bytes)) [
  | inl is ↦ absurd (bad e h (IsUtf8-from_is_utf8 bytes is))
  | inr is ↦ sym is
]

pub returns : goal.returns
returns c = c.is_ok.ensures.value ∙ told c.from_utf8.result _ _ c.args.bytes.now c.from_utf8.ensures.cases (λ x h. h.1) (λ e h. h.0)
