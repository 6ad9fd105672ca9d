-- A text is a blob that is UTF-8.
use Rattle.std.proofs.Common.{◌≡◌, ℕ, Bool, true, false, List, length, Ok, Err, refl, sym, subst}
use Rattle.std.specs.Str.{IsUtf8, is_utf8, IsValidUpTo}
use Rattle.std.proofs.lemmas.Str.{is_utf8-from_IsUtf8, IsUtf8-from_is_utf8}
use Rattle.std.proofs.Math.Seq.{take-length}
use Rattle.entry_codec.specs.Reading.{blob_at, text_at}

false_from_not : (b : Bool) → ¬ (b ≡ true) → b ≡ false
false_from_not true h = absurd (h refl)
false_from_not false h = refl

pub text_reads : (bytes text rest : List ℕ) → blob_at bytes ≡ Ok (text, rest) → IsUtf8 text → text_at bytes ≡ Ok (text, rest)
unfolding text_at
text_reads bytes text rest e utf8 = rw (e, is_utf8-from_IsUtf8 text utf8) refl

pub text_stops : (bytes text rest : List ℕ) → blob_at bytes ≡ Ok (text, rest) → ¬ (IsUtf8 text) → text_at bytes ≡ Err (length bytes)
unfolding text_at
text_stops bytes text rest e not_utf8 =
    let no : is_utf8 text ≡ false = false_from_not (is_utf8 text) (λ is. not_utf8 (IsUtf8-from_is_utf8 text is)) in
    rw (e, no) refl

-- bytes whose longest front of characters is shorter are none
pub not_utf8_from_valid_up_to : (bytes : List ℕ) (n : ℕ) → IsValidUpTo bytes n → ¬ (IsUtf8 bytes)
not_utf8_from_valid_up_to bytes n valid utf8 = valid.longest (length bytes) valid.short (subst IsUtf8 (sym (take-length bytes)) utf8)
