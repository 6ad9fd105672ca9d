-- An id is told by its text, and its number by its bytes.
use Rattle.std.proofs.Common.{◌≡◌, ℕ, ◌+◌, ◌*◌, ◌^◌, ◌<◌, zero, suc, List, Some, All, arith, ap, sym, ◌∙◌, inl, refl, unwrap_or, Option, []}
use Rattle.std.proofs.lemmas.List.Elements.{All-cons, All-nil}
use Rattle.std.specs.Int.{byte_at, bytes_high_first, from_be_bytes, to_be_bytes, w128}
use Rattle.uuid.specs.Text.{lower, parsed}
use Rattle.uuid.proofs.OrderLemmas.{from_be_bytes-to_be_bytes_16}
use Rattle.uuid.proofs.RoundTrips.{parses_hyphenated}
use Rattle.field_ids.specs.Ids.{id_number, id_of, text_of_id}

abbrev IsByte : ℕ → Type 0
IsByte b = b < 256

byte_small : (i n : ℕ) → IsByte (byte_at i n)
byte_small zero n = omega arith
byte_small (suc i) n = omega arith

high_first_small : (k n : ℕ) → All IsByte (bytes_high_first k n)
high_first_small zero n = All-nil IsByte
high_first_small (suc k) n = All-cons IsByte (byte_at k n) (bytes_high_first k n) (byte_small k n) (high_first_small k n)

-- a text of an id parses to the bytes of the id
text_parses : (n : ℕ) → Some (to_be_bytes w128 n) ≡ parsed (text_of_id (to_be_bytes w128 n))
text_parses n = parses_hyphenated lower (to_be_bytes w128 n) (inl refl) refl (high_first_small 16 n)

same_bytes : (m n : ℕ) → text_of_id (to_be_bytes w128 m) ≡ text_of_id (to_be_bytes w128 n) → to_be_bytes w128 m ≡ to_be_bytes w128 n
same_bytes m n same = ap (λ (o : Option (List ℕ)). unwrap_or o []) (text_parses m ∙ ap parsed same ∙ sym (text_parses n))

same_number : (m n : ℕ) → m < 2 ^ 128 → n < 2 ^ 128 → to_be_bytes w128 m ≡ to_be_bytes w128 n → m ≡ n
same_number m n small_m small_n same =
    sym (from_be_bytes-to_be_bytes_16 m small_m) ∙ ap (from_be_bytes w128) same ∙ from_be_bytes-to_be_bytes_16 n small_n

-- ids of one text have one device and one counter
pub same_draw : (a b c d : ℕ) → a < 2 ^ 48 → b < 2 ^ 62 → c < 2 ^ 48 → d < 2 ^ 62
    → text_of_id (id_of a b) ≡ text_of_id (id_of c d) → (c ≡ a) × (d ≡ b)
same_draw a b c d a_fits b_fits c_fits d_fits same =
    let number : id_number a b ≡ id_number c d =
    same_number (id_number a b) (id_number c d) (omega arith) (omega arith) (same_bytes (id_number a b) (id_number c d) same) in
    (omega arith, omega arith)
