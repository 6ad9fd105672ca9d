-- Heads of replies (RFC 9112, sections 2 to 5), as `httparse` reads them, with at most 64 fields. Heads with status
-- 100 to 199 are interim (RFC 9110, section 15.2): the final head is the first other one.
use Rattle.std.specs.Prelude.{◌≡◌, ℕ, ◌+◌, ◌<◌, ◌≤◌, Bool, ◌||◌, ◌==◌, nat_le, nat_lt, ◌&&◌, true, false, List}
use Rattle.std.specs.Prelude.{length, drop, map, count_by}
use Rattle.std.specs.List.{prefix_len}
use Rattle.httparse.specs.Grammar.{ResponseHead, ReadsResponse, HasNoResponse, NeverHasResponse, MayBecomeResponse}
use Rattle.httparse.specs.Grammar.{status_code}
use Rattle.httparse.specs.Spans.{name_and_value}
use Rattle.http_reply.specs.Fields.{Fields}
use Rattle.http_reply.specs.Reads.{Read, whole, short, bad}

abbrev pub most_fields : ℕ
most_fields = 64

-- a head of at most 64 fields stands at the front, and this is behind it
pub record HasHead (bytes : List ℕ) (head : ResponseHead) (rest : List ℕ) : Type 0 where
  pub reads : ReadsResponse bytes head rest
  pub few : length head.fields ≤ most_fields

abbrev pub is_line_byte : ℕ → Bool
is_line_byte b = (b == 13) || (b == 10)

-- how many lines are whole, but for the empty ones at the front
abbrev pub whole_lines : List ℕ → ℕ
whole_lines bytes = count_by (λ b. b == 10) (drop (prefix_len is_line_byte bytes) bytes)

-- what stands at the front: a head, the beginning of one, or neither, also once the line of a 65th field is whole
pub data ReadsHead : List ℕ → Read (ResponseHead × List ℕ) → Type 0 where
  is_whole : {bytes : List ℕ} (head : ResponseHead) (rest : List ℕ) → HasHead bytes head rest
      → ReadsHead bytes (whole (head, rest))
  is_short : {bytes : List ℕ} → HasNoResponse bytes → MayBecomeResponse bytes → whole_lines bytes ≤ most_fields + 1
      → ReadsHead bytes short
  never : {bytes : List ℕ} → NeverHasResponse bytes → ReadsHead bytes bad
  too_many : {bytes : List ℕ} → ((head : ResponseHead) (rest : List ℕ) → ¬ (HasHead bytes head rest))
      → most_fields + 1 < whole_lines bytes
      → ReadsHead bytes bad

abbrev pub is_interim : ResponseHead → Bool
is_interim head = nat_le 100 (status_code head) && nat_lt (status_code head) 200

abbrev pub fields_of : ResponseHead → Fields
fields_of head = map name_and_value head.fields

-- the final head, and what is behind it
pub data FindsHead : List ℕ → Read (ResponseHead × List ℕ) → Type 0 where
  final : {bytes : List ℕ} (head : ResponseHead) (rest : List ℕ) → HasHead bytes head rest → is_interim head ≡ false
      → FindsHead bytes (whole (head, rest))
  stays_short : {bytes : List ℕ} → ReadsHead bytes short → FindsHead bytes short
  stays_bad : {bytes : List ℕ} → ReadsHead bytes bad → FindsHead bytes bad
  interim : {bytes : List ℕ} {found : Read (ResponseHead × List ℕ)} (head : ResponseHead) (rest : List ℕ)
      → HasHead bytes head rest → is_interim head ≡ true
      → FindsHead rest found → FindsHead bytes found
