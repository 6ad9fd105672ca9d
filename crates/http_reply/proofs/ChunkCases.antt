-- One chunk with a size, by what is behind its data.
use Rattle.std.proofs.Common.{◌≡◌, ◌≢◌, ℕ, ◌+◌, ◌-◌, ◌<◌, ◌≤◌, List, [], ◌∷◌, ◌++◌, length, take, drop, sym, ap, subst, ◌∙◌, arith, length-drop}
use Rattle.std.specs.Prelude.{slice_range}
use Rattle.std.proofs.lemmas.List.{take-append-drop, drop-drop}
use Rattle.std.proofs.lemmas.List.{length-take-le}
use Rattle.httparse.specs.Ascii.{crlf_bytes}
use Rattle.http_reply.specs.Chunks.{HasSize, HasChunk, ReadsChunks, no_end, bad_end}
use Rattle.http_reply.specs.Reads.{short, bad}

pub nonempty_list : (b : ℕ) (bs : List ℕ) → b ∷ bs ≡ [] → ⊥
nonempty_list b bs e = cc

-- the data and what is behind it
sized_cut : (bytes rest : List ℕ) (size : ℕ) → size ≤ length rest → HasSize bytes size rest → HasSize bytes (length (take size rest)) (take size rest ++ drop size rest)
sized_cut bytes rest size fits sized =
    subst (λ (xs : List ℕ). HasSize bytes (length (take size rest)) xs) (sym (take-append-drop size rest))
    (subst (λ (n : ℕ). HasSize bytes n rest) (sym (length-take-le size rest fits)) sized)

module _ (bytes : List ℕ) (start size : ℕ) (within : start ≤ length bytes) (some : 0 < size) (fits : size ≤ length bytes - start)
    (sized : HasSize bytes size (drop start bytes)) where
  enough : size ≤ length (drop start bytes)
  enough = omega (arith, length-drop start bytes)

  nonempty : 0 < length (take size (drop start bytes))
  nonempty = omega (arith, length-take-le size (drop start bytes) enough)

  pub short_end : (more : List ℕ) → drop size (drop start bytes) ++ more ≡ crlf_bytes → more ≢ [] → ReadsChunks bytes short
  short_end more ends rest = no_end _ _ more (sized_cut bytes (drop start bytes) size enough sized) nonempty ends rest

  pub wrong_end : ((more rest : List ℕ) → drop size (drop start bytes) ++ more ≢ crlf_bytes ++ rest) → ReadsChunks bytes bad
  wrong_end never = bad_end _ _ (sized_cut bytes (drop start bytes) size enough sized) nonempty never

  pub has_chunk : drop size (drop start bytes) ≡ crlf_bytes ++ drop 2 (drop size (drop start bytes))
      → (0 < start + size + 2) × (start + size + 2 ≤ length bytes) × (start ≤ start + size) × (start + size ≤ length bytes)
      × HasChunk bytes (slice_range bytes start (start + size)) (drop (start + size + 2) bytes)
  has_chunk ends =
      let rest = drop start bytes in
      let all : start + size + 2 ≤ length bytes = omega (arith, ap length ends, length-drop size rest, length-drop start bytes) in
      let is : slice_range bytes start (start + size) ≡ take size rest = ap (λ (n : ℕ). take n rest) (let e : start + size - start ≡ size = omega arith in e) in
      let behind : drop 2 (drop size rest) ≡ drop (start + size + 2) bytes = ap (drop 2) (drop-drop size start bytes) ∙ drop-drop 2 (start + size) bytes in (
        omega arith,
        all,
        omega arith,
        omega arith,
        record {
          behind = rest;
          sized = subst (λ (xs : List ℕ). HasSize bytes (length xs) rest) (sym is) (subst (λ (n : ℕ). HasSize bytes n rest) (sym (length-take-le size rest enough)) sized);
          some = rw is nonempty;
          ends = sym (take-append-drop size rest) ∙ ap (λ (xs : List ℕ). take size rest ++ xs) (ends ∙ ap (λ (xs : List ℕ). crlf_bytes ++ xs) behind)
              ∙ ap (λ (xs : List ℕ). xs ++ (crlf_bytes ++ drop (start + size + 2) bytes)) (sym is);
        },
      )
