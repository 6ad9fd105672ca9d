-- Pieces of a value, one after another.
use Rattle.std.proofs.Common.{◌≡◌, ℕ, suc, ◌+◌, true, false, List, [], ◌∷◌, Option, Some, None, take, drop, refl, sym, ap, ◌∙◌}
use Rattle.std.proofs.Common.{arith}
use Rattle.std.specs.Option.{option_or}
use Rattle.std.proofs.lemmas.Bool.{eqb-true}
use Rattle.httparse.specs.Grammar.{trim_ows}
use Rattle.http_reply.proofs.LineCounts.{split}
use Rattle.submission_wire.specs.declared.parameters.Place.{Place}
use Rattle.submission_wire.specs.declared.parameters.Place.TheVariants.{Bare, Quoted, Escaped}
use Rattle.submission_wire.specs.Parameters.{place_behind, ends_piece, joined, pieces_from, first_piece, kind_of}
use Rattle.submission_wire.specs.Parameters.{behind_name, first_behind, parameter, piece_len, later}

bare_behind : (place : Place) (b : ℕ) → ends_piece place b ≡ true → place_behind place b ≡ Bare
bare_behind Bare b is = let e : b ≡ 59 = eqb-true b 59 is in rw e refl
bare_behind Quoted b is = absurd (let t : false ≡ true = is in cc)
bare_behind Escaped b is = absurd (let t : false ≡ true = is in cc)

-- the first piece ends at its length
pub pieces_cut : (place : Place) (bytes : List ℕ)
    → pieces_from place bytes ≡ take (piece_len place bytes) bytes ∷ later (drop (piece_len place bytes) bytes)
pieces_cut place [] = refl
pieces_cut place (b ∷ bytes) =
    split (ends_piece place b)
    (λ ends. rw ends (ap (λ p. [] ∷ pieces_from p bytes) (bare_behind place b ends)))
    (λ goes. rw goes (ap (joined false b) (pieces_cut (place_behind place b) bytes)))

pub kind_is : (value : List ℕ) → trim_ows (take (piece_len Bare value) value) ≡ kind_of value
unfolding kind_of
kind_is value = ap (λ ps. trim_ows (first_piece ps)) (sym (pieces_cut Bare value))

pub parameter_later : (name value : List ℕ)
    → parameter name value ≡ first_behind name (later (drop (piece_len Bare value) value))
unfolding parameter
parameter_later name value = ap (λ ps. first_behind name (drop 1 ps)) (pieces_cut Bare value)

pub later_step : (name rest : List ℕ) (b : ℕ) (others : List ℕ) → rest ≡ b ∷ others
    → first_behind name (later rest) ≡ option_or (behind_name name (trim_ows (take (piece_len Bare others) others)))
    (first_behind name (later (drop (piece_len Bare others) others)))
later_step name rest b others is = ap (λ r. first_behind name (later r)) is
    ∙ ap (first_behind name) (pieces_cut Bare others)

-- ---- one piece more

module _ (name rest : List ℕ) (b : ℕ) (others : List ℕ) (is : rest ≡ b ∷ others) (total : Option (List ℕ))
    (before : total ≡ first_behind name (later rest)) (len : ℕ) (len_is : len ≡ piece_len Bare others)
    (piece trimmed : List ℕ) (piece_is : piece ≡ take len others) (trimmed_is : trimmed ≡ trim_ows piece) where
  step : total ≡ option_or (behind_name name trimmed) (first_behind name (later (drop len others)))
  step =
      before ∙ later_step name rest b others is
      ∙ ap (λ n. option_or (behind_name name (trim_ows (take n others))) (first_behind name (later (drop n others))))
      (sym len_is)
      ∙ ap (λ p. option_or (behind_name name p) (first_behind name (later (drop len others))))
      (sym (trimmed_is ∙ ap trim_ows piece_is))

  pub found_here : (found : List ℕ) → Some found ≡ behind_name name trimmed → Some found ≡ total
  found_here found is_found =
      ap (λ o. option_or o (first_behind name (later (drop len others)))) is_found ∙ sym step

  pub not_here : None ≡ behind_name name trimmed → (behind : List ℕ) → behind ≡ drop len others
      → total ≡ first_behind name (later behind)
  not_here none behind behind_is =
      step ∙ ap (λ o. option_or o (first_behind name (later (drop len others)))) (sym none)
      ∙ ap (λ r. first_behind name (later r)) (sym behind_is)

-- ---- one byte more of the piece at the front

module _ (place : Place) (rest : List ℕ) (b : ℕ) (others : List ℕ) (is : rest ≡ b ∷ others) (total len : ℕ)
    (before : total ≡ len + piece_len place rest) where
  pub len_more : (next : Place) → false ≡ ends_piece place b → next ≡ place_behind place b
      → total ≡ len + 1 + piece_len next others
  len_more next goes next_is =
      let e : piece_len place rest ≡ suc (piece_len (place_behind place b) others) = ap (piece_len place) is
      ∙ rw (← goes) refl in
      rw next_is (omega arith)

  pub len_here : true ≡ ends_piece place b → len ≡ total
  len_here ends =
      let e : piece_len place rest ≡ 0 = ap (piece_len place) is ∙ rw (← ends) refl in
      omega arith
