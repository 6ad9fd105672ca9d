-- Words that are read byte by byte.
use Rattle.std.proofs.Common.{◌≡◌, ℕ, Bool, true, false, arith, cond, ◌&&◌, eqb, ltb, List, [], ◌∷◌, ◌++◌, length, get_or, refl, sym, ap, ◌∙◌, append_assoc, Option, Some, None}
use Rattle.std.specs.Prelude.{option_map, option_and_then}
use Rattle.std.specs.Str.{is_utf8}
use Rattle.std.proofs.lemmas.Bool.Decides.{nat_tests}
use Rattle.collect_text.specs.Lines.{in_front}
use Rattle.collect_text.specs.Words.{is_bare, unescaped, spelled, between, bare, quoted, escaped, closed, byte_then, end_then, all_utf8, texts_only, words_of, no_words, is_comment, is_skipped}
use Rattle.collect_text.specs.Parts.{word_then, ends_word}

-- bytes in front of the first word
abbrev pub all_in_front : List ℕ → List (List ℕ) → List (List ℕ)
all_in_front [] ws = ws
all_in_front (b ∷ bs) ws = in_front b (all_in_front bs ws)

abbrev pub bytes_then : List ℕ → Option (List (List ℕ)) → Option (List (List ℕ))
bytes_then bytes rest = option_map (all_in_front bytes) rest

abbrev pub words_then : List (List ℕ) → Option (List (List ℕ)) → Option (List (List ℕ))
words_then words rest = option_map (λ ws. words ++ ws) rest

all_in_front-push : (bs : List ℕ) (b : ℕ) (ws : List (List ℕ)) → all_in_front (bs ++ b ∷ []) ws ≡ all_in_front bs (in_front b ws)
all_in_front-push [] b ws = refl
all_in_front-push (a ∷ bs) b ws = ap (in_front a) (all_in_front-push bs b ws)

all_in_front-end : (bs : List ℕ) (ws : List (List ℕ)) → all_in_front bs ([] ∷ ws) ≡ bs ∷ ws
all_in_front-end [] ws = refl
all_in_front-end (b ∷ bs) ws = ap (in_front b) (all_in_front-end bs ws)

pub bytes_then-none : (rest : Option (List (List ℕ))) → rest ≡ bytes_then [] rest
bytes_then-none (Some ws) = refl
bytes_then-none None = refl

pub bytes_then-push : (bs : List ℕ) (b : ℕ) (rest : Option (List (List ℕ))) → bytes_then (bs ++ b ∷ []) rest ≡ bytes_then bs (byte_then b rest)
bytes_then-push bs b (Some ws) = ap (λ l. Some l) (all_in_front-push bs b ws)
bytes_then-push bs b None = refl

pub bytes_then-end : (bs : List ℕ) (rest : Option (List (List ℕ))) → bytes_then bs (end_then rest) ≡ word_then bs rest
bytes_then-end bs (Some ws) = ap (λ l. Some l) (all_in_front-end bs ws)
bytes_then-end bs None = refl

-- where a word may end
pub closed-end : (bs : List ℕ) → ends_word bs ≡ true → spelled closed bs ≡ end_then (spelled between bs)
closed-end [] ends = refl
closed-end (b ∷ bs) ends = rw ends refl

pub closed-stop : (bs : List ℕ) → ends_word bs ≡ false → spelled closed bs ≡ None
closed-stop [] ends = cc
closed-stop (b ∷ bs) ends = rw ends refl

pub words_then-none : (rest : Option (List (List ℕ))) → rest ≡ words_then [] rest
words_then-none (Some ws) = refl
words_then-none None = refl

pub words_then-push : (ws : List (List ℕ)) (w : List ℕ) (rest : Option (List (List ℕ))) → words_then (ws ++ w ∷ []) rest ≡ words_then ws (word_then w rest)
words_then-push ws w (Some more) = ap (λ l. Some l) (append_assoc ws (w ∷ []) more)
words_then-push ws w None = refl

checked : Bool → List ℕ → List (List ℕ) → Option (List (List ℕ))
checked good w ws = cond good (Some (w ∷ ws)) None

-- each word is a text by itself
pub texts_only-word : (w : List ℕ) (rest : Option (List (List ℕ))) → is_utf8 w ≡ true → option_and_then texts_only (word_then w rest) ≡ word_then w (option_and_then texts_only rest)
texts_only-word w (Some ws) good =
    rw good (elim (all_utf8 ws) as (λ t. cond (true && t) (Some (w ∷ ws)) None ≡ word_then w (cond t (Some ws) None)) [ true ↦ refl | false ↦ refl ])
texts_only-word w None good = refl

pub texts_only-stop : (w : List ℕ) (rest : Option (List (List ℕ))) → is_utf8 w ≡ false → option_and_then texts_only (word_then w rest) ≡ None
texts_only-stop w (Some ws) bad = rw bad refl
texts_only-stop w None bad = refl

-- a byte more has been read, and a word has been read
pub byte_read : (whole : Option (List (List ℕ))) (word longer : List ℕ) (b : ℕ) (here behind : Option (List (List ℕ))) → whole ≡ bytes_then word here → here ≡ byte_then b behind → longer ≡ word ++ b ∷ [] → whole ≡ bytes_then longer behind
byte_read whole word longer b here behind so_far step pushed =
    so_far ∙ ap (bytes_then word) step ∙ sym (bytes_then-push word b behind) ∙ sym (ap (λ w. bytes_then w behind) pushed)

pub word_read : (whole : Option (List (List ℕ))) (word : List ℕ) (here behind : Option (List (List ℕ))) → whole ≡ bytes_then word here → here ≡ end_then behind → whole ≡ word_then word behind
word_read whole word here behind so_far end = so_far ∙ ap (bytes_then word) end ∙ bytes_then-end word behind

-- the next byte of a bare word
pub bare-space : (rest behind : List ℕ) (b : ℕ) → rest ≡ b ∷ behind → b ≡ 32 → spelled bare rest ≡ end_then (spelled between rest)
bare-space rest behind b cut is = rw (cut, is) refl

pub bare-byte : (rest behind : List ℕ) (b : ℕ) → rest ≡ b ∷ behind → (b ≡ 32 → ⊥) → is_bare b ≡ true → spelled bare rest ≡ byte_then b (spelled bare behind)
bare-byte rest behind b cut apart good =
    let t : eqb b 32 ≡ false = grind (arith, nat_tests) in
    rw (cut, t, good) refl

pub quoted-close : (rest behind : List ℕ) (b : ℕ) → rest ≡ b ∷ behind → b ≡ 34 → ends_word behind ≡ true → spelled quoted rest ≡ end_then (spelled between behind)
quoted-close rest behind b cut is ends = rw (cut, is) (closed-end behind ends)

pub bare-none : (rest : List ℕ) → length rest ≡ 0 → spelled bare rest ≡ end_then (spelled between rest)
bare-none [] none = refl
bare-none (b ∷ bs) none = absurd (omega arith)

-- a word more has been read
pub text_read : (line rest behind next : List ℕ) (words longer : List (List ℕ)) (w text : List ℕ) → words_of line ≡ words_then words (words_of rest) → spelled between rest ≡ word_then w (spelled between behind) → is_utf8 w ≡ true → text ≡ w → longer ≡ words ++ text ∷ [] → spelled between next ≡ spelled between behind → words_of line ≡ words_then longer (words_of next)
text_read line rest behind next words longer w text so_far found good same pushed spaces =
    so_far
    ∙ ap (λ o. words_then words (option_and_then texts_only o)) found
    ∙ ap (words_then words) (texts_only-word w (spelled between behind) good)
    ∙ sym (words_then-push words w (words_of behind))
    ∙ ap (λ t. words_then (words ++ t ∷ []) (words_of behind)) (sym same)
    ∙ ap (λ l. words_then l (words_of behind)) (sym pushed)
    ∙ ap (λ o. words_then longer (option_and_then texts_only o)) (sym spaces)

-- these words, if there are any words at all, have a first one
abbrev HasWord : Option (List (List ℕ)) → Type 0
HasWord None = Unit {0}
HasWord (Some []) = ⊥
HasWord (Some (w ∷ ws)) = Unit {0}

has_word-cond : (t : Bool) (x y : Option (List (List ℕ))) → HasWord x → HasWord y → HasWord (cond t x y)
has_word-cond true x y hx hy = hx
has_word-cond false x y hx hy = hy

has_word-byte : (b : ℕ) (rest : Option (List (List ℕ))) → HasWord (byte_then b rest)
has_word-byte b None = tt
has_word-byte b (Some []) = tt
has_word-byte b (Some (w ∷ ws)) = tt

has_word-end : (rest : Option (List (List ℕ))) → HasWord (end_then rest)
has_word-end None = tt
has_word-end (Some ws) = tt

has_word-closed : (bs : List ℕ) → HasWord (spelled closed bs)
has_word-closed [] = tt
has_word-closed (b ∷ bs) = has_word-cond (eqb b 32) _ None (has_word-end (spelled between bs)) tt

has_word-meant : (meant : Option ℕ) (rest : Option (List (List ℕ))) → HasWord (option_and_then (λ b. byte_then b rest) meant)
has_word-meant None rest = tt
has_word-meant (Some b) rest = has_word-byte b rest

has_word-escaped : (bs : List ℕ) → HasWord (spelled escaped bs)
has_word-escaped [] = tt
has_word-escaped (b ∷ bs) = has_word-meant (unescaped b) (spelled quoted bs)

has_word-quoted : (bs : List ℕ) → HasWord (spelled quoted bs)
has_word-quoted [] = tt
has_word-quoted (b ∷ bs) =
    has_word-cond (eqb b 34) _ _ (has_word-closed bs)
    (has_word-cond (eqb b 92) _ _ (has_word-escaped bs) (has_word-cond (ltb b 32) None _ tt (has_word-byte b (spelled quoted bs))))

no_words-checked : (words : Option (List (List ℕ))) → HasWord words → no_words (option_and_then texts_only words) ≡ false
no_words-checked None has = refl
no_words-checked (Some []) has = absurd has
no_words-checked (Some (w ∷ ws)) has =
    elim (all_utf8 (w ∷ ws)) as (λ t. no_words (cond t (Some (w ∷ ws)) None) ≡ false) [ true ↦ refl | false ↦ refl ]

-- where the first byte behind the spaces is known, so is whether there are words
pub no_words-rest : (rest : List ℕ) → (get_or rest 0 0 ≡ 32 → ⊥) → no_words (words_of rest) ≡ eqb (length rest) 0
no_words-rest [] apart = refl
no_words-rest (b ∷ bs) apart =
    let t : eqb b 32 ≡ false = grind (arith, nat_tests) in
    let some : eqb (length (b ∷ bs)) 0 ≡ false = grind (arith, nat_tests) in
    rw (some, t)
    (no_words-checked _
    (has_word-cond (eqb b 34) _ _ (has_word-quoted bs) (has_word-cond (is_bare b) _ None (has_word-byte b (spelled bare bs)) tt)))

pub skipped-rest : (line rest : List ℕ) → false ≡ is_comment line → spelled between rest ≡ spelled between line → (get_or rest 0 0 ≡ 32 → ⊥) → eqb (length rest) 0 ≡ is_skipped line
skipped-rest line rest plain same apart =
    rw (← plain) (sym (no_words-rest rest apart) ∙ ap (λ o. no_words (option_and_then texts_only o)) same)
