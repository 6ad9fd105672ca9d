-- Lines of heads and of trailers, counted by their line feeds.
use Rattle.std.proofs.Common.{◌≡◌, ℕ, suc, ◌+◌, ◌<◌, ◌≤◌, Bool, true, false, ◌==◌, List, [], ◌∷◌, ◌++◌, length, drop, count_by, if◌then◌else◌, refl, ap, ◌∙◌, arith, append-nil}
use Rattle.std.specs.List.{flat_map, prefix_len}
use Rattle.std.proofs.lemmas.List.Sums.{sum_by-append, sum_by-cons, count_by-le-length}
use Rattle.httparse.specs.Grammar.{LineEnd, crlf, lf, print_end, print_blank, Field, print_field, print_section, print_version, print_reason, ResponseHead, print_response}
use Rattle.httparse.specs.Spans.{ResponseExceeds, SectionExceeds}
use Rattle.httparse.proofs.GrammarLemmas.{print_response-append}
use Rattle.http_reply.specs.Heads.{is_line_byte, whole_lines}

pub split : {G : Type 0} (t : Bool) → (t ≡ true → G) → (t ≡ false → G) → G
split true yes_case no_case = yes_case refl
split false yes_case no_case = no_case refl

abbrev pub feeds : List ℕ → ℕ
feeds xs = count_by (λ b. b == 10) xs

pub feeds-append : (xs ys : List ℕ) → feeds (xs ++ ys) ≡ feeds xs + feeds ys
feeds-append xs ys = sum_by-append _ xs ys

-- ---- lines behind the empty ones at the front

lines-cons_blank : (b : ℕ) (xs : List ℕ) → is_line_byte b ≡ true → whole_lines (b ∷ xs) ≡ whole_lines xs
lines-cons_blank b xs blank = rw blank (ap (λ n. feeds (drop n (b ∷ xs))) (let e : 1 + prefix_len is_line_byte xs ≡ suc (prefix_len is_line_byte xs) = omega arith in e))

lines-cons_other : (b : ℕ) (xs : List ℕ) → is_line_byte b ≡ false → whole_lines (b ∷ xs) ≡ feeds (b ∷ xs)
lines-cons_other b xs other = rw other refl

lines_le_feeds : (xs : List ℕ) → whole_lines xs ≤ feeds xs
lines_le_feeds [] = omega arith
lines_le_feeds (b ∷ xs) =
    split (is_line_byte b)
    (λ blank. let e = lines-cons_blank b xs blank in let c = sum_by-cons (λ a. if a == 10 then 1 else 0) b xs in omega (arith, e, c, lines_le_feeds xs))
    (λ other. omega (arith, lines-cons_other b xs other))

lines_grow : (xs ys : List ℕ) → whole_lines xs ≤ whole_lines (xs ++ ys)
lines_grow [] ys = omega arith
lines_grow (b ∷ xs) ys =
    split (is_line_byte b)
    (λ blank. omega (arith, lines-cons_blank b xs blank, lines-cons_blank b (xs ++ ys) blank, lines_grow xs ys))
    (λ other. omega (arith, lines-cons_other b xs other, lines-cons_other b (xs ++ ys) other, feeds-append (b ∷ xs) ys))

lines_grow_by_feeds : (xs ys : List ℕ) → whole_lines (xs ++ ys) ≤ whole_lines xs + feeds ys
lines_grow_by_feeds [] ys = omega (arith, lines_le_feeds ys)
lines_grow_by_feeds (b ∷ xs) ys =
    split (is_line_byte b)
    (λ blank. omega (arith, lines-cons_blank b xs blank, lines-cons_blank b (xs ++ ys) blank, lines_grow_by_feeds xs ys))
    (λ other. omega (arith, lines-cons_other b xs other, lines-cons_other b (xs ++ ys) other, feeds-append (b ∷ xs) ys))

lines_behind_blank : (es : List LineEnd) (ys : List ℕ) → whole_lines (print_blank es ++ ys) ≡ whole_lines ys
lines_behind_blank [] ys = refl
lines_behind_blank (crlf ∷ es) ys =
    lines-cons_blank 13 (10 ∷ (print_blank es ++ ys)) refl ∙ lines-cons_blank 10 (print_blank es ++ ys) refl ∙ lines_behind_blank es ys
lines_behind_blank (lf ∷ es) ys = lines-cons_blank 10 (print_blank es ++ ys) refl ∙ lines_behind_blank es ys

-- ---- lines of a section and of a head

feeds_end : (e : LineEnd) → feeds (print_end e) ≡ 1
feeds_end crlf = refl
feeds_end lf = refl

feeds_field : (f : Field) → 1 ≤ feeds (print_field f)
feeds_field f = omega (arith, feeds-append (f.name ++ 58 ∷ f.raw) (print_end f.end), feeds_end f.end)

feeds_fields : (fs : List Field) → length fs ≤ feeds (flat_map print_field fs)
feeds_fields [] = omega arith
feeds_fields (f ∷ fs) = omega (arith, feeds-append (print_field f) (flat_map print_field fs), feeds_field f, feeds_fields fs)

feeds_section : (fs : List Field) (e : LineEnd) → length fs + 1 ≤ feeds (print_section fs e)
feeds_section fs e = omega (arith, feeds-append (flat_map print_field fs) (print_end e), feeds_fields fs, feeds_end e)

-- behind the empty lines, a head has a line more than its section
lines_head : (h : ResponseHead) → length h.fields + 2 ≤ whole_lines (print_response h ++ [])
lines_head h =
    let section = print_section h.fields h.last in
    let behind : List ℕ = print_end h.line_end ++ (section ++ []) in
    let line : List ℕ = 32 ∷ (h.digits ++ (print_reason h.reason ++ behind)) in
    let e = ap whole_lines (print_response-append h []) ∙ lines_behind_blank h.blank (print_version h.minor ++ line) in
    let f = lines-cons_other 72 (84 ∷ (84 ∷ (80 ∷ (47 ∷ (49 ∷ (46 ∷ ((48 + h.minor) ∷ line))))))) refl in
    let version : feeds (print_version h.minor ++ line) ≡ feeds (print_version h.minor) + feeds line = feeds-append (print_version h.minor) line in
    let a = feeds-append (32 ∷ h.digits) (print_reason h.reason ++ behind) in
    let b = feeds-append (print_reason h.reason) behind in
    let c = feeds-append (print_end h.line_end) (section ++ []) in
    let d = feeds-append section [] in
    omega (arith, e, f, version, a, b, c, d, feeds_end h.line_end, feeds_section h.fields h.last)

pub print_some : (h : ResponseHead) → 0 < length (print_response h)
print_some h = omega (arith, lines_head h, lines_le_feeds (print_response h ++ []), count_by-le-length (λ b. b == 10) (print_response h ++ []), ap length (append-nil (print_response h)))

pub exceeding_lines : (room : ℕ) (bytes : List ℕ) → ResponseExceeds room bytes → room + 1 < whole_lines bytes
exceeding_lines room bytes (front, rest, is, h, reads, many) =
    let last = lines_grow_by_feeds front (10 ∷ []) in
    let one : feeds (10 ∷ []) ≡ 1 = refl in
    let grown = lines_grow front rest in
    let whole = ap whole_lines is in
    let same = ap whole_lines reads.1 in
    omega (arith, last, one, grown, whole, same, lines_head h)

pub exceeding_feeds : (room : ℕ) (bytes : List ℕ) → SectionExceeds room bytes → room < feeds bytes
exceeding_feeds room bytes (front, rest, is, fields, reads, many) =
    let last = feeds-append front (10 ∷ []) in
    let one : feeds (10 ∷ []) ≡ 1 = refl in
    let whole = ap feeds is ∙ feeds-append front rest in
    let same = ap feeds reads.1 ∙ feeds-append (print_section fields lf) [] in
    omega (arith, last, one, whole, same, feeds_section fields lf)
