-- Proofs that a text spells a URI or none, and no definitions.
use Rattle.std.specs.Prelude.{◌≡◌, ◌≢◌, ◌⊎◌, ◌+◌, ◌-◌, ℕ, IfSome, ◌<◌, ◌≤◌, List, [], codes, length, take, drop, slice_index}
use Rattle.std.specs.Prelude.{Some, None, refl}
use Rattle.std.proofs.Common.{inl, inr, ap, sym, ◌∙◌, subst}
use Rattle.std.proofs.lemmas.Bool.{cases_eq}
use Rattle.http_uri.specs.declared.uri.Uri.{Uri}
use Rattle.http_uri.specs.ByteClasses.{is_authority_byte, is_path_byte, is_query_byte, is_scheme_byte, is_delimiter}
use Rattle.http_uri.specs.ByteClasses.{count_of, split_once_front, split_once_back}
use Rattle.http_uri.specs.Grammar.{IsScheme, MayFollow, IsAuthority, IsPathAndQuery, IsPathInput, StartsPath, IsTail}
use Rattle.http_uri.specs.Grammar.{AllPass, IsAbsoluteForm, StartsOrigin, IsOriginForm, HasScheme, scheme_len}
use Rattle.http_uri.specs.Grammar.{authority_len, normal_scheme, last_piece, without_fragment}
use Rattle.http_uri.specs.Uri.{Spells, SpellsNone}
use Rattle.http_uri.proofs.UriLemmas.{cut_name, cut_rest, cut_authority, cut_tail, cut_scheme, absolute_from_cuts}
use Rattle.http_uri.proofs.UriLemmas.{none_of}
use Rattle.wire_laws.specs.Decisions.{Decision, both, either, implies, never, less, at_most, is_true, same_text}
use Rattle.wire_laws.specs.Decisions.{all_pass, text_is_utf8, if_some, all_below}

-- ---- the parts of a URI

is_scheme : (text : List ℕ) → Decision (IsScheme text)
is_scheme text = both (all_pass is_scheme_byte text) (at_most (length text) 64)

may_follow : (front : List ℕ) (b : ℕ) → Decision (MayFollow front b)
may_follow front b =
    elim (both (is_true (is_authority_byte b)) (both colons (both opening closing))) [
      | inl x ↦ inl (record { byte = x.0; colons = x.1.0; opening = x.1.1.0; closing = x.1.1.1 })
      | inr none ↦ inr (λ (x : MayFollow front b). none (x.byte, (x.colons, (x.opening, x.closing))))
    ]
  where
    colons : Decision (b ≡ 58 → count_of 58 (last_piece front) < 8)
    colons = implies (cases_eq b 58) (less (count_of 58 (last_piece front)) 8)

    opening : Decision (b ≡ 91 → (count_of 91 front ≡ 0) × (count_of 37 (last_piece front) ≡ 0))
    opening = implies (cases_eq b 91) (both (cases_eq (count_of 91 front) 0) (cases_eq (count_of 37 (last_piece front)) 0))

    closing : Decision (b ≡ 93 → (0 < count_of 91 front) × (count_of 93 front ≡ 0))
    closing = implies (cases_eq b 93) (both (less 0 (count_of 91 front)) (cases_eq (count_of 93 front) 0))

is_authority : (text : List ℕ) → Decision (IsAuthority text)
is_authority text =
    elim (both nonempty (both bytes (both closed (both one_colon (both no_percent has_host))))) [
      | inl x ↦ inl (record {
        nonempty = x.0;
        bytes = x.1.0;
        closed = x.1.1.0;
        one_colon = x.1.1.1.0;
        no_percent = x.1.1.1.1.0;
        has_host = x.1.1.1.1.1;
      })
      | inr none ↦ inr (λ (x : IsAuthority text).
          none (x.nonempty, (x.bytes, (x.closed, (x.one_colon, (x.no_percent, x.has_host))))))
    ]
  where
    nonempty : Decision (0 < length text)
    nonempty = less 0 (length text)

    bytes : Decision ((i : ℕ) → i < length text → MayFollow (take i text) (slice_index text i))
    bytes =
        all_below (length text) (λ i. MayFollow (take i text) (slice_index text i))
        (λ i. may_follow (take i text) (slice_index text i))

    closed : Decision (count_of 91 text ≡ count_of 93 text)
    closed = cases_eq (count_of 91 text) (count_of 93 text)

    one_colon : Decision (count_of 58 (last_piece text) ≤ 1)
    one_colon = at_most (count_of 58 (last_piece text)) 1

    no_percent : Decision (count_of 37 (last_piece text) ≡ 0)
    no_percent = cases_eq (count_of 37 (last_piece text)) 0

    has_host : Decision (slice_index text (length text - 1) ≢ 64)
    has_host = never (cases_eq (slice_index text (length text - 1)) 64)

is_path_and_query : (text : List ℕ) → Decision (IsPathAndQuery text)
is_path_and_query text =
    elim (both start (both path (both query (both (text_is_utf8 text) (at_most (length text) 65534))))) [
      | inl x ↦ inl (record { start = x.0; path = x.1.0; query = x.1.1.0; utf8 = x.1.1.1.0; short = x.1.1.1.1 })
      | inr none ↦ inr (λ (x : IsPathAndQuery text). none (x.start, (x.path, (x.query, (x.utf8, x.short)))))
    ]
  where
    start : Decision ((text ≡ []) ⊎ ((text ≡ codes "*") ⊎ ((slice_index text 0 ≡ 47) ⊎ (slice_index text 0 ≡ 63))))
    start =
        either (same_text text []) (either (same_text text (codes "*"))
        (either (cases_eq (slice_index text 0) 47) (cases_eq (slice_index text 0) 63)))

    path : Decision (AllPass is_path_byte (split_once_front 63 text))
    path = all_pass is_path_byte (split_once_front 63 text)

    query : Decision (IfSome (split_once_back 63 text) (AllPass is_query_byte))
    query = if_some (AllPass is_query_byte) (split_once_back 63 text) (all_pass is_query_byte)

is_path_input : (text : List ℕ) → Decision (IsPathInput text)
is_path_input text =
    elim (both start (both (at_most (length text) 65534) (is_path_and_query (without_fragment text)))) [
      | inl x ↦ inl (record { start = x.0; short = x.1.0; kept = x.1.1 })
      | inr none ↦ inr (λ (x : IsPathInput text). none (x.start, (x.short, x.kept)))
    ]
  where
    start : Decision (StartsPath text)
    start = either (same_text text (codes "*")) (is_true (is_delimiter (slice_index text 0)))

-- what is kept of a tail
abbrev HasTail : List ℕ → Type 0
HasTail tail = (kept : List ℕ) × IsTail tail kept

has_tail : (tail : List ℕ) → Decision (HasTail tail)
has_tail tail = elim (same_text tail []) [
  | inl empty ↦ inl (codes "/", inl (empty, refl))
  | inr some ↦ elim (both (is_true (is_delimiter (slice_index tail 0))) (is_path_input tail)) [
    | inl x ↦ inl (without_fragment tail, inr (x.0, x.1, refl))
    | inr none ↦ inr (λ x. elim x.1 [ inl empty ↦ some empty.0 | inr path ↦ none (path.0, path.1) ])
  ]
]

-- ---- the forms

abbrev HasForm : List ℕ → Type 0
HasForm text = (scheme : List ℕ) × (authority : List ℕ) × (kept : List ℕ) × IsAbsoluteForm text scheme authority kept

abbrev behind_scheme : List ℕ → List ℕ
behind_scheme text = drop (scheme_len text + 3) text

abbrev authority_in : List ℕ → List ℕ
authority_in text = take (authority_len (behind_scheme text)) (behind_scheme text)

abbrev tail_in : List ℕ → List ℕ
tail_in text = drop (authority_len (behind_scheme text)) (behind_scheme text)

module _ (text scheme authority kept : List ℕ) (h : IsAbsoluteForm text scheme authority kept) where
  the_authority : authority_in text ≡ authority
  the_authority =
      ap (λ (rest : List ℕ). take (authority_len rest) rest) (cut_rest text scheme authority kept h)
      ∙ cut_authority text scheme authority kept h

  the_tail : tail_in text ≡ h.tail
  the_tail =
      ap (λ (rest : List ℕ). drop (authority_len rest) rest) (cut_rest text scheme authority kept h)
      ∙ cut_tail text scheme authority kept h

has_scheme : (text : List ℕ) → Decision (HasScheme text)
has_scheme text = both (less 3 (length text)) (same_text (take 3 (drop (scheme_len text) text)) (codes "://"))

absolute_form : (text : List ℕ) → Decision (HasForm text)
absolute_form text =
    elim (both (has_scheme text) (both (is_scheme (take (scheme_len text) text)) (both (is_authority (authority_in text)) (has_tail (tail_in text))))) [
      | inl x ↦ inl (
        normal_scheme (take (scheme_len text) text),
        authority_in text,
        x.1.1.1.0,
        absolute_from_cuts text (normal_scheme (take (scheme_len text) text)) (authority_in text) x.1.1.1.0
            (scheme_len text) (authority_len (behind_scheme text)) x.0 refl x.1.0 refl refl x.1.1.0 x.1.1.1.1,
      )
      | inr none ↦ inr (λ x. none (parts x.0 x.1 x.2 x.3))
    ]
  where
    parts : (s a k : List ℕ) → IsAbsoluteForm text s a k
        → HasScheme text × (IsScheme (take (scheme_len text) text) × (IsAuthority (authority_in text) × HasTail (tail_in text)))
    parts s a k h = (
      cut_scheme text s a k h,
      (
        subst IsScheme (sym (cut_name text s a k h)) h.is_scheme,
        (
          subst IsAuthority (sym (the_authority text s a k h)) h.is_authority,
          (k, subst (λ (t : List ℕ). IsTail t k) (sym (the_tail text s a k h)) h.is_tail),
        ),
      ),
    )

is_origin_form : (text : List ℕ) → Decision (IsOriginForm text)
is_origin_form text = both start (is_path_input text)
  where
    start : Decision (StartsOrigin text)
    start = either (same_text text (codes "*")) (cases_eq (slice_index text 0) 47)

-- ---- URIs

some_absurd : {A : Type 0} {x : A} → None ≡ Some x → ⊥
some_absurd e = absurd cc

uri_of_path : List ℕ → Uri
uri_of_path kept = record {
  scheme = None;
  authority = None;
  path_and_query = kept;
  absolute = λ x is. absurd (some_absurd is);
  authority_alone = λ _ x is. absurd (some_absurd is);
}

uri_of_authority : List ℕ → Uri
uri_of_authority authority = record {
  scheme = None;
  authority = Some authority;
  path_and_query = [];
  absolute = λ x is. absurd (some_absurd is);
  authority_alone = λ _ x is. refl;
}

uri_of_all : (scheme authority kept : List ℕ) → Uri
uri_of_all scheme authority kept = record {
  scheme = Some scheme;
  authority = Some authority;
  path_and_query = kept;
  absolute = λ x is. refl;
  authority_alone = λ is. absurd (some_absurd (sym is));
}

module _ (text : List ℕ) (short : length text ≤ 65534) where
  of_form : Decision (IsOriginForm text) → Decision (IsAuthority text × (text ≢ codes "*")) → Decision (HasForm text)
      → ((u : Uri) × Spells text u) ⊎ SpellsNone text
  unfolding uri_of_path uri_of_authority uri_of_all
  of_form (inl origin) alone absolute = inl (uri_of_path (without_fragment text), (short, (origin, refl)))
  of_form (inr no_origin) (inl alone) absolute = inl (uri_of_authority text, (short, (alone.0, alone.1, refl, refl)))
  of_form (inr no_origin) (inr not_alone) (inl x) = inl (uri_of_all x.0 x.1 x.2, (short, x.3))
  of_form (inr no_origin) (inr not_alone) (inr none) =
      inr (none_of text no_origin (λ authority star. not_alone (authority, star)) (λ s a k form. none (s, a, k, form)))

-- the text spells a URI, or none
pub spelled : (text : List ℕ) → ((u : Uri) × Spells text u) ⊎ SpellsNone text
spelled text = elim (at_most (length text) 65534) [
  | inl short ↦
      let alone = both (is_authority text) (never (same_text text (codes "*"))) in
      of_form text short (is_origin_form text) alone (absolute_form text)
  | inr long ↦ inr (λ scheme authority kept x. long x.0)
]
