-- A text has exactly one base, or none.
use Rattle.std.specs.Prelude.{◌≡◌, ◌⊎◌, ℕ, ◌||◌, ◌==◌, not, List, [], length, Option, None, option_map, is_some, refl}
use Rattle.std.specs.Prelude.{Result, Ok, Err, IfOk}
use Rattle.std.specs.Prelude.{if◌then◌else◌}
use Rattle.std.proofs.Common.{inl, inr, sym, ◌∙◌}
use Rattle.http_uri.specs.declared.uri.Uri.{Uri}
use Rattle.http_uri.specs.Grammar.{path_of, query_of}
use Rattle.http_uri.specs.Uri.{Spells, SpellsNone, uri_scheme, uri_authority, uri_data}
use Rattle.http_uri.proofs.Theorems.{Spells_unique}
use Rattle.http_wire.specs.Addresses.{HasAddress, base_of, http_authority, address_at, without_last_slash}
use Rattle.http_wire.specs.Addresses.HasAddress.{of_uri, no_uri}
use Rattle.http_wire.specs.declared.address.Address.{Address}
use Rattle.wire_laws.specs.UriForms.{spelled}
use Rattle.wire_laws.specs.Bases.{base_in}

abbrev path_by : Option (List ℕ) → List ℕ → List ℕ
path_by scheme kept = if not (length kept == 0) || is_some scheme then path_of kept else []

-- the base by the parts of a URI
abbrev base_by : Option (List ℕ) → Option (List ℕ) → List ℕ → Option Address
base_by scheme authority kept = if is_some (query_of kept) then None
    else option_map (address_at (without_last_slash (path_by scheme kept))) (http_authority scheme authority)

by_parts : (u : Uri) → base_of u ≡ base_by (uri_scheme u) (uri_authority u) (uri_data u)
by_parts u = refl

same_base : (text : List ℕ) (u v : Uri) → Spells text u → Spells text v → base_of u ≡ base_of v
same_base text u v one other =
    let same = Spells_unique text u v one other in
    by_parts u ∙ (λ i. base_by (same.0 i) (same.1 i) (same.2 i)) ∙ sym (by_parts v)

abbrev Spelling : List ℕ → Type 0
Spelling text = ((u : Uri) × Spells text u) ⊎ SpellsNone text

abbrev base_from : {text : List ℕ} → Spelling text → Option Address
base_from spelling = elim spelling [ inl uri ↦ base_of uri.0 | inr none ↦ None ]

has : (text : List ℕ) (spelling : Spelling text) → HasAddress base_of text (base_from spelling)
has text (inl x) = of_uri x.0 x.1
has text (inr none) = no_uri none

same : (text : List ℕ) (found : Option Address) (spelling : Spelling text) → HasAddress base_of text found
    → found ≡ base_from spelling
same text found (inl x) (of_uri u spells) = same_base text u x.0 spells x.1
same text found (inl x) (no_uri none) = absurd (none (uri_scheme x.0) (uri_authority x.0) (uri_data x.0) x.1)
same text found (inr none) (of_uri u spells) = absurd (none (uri_scheme u) (uri_authority u) (uri_data u) spells)
same text found (inr none) (no_uri too) = refl

-- the text has this base
pub has_base : (text : List ℕ) → HasAddress base_of text (base_in text)
unfolding base_in
has_base text = has text (spelled text)

-- it has no other
pub one_base : (text : List ℕ) (found : Option Address) → HasAddress base_of text found → found ≡ base_in text
unfolding base_in
one_base text found is = same text found (spelled text) is

pub told : {E : Type 0} (text : List ℕ) (r : Result (Option Address) E) → IfOk r (HasAddress base_of text)
    → IfOk r (λ found. found ≡ base_in text)
told text (Ok found) is = one_base text found is
told text (Err e) is = tt
