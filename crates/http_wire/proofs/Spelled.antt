-- Which address a text has, by the URI that it spells.
use Rattle.std.proofs.Common.{◌≡◌, ℕ, List, Option, None, Result, Ok, Err, IfOk, sym, subst}
use Rattle.http_uri.specs.Uri.{Spells, SpellsNone}
use Rattle.http_uri.specs.declared.uri.Uri.{Uri}
use Rattle.http_wire.specs.Addresses.{HasAddress}
use Rattle.http_wire.specs.Addresses.HasAddress.{of_uri, no_uri}
use Rattle.http_wire.specs.declared.address.Address.{Address}

pub has_address : {E : Type 0} (address_in : Uri → Option Address) (text bytes : List ℕ) (u : Uri) (found : Result (Option Address) E) → bytes ≡ text → Spells bytes u → IfOk found (λ a. a ≡ address_in u) → IfOk found (HasAddress address_in text)
has_address address_in text bytes u (Ok a) same spells is =
    subst (HasAddress address_in text) (sym is) (of_uri u (subst (λ t. Spells t u) same spells))
has_address address_in text bytes u (Err e) same spells is = is

pub has_none : (address_in : Uri → Option Address) (text bytes : List ℕ) → bytes ≡ text → SpellsNone bytes → HasAddress address_in text None
has_none address_in text bytes same none = no_uri (subst SpellsNone same none)
