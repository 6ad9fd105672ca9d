-- Addresses of a server (RFC 9110, section 4.2.1; RFC 9112, section 3.2): the authority that is dialed, and the target
-- that is asked for. Texts are cut into the parts of a URI by `http_uri`, which has the scheme `http` in small letters.
use Rattle.std.specs.Prelude.{◌≡◌, ℕ, Bool, ◌&&◌, ◌||◌, ◌==◌, not, List, [], ◌∷◌, ◌++◌, codes, bytes_eq}
use Rattle.std.specs.Prelude.{slice_index, Option, Some, None, option_map, is_some, if◌then◌else◌}
use Rattle.std.specs.List.{list_any}
use Rattle.http_uri.specs.Uri.{Spells, SpellsNone, uri_scheme, uri_authority, uri_path, uri_query}
use Rattle.http_uri.specs.declared.uri.Uri.{Uri}
use Rattle.http_wire.specs.declared.address.Address.{Address}

-- the authority behind the scheme `http`, where it names no user
abbrev pub http_authority : Option (List ℕ) → Option (List ℕ) → Option (List ℕ)
http_authority None _ = None
http_authority (Some scheme) None = None
http_authority (Some scheme) (Some authority) =
    if bytes_eq scheme (codes "http") && not (list_any (λ b. b == 64) authority) then Some authority else None

abbrev pub address_at : List ℕ → List ℕ → Address
address_at target authority = record { authority = authority; target = target }

-- a path without one slash at its end
abbrev pub without_last_slash : List ℕ → List ℕ
without_last_slash [] = []
without_last_slash (b ∷ []) = if b == 47 then [] else b ∷ []
without_last_slash (b ∷ (c ∷ rest)) = b ∷ without_last_slash (c ∷ rest)

-- The base of a server's addresses: the form with a scheme, without a query. The target loses one slash at its end.
abbrev pub base_of : Uri → Option Address
base_of u = if is_some (uri_query u) then None
    else option_map (address_at (without_last_slash (uri_path u))) (http_authority (uri_scheme u) (uri_authority u))

-- a query with its question mark
abbrev pub query_text : Option (List ℕ) → List ℕ
query_text None = []
query_text (Some query) = codes "?" ++ query

abbrev pub target_of : Uri → List ℕ
target_of u = uri_path u ++ query_text (uri_query u)

-- The authority of an address that stands beside a base: its own, or the base's where it is a path alone.
abbrev pub authority_beside : List ℕ → Uri → Option (List ℕ)
authority_beside base u = if is_some (uri_scheme u) || is_some (uri_authority u)
    then http_authority (uri_scheme u) (uri_authority u)
    else (if slice_index (uri_path u) 0 == 47 then Some base else None)

abbrev pub address_beside : Address → Uri → Option Address
address_beside base u = option_map (address_at (target_of u)) (authority_beside base.authority u)

-- the text is a URI with this address, or with none; or it is no URI and has none
pub data HasAddress (address_in : Uri → Option Address) (text : List ℕ) : Option Address → Type 0 where
  of_uri : (u : Uri) → Spells text u → HasAddress address_in text (address_in u)
  no_uri : SpellsNone text → HasAddress address_in text None
