-- The base of a server's addresses as a function of its text.
use Rattle.std.specs.Prelude.{ℕ, List, Option, None}
use Rattle.std.proofs.Common.{inl, inr}
use Rattle.http_wire.specs.Addresses.{base_of}
use Rattle.http_wire.specs.declared.address.Address.{Address}
use Rattle.wire_laws.specs.UriForms.{spelled}

-- the base of the URI that the text spells; none where it spells none, or one without a base
unfoldable pub base_in : List ℕ → Option Address
base_in text = elim (spelled text) [ inl uri ↦ base_of uri.0 | inr none ↦ None ]
