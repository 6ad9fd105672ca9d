-- The server that is meant where none is given has a base.
use Rattle.std.proofs.Common.{◌≡◌, ◌≢◌, inl, ℕ, zero, suc, ◌<◌, List, [], true, Some, None, refl, arith, sym, ap, take}
use Rattle.std.specs.Prelude.{codes, is_some, slice_index, length, IsTrue}
use Rattle.std.proofs.lemmas.List.Sums.{AllPass-from_list_all}
use Rattle.http_uri.specs.ByteClasses.{is_authority_byte, is_scheme_byte, colon, left_bracket, right_bracket}
use Rattle.http_uri.specs.declared.uri.Uri.{Uri}
use Rattle.http_uri.specs.Grammar.{IsAuthority, MayFollow}
use Rattle.http_uri.specs.Uri.{Spells}
use Rattle.http_wire.specs.Addresses.{base_of}
use Rattle.http_wire.specs.Addresses.HasAddress.{of_uri}
use Rattle.device_rules.specs.Opened.{is_server}
use Rattle.wire_laws.specs.Bases.{base_in}
use Rattle.wire_laws.proofs.BaseLaws.{one_base}

abbrev text : List ℕ
text = codes "http://localhost:8080"

abbrev host : List ℕ
host = codes "localhost:8080"

has_scheme : Some (codes "http") ≡ None → ⊥
has_scheme is = cc is

abbrev uri : Uri
uri = record {
  scheme = Some (codes "http");
  authority = Some host;
  path_and_query = codes "/";
  absolute = λ scheme is. refl;
  authority_alone = λ is. absurd (has_scheme is);
}

-- a byte that is no sign of its own
letter : (front : List ℕ) (b : ℕ) → IsTrue (is_authority_byte b) → b ≢ colon → b ≢ left_bracket → b ≢ right_bracket
    → MayFollow front b
letter front b byte no_colon no_left no_right = record {
  byte = byte;
  colons = λ is. absurd (no_colon is);
  opening = λ is. absurd (no_left is);
  closing = λ is. absurd (no_right is);
}

bytes_follow : (i : ℕ) → i < length host → MayFollow (take i host) (slice_index host i)
bytes_follow zero less = letter _ 108 refl (omega arith) (omega arith) (omega arith)
bytes_follow (suc zero) less = letter _ 111 refl (omega arith) (omega arith) (omega arith)
bytes_follow (suc (suc zero)) less = letter _ 99 refl (omega arith) (omega arith) (omega arith)
bytes_follow (suc (suc (suc zero))) less = letter _ 97 refl (omega arith) (omega arith) (omega arith)
bytes_follow (suc (suc (suc (suc zero)))) less = letter _ 108 refl (omega arith) (omega arith) (omega arith)
bytes_follow (suc (suc (suc (suc (suc zero))))) less = letter _ 104 refl (omega arith) (omega arith) (omega arith)
bytes_follow (suc (suc (suc (suc (suc (suc zero)))))) less = letter _ 111 refl (omega arith) (omega arith) (omega arith)
bytes_follow (suc (suc (suc (suc (suc (suc (suc zero))))))) less = letter _ 115 refl (omega arith) (omega arith) (omega arith)
bytes_follow (suc (suc (suc (suc (suc (suc (suc (suc zero)))))))) less = letter _ 116 refl (omega arith) (omega arith) (omega arith)
bytes_follow (suc (suc (suc (suc (suc (suc (suc (suc (suc zero))))))))) less = record {
  byte = refl;
  colons = λ is. omega arith;
  opening = λ is. absurd (omega (arith, is));
  closing = λ is. absurd (omega (arith, is));
}
bytes_follow (suc (suc (suc (suc (suc (suc (suc (suc (suc (suc zero)))))))))) less = letter _ 56 refl (omega arith) (omega arith) (omega arith)
bytes_follow (suc (suc (suc (suc (suc (suc (suc (suc (suc (suc (suc zero))))))))))) less = letter _ 48 refl (omega arith) (omega arith) (omega arith)
bytes_follow (suc (suc (suc (suc (suc (suc (suc (suc (suc (suc (suc (suc zero)))))))))))) less = letter _ 56 refl (omega arith) (omega arith) (omega arith)
bytes_follow (suc (suc (suc (suc (suc (suc (suc (suc (suc (suc (suc (suc (suc zero))))))))))))) less = letter _ 48 refl (omega arith) (omega arith) (omega arith)
bytes_follow (suc (suc (suc (suc (suc (suc (suc (suc (suc (suc (suc (suc (suc (suc n)))))))))))))) less = absurd (omega (arith, less))

is_authority : IsAuthority host
is_authority = record {
  nonempty = omega arith;
  bytes = bytes_follow;
  closed = refl;
  one_colon = omega arith;
  no_percent = refl;
  has_host = λ e. omega (arith, e);
}

spells : Spells text uri
spells = (
  omega arith,
  record {
    name = codes "http";
    tail = [];
    spelled = refl;
    is_scheme = (AllPass-from_list_all is_scheme_byte (codes "http") refl, omega arith);
    normal = refl;
    is_authority = is_authority;
    is_tail = inl (refl, refl);
  },
)

default_has_base : is_some (base_in text) ≡ true
default_has_base = ap is_some (sym (one_base text (base_of uri) (of_uri uri spells)))

pub default_is_server : is_server text ≡ true
default_is_server = default_has_base
