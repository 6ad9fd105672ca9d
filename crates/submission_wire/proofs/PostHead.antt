-- The head of the request that submits a document is a head of HTTP.
use Rattle.std.proofs.Common.{◌≡◌, ℕ, ◌<◌, ◌^◌, Bool, true, ◌&&◌, nat_le, List, [], ◌∷◌, ◌++◌}
use Rattle.std.proofs.Common.{length, map, All, IsTrue, IsUtf8, codes, Some, refl, sym, ap, ◌∙◌}
use Rattle.std.proofs.Common.{append_assoc, append-nil, arith, lit<, lit≤, if◌then◌else◌}
use Rattle.std.specs.List.{list_all}
use Rattle.std.specs.Char.{is_ascii}
use Rattle.std.specs.Int.{IsInRange}
use Rattle.std.specs.Fmt.{decimal}
use Rattle.std.specs.Str.{str_eq_ignore_ascii_case, str_to_ascii_lowercase}
use Rattle.std.proofs.lemmas.Bool.{and_parts, leb-true, ltb-true}
use Rattle.std.proofs.lemmas.List.Elements.{All-cons, All-append, All-weaker, All-from_recursion}
use Rattle.std.proofs.lemmas.List.Sums.{AllPass-from_list_all}
use Rattle.std.proofs.lemmas.Slice.Eq.{bytes_eq-Decides}
use Rattle.std.proofs.lemmas.Str.{IsUtf8-from_ascii}
use Rattle.std.proofs.lemmas.Str.Ascii.{IsAscii-from_all}
use Rattle.httparse.specs.Grammar.{Field, crlf as crlf_end, IsField, print_field, is_token_byte}
use Rattle.httparse.specs.Grammar.{is_value_byte, is_uri_byte, trim_ows, RequestHead, IsRequestHead, print_request}
use Rattle.httparse.specs.Spans.{name_and_value}
use Rattle.httparse.proofs.GrammarLemmas.{print_request-append}
use Rattle.http_reply.specs.Fields.{Fields, each_value, content_length}
use Rattle.http_reply.specs.Framings.{length_value, length_framing}
use Rattle.http_reply.specs.declared.framing.Framing.TheVariants.{Wrong}
use Rattle.http_reply.proofs.Lengths.{length_of_decimal}
use Rattle.http_wire.specs.Requests.{crlf, request_line, field_line, client_fields, opening, closing}
use Rattle.http_wire.specs.declared.address.Address.{Address}
use Rattle.http_request.specs.Requests.{framed_length, body_length, content_type}
use Rattle.submission_wire.specs.Posts.{body_fields}
use Rattle.submission_wire.proofs.ValueBytes.{IsValue, uri_byte, visible_value, decimal_value, decimal_trimmed}

-- a field with one space before its value
abbrev pub field : List ℕ → List ℕ → Field
field name value = record { name = name; raw = 32 ∷ value; end = crlf_end }

pub line_is : (name value : List ℕ) → field_line name value ≡ print_field (field name value)
unfolding field_line
line_is name value = ap (λ l. l ++ crlf) (append_assoc name (58 ∷ 32 ∷ []) value)

pub field_is : (name value : List ℕ) → 0 < length name → list_all is_token_byte name ≡ true → IsValue value
    → IsField (field name value)
field_is name value some token ok = record {
  name = (some, AllPass-from_list_all is_token_byte name token);
  raw = All-cons (λ b. IsTrue (is_value_byte b)) 32 value refl ok.all;
}

pub plain_value : (value : List ℕ) → list_all is_value_byte value ≡ true → IsValue value
plain_value value passes = record { all = AllPass-from_list_all is_value_byte value passes }

abbrev pub head_fields : List ℕ → List ℕ → ℕ → List Field
head_fields authority date size =
    field (codes "Host") authority ∷ field (codes "X-OpenRosa-Version") (codes "1.0") ∷ field (codes "Date") date
    ∷ field (codes "Accept-Encoding") (codes "identity")
    ∷ field (codes "Content-Type") (codes "multipart/form-data; boundary=odk-part") ∷ field (codes "Content-Length")
    (decimal size) ∷ field (codes "Connection") (codes "close") ∷ []

abbrev pub post_head : Address → List ℕ → ℕ → RequestHead
post_head to date size = record {
  blank = [];
  method = codes "POST";
  target = to.target;
  minor = 1;
  line_end = crlf_end;
  fields = head_fields to.authority date size;
  last = crlf_end;
}

-- ---- its bytes

regroup : (m s t v k a b c d e f g body : List ℕ)
    → ((m ++ s ++ t ++ v ++ k) ++ a ++ (b ++ c ++ d)) ++ (e ++ f) ++ (g ++ k) ++ body ≡ m
    ++ (s ++ (t ++ (v ++ (k ++ (((a ++ (b ++ (c ++ (d ++ (e ++ (f ++ (g ++ []))))))) ++ k) ++ body)))))
regroup m s t v k a b c d e f g body = simp (append_assoc, append-nil)

pub head_spelled : (to : Address) (date : List ℕ) (size : ℕ) (body : List ℕ)
    → opening (codes "POST") to date ++ body_fields size ++ closing ++ body ≡ print_request (post_head to date size)
    ++ body
unfolding opening request_line client_fields body_fields
head_spelled to date size body =
    let host = line_is (codes "Host") to.authority in
    let version = line_is (codes "X-OpenRosa-Version") (codes "1.0") in
    let dated = line_is (codes "Date") date in
    let coding = line_is (codes "Accept-Encoding") (codes "identity") in
    let kind = line_is (codes "Content-Type") (codes "multipart/form-data; boundary=odk-part") in
    let sized = line_is (codes "Content-Length") (decimal size) in
    let closed = line_is (codes "Connection") (codes "close") in
    rw (host, version, dated, coding, kind, sized, closed)
    (regroup (codes "POST") (32 ∷ []) to.target (codes " HTTP/1.1") crlf
    (print_field (field (codes "Host") to.authority))
    (print_field (field (codes "X-OpenRosa-Version") (codes "1.0")))
    (print_field (field (codes "Date") date)) (print_field (field (codes "Accept-Encoding") (codes "identity")))
    (print_field (field (codes "Content-Type") (codes "multipart/form-data; boundary=odk-part")))
    (print_field (field (codes "Content-Length") (decimal size)))
    (print_field (field (codes "Connection") (codes "close"))) body
    ∙ sym (print_request-append (post_head to date size) body))

-- ---- its parts

pub fields_are : (authority date : List ℕ) (size : ℕ) → IsValue authority → IsValue date → size < 2 ^ 64
    → All IsField (head_fields authority date size)
unfolding is_token_byte
fields_are authority date size host dated small =
    All-from_recursion IsField (head_fields authority date size) (
      field_is (codes "Host") authority (lit< tt) refl host,
      (
        field_is (codes "X-OpenRosa-Version") (codes "1.0") (lit< tt) refl (plain_value (codes "1.0") refl),
        (
          field_is (codes "Date") date (lit< tt) refl dated,
          (
            field_is (codes "Accept-Encoding") (codes "identity") (lit< tt) refl (plain_value (codes "identity") refl),
            (
              field_is (codes "Content-Type") (codes "multipart/form-data; boundary=odk-part") (lit< tt) refl
                  (plain_value (codes "multipart/form-data; boundary=odk-part") refl),
              (
                field_is (codes "Content-Length") (decimal size) (lit< tt) refl (decimal_value size small),
                (
                  field_is (codes "Connection") (codes "close") (lit< tt) refl (plain_value (codes "close") refl),
                  tt,
                ),
              ),
            ),
          ),
        ),
      ),
    )

pub visible_ascii : (bytes : List ℕ) → All (IsInRange 33 126) bytes → IsUtf8 bytes
visible_ascii bytes all =
    IsUtf8-from_ascii bytes
    (IsAscii-from_all bytes (All-weaker (IsInRange 33 126) (λ b. b < 128) (λ b within. omega (arith, within.1)) bytes
    all))

-- ASCII, as a test of the text tells
pub ascii_text : (text : List ℕ) → list_all is_ascii text ≡ true → IsUtf8 text
ascii_text text passes =
    IsUtf8-from_ascii text
    (IsAscii-from_all text (All-weaker (λ b. IsTrue (is_ascii b)) (λ b. b < 128) (λ b is. ltb-true b 128 is) text
    (AllPass-from_list_all is_ascii text passes)))

visible_test : ℕ → Bool
visible_test b = nat_le 33 b && nat_le b 126

visible_text : (text : List ℕ) → list_all visible_test text ≡ true → All (IsInRange 33 126) text
unfolding visible_test
visible_text text passes = All-weaker (λ b. IsTrue (visible_test b)) (IsInRange 33 126) (λ b is. let both =
    and_parts (nat_le 33 b) (nat_le b 126) is in
    (leb-true 33 b both.0, leb-true b 126 both.1)) text (AllPass-from_list_all visible_test text passes)

pub target_visible : (target : List ℕ) → All (IsInRange 33 126) target
    → All (IsInRange 33 126) (target ++ codes "/submission")
unfolding visible_test
target_visible target all =
    All-append (IsInRange 33 126) target (codes "/submission") all (visible_text (codes "/submission") refl)

pub head_is : (to : Address) (date : List ℕ) (size : ℕ) → 0 < length to.target → All (IsInRange 33 126) to.target
    → All (IsInRange 33 126) to.authority → IsValue date → size < 2 ^ 64 → IsRequestHead (post_head to date size)
unfolding is_token_byte
head_is to date size some target authority dated small = record {
  method = (lit< tt, AllPass-from_list_all is_token_byte (codes "POST") refl);
  target = (some, All-weaker (IsInRange 33 126) (λ b. IsTrue (is_uri_byte b)) uri_byte to.target target);
  target_text = visible_ascii to.target target;
  minor = lit≤ tt;
  fields = fields_are to.authority date size (visible_value to.authority authority) dated small;
}

-- ---- what is read of its fields

same_word : (word : List ℕ) → str_eq_ignore_ascii_case word word ≡ true
same_word word = (bytes_eq-Decides (str_to_ascii_lowercase word) (str_to_ascii_lowercase word)).1 refl

pub size_stated : (authority date : List ℕ) (size : ℕ) → size < 10 ^ 18
    → body_length (map name_and_value (head_fields authority date size)) ≡ Some size
size_stated authority date size small =
    let value : List ℕ = trim_ows (32 ∷ decimal size) in
    let fields : Fields = map name_and_value (head_fields authority date size) in
    let is : length_value value ≡ Some size = ap length_value (decimal_trimmed size (omega arith))
    ∙ sym (length_of_decimal (decimal size) size refl small) in
    let each : each_value content_length value fields ≡ true = ap (λ t. t && true) (same_word value) in
    ap (λ t. framed_length (if t then length_framing (length_value value) else Wrong)) each
    ∙ ap (λ o. framed_length (length_framing o)) is

pub kind_stated : (authority date : List ℕ) (size : ℕ)
    → codes "multipart/form-data; boundary=odk-part" ≡ content_type
    (map name_and_value (head_fields authority date size))
unfolding trim_ows
kind_stated authority date size = refl
