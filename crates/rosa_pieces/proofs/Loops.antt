-- Reading the characters of a value and the attributes of a tag one by one.
use Rattle.std.proofs.Common.{◌≡◌, ℕ, Bool, List, [], ◌∷◌, ◌++◌, length, Some, None, sym, ap, ◌∙◌, append_assoc, encode_utf8_all}
use Rattle.std.proofs.lemmas.Str.{encodes-append}
use Rattle.rosa_pieces.specs.declared.piece.CharData.{CharData}
use Rattle.rosa_pieces.specs.declared.piece.Attribute.{Attribute}
use Rattle.rosa_pieces.specs.Pieces.{is_return, read_value_char, read_value}
use Rattle.rosa_pieces.specs.Reading.{cuts, value_char_at, attribute_at}
use Rattle.rosa_pieces.proofs.Cuts.{cuts_next, cuts_end}
use Rattle.rosa_pieces.proofs.DataLaws.{value_chars_shrink}
use Rattle.rosa_pieces.proofs.TagLaws.{attributes_shrink}

abbrev value_at_once : ℕ → List ℕ → List CharData × List ℕ
value_at_once q cs = cuts (value_char_at q) (length cs) cs

pub value_goes_on : (q : ℕ) (cs after : List ℕ) (d : CharData) (text longer : List ℕ) (before now : Bool) (total : List ℕ) → value_char_at q cs ≡ Some (d, after) → longer ≡ text ++ encode_utf8_all (read_value_char before d) → now ≡ is_return d
    → text ++ encode_utf8_all (read_value before (value_at_once q cs).0) ≡ total → longer ++ encode_utf8_all (read_value now (value_at_once q after).0) ≡ total
value_goes_on q cs after d text longer before now total e grown now-is h =
    let ds = (value_at_once q after).0 in
    let cut = cuts_next (value_char_at q) (value_chars_shrink q) cs d after e in
    let one : read_value before (value_at_once q cs).0 ≡ read_value_char before d ++ read_value (is_return d) ds = ap (λ (x : List CharData × List ℕ). read_value before x.0) cut in
    let split : encode_utf8_all (read_value before (value_at_once q cs).0) ≡ encode_utf8_all (read_value_char before d) ++ encode_utf8_all (read_value (is_return d) ds) = ap encode_utf8_all one ∙ encodes-append (read_value_char before d) (read_value (is_return d) ds) in
    let all : text ++ (encode_utf8_all (read_value_char before d) ++ encode_utf8_all (read_value (is_return d) ds)) ≡ total = sym (ap (λ (t : List ℕ). text ++ t) split) ∙ h in
    rw (grown, now-is) (append_assoc text (encode_utf8_all (read_value_char before d)) (encode_utf8_all (read_value (is_return d) ds)) ∙ all)

pub value_rest_goes_on : (q : ℕ) (cs after : List ℕ) (d : CharData) (total : List ℕ) → value_char_at q cs ≡ Some (d, after) → (value_at_once q cs).1 ≡ total → (value_at_once q after).1 ≡ total
value_rest_goes_on q cs after d total e h =
    let cut = cuts_next (value_char_at q) (value_chars_shrink q) cs d after e in
    sym (ap (λ (x : List CharData × List ℕ). x.1) cut) ∙ h

pub value_ends : (q : ℕ) (cs text total : List ℕ) (before : Bool) → value_char_at q cs ≡ None → text ++ encode_utf8_all (read_value before (value_at_once q cs).0) ≡ total → text ++ [] ≡ total
value_ends q cs text total before e h =
    let cut = cuts_end (value_char_at q) (length cs) cs e in
    sym (ap (λ (x : List CharData × List ℕ). text ++ encode_utf8_all (read_value before x.0)) cut) ∙ h

pub value_rest_ends : (q : ℕ) (cs total : List ℕ) → value_char_at q cs ≡ None → (value_at_once q cs).1 ≡ total → cs ≡ total
value_rest_ends q cs total e h = sym (ap (λ (x : List CharData × List ℕ). x.1) (cuts_end (value_char_at q) (length cs) cs e)) ∙ h

abbrev attributes_at_once : List ℕ → List Attribute × List ℕ
attributes_at_once cs = cuts attribute_at (length cs) cs

pub attributes_go_on : (cs after : List ℕ) (a : Attribute) (read more total : List Attribute) → attribute_at cs ≡ Some (a, after) → more ≡ read ++ (a ∷ []) → read ++ (attributes_at_once cs).0 ≡ total → more ++ (attributes_at_once after).0 ≡ total
attributes_go_on cs after a read more total e grown h =
    let cut = cuts_next attribute_at attributes_shrink cs a after e in
    let all : read ++ (a ∷ (attributes_at_once after).0) ≡ total = sym (ap (λ (x : List Attribute × List ℕ). read ++ x.0) cut) ∙ h in
    rw grown (append_assoc read (a ∷ []) (attributes_at_once after).0 ∙ all)

pub attributes_rest_goes_on : (cs after : List ℕ) (a : Attribute) (total : List ℕ) → attribute_at cs ≡ Some (a, after) → (attributes_at_once cs).1 ≡ total → (attributes_at_once after).1 ≡ total
attributes_rest_goes_on cs after a total e h = sym (ap (λ (x : List Attribute × List ℕ). x.1) (cuts_next attribute_at attributes_shrink cs a after e)) ∙ h

pub attributes_are_all : (cs : List ℕ) (read total : List Attribute) → attribute_at cs ≡ None → read ++ (attributes_at_once cs).0 ≡ total → read ++ [] ≡ total
attributes_are_all cs read total e h = sym (ap (λ (x : List Attribute × List ℕ). read ++ x.0) (cuts_end attribute_at (length cs) cs e)) ∙ h

pub attributes_rest_is_all : (cs total : List ℕ) → attribute_at cs ≡ None → (attributes_at_once cs).1 ≡ total → cs ≡ total
attributes_rest_is_all cs total e h = sym (ap (λ (x : List Attribute × List ℕ). x.1) (cuts_end attribute_at (length cs) cs e)) ∙ h
