-- The laws of the format of entries, in the words of the contracts.
use Rattle.std.proofs.Common.{◌≡◌, ℕ, ◌+◌, ◌-◌, ◌≤◌, List, [], ◌∷◌, ◌++◌, length, take, Result, Ok, Err, refl, sym, ap, subst, ◌∙◌, arith}
use Rattle.std.specs.List.{AllByRecursion}
use Rattle.std.proofs.lemmas.List.{append-nil, length-append, take_at}
use Rattle.entry_form.specs.declared.entry.Entry.{Entry}
use Rattle.entry_codec.specs.Spelling.{Part, parts, bytes_of, spelling, Fits, IsShort, IsShortPart, PartFits, byte, number, text, blob, IsUnspelled, IsFirstFault}
use Rattle.entry_codec.specs.declared.fault.ReadFault.{ReadFault}
use Rattle.entry_codec.specs.declared.fault.ReadFault.TheVariants as fault
use Rattle.entry_codec.specs.Reading.{Fails, entry_at}
use Rattle.entry_codec.proofs.Formats.{IsBytes, Any, left_of, ok_is, shrinks}
use Rattle.entry_codec.proofs.Entries.{entry_format}

-- the lengths of a list in two pieces
lengths : (bytes front rest : List ℕ) → bytes ≡ front ++ rest → length bytes ≡ length front + length rest
lengths bytes front rest e = ap length e ∙ length-append front rest

pub read_again : (bytes : List ℕ) (entry : Entry) (rest : List ℕ) → Fits entry → bytes ≡ spelling entry ++ rest → entry_at bytes ≡ Ok (entry, rest)
read_again bytes entry rest fits e = ap entry_at e ∙ entry_format.again entry rest tt fits

pub left_within : (bytes : List ℕ) (r : Result (Entry × List ℕ) ℕ) → entry_at bytes ≡ r → left_of r ≤ length bytes
left_within bytes r e = subst (λ (z : Result (Entry × List ℕ) ℕ). left_of z ≤ length bytes) e (shrinks Any parts entry_at entry_format bytes)

pub read_stands : (bytes : List ℕ) (entry : Entry) (rest : List ℕ) → IsBytes bytes → entry_at bytes ≡ Ok (entry, rest) → bytes ≡ spelling entry ++ rest
read_stands bytes entry rest is_bytes e = (entry_format.takes bytes entry rest is_bytes e).0.parts

pub read_fits : (bytes : List ℕ) (entry : Entry) (rest : List ℕ) → IsBytes bytes → entry_at bytes ≡ Ok (entry, rest) → Fits entry
read_fits bytes entry rest is_bytes e = (entry_format.takes bytes entry rest is_bytes e).2

part_is_short : (p : Part) → PartFits p → IsShortPart p
part_is_short (byte b) h = tt
part_is_short (number n) h = tt
part_is_short (text t) h = h.0
part_is_short (blob b) h = h.0

parts_are_short : (ps : List Part) → AllByRecursion PartFits ps → AllByRecursion IsShortPart ps
parts_are_short [] h = tt
parts_are_short (p ∷ ps) h = (part_is_short p h.0, parts_are_short ps h.1)

pub short_from_fits : (entry : Entry) → Fits entry → IsShort entry
short_from_fits entry h = parts_are_short (parts entry) h

-- the length of what was read
pub used_is : (bytes : List ℕ) (entry : Entry) (rest : List ℕ) → bytes ≡ spelling entry ++ rest → length bytes - length rest ≡ length (spelling entry)
used_is bytes entry rest stands = omega (arith, lengths bytes (spelling entry) rest stands)

pub read_found : (bytes : List ℕ) (entry : Entry) (rest : List ℕ) → bytes ≡ spelling entry ++ rest → (length bytes - length rest ≤ length bytes) × (take (length bytes - length rest) bytes ≡ spelling entry)
read_found bytes entry rest stands =
    let front : take (length (spelling entry)) bytes ≡ spelling entry = ap (take (length (spelling entry))) stands ∙ take_at (spelling entry) rest (length (spelling entry)) refl in
    (omega arith, ap (λ (n : ℕ). take n bytes) (used_is bytes entry rest stands) ∙ front)

-- bytes are read in one way
pub read_once : (bytes : List ℕ) (entry other : Entry) (rest after : List ℕ) → entry_at bytes ≡ Ok (entry, rest) → Fits other → bytes ≡ spelling other ++ after → entry ≡ other
read_once bytes entry other rest after e fits stands =
    ap (λ (p : Entry × List ℕ). p.0) (ok_is (entry, rest) (other, after) (sym e ∙ read_again bytes other after fits stands))

pub stopped_unspelled : (bytes : List ℕ) (left : ℕ) → entry_at bytes ≡ Err left → IsUnspelled bytes
stopped_unspelled bytes left e entry rest fits stands =
    let read = read_again bytes entry rest fits stands in
    cc

pub stopped_place : (bytes : List ℕ) (left : ℕ) → IsBytes bytes → entry_at bytes ≡ Err left → IsFirstFault bytes (length bytes - left)
stopped_place bytes left is_bytes e =
    let s = entry_format.reached bytes left is_bytes e in
    record {
      reached = record {
        entry = s.value;
        fits = s.fits;
        front = s.front;
        others = s.others;
        begins = s.begins;
        rest = s.rest;
        stands = s.stands;
        place = omega (arith, lengths bytes (bytes_of s.front) s.rest s.stands, s.left_is);
      };
      furthest = λ n h.
          let le = entry_format.furthest h.entry h.front h.others h.rest tt h.fits h.begins in
          let left-is : left_of (entry_at (bytes_of h.front ++ h.rest)) ≡ left = ap (λ (b : List ℕ). left_of (entry_at b)) (sym h.stands) ∙ ap (λ (r : Result (Entry × List ℕ) ℕ). left_of r) e in
          omega (arith, le, left-is, lengths bytes (bytes_of h.front) h.rest h.stands, h.place);
    }

pub begins_none : (one other : Entry) (rest : List ℕ) → Fits one → Fits other → spelling other ≡ spelling one ++ rest → (other ≡ one) × (rest ≡ [])
begins_none one other rest fits-one fits-other e =
    let first = read_again (spelling other) other [] fits-other (sym (append-nil (spelling other))) in
    let second = read_again (spelling other) one rest fits-one e in
    let same = ok_is (other, []) (one, rest) (sym first ∙ second) in
    (ap (λ (p : Entry × List ℕ). p.0) same, ap (λ (p : Entry × List ℕ). p.1) (sym same))

pub stopped_at : {Y : Type 0} (e : ReadFault) (left : ℕ) (read : Result Y ℕ) → e ≡ fault.Stopped left → Fails e read → read ≡ Err left
stopped_at e left read same h = rw same at h

abbrev pub answer : {E : Type 0} → Entry → ℕ → Result (Entry × ℕ) E
answer entry n = Ok (entry, n)

pub same_answer : {E : Type 0} (bytes : List ℕ) (entry other : Entry) (rest after : List ℕ) → IsBytes bytes → entry_at bytes ≡ Ok (entry, rest) → Fits other → bytes ≡ spelling other ++ after
    → answer {E = E} entry (length bytes - length rest) ≡ answer other (length (spelling other))
same_answer {E = E} bytes entry other rest after is_bytes e fits stands =
    let same = read_once bytes entry other rest after e fits stands in
    let used : length bytes - length rest ≡ length (spelling other) = used_is bytes entry rest (read_stands bytes entry rest is_bytes e) ∙ ap (λ (z : Entry). length (spelling z)) same in
    ap (λ (z : Entry). answer {E = E} z (length bytes - length rest)) same ∙ ap (λ (n : ℕ). answer {E = E} other n) used
