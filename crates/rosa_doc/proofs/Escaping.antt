-- What is written reads as the text that was given.
use Rattle.std.proofs.Common.{◌≡◌, ℕ, Bool, true, false, cond, ◌&&◌, ◌==◌, List, [], ◌∷◌, ◌++◌, refl, sym, ap, subst, ◌∙◌, inl, inr, append_assoc, encode_utf8_all, map}
use Rattle.std.specs.Char.{encode_utf8}
use Rattle.std.specs.List.{flat_map}
use Rattle.std.proofs.lemmas.Bool.{eqb-true}
use Rattle.std.proofs.lemmas.List.{append-nil}
use Rattle.std.proofs.lemmas.Str.{encodes-append}
use Rattle.field_text.specs.Xml.{is_xml_char, is_xml_space, xml_char_of}
use Rattle.rosa_pieces.specs.declared.piece.CharData.{CharData}
use Rattle.rosa_pieces.specs.declared.piece.CharData.TheVariants.{Literal, Reference}
use Rattle.rosa_pieces.specs.Pieces.{IsCharData, IsValueChar, is_literal, is_return, read_char, read_value_char, read_value, space_of}
use Rattle.rosa_pieces.proofs.Steps.{space_is}
use Rattle.rosa_pieces.specs.Pieces.{Spelled, IsPiece}
use Rattle.rosa_pieces.specs.declared.piece.Piece.{Piece}
use Rattle.rosa_pieces.specs.declared.piece.Piece.TheVariants.{Data}
use Rattle.rosa_doc.specs.declared.tree.Node.{Node}
use Rattle.rosa_doc.specs.Documents.{IsContent, nothing, character, ends_in_return}
use Rattle.rosa_doc.specs.Escapes.{in_text, in_value, TextReadsAs, ValueReadsAs}
use Rattle.rosa_doc.proofs.Runs.{ends_last}

pub record TextChar (c : ℕ) (bytes : List ℕ) : Type 0 where
  pub part : CharData
  pub spelled : List ℕ
  pub spells : IsCharData part spelled
  pub utf8 : encode_utf8_all spelled ≡ bytes
  pub reads : read_char false part ≡ xml_char_of c ∷ []
  pub flag : is_return part ≡ false

pub record ValueChar (c : ℕ) (bytes : List ℕ) : Type 0 where
  pub part : CharData
  pub spelled : List ℕ
  pub spells : IsValueChar 34 part spelled
  pub utf8 : encode_utf8_all spelled ≡ bytes
  pub reads : read_value_char false part ≡ xml_char_of c ∷ []
  pub flag : is_return part ≡ false

-- one of the characters, or the one in place of it, is no other
stays_other : (c n : ℕ) → (0xFFFD == n) ≡ false → (c == n) ≡ false → (xml_char_of c == n) ≡ false
stays_other c n far e = elim (is_xml_char c) as (λ b. (cond b c 0xFFFD == n) ≡ false) [ true ↦ e | false ↦ far ]

literal_stays : (c : ℕ) → (c == 60) ≡ false → (c == 38) ≡ false → is_literal (xml_char_of c) ≡ true
literal_stays c less and = elim (is_xml_char c) as (λ b. is_xml_char c ≡ b → is_literal (cond b c 0xFFFD) ≡ true) [
  | true ↦ λ e. rw (e, less, and) refl
  | false ↦ λ e. refl
] refl

and_false : (b : Bool) → b && false ≡ false
and_false true = refl
and_false false = refl

read_literal : (k : ℕ) → (k == 13) ≡ false → read_char false (Literal k) ≡ k ∷ []
read_literal k e = rw (e, and_false (k == 10)) refl

literal_char : (c : ℕ) → (c == 38) ≡ false → (c == 60) ≡ false → (c == 13) ≡ false → TextChar c (encode_utf8 (xml_char_of c))
literal_char c and less return = record {
  part = Literal (xml_char_of c);
  spelled = xml_char_of c ∷ [];
  spells = (literal_stays c less and, refl);
  utf8 = append-nil (encode_utf8 (xml_char_of c));
  reads = read_literal (xml_char_of c) (stays_other c 13 refl return);
  flag = stays_other c 13 refl return;
}

pub text_char : (c : ℕ) → TextChar c (in_text c)
unfolding encode_utf8
text_char c =
    elim (c == 38) as (λ b. (c == 38) ≡ b → TextChar c (cond b (38 ∷ 97 ∷ 109 ∷ 112 ∷ 59 ∷ []) (cond (c == 60) (38 ∷ 108 ∷ 116 ∷ 59 ∷ []) (cond (c == 62) (38 ∷ 103 ∷ 116 ∷ 59 ∷ []) (cond (c == 13) (38 ∷ 35 ∷ 49 ∷ 51 ∷ 59 ∷ []) (encode_utf8 (xml_char_of c))))))) [
      | true ↦ λ e. rw (eqb-true c 38 e) (record { part = Reference 38; spelled = 38 ∷ 97 ∷ 109 ∷ 112 ∷ 59 ∷ []; spells = (97 ∷ 109 ∷ 112 ∷ [], refl, refl, refl); utf8 = refl; reads = refl; flag = refl })
      | false ↦ λ e1. elim (c == 60) as (λ b. (c == 60) ≡ b → TextChar c (cond b (38 ∷ 108 ∷ 116 ∷ 59 ∷ []) (cond (c == 62) (38 ∷ 103 ∷ 116 ∷ 59 ∷ []) (cond (c == 13) (38 ∷ 35 ∷ 49 ∷ 51 ∷ 59 ∷ []) (encode_utf8 (xml_char_of c)))))) [
        | true ↦ λ e. rw (eqb-true c 60 e) (record { part = Reference 60; spelled = 38 ∷ 108 ∷ 116 ∷ 59 ∷ []; spells = (108 ∷ 116 ∷ [], refl, refl, refl); utf8 = refl; reads = refl; flag = refl })
        | false ↦ λ e2. elim (c == 62) as (λ b. (c == 62) ≡ b → TextChar c (cond b (38 ∷ 103 ∷ 116 ∷ 59 ∷ []) (cond (c == 13) (38 ∷ 35 ∷ 49 ∷ 51 ∷ 59 ∷ []) (encode_utf8 (xml_char_of c))))) [
          | true ↦ λ e. rw (eqb-true c 62 e) (record { part = Reference 62; spelled = 38 ∷ 103 ∷ 116 ∷ 59 ∷ []; spells = (103 ∷ 116 ∷ [], refl, refl, refl); utf8 = refl; reads = refl; flag = refl })
          | false ↦ λ e3. elim (c == 13) as (λ b. (c == 13) ≡ b → TextChar c (cond b (38 ∷ 35 ∷ 49 ∷ 51 ∷ 59 ∷ []) (encode_utf8 (xml_char_of c)))) [
            | true ↦ λ e. rw (eqb-true c 13 e) (record { part = Reference 13; spelled = 38 ∷ 35 ∷ 49 ∷ 51 ∷ 59 ∷ []; spells = (35 ∷ 49 ∷ 51 ∷ [], refl, refl, refl); utf8 = refl; reads = refl; flag = refl })
            | false ↦ λ e4. literal_char c e1 e2 e4
          ] refl
        ] refl
      ] refl
    ] refl

-- a text character that is no quote, tab or line feed stands in a value too
space_stays : (k : ℕ) → (k == 9) ≡ false → (k == 10) ≡ false → (k == 13) ≡ false → space_of k ≡ k
space_stays k tab feed return = elim (is_xml_space k) as (λ b. is_xml_space k ≡ b → cond b 32 k ≡ k) [
  | true ↦ λ e. elim (space_is k e) [
    | inl h ↦ sym h
    | inr (inl h) ↦ absurd (let t : (k == 9) ≡ true = rw h refl in let both : true ≡ false = sym t ∙ tab in cc)
    | inr (inr (inl h)) ↦ absurd (let t : (k == 10) ≡ true = rw h refl in let both : true ≡ false = sym t ∙ feed in cc)
    | inr (inr (inr h)) ↦ absurd (let t : (k == 13) ≡ true = rw h refl in let both : true ≡ false = sym t ∙ return in cc)
  ]
  | false ↦ λ e. refl
] refl

value_from_text : (c : ℕ) (bytes : List ℕ) → TextChar c bytes → (c == 34) ≡ false → (c == 9) ≡ false → (c == 10) ≡ false → ValueChar c bytes
value_from_text c bytes t quote tab feed = value_by t.part t.spells t.reads t.flag
  where
    value_by : (d : CharData) → IsCharData d t.spelled → read_char false d ≡ xml_char_of c ∷ [] → is_return d ≡ false → ValueChar c bytes
    value_by (Reference k) spells reads flag = record { part = Reference k; spelled = t.spelled; spells = (tt, spells); utf8 = t.utf8; reads = reads; flag = flag }
    value_by (Literal k) spells reads flag =
        let same : k ∷ [] ≡ xml_char_of c ∷ [] = sym (read_literal k flag) ∙ reads in
        let k-is : k ≡ xml_char_of c = cc in
        let other : (k == 34) ≡ false = rw k-is (stays_other c 34 refl quote) in
        let no_tab : (k == 9) ≡ false = rw k-is (stays_other c 9 refl tab) in
        let no_feed : (k == 10) ≡ false = rw k-is (stays_other c 10 refl feed) in
        record {
          part = Literal k;
          spelled = t.spelled;
          spells = (other, spells);
          utf8 = t.utf8;
          reads = ap (map space_of) (read_literal k flag) ∙ ap (λ (n : ℕ). n ∷ []) (space_stays k no_tab no_feed flag ∙ k-is);
          flag = flag;
        }

pub value_char : (c : ℕ) → ValueChar c (in_value c)
unfolding encode_utf8
value_char c =
    elim (c == 34) as (λ b. (c == 34) ≡ b → ValueChar c (cond b (38 ∷ 113 ∷ 117 ∷ 111 ∷ 116 ∷ 59 ∷ []) (cond (c == 9) (38 ∷ 35 ∷ 57 ∷ 59 ∷ []) (cond (c == 10) (38 ∷ 35 ∷ 49 ∷ 48 ∷ 59 ∷ []) (in_text c))))) [
      | true ↦ λ e. rw (eqb-true c 34 e) (record { part = Reference 34; spelled = 38 ∷ 113 ∷ 117 ∷ 111 ∷ 116 ∷ 59 ∷ []; spells = (tt, (113 ∷ 117 ∷ 111 ∷ 116 ∷ [], refl, refl, refl)); utf8 = refl; reads = refl; flag = refl })
      | false ↦ λ e1. elim (c == 9) as (λ b. (c == 9) ≡ b → ValueChar c (cond b (38 ∷ 35 ∷ 57 ∷ 59 ∷ []) (cond (c == 10) (38 ∷ 35 ∷ 49 ∷ 48 ∷ 59 ∷ []) (in_text c)))) [
        | true ↦ λ e. rw (eqb-true c 9 e) (record { part = Reference 9; spelled = 38 ∷ 35 ∷ 57 ∷ 59 ∷ []; spells = (tt, (35 ∷ 57 ∷ [], refl, refl, refl)); utf8 = refl; reads = refl; flag = refl })
        | false ↦ λ e2. elim (c == 10) as (λ b. (c == 10) ≡ b → ValueChar c (cond b (38 ∷ 35 ∷ 49 ∷ 48 ∷ 59 ∷ []) (in_text c))) [
          | true ↦ λ e. rw (eqb-true c 10 e) (record { part = Reference 10; spelled = 38 ∷ 35 ∷ 49 ∷ 48 ∷ 59 ∷ []; spells = (tt, (35 ∷ 49 ∷ 48 ∷ [], refl, refl, refl)); utf8 = refl; reads = refl; flag = refl })
          | false ↦ λ e3. value_from_text c (in_text c) (text_char c) e1 e2 e3
        ] refl
      ] refl
    ] refl

-- ---- whole texts

-- the text that characters and references are, one behind the other
abbrev pub read_text : Bool → List CharData → List ℕ
read_text after_return [] = []
read_text after_return (d ∷ ds) = read_char after_return d ++ read_text (is_return d) ds

record TextParts (text bytes : List ℕ) : Type 0 where
  parts : List CharData
  spelled : List ℕ
  spells : Spelled IsCharData parts spelled
  utf8 : encode_utf8_all spelled ≡ bytes
  reads : read_text false parts ≡ text

record ValueParts (text bytes : List ℕ) : Type 0 where
  parts : List CharData
  spelled : List ℕ
  spells : Spelled (IsValueChar 34) parts spelled
  utf8 : encode_utf8_all spelled ≡ bytes
  reads : read_value false parts ≡ text

text_parts : (cs : List ℕ) → TextParts (map xml_char_of cs) (flat_map in_text cs)
text_parts [] = record { parts = []; spelled = []; spells = refl; utf8 = refl; reads = refl }
text_parts (c ∷ cs) =
    let t = text_char c in
    let rest = text_parts cs in
    record {
      parts = t.part ∷ rest.parts;
      spelled = t.spelled ++ rest.spelled;
      spells = (t.spelled, rest.spelled, t.spells, rest.spells, refl);
      utf8 = encodes-append t.spelled rest.spelled ∙ ap (λ (x : List ℕ). x ++ encode_utf8_all rest.spelled) t.utf8 ∙ ap (λ (x : List ℕ). in_text c ++ x) rest.utf8;
      reads = ap (λ (x : List ℕ). x ++ read_text (is_return t.part) rest.parts) t.reads ∙ ap (λ (b : Bool). xml_char_of c ∷ read_text b rest.parts) t.flag ∙ ap (λ (x : List ℕ). xml_char_of c ∷ x) rest.reads;
    }

value_parts : (cs : List ℕ) → ValueParts (map xml_char_of cs) (flat_map in_value cs)
value_parts [] = record { parts = []; spelled = []; spells = refl; utf8 = refl; reads = refl }
value_parts (c ∷ cs) =
    let t = value_char c in
    let rest = value_parts cs in
    record {
      parts = t.part ∷ rest.parts;
      spelled = t.spelled ++ rest.spelled;
      spells = (t.spelled, rest.spelled, t.spells, rest.spells, refl);
      utf8 = encodes-append t.spelled rest.spelled ∙ ap (λ (x : List ℕ). x ++ encode_utf8_all rest.spelled) t.utf8 ∙ ap (λ (x : List ℕ). in_value c ++ x) rest.utf8;
      reads = ap (λ (x : List ℕ). x ++ read_value (is_return t.part) rest.parts) t.reads ∙ ap (λ (b : Bool). xml_char_of c ∷ read_value b rest.parts) t.flag ∙ ap (λ (x : List ℕ). xml_char_of c ∷ x) rest.reads;
    }

-- characters are pieces, and behind content they are its text
data_pieces : (ds : List CharData) (x : List ℕ) → Spelled IsCharData ds x → Spelled IsPiece (map Data ds) x
data_pieces [] x h = h
data_pieces (d ∷ ds) x (y, z, hd, hs, e) = (y, z, hd, data_pieces ds z hs, e)

more_text : (ds : List CharData) (ps : List Piece) (children : List Node) (words : List ℕ) → IsContent ps children words → IsContent (ps ++ map Data ds) children (words ++ encode_utf8_all (read_text (ends_in_return ps) ds))
more_text [] ps children words h = rw (append-nil ps, append-nil words) h
more_text (d ∷ ds) ps children words h =
    let said = encode_utf8_all (read_char (ends_in_return ps) d) in
    let more = more_text ds (ps ++ (Data d ∷ [])) children (words ++ said) (character ps children words d h) in
    let flagged = subst (λ (b : Bool). IsContent ((ps ++ (Data d ∷ [])) ++ map Data ds) children ((words ++ said) ++ encode_utf8_all (read_text b ds))) (ends_last ps (Data d)) more in
    let pieces = subst (λ (x : List Piece). IsContent x children ((words ++ said) ++ encode_utf8_all (read_text (is_return d) ds))) (append_assoc ps (Data d ∷ []) (map Data ds)) flagged in
    let whole : (words ++ said) ++ encode_utf8_all (read_text (is_return d) ds) ≡ words ++ encode_utf8_all (read_char (ends_in_return ps) d ++ read_text (is_return d) ds) =
    append_assoc words said (encode_utf8_all (read_text (is_return d) ds)) ∙ ap (λ (x : List ℕ). words ++ x) (sym (encodes-append (read_char (ends_in_return ps) d) (read_text (is_return d) ds))) in
    subst (λ (x : List ℕ). IsContent (ps ++ (Data d ∷ map Data ds)) children x) whole pieces

pub text_reads : (cs : List ℕ) → TextReadsAs (map xml_char_of cs) (flat_map in_text cs)
text_reads cs =
    let t = text_parts cs in
    record {
      pieces = map Data t.parts;
      spelled = t.spelled;
      spells = data_pieces t.parts t.spelled t.spells;
      content = subst (λ (x : List ℕ). IsContent (map Data t.parts) [] (encode_utf8_all x)) t.reads (more_text t.parts [] [] [] nothing);
      utf8 = t.utf8;
    }

pub value_reads : (cs : List ℕ) → ValueReadsAs (map xml_char_of cs) (flat_map in_value cs)
value_reads cs =
    let t = value_parts cs in
    record {
      inside = t.spelled;
      value = (34, t.parts, t.spelled, refl, t.spells, ap encode_utf8_all (sym t.reads), refl);
      utf8 = t.utf8;
    }
