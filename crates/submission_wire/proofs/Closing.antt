-- The parts of a body, each of which is one or none.
use Rattle.std.proofs.Common.{◌≡◌, ◌≢◌, ℕ, ◌+◌, ◌<◌, ◌≤◌, true, false, List, [], ◌++◌, length, take, drop}
use Rattle.std.proofs.Common.{map, Option, Some, None, sym, ap, subst, ◌∙◌, arith}
use Rattle.std.proofs.Common.{take-append-drop}
use Rattle.std.proofs.Math.Seq.{take-append_seam, drop-append_seam}
use Rattle.std.proofs.Math.ListN.{get_or-append}
use Rattle.std.proofs.lemmas.List.{length-append, get_or-append-add, append_cancel_left, length-map, length-take}
use Rattle.std.specs.Option.{MatchOption}
use Rattle.std.specs.Prelude.{bytes_eq}
use Rattle.std.specs.Borrow.{Bor}
use Rattle.std.proofs.lemmas.Slice.Eq.{bytes_eq-Decides}
use Rattle.httparse.specs.Grammar.{Field, LineEnd, ReadsSection}
use Rattle.httparse.specs.Spans.{IsSectionAt, header_bytes, name_and_value}
use Rattle.httparse.specs.declared.spans.HeaderSpan.{HeaderSpan}
use Rattle.httparse.proofs.GrammarLemmas.{section_unique}
use Rattle.http_reply.specs.Fields.{Fields}
use Rattle.memchr.specs.Find.{OccursAt, FindsNeedle}
use Rattle.memchr.proofs.lemmas.MatchLemmas.{OccursAt-split}
use Rattle.submission_wire.specs.Parts.{HasContent, HasPart, IsClosed, IsOneOrNone, is_document_head, is_last_tail}

-- ---- the head of a part

pub content_unique : (part a b : List ℕ) → HasContent part a → HasContent part b → a ≡ b
content_unique part a b x y = (section_unique part x.fields y.fields x.last y.last a b x.reads y.reads).2

module _ (part : List ℕ) (headers : List HeaderSpan) (len count : ℕ) (fields : List Field) (last : LineEnd)
    (at : IsSectionAt part 0 headers len count fields last) (room : length headers ≡ 64) where
  few : length fields ≤ 64
  few =
      let counts = ap length at.fields_are in
      let taken = length-map (take count headers) (header_bytes part) in
      let given = length-map fields name_and_value in
      omega (arith, counts, taken, given, length-take count headers)

  pub content_here : (read : Fields) (content : List ℕ) → read ≡ map (header_bytes part) (take count headers)
      → true ≡ is_document_head read → content ≡ drop len part → HasContent part content
  content_here read content read_is named content_is = record {
    fields = fields;
    last = last;
    reads = subst (ReadsSection part fields last) (sym content_is) at.reads;
    few = few;
    named = ap is_document_head (sym at.fields_are ∙ sym read_is) ∙ sym named;
  }

  pub no_content : (read : Fields) → read ≡ map (header_bytes part) (take count headers)
      → false ≡ is_document_head read → (content : List ℕ) → HasContent part content → ⊥
  no_content read read_is other content has =
      let same = section_unique part fields has.fields last has.last (drop len part) content at.reads has.reads in
      let named : is_document_head read ≡ true = ap is_document_head (read_is ∙ at.fields_are)
      ∙ ap (λ (fs : List Field). is_document_head (map name_and_value fs)) same.0 ∙ has.named in
      cc

-- ---- the delimiter behind a document

module _ (content ending : List ℕ) where
  -- it stands behind the document
  occurs_behind : (document tail : List ℕ) → content ≡ document ++ (ending ++ tail)
      → OccursAt content ending (length document)
  occurs_behind document tail is =
      let here : OccursAt (document ++ (ending ++ tail)) ending (length document) = record {
        fits = (let a = length-append document (ending ++ tail) in let b = length-append ending tail in omega arith);
        reads = λ j within. get_or-append-add document (ending ++ tail) j 0 ∙ get_or-append ending tail 0 j within;
      } in
      subst (λ c. OccursAt c ending (length document)) (sym is) here

  pub closed_at : (at : ℕ) → FindsNeedle content ending 0 (Some at) → (tail : List ℕ)
      → tail ≡ drop (at + length ending) content → true ≡ is_last_tail tail
      → (document : List ℕ) → document ≡ take at content → IsClosed ending content document
  closed_at at found tail tail_is last document is = record {
    tail = tail;
    closed = sym (take-append-drop at content)
        ∙ ap (λ d. take at content ++ d) (OccursAt-split content ending at found.1)
        ∙ ap (λ d. d ++ (ending ++ drop (at + length ending) content)) (sym is)
        ∙ ap (λ t. document ++ (ending ++ t)) (sym tail_is);
    first = λ k within. found.0.before k (omega arith) (omega (arith, ap length is, length-take at content));
    ended = sym last;
  }

  pub never_closed : FindsNeedle content ending 0 None → (document : List ℕ) → IsClosed ending content document → ⊥
  never_closed found document has =
      let here = occurs_behind document has.tail has.closed in
      found (length document) (omega arith) (omega (arith, here.fits)) here

  pub not_closed : (at : ℕ) → FindsNeedle content ending 0 (Some at) → (tail : List ℕ)
      → tail ≡ drop (at + length ending) content → false ≡ is_last_tail tail
      → (document : List ℕ) → IsClosed ending content document → ⊥
  not_closed at found tail tail_is other document has =
      let here = occurs_behind document has.tail has.closed in
      let below : length document < at → ⊥ = λ less. found.0.before (length document) (omega arith) less here in
      let above : at < length document → ⊥ = λ less. has.first at less found.1 in
      let same : at ≡ length document = omega (arith, below, above) in
      let cut : drop (length document) content ≡ ending ++ drop (length document + length ending) content =
      OccursAt-split content ending (length document) here in
      let seam : drop (length document) content ≡ ending ++ has.tail = ap (drop (length document)) has.closed
      ∙ drop-append_seam document (ending ++ has.tail) in
      let behind : drop (length document + length ending) content ≡ has.tail =
      append_cancel_left ending _ _ (sym cut ∙ seam) in
      let tails : tail ≡ has.tail = tail_is ∙ ap (λ n. drop (n + length ending) content) same ∙ behind in
      let last : is_last_tail tail ≡ true = ap is_last_tail tails ∙ has.ended in
      cc

  pub closed_unique : (a b : List ℕ) → IsClosed ending content a → IsClosed ending content b → a ≡ b
  closed_unique a b x y =
      let at_a = occurs_behind a x.tail x.closed in
      let at_b = occurs_behind b y.tail y.closed in
      let below : length a < length b → ⊥ = λ less. y.first (length a) less at_a in
      let above : length b < length a → ⊥ = λ less. x.first (length b) less at_b in
      let same : length a ≡ length b = omega (arith, below, above) in
      sym (take-append_seam a (ending ++ x.tail)) ∙ ap (λ c. take (length a) c) (sym x.closed ∙ y.closed)
      ∙ ap (λ n. take n (b ++ (ending ++ y.tail))) same ∙ take-append_seam b (ending ++ y.tail)

-- ---- a body

module _ (opening ending body : List ℕ) where
  pub never_opened : ((rest : List ℕ) → body ≢ opening ++ rest) → (document : List ℕ)
      → HasPart opening ending body document → ⊥
  never_opened none document has = none has.part has.opened

  part_is : (part : List ℕ) → body ≡ opening ++ part → (document : List ℕ)
      → (has : HasPart opening ending body document) → has.part ≡ part
  part_is part opened document has = append_cancel_left opening has.part part (sym has.opened ∙ opened)

  pub never_headed : (part : List ℕ) → body ≡ opening ++ part → ((content : List ℕ) → HasContent part content → ⊥)
      → (document : List ℕ) → HasPart opening ending body document → ⊥
  never_headed part opened none document has =
      none has.content (subst (λ p. HasContent p has.content) (part_is part opened document has) has.headed)

  pub closed_part : (part content : List ℕ) → body ≡ opening ++ part → HasContent part content
      → (found : Option (List ℕ)) → IsOneOrNone (IsClosed ending content) found
      → IsOneOrNone (HasPart opening ending body) found
  closed_part part content opened headed (Some document) closes = record {
    part = part;
    content = content;
    opened = opened;
    headed = headed;
    closes = closes;
  }
  closed_part part content opened headed None none = λ document has.
      let there : HasContent part has.content =
      subst (λ p. HasContent p has.content) (part_is part opened document has) has.headed in
      let same : has.content ≡ content = content_unique part has.content content there headed in
      none document (subst (λ c. IsClosed ending c document) same has.closes)

  pub part_unique : (a b : List ℕ) → HasPart opening ending body a → HasPart opening ending body b → a ≡ b
  part_unique a b x y =
      let there : HasContent x.part y.content =
      subst (λ p. HasContent p y.content) (part_is x.part x.opened b y) y.headed in
      closed_unique x.content ending a b x.closes
      (subst (λ c. IsClosed ending c b) (content_unique x.part y.content x.content there x.headed) y.closes)

-- ---- a front that is cut off

pub front_cut : (bytes start : List ℕ) (rest : Option (Bor (List ℕ)))
    → MatchOption rest (bytes_eq (take (length start) bytes) start ≡ false)
    (λ x. (bytes_eq (take (length start) bytes) start ≡ true) × (x.now ≡ drop (length start) bytes)
    × (length x.now + length start ≡ length bytes))
    → MatchOption rest ((behind : List ℕ) → bytes ≢ start ++ behind) (λ x. bytes ≡ start ++ x.now)
front_cut bytes start None other = λ behind is.
    let seam : take (length start) bytes ≡ start = ap (take (length start)) is ∙ take-append_seam start behind in
    let same : bytes_eq (take (length start) bytes) start ≡ true =
    (bytes_eq-Decides (take (length start) bytes) start).1 seam in
    cc
front_cut bytes start (Some x) (same, rest_is, sizes) =
    let seam : take (length start) bytes ≡ start = (bytes_eq-Decides (take (length start) bytes) start).0 same in
    sym (take-append-drop (length start) bytes) ∙ ap (λ f. f ++ drop (length start) bytes) seam
    ∙ ap (λ r. start ++ r) (sym rest_is)
