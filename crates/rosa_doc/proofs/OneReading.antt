-- Bytes have one reading at most: a document, or a refusal.
use Rattle.std.proofs.Common.{◌≡◌, ◌≢◌, ℕ, ◌<◌, ◌≤◌, true, false, List, [], ◌∷◌, ◌++◌, length, Some, Result, Ok, Err, refl, sym, ap, subst, ◌∙◌, arith, inl, inr, append_assoc, encode_utf8_all}
use Rattle.std.specs.Str.{IsUtf8, IsValidUpTo}
use Rattle.std.proofs.lemmas.List.{append-nil, take_all, length-append}
use Rattle.std.proofs.lemmas.Bool.{cases_lt, cond-true, cond-false}
use Rattle.std.proofs.lemmas.Str.{utf8_valid_len-IsValidUpTo}
use Rattle.rosa_pieces.specs.declared.piece.Piece.{Piece}
use Rattle.rosa_pieces.specs.Pieces.{Spelled, IsPiece}
use Rattle.rosa_doc.specs.declared.tree.Element.{Element}
use Rattle.rosa_doc.specs.declared.tree.Doc.{Doc}
use Rattle.rosa_doc.specs.declared.refusal.DocRefused.{DocRefused}
use Rattle.rosa_doc.specs.declared.refusal.DocRefused.TheVariants as refusals
use Rattle.rosa_doc.specs.Documents.{IsDocument, body_of}
use Rattle.rosa_doc.specs.Refusals.{AreFirst, BeginDocument, AreLongest, AreShallow, IsDeep, IsText, IsPlace, IsDoc, Stops, Refuses, ReadsAs, is_doctype, longest_document}
use Rattle.rosa_doc.specs.Reading.{refused_before}
use Rattle.rosa_doc.specs.Machine.{After}
use Rattle.rosa_doc.proofs.Runs.{document_runs}
use Rattle.rosa_doc.proofs.Firsts.{GoesOn, first_goes_on, piece_is_long}

no_pieces : (more : List Piece) (z : List ℕ) → Spelled IsPiece more z → z ≡ [] → more ≡ []
no_pieces [] z h e = refl
no_pieces (p ∷ more) z (x, y, hp, hs, f) e = absurd (piece_is_long p x hp (front_nil x y (sym f ∙ e)))
  where
    front_nil : (x w : List ℕ) → x ++ w ≡ [] → x ≡ []
    front_nil [] w e = refl
    front_nil (c ∷ x) w e = absurd cc

parts_nil : (z r : List ℕ) → [] ≡ z ++ r → (z ≡ []) × (r ≡ [])
parts_nil [] r e = (refl, sym e)
parts_nil (c ∷ z) r e = absurd cc

-- nothing goes on behind the whole
ends_there : (ps qs : List Piece) (r : List ℕ) → GoesOn ps qs [] r → (qs ≡ ps) × (r ≡ [])
ends_there ps qs r (more, z, is, spelled, rest) =
    let n = parts_nil z r rest in
    let none = no_pieces more z spelled n.0 in
    (is ∙ ap (λ (t : List Piece). ps ++ t) none ∙ append-nil ps, n.1)

whole_first : (ps : List Piece) (cs : List ℕ) → Spelled IsPiece ps cs → AreFirst ps cs []
whole_first ps cs h = record { spelled = cs; spells = h; parts = sym (append-nil cs) }

-- first pieces that are no fewer than all of them are all of them
all_of_them : (ps qs : List Piece) (cs r : List ℕ) → Spelled IsPiece ps cs → AreFirst qs cs r → length ps ≤ length qs → (qs ≡ ps) × (r ≡ [])
all_of_them ps qs cs r h k le = ends_there ps qs r (first_goes_on ps qs cs [] r (whole_first ps cs h) k le)

same_pieces : (ps qs : List Piece) (cs : List ℕ) → Spelled IsPiece ps cs → Spelled IsPiece qs cs → ps ≡ qs
same_pieces ps qs cs h k = elim (cases_lt (length ps) (length qs)) [
  | inl lt ↦ sym (all_of_them ps qs cs [] h (whole_first qs cs k) (omega arith)).0
  | inr le ↦ (all_of_them qs ps cs [] k (whole_first ps cs h) le).0
]

same_root : (ps : List Piece) (d e : Element) → IsDocument ps d → IsDocument ps e → d ≡ e
same_root ps d e h k = let both : Some (After d) ≡ Some (After e) = sym (document_runs ps d h) ∙ document_runs ps e k in cc

one_document : (bytes : List ℕ) (a b : Doc) → IsDoc bytes a → IsDoc bytes b → a ≡ b
one_document bytes a b h k =
    let same = same_pieces h.pieces k.pieces (body_of bytes) h.spells k.spells in
    let root = same_root k.pieces a.root b.root (subst (λ (t : List Piece). IsDocument t a.root) same h.document) k.document in
    ap (λ (r : Element). record { root = r }) root

-- a document's pieces are the longest
longest_is_all : (bytes : List ℕ) (doc : Doc) (h : IsDoc bytes doc) (ps : List Piece) (rest : List ℕ) → AreLongest ps (body_of bytes) rest → (ps ≡ h.pieces) × (rest ≡ [])
longest_is_all bytes doc h ps rest k =
    let begin : BeginDocument h.pieces = record { more = []; root = doc.root; whole = subst (λ (t : List Piece). IsDocument t doc.root) (sym (append-nil h.pieces)) h.document } in
    let le = k.longest h.pieces [] (whole_first h.pieces (body_of bytes) h.spells) begin in
    all_of_them h.pieces ps (body_of bytes) rest h.spells k.first le

-- first pieces behind those that go too deep go too deep
too_deep : (cs : List ℕ) (rest : List ℕ) (d : IsDeep cs rest) (ps : List Piece) (r : List ℕ) → AreFirst ps cs r → AreShallow ps → length d.before < length ps → ⊥
too_deep cs rest d ps r first shallow lt =
    let front = d.before ++ (d.tag ∷ []) in
    let le : length front ≤ length ps = omega (arith, length-append d.before (d.tag ∷ []), lt) in
    let (more, z, is, spelled, rest-is) = first_goes_on front ps cs d.after r d.with_tag first le in
    let low = shallow d.before d.tag more (is ∙ append_assoc d.before (d.tag ∷ []) more) d.opening in
    let level = d.level in
    absurd (omega (arith, low, level))

deep_is_short : (cs : List ℕ) (rest : List ℕ) (d : IsDeep cs rest) (ps : List Piece) → length (d.before ++ (d.tag ∷ [])) ≤ length ps → length d.before < length ps
deep_is_short cs rest d ps le = omega (arith, length-append d.before (d.tag ∷ []), le)

no_deep : (bytes : List ℕ) (doc : Doc) (h : IsDoc bytes doc) (rest : List ℕ) → IsDeep (body_of bytes) rest → ⊥
no_deep bytes doc h rest d =
    let front = d.before ++ (d.tag ∷ []) in
    let whole = whole_first h.pieces (body_of bytes) h.spells in
    elim (cases_lt (length h.pieces) (length front)) [
      | inl lt ↦ let a = all_of_them h.pieces front (body_of bytes) d.after h.spells d.with_tag (omega arith) in absurd (omega (arith, lt, ap length (a.0)))
      | inr le ↦ too_deep (body_of bytes) rest d h.pieces [] whole h.shallow (deep_is_short (body_of bytes) rest d h.pieces le)
    ]

-- UTF-8 is no bytes that stop being it
text_is_whole : (bytes : List ℕ) (at : ℕ) → IsValidUpTo bytes at → IsUtf8 bytes → ⊥
text_is_whole bytes at valid utf8 = valid.longest (length bytes) valid.short (rw (take_all (length bytes) bytes (omega arith)) utf8)

never_refused : (bytes : List ℕ) (doc : Doc) (refusal : DocRefused) → IsDoc bytes doc → Refuses bytes refusal → refusal ≡ refusals.NoMemory
never_refused bytes doc (refusals.TooLong n) h (long, is) = absurd (let t = h.text.0 in omega (arith, t, long))
never_refused bytes doc (refusals.NotUtf8 at) h (fits, valid) = absurd (text_is_whole bytes at valid h.text.1)
never_refused bytes doc (refusals.TooDeep at) h (rest, text, deep, place) = absurd (no_deep bytes doc h rest deep)
never_refused bytes doc (refusals.Unclosed at) h (ps, stops, none) =
    let a = longest_is_all bytes doc h ps [] stops.longest in
    absurd (none doc.root (subst (λ (t : List Piece). IsDocument t doc.root) (sym a.0) h.document))
never_refused bytes doc (refusals.HasDoctype at) h (ps, rest, stops, doctype) =
    let a = longest_is_all bytes doc h ps rest stops.longest in
    absurd (let no : is_doctype rest ≡ false = ap is_doctype a.1 in let both : true ≡ false = sym doctype ∙ no in cc)
never_refused bytes doc (refusals.BadMarkup at) h (ps, rest, stops, long, doctype) =
    let a = longest_is_all bytes doc h ps rest stops.longest in
    absurd (long a.1)
never_refused bytes doc refusals.NoMemory h k = refl

-- ---- two refusals

same_rest : (ps qs : List Piece) (rest r : List ℕ) → GoesOn ps qs rest r → length qs ≤ length ps → rest ≡ r
same_rest ps qs rest r ([], z, is, spelled, rest-is) le = rest-is ∙ ap (λ (t : List ℕ). t ++ r) spelled
same_rest ps qs rest r (p ∷ more, z, is, spelled, rest-is) le = absurd (omega (arith, ap length is, length-append ps (p ∷ more)))

-- as many first pieces leave the same
as_many : (ps qs : List Piece) (cs rest r : List ℕ) → AreFirst ps cs rest → AreFirst qs cs r → length ps ≤ length qs → length qs ≤ length ps → rest ≡ r
as_many ps qs cs rest r h k le ge = same_rest ps qs rest r (first_goes_on ps qs cs rest r h k le) ge

same_deep : (cs rest r : List ℕ) → IsDeep cs rest → IsDeep cs r → rest ≡ r
same_deep cs rest r d e = elim (cases_lt (length d.before) (length e.before)) [
  | inl lt ↦ absurd (too_deep cs rest d e.before r e.first e.shallow lt)
  | inr ge ↦ elim (cases_lt (length e.before) (length d.before)) [
    | inl lt ↦ absurd (too_deep cs r e d.before rest d.first d.shallow lt)
    | inr le ↦ as_many d.before e.before cs rest r d.first e.first le ge
  ]
]

deep_goes_on : (bytes rest r : List ℕ) (at : ℕ) (ps : List Piece) → IsDeep (body_of bytes) rest → Stops bytes at ps r → ⊥
deep_goes_on bytes rest r at ps d stops =
    let le = stops.longest.longest (d.before ++ (d.tag ∷ [])) d.after d.with_tag d.begin in
    too_deep (body_of bytes) rest d ps r stops.longest.first stops.shallow (deep_is_short (body_of bytes) rest d ps le)

same_stop : (bytes rest r : List ℕ) (at other : ℕ) (ps qs : List Piece) → Stops bytes at ps rest → Stops bytes other qs r → rest ≡ r
same_stop bytes rest r at other ps qs h k =
    let le = k.longest.longest ps rest h.longest.first h.longest.begin in
    let ge = h.longest.longest qs r k.longest.first k.longest.begin in
    as_many ps qs (body_of bytes) rest r h.longest.first k.longest.first le ge

same_place : (bytes rest r : List ℕ) (at other : ℕ) → IsPlace bytes rest at → IsPlace bytes r other → rest ≡ r → at ≡ other
same_place bytes rest r at other h k e = omega (arith, h, k, ap (λ (x : List ℕ). length (encode_utf8_all x)) e)

-- the refusal where the pieces can't go on before rest
abbrev stopped_refusal : ℕ → List ℕ → DocRefused
stopped_refusal at [] = refusals.Unclosed at
stopped_refusal at (c ∷ rest) = refused_before at (c ∷ rest)

doctype_stops : (at : ℕ) (rest : List ℕ) → is_doctype rest ≡ true → refusals.HasDoctype at ≡ stopped_refusal at rest
doctype_stops at [] e = absurd cc
doctype_stops at (c ∷ rest) e = sym (cond-true (is_doctype (c ∷ rest)) (refusals.HasDoctype at) (refusals.BadMarkup at) e)

markup_stops : (at : ℕ) (rest : List ℕ) → rest ≢ [] → is_doctype rest ≡ false → refusals.BadMarkup at ≡ stopped_refusal at rest
markup_stops at [] long e = absurd (long refl)
markup_stops at (c ∷ rest) long e = sym (cond-false (is_doctype (c ∷ rest)) (refusals.HasDoctype at) (refusals.BadMarkup at) e)

-- the four causes of a refusal
data Cause (bytes : List ℕ) (refusal : DocRefused) : Type 0 where
  long : longest_document < length bytes → refusal ≡ refusals.TooLong (length bytes) → Cause bytes refusal
  no_text : (at : ℕ) → length bytes ≤ longest_document → IsValidUpTo bytes at → refusal ≡ refusals.NotUtf8 at → Cause bytes refusal
  deep : (at : ℕ) (rest : List ℕ) → IsText bytes → IsDeep (body_of bytes) rest → IsPlace bytes rest at → refusal ≡ refusals.TooDeep at → Cause bytes refusal
  stopped : (at : ℕ) (rest : List ℕ) (ps : List Piece) → Stops bytes at ps rest → refusal ≡ stopped_refusal at rest → Cause bytes refusal

cause_of : (bytes : List ℕ) (refusal : DocRefused) → Refuses bytes refusal → refusal ≢ refusals.NoMemory → Cause bytes refusal
cause_of bytes (refusals.TooLong n) (lt, is) told = long lt (ap (λ (k : ℕ). refusals.TooLong k) is)
cause_of bytes (refusals.NotUtf8 at) (le, valid) told = no_text at le valid refl
cause_of bytes (refusals.TooDeep at) (rest, text, d, place) told = deep at rest text d place refl
cause_of bytes (refusals.Unclosed at) (ps, stops, none) told = stopped at [] ps stops refl
cause_of bytes (refusals.HasDoctype at) (ps, rest, stops, doctype) told = stopped at rest ps stops (doctype_stops at rest doctype)
cause_of bytes (refusals.BadMarkup at) (ps, rest, stops, more, doctype) told = stopped at rest ps stops (markup_stops at rest more doctype)
cause_of bytes refusals.NoMemory h told = absurd (told refl)

too_long : (bytes : List ℕ) → longest_document < length bytes → length bytes ≤ longest_document → ⊥
too_long bytes lt le = absurd (omega (arith, lt, le))

same_cause : (bytes : List ℕ) (a b : DocRefused) → Cause bytes a → Cause bytes b → a ≡ b
same_cause bytes a b (long lt e) (long _ f) = e ∙ sym f
same_cause bytes a b (long lt e) (no_text at le valid f) = absurd (too_long bytes lt le)
same_cause bytes a b (long lt e) (deep at rest text d place f) = absurd (too_long bytes lt text.0)
same_cause bytes a b (long lt e) (stopped at rest ps stops f) = absurd (too_long bytes lt stops.text.0)
same_cause bytes a b (no_text at le valid e) (long lt f) = absurd (too_long bytes lt le)
same_cause bytes a b (no_text at le valid e) (no_text other _ also f) = e ∙ ap (λ (k : ℕ). refusals.NotUtf8 k) (sym (utf8_valid_len-IsValidUpTo bytes at valid) ∙ utf8_valid_len-IsValidUpTo bytes other also) ∙ sym f
same_cause bytes a b (no_text at le valid e) (deep other rest text d place f) = absurd (text_is_whole bytes at valid text.1)
same_cause bytes a b (no_text at le valid e) (stopped other rest ps stops f) = absurd (text_is_whole bytes at valid stops.text.1)
same_cause bytes a b (deep at rest text d place e) (long lt f) = absurd (too_long bytes lt text.0)
same_cause bytes a b (deep at rest text d place e) (no_text other le valid f) = absurd (text_is_whole bytes other valid text.1)
same_cause bytes a b (deep at rest text d place e) (deep other r _ also there f) = e ∙ ap (λ (k : ℕ). refusals.TooDeep k) (same_place bytes rest r at other place there (same_deep (body_of bytes) rest r d also)) ∙ sym f
same_cause bytes a b (deep at rest text d place e) (stopped other r ps stops f) = absurd (deep_goes_on bytes rest r other ps d stops)
same_cause bytes a b (stopped at rest ps stops e) (long lt f) = absurd (too_long bytes lt stops.text.0)
same_cause bytes a b (stopped at rest ps stops e) (no_text other le valid f) = absurd (text_is_whole bytes other valid stops.text.1)
same_cause bytes a b (stopped at rest ps stops e) (deep other r text d place f) = absurd (deep_goes_on bytes r rest at ps d stops)
same_cause bytes a b (stopped at rest ps stops e) (stopped other r qs also f) =
    let same = same_stop bytes rest r at other ps qs stops also in
    e ∙ ap (λ (k : ℕ). stopped_refusal k rest) (same_place bytes rest r at other stops.place also.place same) ∙ ap (λ (x : List ℕ). stopped_refusal other x) same ∙ sym f

pub one_reading : (bytes : List ℕ) (a b : Result Doc DocRefused) → ReadsAs bytes a → ReadsAs bytes b → a ≡ b
one_reading bytes (Ok a) (Ok b) h k = ap (λ (d : Doc). Ok d) (one_document bytes a b h k)
one_reading bytes (Ok a) (Err b) h (k, told) = absurd (told (never_refused bytes a b h k))
one_reading bytes (Err a) (Ok b) (h, told) k = absurd (told (never_refused bytes b a k h))
one_reading bytes (Err a) (Err b) (h, told) (k, also) = ap (λ (r : DocRefused). Err r) (same_cause bytes a b (cause_of bytes a h told) (cause_of bytes b k also))
