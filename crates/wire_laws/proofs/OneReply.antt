-- Bytes are one reply at most.
use Rattle.std.specs.Prelude.{◌≡◌, ◌≢◌, ℕ, ◌<◌, List, [], ◌∷◌, ◌++◌, length, refl}
use Rattle.std.proofs.Common.{ap, sym, ◌∙◌, subst, arith, append-nil, length-append}
use Rattle.std.proofs.lemmas.List.{append_cancel_left}
use Rattle.httparse.specs.Ascii.{crlf_bytes}
use Rattle.httparse.specs.Grammar.{ResponseHead, status_code, ReadsSection, ReadsChunkLine, HasNoChunkLine}
use Rattle.httparse.specs.Grammar.{NeverHasChunkLine, MayBecomeChunkLine, chunk_size}
use Rattle.httparse.proofs.ChunkLemmas.{chunk_line_unique}
use Rattle.httparse.proofs.GrammarLemmas.{section_unique}
use Rattle.http_reply.specs.declared.framing.Framing.{Framing}
use Rattle.http_reply.specs.declared.framing.Framing.TheVariants.{Wrong, Nothing, Chunked, Length, ToEnd}
use Rattle.http_reply.specs.Bodies.{ReadsBody}
use Rattle.http_reply.specs.Chunks.{HasTrailers, ReadsTrailers, HasSize, ReadsChunks}
use Rattle.http_reply.specs.Chunks.ReadsTrailers.{is_whole, is_short, never, too_many}
use Rattle.http_reply.specs.Chunks.ReadsChunks.{no_line, bad_line, last, no_data, no_end, bad_end, chunk}
use Rattle.http_reply.specs.Framings.{reply_framing}
use Rattle.http_reply.specs.Heads.{FindsHead, fields_of}
use Rattle.http_reply.specs.Reads.{Read, whole, short, bad, read_map}
use Rattle.http_reply.specs.Replies.{Reply, IsReply, has_own_end}
use Rattle.http_reply.specs.Replies.IsReply.{short_head, bad_head, headed}
use Rattle.wire_laws.specs.ReplyHeads.{one_final}

-- ---- trailers

trailers_alone : (bytes rest : List ℕ) (other : Read (List ℕ)) → HasTrailers bytes rest → ReadsTrailers bytes other
    → other ≡ whole rest
trailers_alone bytes rest other has (is_whole q too) =
    ap (λ (t : List ℕ). whole t) (section_unique bytes too.fields has.fields too.last has.last q rest too.reads has.reads).2
trailers_alone bytes rest other has (is_short none may few) = absurd (none has.fields has.last rest has.reads)
trailers_alone bytes rest other has (never none_ever) =
    absurd (none_ever [] has.fields has.last rest
    (subst (λ (t : List ℕ). ReadsSection t has.fields has.last rest) (sym (append-nil bytes)) has.reads))
trailers_alone bytes rest other has (too_many none many) = absurd (none rest has)

short_or_bad : (bytes : List ℕ) → ReadsTrailers bytes short → ReadsTrailers bytes bad → ⊥
short_or_bad bytes (is_short none may few) (never none_ever) = none_ever may.0 may.1 may.2 [] may.3
short_or_bad bytes (is_short none may few) (too_many other many) = omega (arith, few, many)

one_trailers : (bytes : List ℕ) (a b : Read (List ℕ)) → ReadsTrailers bytes a → ReadsTrailers bytes b → a ≡ b
one_trailers bytes a b (is_whole rest has) y = sym (trailers_alone bytes rest b has y)
one_trailers bytes a b (is_short none may few) (is_whole rest has) =
    trailers_alone bytes rest short has (is_short none may few)
one_trailers bytes a b (is_short none may few) (is_short n m f) = refl
one_trailers bytes a b (is_short none may few) (never no_more) =
    absurd (short_or_bad bytes (is_short none may few) (never no_more))
one_trailers bytes a b (is_short none may few) (too_many no_more many) =
    absurd (short_or_bad bytes (is_short none may few) (too_many no_more many))
one_trailers bytes a b (never none) (is_whole rest has) = trailers_alone bytes rest bad has (never none)
one_trailers bytes a b (never none) (is_short n m f) = absurd (short_or_bad bytes (is_short n m f) (never none))
one_trailers bytes a b (never none) (never no_more) = refl
one_trailers bytes a b (never none) (too_many no_more many) = refl
one_trailers bytes a b (too_many none many) (is_whole rest has) =
    trailers_alone bytes rest bad has (too_many none many)
one_trailers bytes a b (too_many none many) (is_short n m f) =
    absurd (short_or_bad bytes (is_short n m f) (too_many none many))
one_trailers bytes a b (too_many none many) (never no_more) = refl
one_trailers bytes a b (too_many none many) (too_many no_more more) = refl

-- ---- chunks

abbrev Found : Type 0
Found = Read (List ℕ × List ℕ)

-- the line of a chunk, its size and what is behind it are one
one_size : (bytes : List ℕ) (m n : ℕ) (r q : List ℕ) → HasSize bytes m r → HasSize bytes n q → (m ≡ n) × (r ≡ q)
one_size bytes m n r q x y =
    let same = chunk_line_unique bytes x.line y.line r q x.reads y.reads in
    (x.size_is ∙ ap chunk_size same.0 ∙ sym y.size_is, same.1)

no_size : (bytes : List ℕ) (n : ℕ) (rest : List ℕ) → HasNoChunkLine bytes → HasSize bytes n rest → ⊥
no_size bytes n rest none x = none x.line rest x.reads

never_size : (bytes : List ℕ) (n : ℕ) (rest : List ℕ) → NeverHasChunkLine bytes → HasSize bytes n rest → ⊥
never_size bytes n rest none x =
    none [] x.line rest (subst (λ (t : List ℕ). ReadsChunkLine t x.line rest) (sym (append-nil bytes)) x.reads)

-- what comes behind the data of a chunk
data Tail (start tail : List ℕ) : Found → Type 0 where
  cut : (more : List ℕ) → tail ++ more ≡ crlf_bytes → more ≢ [] → Tail start tail short
  off : ((more left : List ℕ) → tail ++ more ≢ crlf_bytes ++ left) → Tail start tail bad
  on : {found : Found} (left : List ℕ) → tail ≡ crlf_bytes ++ left → ReadsChunks left found
      → Tail start tail (read_map (λ body. (start ++ body.0, body.1)) found)

-- what comes behind the line of a chunk, by its size
data Behind (size : ℕ) (rest : List ℕ) : Found → Type 0 where
  trailers : {found : Read (List ℕ)} → size ≡ 0 → ReadsTrailers rest found
      → Behind size rest (read_map (λ behind. ([], behind)) found)
  too_short : length rest < size → Behind size rest short
  data_first : {found : Found} (start tail : List ℕ) → length start ≡ size → 0 < size → rest ≡ start ++ tail
      → Tail start tail found → Behind size rest found

behind_line : (bytes : List ℕ) (size : ℕ) (rest : List ℕ) (found : Found) → HasSize bytes size rest
    → ReadsChunks bytes found → Behind size rest found
behind_line bytes size rest found has (no_line none may) = absurd (no_size bytes size rest none has)
behind_line bytes size rest found has (bad_line none) = absurd (never_size bytes size rest none has)
behind_line bytes size rest found has (last {found = read} q sized is) =
    let same = one_size bytes size 0 rest q has sized in
    trailers same.0 (subst (λ (t : List ℕ). ReadsTrailers t read) (sym same.1) is)
behind_line bytes size rest found has (no_data n q sized less) =
    let same = one_size bytes n size q rest sized has in
    too_short (subst (λ (t : List ℕ). length t < size) same.1 (subst (λ (k : ℕ). length q < k) same.0 less))
behind_line bytes size rest found has (no_end start behind more sized some is left) =
    let same = one_size bytes (length start) size (start ++ behind) rest sized has in
    data_first start behind same.0 (subst (λ (k : ℕ). 0 < k) same.0 some) (sym same.1) (cut more is left)
behind_line bytes size rest found has (bad_end start behind sized some none) =
    let same = one_size bytes (length start) size (start ++ behind) rest sized has in
    data_first start behind same.0 (subst (λ (k : ℕ). 0 < k) same.0 some) (sym same.1) (off none)
behind_line bytes size rest found has (chunk start left here reads) =
    let same = one_size bytes (length start) size here.behind rest here.sized has in
    data_first start (crlf_bytes ++ left) same.0 (subst (λ (k : ℕ). 0 < k) same.0 here.some)
    (sym same.1 ∙ here.ends) (on left refl reads)

-- a list is cut in one way into fronts of one length
one_cut : (a b x y : List ℕ) → length a ≡ length b → a ++ x ≡ b ++ y → (a ≡ b) × (x ≡ y)
one_cut [] [] x y long e = (refl, e)
one_cut [] (c ∷ b) x y long e = absurd (omega (arith, long))
one_cut (c ∷ a) [] x y long e = absurd (omega (arith, long))
one_cut (c ∷ a) (d ∷ b) x y long e =
    let more = one_cut a b x y (omega (arith, long)) (ends e) in (cc, more.1)
  where
    ends : c ∷ (a ++ x) ≡ d ∷ (b ++ y) → a ++ x ≡ b ++ y
    ends is = cc

tail_alone : (start tail : List ℕ) (a b : Found) → 0 < length start → ((c : Found) → Tail start tail c → a ≡ c)
    → Behind (length start) (start ++ tail) b → a ≡ b
tail_alone start tail a b some alone (trailers none is) = absurd (omega (arith, some, none))
tail_alone start tail a b some alone (too_short less) = absurd (omega (arith, less, length-append start tail))
tail_alone start tail a b some alone (data_first s t long more is behind) =
    let same = one_cut s start t tail long (sym is) in
    alone b (subst (λ (u : List ℕ). Tail start u b) same.1 (subst (λ (u : List ℕ). Tail u t b) same.0 behind))

data_alone : (size : ℕ) (rest : List ℕ) (b : Found) → length rest < size → Behind size rest b → short ≡ b
data_alone size rest b less (trailers none is) = absurd (omega (arith, less, none))
data_alone size rest b less (too_short too) = refl
data_alone size rest b less (data_first s t long some is behind) =
    absurd (omega (arith, less, long, ap length is, length-append s t))

last_alone : (rest : List ℕ) (read : Read (List ℕ)) (b : Found) → ReadsTrailers rest read → Behind 0 rest b
    → read_map (λ behind. ([], behind)) read ≡ b
last_alone rest read b is (trailers {found = other} none too) =
    ap (λ (r : Read (List ℕ)). read_map {B = List ℕ × List ℕ} (λ behind. ([], behind)) r) (one_trailers rest read other is too)
last_alone rest read b is (too_short less) = absurd (omega (arith, less))
last_alone rest read b is (data_first s t long some e behind) = absurd (omega (arith, some))

-- a line end, the beginning of one, and neither
cut_short : (tail more left : List ℕ) → tail ++ more ≡ crlf_bytes → more ≢ [] → tail ≡ crlf_bytes ++ left → ⊥
cut_short tail [] left is some e = some refl
cut_short tail (b ∷ more) left is some e =
    omega (arith, ap length is, ap length e, length-append tail (b ∷ more), length-append crlf_bytes left)

cut_alone : (start tail more : List ℕ) (c : Found) → tail ++ more ≡ crlf_bytes → more ≢ [] → Tail start tail c
    → short ≡ c
cut_alone start tail more c is some (cut m i s) = refl
cut_alone start tail more c is some (off none) = absurd (none more [] (is ∙ sym (append-nil crlf_bytes)))
cut_alone start tail more c is some (on left e reads) = absurd (cut_short tail more left is some e)

off_alone : (start tail : List ℕ) (c : Found) → ((more left : List ℕ) → tail ++ more ≢ crlf_bytes ++ left)
    → Tail start tail c → bad ≡ c
off_alone start tail c none (cut more is some) = absurd (none more [] (is ∙ sym (append-nil crlf_bytes)))
off_alone start tail c none (off too) = refl
off_alone start tail c none (on left e reads) = absurd (none [] left (append-nil tail ∙ e))

on_alone : (start left : List ℕ) (found c : Found) → ((d : Found) → ReadsChunks left d → found ≡ d)
    → Tail start (crlf_bytes ++ left) c → read_map (λ body. (start ++ body.0, body.1)) found ≡ c
on_alone start left found c alone (cut more is some) = absurd (cut_short (crlf_bytes ++ left) more left is some refl)
on_alone start left found c alone (off none) = absurd (none [] left (append-nil (crlf_bytes ++ left)))
on_alone start left found c alone (on {found = other} q e reads) =
    let same : q ≡ left = sym (append_cancel_left crlf_bytes left q e) in
    ap (λ (r : Found). read_map {B = List ℕ × List ℕ} (λ body. (start ++ body.0, body.1)) r)
    (alone other (subst (λ (t : List ℕ). ReadsChunks t other) same reads))

short_line : (bytes : List ℕ) (b : Found) → HasNoChunkLine bytes → MayBecomeChunkLine bytes → ReadsChunks bytes b
    → short ≡ b
short_line bytes b none may (no_line n m) = refl
short_line bytes b none may (bad_line none_ever) = absurd (none_ever may.0 may.1 [] may.2)
short_line bytes b none may (last rest sized is) = absurd (no_size bytes 0 rest none sized)
short_line bytes b none may (no_data n rest sized less) = absurd (no_size bytes n rest none sized)
short_line bytes b none may (no_end s t m sized some is left) = absurd (no_size bytes (length s) (s ++ t) none sized)
short_line bytes b none may (bad_end s t sized some is) = absurd (no_size bytes (length s) (s ++ t) none sized)
short_line bytes b none may (chunk s left here reads) = absurd (no_size bytes (length s) here.behind none here.sized)

off_line : (bytes : List ℕ) (b : Found) → NeverHasChunkLine bytes → ReadsChunks bytes b → bad ≡ b
off_line bytes b none (no_line n may) = absurd (none may.0 may.1 [] may.2)
off_line bytes b none (bad_line n) = refl
off_line bytes b none (last rest sized is) = absurd (never_size bytes 0 rest none sized)
off_line bytes b none (no_data n rest sized less) = absurd (never_size bytes n rest none sized)
off_line bytes b none (no_end s t m sized some is left) = absurd (never_size bytes (length s) (s ++ t) none sized)
off_line bytes b none (bad_end s t sized some is) = absurd (never_size bytes (length s) (s ++ t) none sized)
off_line bytes b none (chunk s left here reads) = absurd (never_size bytes (length s) here.behind none here.sized)

one_content : (bytes : List ℕ) (a b : Found) → ReadsChunks bytes a → ReadsChunks bytes b → a ≡ b
one_content bytes a b (no_line none may) y = short_line bytes b none may y
one_content bytes a b (bad_line none) y = off_line bytes b none y
one_content bytes a b (last {found = read} rest sized is) y =
    last_alone rest read b is (behind_line bytes 0 rest b sized y)
one_content bytes a b (no_data size rest sized less) y =
    data_alone size rest b less (behind_line bytes size rest b sized y)
one_content bytes a b (no_end start tail more sized some is left) y =
    tail_alone start tail short b some (λ c t. cut_alone start tail more c is left t)
    (behind_line bytes (length start) (start ++ tail) b sized y)
one_content bytes a b (bad_end start tail sized some none) y =
    tail_alone start tail bad b some (λ c t. off_alone start tail c none t)
    (behind_line bytes (length start) (start ++ tail) b sized y)
one_content bytes a b (chunk {found = found} start left here reads) y =
    let sized = subst (λ (t : List ℕ). HasSize bytes (length start) t) here.ends here.sized in
    tail_alone start (crlf_bytes ++ left) a b here.some
    (λ c t. on_alone start left found c (λ d z. one_content left found d reads z) t)
    (behind_line bytes (length start) (start ++ (crlf_bytes ++ left)) b sized y)

-- ---- bodies and replies

one_body : (framing : Framing) (total : ℕ) (bytes : List ℕ) (a b : Read (List ℕ)) → ReadsBody framing total bytes a
    → ReadsBody framing total bytes b → a ≡ b
one_body Wrong total bytes a b x y = x ∙ sym y
one_body Nothing total bytes a b x y = x ∙ sym y
one_body (Length n) total bytes a b x y = x ∙ sym y
one_body ToEnd total bytes a b x y = x ∙ sym y
one_body Chunked total bytes a b x y =
    x.2 ∙ ap (λ (r : Found). read_map (λ (c : List ℕ × List ℕ). c.0) r) (one_content bytes x.0 y.0 x.1 y.1) ∙ sym y.2

abbrev reply_with : ResponseHead → Read (List ℕ) → Reply
reply_with head body = record {
  status = status_code head;
  body = body;
  has_end = has_own_end (reply_framing (status_code head) (fields_of head));
}

abbrev Heads : Type 0
Heads = Read (ResponseHead × List ℕ)

short_whole : {x : ResponseHead × List ℕ} → ◌≡◌ {A = Heads} short (whole x) → ⊥
short_whole e = absurd cc

bad_whole : {x : ResponseHead × List ℕ} → ◌≡◌ {A = Heads} bad (whole x) → ⊥
bad_whole e = absurd cc

short_bad : ◌≡◌ {A = Heads} short bad → ⊥
short_bad e = absurd cc

same_pair : {x y : ResponseHead × List ℕ} → ◌≡◌ {A = Heads} (whole x) (whole y) → x ≡ y
same_pair is = cc

same_headed : (bytes : List ℕ) (g h : ResponseHead) (q r : List ℕ) (a b : Read (List ℕ))
    → FindsHead bytes (whole (g, q)) → FindsHead bytes (whole (h, r))
    → ReadsBody (reply_framing (status_code g) (fields_of g)) (length bytes) q a
    → ReadsBody (reply_framing (status_code h) (fields_of h)) (length bytes) r b → reply_with g a ≡ reply_with h b
same_headed bytes g h q r a b one other x y =
    let same = same_pair (one_final bytes (whole (g, q)) (whole (h, r)) one other) in
    let z = subst
    (λ (p : ResponseHead × List ℕ). ReadsBody (reply_framing (status_code p.0) (fields_of p.0)) (length bytes) p.1 a)
    same x in
    let body = one_body (reply_framing (status_code h) (fields_of h)) (length bytes) r a b z y in
    λ i. reply_with (same i).0 (body i)

pub one_reply : (bytes : List ℕ) (a b : Reply) → IsReply bytes a → IsReply bytes b → a ≡ b
one_reply bytes a b (short_head finds) (short_head too) = refl
one_reply bytes a b (short_head finds) (bad_head too) = absurd (short_bad (one_final bytes short bad finds too))
one_reply bytes a b (short_head finds) (headed h r too y) =
    absurd (short_whole (one_final bytes short (whole (h, r)) finds too))
one_reply bytes a b (bad_head finds) (short_head too) = absurd (short_bad (one_final bytes short bad too finds))
one_reply bytes a b (bad_head finds) (bad_head too) = refl
one_reply bytes a b (bad_head finds) (headed h r too y) =
    absurd (bad_whole (one_final bytes bad (whole (h, r)) finds too))
one_reply bytes a b (headed g q finds x) (short_head too) =
    absurd (short_whole (one_final bytes short (whole (g, q)) too finds))
one_reply bytes a b (headed g q finds x) (bad_head too) =
    absurd (bad_whole (one_final bytes bad (whole (g, q)) too finds))
one_reply bytes a b (headed {body = c} g q finds x) (headed {body = d} h r too y) =
    same_headed bytes g h q r c d finds too x y
