-- Interim heads, one after another.
use Rattle.std.proofs.Common.{◌≡◌, ℕ, ◌+◌, ◌≤◌, true, false, ◌&&◌, nat_le, nat_lt, List, length, map, take, drop, refl, sym, ap, subst, ◌∙◌, arith, length-drop}
use Rattle.std.proofs.lemmas.List.{drop-drop, length-map, length-take}
use Rattle.httparse.specs.Grammar.{ResponseHead}
use Rattle.httparse.specs.declared.spans.HeaderSpan.{HeaderSpan}
use Rattle.httparse.specs.declared.spans.ResponseSpans.{ResponseSpans}
use Rattle.httparse.specs.Spans.{IsResponseWithin, IsResponseAt, header_bytes, name_and_value}
use Rattle.http_reply.specs.declared.framing.Framing.{Framing}
use Rattle.http_reply.specs.declared.head.Head.{Head}
use Rattle.http_reply.specs.declared.head.Piece.TheVariants.{Whole}
use Rattle.http_reply.specs.Found.{IsHead, IsFinalHead, IsHeadAt}
use Rattle.http_reply.specs.Framings.{reply_framing}
use Rattle.http_reply.specs.Heads.{FindsHead, HasHead, interim, final, fields_of}
use Rattle.http_reply.specs.Reads.{Read}
use Rattle.http_reply.proofs.LineCounts.{print_some}

-- what the rest has for its final head, the bytes have
abbrev pub Leads : List ℕ → List ℕ → Type 0
Leads bytes rest = (found : Read (ResponseHead × List ℕ)) → FindsHead rest found → FindsHead bytes found

-- what the parser found is a head
pub head_found : (bytes : List ℕ) (headers : List HeaderSpan) (found : ResponseSpans) (head : ResponseHead) (framing : Framing) → IsResponseWithin bytes headers found
    → IsResponseAt bytes headers found head → framing ≡ reply_framing found.code (map (header_bytes bytes) (take found.headers headers)) → length headers ≡ 64
    → HasHead bytes head (drop found.len bytes) × IsHeadAt bytes (drop found.len bytes) (record { len = found.len; status = found.code; framing = framing }) head
head_found bytes headers found head framing within at framed room =
    let counts = ap length at.fields in
    let taken = length-map (take found.headers headers) (header_bytes bytes) in
    let given = length-map head.fields name_and_value in (
      record { reads = at.reads; few = omega (arith, counts, taken, given, length-take found.headers headers) },
      record {
        some = omega (arith, at.len, print_some head);
        within = within.section.len_fits;
        rest_is = refl;
        status = at.code;
        framing = framed ∙ ap (reply_framing found.code) at.fields ∙ ap (λ (s : ℕ). reply_framing s (fields_of head)) at.code;
      },
    )

module _ (bytes rest : List ℕ) (at : ℕ) (found : Head) (leads : Leads bytes (drop at bytes)) (is : rest ≡ drop at bytes) (has : IsHead rest (Whole found)) where
  abbrev head : ResponseHead
  head = has.0

  abbrev place : IsHeadAt rest has.1 found head
  place = has.3

  behind : has.1 ≡ drop (at + found.len) bytes
  behind = place.rest_is ∙ ap (drop found.len) is ∙ drop-drop found.len at bytes

  here : HasHead (drop at bytes) head has.1
  here = subst (λ (xs : List ℕ). HasHead xs head has.1) is has.2

  pub fits : at ≤ length bytes → at + found.len ≤ length bytes
  fits within = omega (arith, place.within, ap length is, length-drop at bytes)

  pub goes_on : true ≡ (nat_le 100 found.status && nat_lt found.status 200) → Leads bytes (drop (at + found.len) bytes)
  goes_on yes_interim wanted finds =
      leads wanted (interim head has.1 here (ap (λ (s : ℕ). nat_le 100 s && nat_lt s 200) (sym place.status) ∙ sym yes_interim)
      (subst (λ (xs : List ℕ). FindsHead xs wanted) (sym behind) finds))

  pub ends : at ≤ length bytes → false ≡ (nat_le 100 found.status && nat_lt found.status 200)
      → IsFinalHead bytes (Whole (record { len = at + found.len; status = found.status; framing = found.framing }))
  ends within no_interim = (
    head,
    has.1,
    leads _ (final head has.1 here (ap (λ (s : ℕ). nat_le 100 s && nat_lt s 200) (sym place.status) ∙ sym no_interim)),
    record { some = omega (arith, place.some); within = fits within; rest_is = behind; status = place.status; framing = place.framing },
  )
