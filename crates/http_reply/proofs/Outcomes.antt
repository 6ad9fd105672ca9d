-- What a head and what is behind it make of a reply.
use Rattle.std.proofs.Common.{◌≡◌, ℕ, Bool, List, length, drop, refl, sym, subst, ◌∙◌}
use Rattle.httparse.specs.Grammar.{ResponseHead, status_code}
use Rattle.http_reply.specs.declared.framing.Framing.{Framing}
use Rattle.http_reply.specs.declared.head.Head.{Head}
use Rattle.http_reply.specs.declared.head.Piece.TheVariants.{Whole}
use Rattle.http_reply.specs.Bodies.{ReadsBody}
use Rattle.http_reply.specs.Found.{IsFinalHead, IsHeadAt, piece_of, class_in, ends_in}
use Rattle.http_reply.specs.Reads.{Read, whole, short, bad, read_map}
use Rattle.http_reply.specs.Replies.{IsReply, headed, has_own_end, class_of, ends_reply}

pub reply_of_head : (bytes behind : List ℕ) (found : Head) (body : Read (List ℕ)) → IsFinalHead bytes (Whole found) → behind ≡ drop found.len bytes
    → ReadsBody found.framing (length bytes) behind body → IsReply bytes (record { status = found.status; body = body; has_end = has_own_end found.framing })
reply_of_head bytes behind found body has is reads =
    let head : ResponseHead = has.0 in
    let at : IsHeadAt bytes has.1 found head = has.3 in
    let rest : behind ≡ has.1 = is ∙ sym at.rest_is in
    subst (λ (s : ℕ). IsReply bytes (record { status = s; body = body; has_end = has_own_end found.framing })) (sym at.status)
    (subst (λ (f : Framing). IsReply bytes (record { status = status_code head; body = body; has_end = has_own_end f })) (sym at.framing)
    (headed head has.1 has.2
    (subst (λ (f : Framing). ReadsBody f (length bytes) has.1 body) at.framing (subst (λ (xs : List ℕ). ReadsBody found.framing (length bytes) xs body) rest reads))))

pub piece_of_map : {A B : Type 0} (f : A → B) (found : Read A) → piece_of found ≡ piece_of (read_map f found)
piece_of_map f (whole a) = refl
piece_of_map f short = refl
piece_of_map f bad = refl

pub class_of_piece : (total : ℕ) (body : Read (List ℕ)) → class_in total (piece_of body) ≡ class_of total body
class_of_piece total (whole body) = refl
class_of_piece total short = refl
class_of_piece total bad = refl

pub ends_of_piece : (own : Bool) (body : Read (List ℕ)) → ends_in own (piece_of body) ≡ ends_reply own body
ends_of_piece own (whole body) = refl
ends_of_piece own short = refl
ends_of_piece own bad = refl
