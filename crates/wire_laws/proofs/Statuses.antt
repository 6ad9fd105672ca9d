-- All replies that bytes are have one status.
use Rattle.std.specs.Prelude.{◌≡◌, ◌⊎◌, ℕ, Bool, ◌||◌, ◌==◌, List, refl}
use Rattle.std.proofs.Common.{inl, inr, ap, ◌∙◌}
use Rattle.httparse.specs.Grammar.{ResponseHead, status_code}
use Rattle.http_reply.specs.Reads.{Read, whole, short, bad}
use Rattle.http_reply.specs.Heads.{FindsHead}
use Rattle.http_reply.specs.Replies.{Reply, IsReply}
use Rattle.http_reply.specs.Replies.IsReply.{short_head, bad_head, headed}
use Rattle.submission_wire.specs.Acceptance.{is_accepted}
use Rattle.wire_laws.specs.ReplyHeads.{FindsFinal, one_final, final_decided}
use Rattle.wire_laws.specs.Accepted.{status_in, accepts}

-- the status that a final head, or none, gives
abbrev status_of : {bytes : List ℕ} → FindsFinal bytes ⊎ ¬ (FindsFinal bytes) → ℕ
status_of found = elim found [ inl one ↦ status_code one.0 | inr none ↦ 0 ]

no_status : (bytes : List ℕ) (found : FindsFinal bytes ⊎ ¬ (FindsFinal bytes))
    → ((head : ResponseHead) (rest : List ℕ) → ¬ (FindsHead bytes (whole (head, rest)))) → 0 ≡ status_of found
no_status bytes (inl one) none = absurd (none one.0 one.1 one.2)
no_status bytes (inr other) none = refl

the_status : (bytes : List ℕ) (found : FindsFinal bytes ⊎ ¬ (FindsFinal bytes)) (head : ResponseHead) (rest : List ℕ)
    → FindsHead bytes (whole (head, rest)) → status_code head ≡ status_of found
the_status bytes (inl one) head rest finds =
    same_status (one_final bytes (whole (head, rest)) (whole (one.0, one.1)) finds one.2)
  where
    same_status : {a b : ResponseHead} {r q : List ℕ}
        → ◌≡◌ {A = Read (ResponseHead × List ℕ)} (whole (a, r)) (whole (b, q)) → status_code a ≡ status_code b
    same_status e = ap (λ (x : ResponseHead × List ℕ). status_code x.0) (same_pair e)
      where
        same_pair : {x y : ResponseHead × List ℕ} → ◌≡◌ {A = Read (ResponseHead × List ℕ)} (whole x) (whole y) → x ≡ y
        same_pair is = cc
the_status bytes (inr none) head rest finds = absurd (none (head, rest, finds))

whole_apart : {x : ResponseHead × List ℕ} {found : Read (ResponseHead × List ℕ)} → found ≡ whole x → found ≡ short → ⊥
whole_apart is e = absurd cc

whole_not_bad : {x : ResponseHead × List ℕ} {found : Read (ResponseHead × List ℕ)} → found ≡ whole x → found ≡ bad → ⊥
whole_not_bad is e = absurd cc

pub one_status : (bytes : List ℕ) (reply : Reply) → IsReply bytes reply → reply.status ≡ status_in bytes
unfolding status_in
one_status bytes reply (short_head finds) =
    no_status bytes (final_decided bytes) (λ head rest other.
    whole_apart (one_final bytes (whole (head, rest)) (whole (head, rest)) other other) (one_final bytes (whole (head, rest)) short other finds))
one_status bytes reply (bad_head finds) =
    no_status bytes (final_decided bytes) (λ head rest other.
    whole_not_bad (one_final bytes (whole (head, rest)) (whole (head, rest)) other other) (one_final bytes (whole (head, rest)) bad other finds))
one_status bytes reply (headed head rest finds body) = the_status bytes (final_decided bytes) head rest finds

pub accepted : (bytes : List ℕ) (reply : Reply) → IsReply bytes reply → is_accepted reply ≡ accepts bytes
unfolding accepts
accepted bytes reply is = ap (λ (status : ℕ). (status == 201) || (status == 202)) (one_status bytes reply is)

-- what a call tells of some reply that the bytes are
pub told : (bytes : List ℕ) (answer : Bool) (reply : Reply) → IsReply bytes reply → answer ≡ is_accepted reply
    → answer ≡ accepts bytes
told bytes answer reply is same = same ∙ accepted bytes reply is
