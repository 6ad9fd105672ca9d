-- Why heads and trailers are refused.
use Rattle.std.proofs.Common.{◌≡◌, ◌≢◌, ℕ, List, [], Result, Err, refl, arith, append-nil}
use Rattle.httparse.specs.declared.Error.{Error}
use Rattle.httparse.specs.declared.Error.TheVariants.{HeaderName, HeaderValue, NewLine, Status as WrongStatus, Token, TooManyHeaders, Version}
use Rattle.httparse.specs.Grammar.{NeverHasSection, NeverHasResponse}
use Rattle.httparse.specs.Spans.{SectionOverflows, SectionExceeds, ResponseOverflows, ResponseExceeds}
use Rattle.http_reply.specs.Chunks.{ReadsTrailers, never, too_many}
use Rattle.http_reply.specs.Heads as heads
use Rattle.http_reply.specs.Reads.{bad}
use Rattle.http_reply.proofs.LineCounts.{exceeding_feeds, exceeding_lines}

exceeds : (bytes : List ℕ) → SectionOverflows 16 bytes → SectionExceeds 16 bytes → ReadsTrailers bytes bad
exceeds bytes over many =
    too_many (λ rest has. let most = over [] has.fields has.last rest (rw append-nil has.reads) in let few = has.few in absurd (omega arith)) (exceeding_feeds 16 bytes many)

pub refused_trailers : {A : Type 0} (bytes : List ℕ) (e : Error) → (e ≢ TooManyHeaders → NeverHasSection bytes) → SectionOverflows 16 bytes
    → (◌≡◌ {A = Result A Error} (Err e) (Err TooManyHeaders) → SectionExceeds 16 bytes) → ReadsTrailers bytes bad
refused_trailers bytes TooManyHeaders invalid over many = exceeds bytes over (many refl)
refused_trailers bytes HeaderName invalid over many = never (invalid (λ e. cc))
refused_trailers bytes HeaderValue invalid over many = never (invalid (λ e. cc))
refused_trailers bytes NewLine invalid over many = never (invalid (λ e. cc))
refused_trailers bytes WrongStatus invalid over many = never (invalid (λ e. cc))
refused_trailers bytes Token invalid over many = never (invalid (λ e. cc))
refused_trailers bytes Version invalid over many = never (invalid (λ e. cc))

exceeding_head : (bytes : List ℕ) → ResponseOverflows 64 bytes → ResponseExceeds 64 bytes → heads.ReadsHead bytes bad
exceeding_head bytes over many =
    heads.too_many (λ head rest has. let most = over [] head rest (rw append-nil has.reads) in let few = has.few in absurd (omega arith)) (exceeding_lines 64 bytes many)

pub refused_head : {A : Type 0} (bytes : List ℕ) (e : Error) → (e ≢ TooManyHeaders → NeverHasResponse bytes) → ResponseOverflows 64 bytes
    → (◌≡◌ {A = Result A Error} (Err e) (Err TooManyHeaders) → ResponseExceeds 64 bytes) → heads.ReadsHead bytes bad
refused_head bytes TooManyHeaders invalid over many = exceeding_head bytes over (many refl)
refused_head bytes HeaderName invalid over many = heads.never (invalid (λ e. cc))
refused_head bytes HeaderValue invalid over many = heads.never (invalid (λ e. cc))
refused_head bytes NewLine invalid over many = heads.never (invalid (λ e. cc))
refused_head bytes WrongStatus invalid over many = heads.never (invalid (λ e. cc))
refused_head bytes Token invalid over many = heads.never (invalid (λ e. cc))
refused_head bytes Version invalid over many = heads.never (invalid (λ e. cc))
