-- What the function returns, by what spells tokens.
use Rattle.std.specs.Prelude.{ℕ, ◌≡◌, List, length, None, Result, Ok, Err, IfOk}
use Rattle.std.proofs.Common.{sym, subst}
use denote.Ref.{Bor}
use Rattle.rosa_pieces.specs.declared.unread.Unread.{Unread}
use Rattle.rosa_pieces.specs.declared.unread.Unread.TheVariants.{Absent}
use Rattle.rosa_pieces.specs.Reading.{Gives}
use Rattle.form_tokens.specs.declared.token.Token.{Token}
use Rattle.form_tokens.specs.Tokens.{token_at}
use Rattle.form_tokens.specs.Spelling.{StandsBefore, IsLongest, HasNoToken}
use Rattle.form_tokens.proofs.Found.{IsFound, token_found}
use Rattle.form_tokens.proofs.Longest.{Reads, token_read}

-- any token at the front is read, or a longer one
read_of : (token : Token) (cs others : List ℕ) → StandsBefore token cs others → Reads token (length others) (token_at cs)
read_of token cs others (spelled, is, parts) = subst (λ (x : List ℕ). Reads token (length others) (token_at x)) (sym parts) (token_read token spelled others is)

pub found_of : (cs : List ℕ) (r : Result (Token × Bor (List ℕ)) Unread) → Gives (λ x. (x.0, x.1.now)) r (token_at cs) → IfOk r (λ x. StandsBefore x.0 cs x.1.now)
found_of cs (Ok x) gives = subst (IsFound cs) gives (token_found cs)
found_of cs (Err e) gives = tt

pub longest_of : (cs : List ℕ) (r : Result (Token × Bor (List ℕ)) Unread) → Gives (λ x. (x.0, x.1.now)) r (token_at cs) → IfOk r (λ x. IsLongest x.0 cs x.1.now)
longest_of cs (Ok x) gives = λ other left front.
    let (less, only) = subst (Reads other (length left)) gives (read_of other cs left front) in
    (less, λ same. sym (only (sym same)))
longest_of cs (Err e) gives = tt

pub none_of : (cs : List ℕ) (r : Result (Token × Bor (List ℕ)) Unread) → Gives (λ x. (x.0, x.1.now)) r (token_at cs) → r ≡ Err Absent → HasNoToken cs
none_of cs r gives absent = λ token rest front.
    let none : token_at cs ≡ None = subst (λ (s : Result (Token × Bor (List ℕ)) Unread). Gives (λ x. (x.0, x.1.now)) s (token_at cs)) absent gives in
    subst (Reads token (length rest)) none (read_of token cs rest front)
