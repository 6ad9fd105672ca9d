-- Replaying entries one by one.
use Rattle.std.proofs.Common.{◌≡◌, ℕ, ◌≤◌, List, [], ◌∷◌, ◌++◌, length, take, Option, Some, None, Ok, refl, sym, ◌∙◌, ap, subst, take-append-drop}
use Rattle.std.specs.Prelude.{drop, option_map}
use Rattle.std.specs.Option.{option_and_then}
use Rattle.std.specs.Result.{result_ok}
use Rattle.std.proofs.lemmas.List.{map-append}
use Rattle.entry_form.specs.declared.entry.Entry.{Entry}
use Rattle.device_rules.specs.declared.answer.Answer.{Answer}
use Rattle.device_state.specs.declared.state.State.{State}
use Rattle.device_rules.specs.declared.trail.Marked.{Marked}
use Rattle.device_rules.specs.Step.{step}
use Rattle.device_rules.specs.Trail.{entries_of, replay, state_after, IsLegal}

pub replay-append : (start : State) (entries more : List Entry) → replay start (entries ++ more) ≡ option_and_then (λ next. replay next more) (replay start entries)
replay-append start [] more = refl
replay-append start (entry ∷ entries) more = then (state_after start entry) (λ next. replay-append next entries more)
  where
    then : (o : Option State) → ((next : State) → replay next (entries ++ more) ≡ option_and_then (λ s. replay s more) (replay next entries))
        → option_and_then (λ next. replay next (entries ++ more)) o ≡ option_and_then (λ next. replay next more) (option_and_then (λ next. replay next entries) o)
    then None rest = refl
    then (Some next) rest = rest next

-- one step more
pub replay-push : (start : State) (entries : List Entry) (state next : State) (entry : Entry) → replay start entries ≡ Some state → state_after state entry ≡ Some next → replay start (entries ++ entry ∷ []) ≡ Some next
replay-push start entries state next entry reached stepped =
    replay-append start entries (entry ∷ []) ∙ ap (λ o. option_and_then (λ s. replay s (entry ∷ [])) o) reached ∙ ap (λ o. option_and_then (λ s. replay s []) o) stepped

pub after_step : (state next : State) (entry : Entry) (answer : Answer) → step state entry ≡ Ok (next, answer) → state_after state entry ≡ Some next
after_step state next entry answer is = ap (λ r. option_map (λ x. x.0) (result_ok r)) is

-- the front of a legal list is legal
pub legal_front : (start : State) (entries more : List Entry) → IsLegal start (entries ++ more) → IsLegal start entries
legal_front start entries more legal = by (replay start entries) refl (sym (replay-append start entries more) ∙ legal.1)
  where
    by : (o : Option State) → replay start entries ≡ o → option_and_then (λ next. replay next more) o ≡ Some legal.0 → IsLegal start entries
    by None is reached = absurd (cc (reached))
    by (Some state) is reached = (state, is)

pub legal_take : (start : State) (entries : List Entry) (n : ℕ) → IsLegal start entries → IsLegal start (take n entries)
legal_take start entries n legal = legal_front start (take n entries) (drop n entries) (subst (IsLegal start) (sym (take-append-drop n entries)) legal)

pub entries-push : (marked : List Marked) (one : Marked) → entries_of (marked ++ one ∷ []) ≡ entries_of marked ++ one.entry ∷ []
entries-push marked one = map-append (λ m. m.entry) marked (one ∷ [])
