-- What each call of a dialer adds to the exchanges that it carried. The list is told or not: one that isn't told is
-- never told later, and what stands here of it holds where it is told after the call.
use Rattle.std.specs.Prelude.{◌≡◌, ◌||◌, ◌==◌, ℕ, Bool, false, List, [], ◌∷◌, ◌++◌, take, Option, Some, None, Result}
use Rattle.std.specs.Prelude.{Ok, Err, IfSome, IsSome}
use Rattle.std.specs.Option.{option_map}
use Rattle.field_io.specs.declared.dialer.Stage.{Stage}
use Rattle.field_io.specs.declared.dialer.Stage.TheVariants.{Dial, Send, Take}
use Rattle.field_io.specs.declared.exchange.Exchange.{Exchange}

-- the exchanges before and after a call that made this of them
abbrev pub Makes : Option (List Exchange) → Option (List Exchange) → (List Exchange → List Exchange) → Type 0
Makes old new change = IfSome new (λ now. option_map change old ≡ Some now)

abbrev pub IsTold : Option (List Exchange) → Type 0
IsTold carried = IsSome carried

-- the list with its last item changed
abbrev pub change_last : {A : Type 0} → (A → A) → List A → List A
change_last change [] = []
change_last change (x ∷ []) = change x ∷ []
change_last change (x ∷ (y ∷ rest)) = x ∷ change_last change (y ∷ rest)

-- the stage of the first failure, once a call of this stage has failed
abbrev pub first_failed : Stage → Option Stage → Option Stage
first_failed stage None = Some stage
first_failed _ (Some first) = Some first

abbrev pub failed_at : Stage → Exchange → Exchange
failed_at stage x = record x { failed = first_failed stage x.failed }

-- the exchange that a dial begins, a failed one too
abbrev pub dialed : {T E : Type 0} → List ℕ → Result T E → Exchange
dialed authority (Ok _) = record { authority = authority; sent = []; taken = []; failed = None; ended = false }
dialed authority (Err _) = record { authority = authority; sent = []; taken = []; failed = Some Dial; ended = false }

-- the exchange after a send of the front of these bytes
abbrev pub sent_on : {E : Type 0} → List ℕ → Result ℕ E → Exchange → Exchange
sent_on bytes (Ok n) x = record x { sent = x.sent ++ take n bytes }
sent_on bytes (Err _) x = failed_at Send x

-- the exchange after a take into the front of this buffer
abbrev pub taken_on : {E : Type 0} → List ℕ → Result ℕ E → Exchange → Exchange
taken_on buffer (Ok n) x = record x { taken = x.taken ++ take n buffer; ended = x.ended || (n == 0) }
taken_on buffer (Err _) x = failed_at Take x
