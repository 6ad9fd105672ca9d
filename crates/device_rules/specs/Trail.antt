-- Runs of the rules over lists of entries.
use Rattle.std.specs.Prelude.{◌≡◌, ℕ, List, [], ◌∷◌, map, Option, Some, option_map}
use Rattle.std.specs.Option.{option_and_then}
use Rattle.std.specs.Result.{result_ok}
use Rattle.entry_form.specs.declared.entry.Entry.{Entry}
use Rattle.device_state.specs.declared.state.State.{State}
use Rattle.device_rules.specs.declared.trail.Marked.{Marked}
use Rattle.device_rules.specs.Step.{step}

-- the state after one entry, where the rules don't refuse it
abbrev pub state_after : State → Entry → Option State
state_after state entry = option_map (λ r. r.0) (result_ok (step state entry))

-- the state after these entries, where the rules refuse none
abbrev pub replay : State → List Entry → Option State
replay state [] = Some state
replay state (entry ∷ entries) = option_and_then (λ next. replay next entries) (state_after state entry)

-- no step of these entries is refused
abbrev pub IsLegal : State → List Entry → Type 0
IsLegal start entries = (state : State) × (replay start entries ≡ Some state)

abbrev pub entries_of : List Marked → List Entry
entries_of marked = map (λ m. m.entry) marked

-- the entry, which lasts since this moment
abbrev pub marked_at : ℕ → Entry → Marked
marked_at moment entry = record { entry = entry; moment = moment }
