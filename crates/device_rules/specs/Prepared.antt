-- A step that was prepared: its entry, and the state and the answer that it leads to.
use Rattle.std.specs.Prelude.{◌≡◌, Ok, Result}
use Rattle.device_state.specs.declared.state.State.{State}
use Rattle.device_state.specs.Changes.{changed, replaced}
use Rattle.field_text.specs.Steps.{Gives}
use Rattle.entry_form.specs.declared.entry.Entry.{Entry}
use Rattle.device_rules.specs.declared.answer.Answer.{Answer}
use Rattle.device_rules.specs.declared.prepared.Parts.{Parts}
use Rattle.device_rules.specs.declared.prepared.Prepared.{Prepared}
use Rattle.device_rules.specs.declared.refused.Refused.{Refused}
use Rattle.device_rules.specs.Refused.{rule_of}
use Rattle.device_rules.specs.Step.{step}
use Rattle.device_rules.specs.Tests.{Stepped}

-- the state with these parts new, and the answer beside it
abbrev pub with_parts : State → Parts → State × Answer
with_parts state parts = (replaced state parts.changes, parts.answer)

-- the parts that a command makes, or its refusal, are those of its rule
abbrev pub Makes : State → Result Parts Refused → Stepped → Type 0
Makes state made stepped = Gives rule_of (with_parts state) made stepped

abbrev pub entry_of : Prepared → Entry
entry_of prepared = prepared.entry

-- the state and the answer after it, from a state
abbrev pub after : Prepared → State → State × Answer
after prepared state = (changed state prepared.parts.changes, prepared.parts.answer)

-- the rules allow the entry, and what was prepared makes its step
pub record Prepares (state : State) (entry : Entry) (prepared : Prepared) : Type 0 where
  pub same : entry_of prepared ≡ entry
  pub stepped : step state entry ≡ Ok (after prepared state)
