-- The visible forms of an id are hidden. What names one keeps it. No other hand may hold the forms.
use Rattle.std.specs.Prelude.{ℕ, not, List, Ok}
use Rattle.std.specs.List.{list_any}
use Rattle.device_state.specs.declared.state.State.{State}
use Rattle.device_state.specs.State.{bare, one_further}
use Rattle.entry_form.specs.declared.hand.Hand.{Hand}
use Rattle.field_text.specs.Steps.{◌>>=◌}
use Rattle.form_store.specs.Forms.{all_hidden, is_shown}
use Rattle.device_rules.specs.declared.answer.Answer.TheVariants.{Done}
use Rattle.device_rules.specs.declared.refused.Refused.TheVariants.{NoForm}
use Rattle.device_rules.specs.Holders.{free_for}
use Rattle.device_rules.specs.Tests.{Stepped, not_full, refused_if}

abbrev pub drop_form : State → Hand → List ℕ → Stepped
drop_form state hand id = do
  nobody ← free_for hand state.locks.forms
  there ← refused_if (not (list_any (is_shown id) state.forms.items)) NoForm
  room ← not_full state
  Ok (
    record state {
      counters = one_further state.counters;
      forms = bare (all_hidden id state.forms.items);
    },
    Done,
  )
