-- The device is opened: it gets a number and a server, no questionnaire is open, no lock is held and no send in flight,
-- and this counts as a tick.
use Rattle.std.specs.Prelude.{ℕ, ◌^◌, List, [], Bool, ◌&&◌, not, nat_lt, codes, is_some, None, Ok}
use Rattle.change_locks.specs.Locks.{all_free}
use Rattle.device_state.specs.declared.state.Counters.{Counters}
use Rattle.device_state.specs.declared.state.State.{State}
use Rattle.device_state.specs.State.{bare, ticked}
use Rattle.entry_form.specs.declared.entry.Opening.{Opening}
use Rattle.field_text.specs.Steps.{◌>>=◌}
use Rattle.wire_laws.specs.Bases.{base_in}
use Rattle.device_rules.specs.declared.answer.Answer.TheVariants.{Done}
use Rattle.device_rules.specs.declared.refused.Refused.TheVariants.{BadValue}
use Rattle.device_rules.specs.Limits.{is_short}
use Rattle.device_rules.specs.Tests.{Stepped, not_full, refused_if}

-- the server that is meant where none is given
abbrev pub default_server : List ℕ
default_server = codes "http://localhost:8080"

-- The server is within the limit of texts, and requests to it have an address.
abbrev pub is_server : List ℕ → Bool
is_server server = is_short server && is_some (base_in server)

-- a device can be opened so: its number has 48 bits
abbrev pub is_opening : Opening → Bool
is_opening opening = nat_lt opening.device (2 ^ 48) && is_server opening.server

-- a tick of the device with this number
abbrev pub opened_as : ℕ → Counters → Counters
opened_as device counters =
    record (ticked counters) { draws = record { device = device; next = counters.draws.next } }

abbrev pub opened : State → Opening → Stepped
opened state opening = do
  within ← refused_if (not (is_opening opening)) BadValue
  room ← not_full state
  Ok (
    record state {
      server = opening.server;
      counters = opened_as opening.device state.counters;
      entry = None;
      locks = all_free;
      flights = bare [];
    },
    Done,
  )
