-- The state of a device before its first entry, how entries are counted, and what of a state the rules see.
use Rattle.std.specs.Prelude.{ℕ, ◌<◌, [], List, ◌+◌, false, None}
use Rattle.change_locks.specs.Locks.{all_free}
use Rattle.field_rows.specs.Kept.{Kept}
use Rattle.field_text.specs.declared.mode.Mode.TheVariants.{Manual}
use Rattle.device_state.specs.declared.state.State.{State}
use Rattle.device_state.specs.declared.state.Counters.{Counters}

-- rows with no room for more
abbrev pub bare : {T : Type 0} → List T → Kept T
bare items = record { items = items; spare = 0 }

abbrev pub initial : State
initial = record {
  settings = record { mode = Manual; auto_send = false };
  server = [];
  counters = record {
    position = 0;
    last_tick = 0;
    next_instance = 1;
    draws = record { device = 1; next = 1 };
  };
  forms = bare [];
  instances = bare [];
  savepoints = bare [];
  lists = bare [];
  entry = None;
  locks = all_free;
  flights = bare [];
}

-- The state as the rules see it: the room that its lists have for more is of no account.
abbrev pub plain : State → State
plain state = record {
  settings = state.settings;
  server = state.server;
  counters = state.counters;
  forms = bare state.forms.items;
  instances = bare state.instances.items;
  savepoints = bare state.savepoints.items;
  lists = bare state.lists.items;
  entry = state.entry;
  locks = state.locks;
  flights = bare state.flights.items;
}

-- there is room for what one entry may add
pub record HasRoom (state : State) : Type 0 where
  pub forms : 0 < state.forms.spare
  pub instances : 0 < state.instances.spare
  pub savepoints : 0 < state.savepoints.spare
  pub lists : 0 < state.lists.spare
  pub flights : 0 < state.flights.spare

-- one entry more
abbrev pub one_further : Counters → Counters
one_further counters = record counters { position = counters.position + 1 }

-- one entry more, which is a tick
abbrev pub ticked : Counters → Counters
ticked counters = record counters { position = counters.position + 1; last_tick = counters.position + 1 }

-- one entry more, which keeps a new instance
abbrev pub one_more : Counters → Counters
one_more counters =
    record counters { position = counters.position + 1; next_instance = counters.next_instance + 1 }
