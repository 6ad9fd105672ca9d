-- What a state becomes by the changes of an entry.
use Rattle.std.specs.Prelude.{ℕ, List, Option, Some, None, option_map}
use Rattle.std.specs.Option.{unwrap_or}
use Rattle.entity_lists.specs.Lists.{put as put_list}
use Rattle.entity_lists.specs.declared.entity_list.EntityList.{EntityList}
use Rattle.form_store.specs.Forms.{all_hidden, put}
use Rattle.form_store.specs.declared.records.FormRec.{FormRec}
use Rattle.instance_store.specs.declared.records.InstanceRec.{InstanceRec}
use Rattle.savepoints.specs.Savepoints.{put as put_sheet, removed, removed_on}
use Rattle.savepoints.specs.declared.store.Savepoint.{Savepoint}
use Rattle.device_state.specs.declared.changes.Changes.{Changes}
use Rattle.device_state.specs.declared.changes.EntryChange.{EntryChange}
use Rattle.device_state.specs.declared.changes.EntryChange.TheVariants as entries
use Rattle.device_state.specs.declared.changes.FormChange.{FormChange}
use Rattle.device_state.specs.declared.changes.FormChange.TheVariants as forms
use Rattle.device_state.specs.declared.changes.InstanceChange.{InstanceChange}
use Rattle.device_state.specs.declared.changes.InstanceChange.TheVariants as instances
use Rattle.device_state.specs.declared.changes.ListChange.{ListChange}
use Rattle.device_state.specs.declared.changes.ListChange.TheVariants as lists
use Rattle.device_state.specs.declared.changes.SavepointChange.{SavepointChange}
use Rattle.device_state.specs.declared.changes.SavepointChange.TheVariants as savepoints
use Rattle.device_state.specs.declared.entry.OpenEntry.{OpenEntry}
use Rattle.device_state.specs.declared.flight.FlightChange.TheVariants as flights
use Rattle.device_state.specs.declared.holding.LockChange.TheVariants as locks
use Rattle.device_state.specs.declared.state.Counters.{Counters}
use Rattle.device_state.specs.declared.state.State.{State}
use Rattle.device_state.specs.Flights.{flights_changed}
use Rattle.device_state.specs.Holding.{locks_changed}
use Rattle.device_state.specs.Numbered.{added, dropped, each_replaced, replaced_by, status_at, tried_at}
use Rattle.device_state.specs.Purging.{purged}
use Rattle.device_state.specs.State.{bare}

abbrev pub forms_changed : FormChange → List FormRec → List FormRec
forms_changed forms.Keep kept = kept
forms_changed (forms.Put record_put) kept = put record_put kept
forms_changed (forms.Hide id) kept = all_hidden id kept

abbrev pub instances_changed : InstanceChange → List InstanceRec → List InstanceRec
instances_changed instances.Keep kept = kept
instances_changed (instances.Add item) kept = added item kept
instances_changed (instances.Replace item) kept = replaced_by item kept
instances_changed (instances.Remove number) kept = dropped number kept
instances_changed (instances.Each items) kept = each_replaced items.items kept
instances_changed (instances.SetTried number position) kept = tried_at position number kept
instances_changed (instances.SetStatus number status) kept = status_at status number kept

abbrev pub savepoints_changed : SavepointChange → List Savepoint → List Savepoint
savepoints_changed savepoints.Keep kept = kept
savepoints_changed (savepoints.Put savepoint) kept = put_sheet savepoint.key savepoint.sheet kept
savepoints_changed (savepoints.Remove key) kept = removed key kept
savepoints_changed (savepoints.RemoveOn number) kept = removed_on number kept

abbrev pub lists_changed : ListChange → List EntityList → List EntityList
lists_changed lists.Keep kept = kept
lists_changed (lists.Put list) kept = put_list list kept
lists_changed (lists.All all) kept = all.items

abbrev pub with_sheet : List (List ℕ) → OpenEntry → OpenEntry
with_sheet sheet entry = record entry { sheet = sheet }

abbrev pub entry_changed : EntryChange → Option OpenEntry → Option OpenEntry
entry_changed entries.Keep entry = entry
entry_changed entries.Close entry = None
entry_changed (entries.Open opened) entry = Some opened
entry_changed (entries.Fill sheet) entry = option_map (with_sheet sheet) entry

-- no changes but of what is counted
abbrev pub counted : Counters → Changes
counted counters = record {
  settings = None;
  server = None;
  counters = counters;
  forms = forms.Keep;
  instances = instances.Keep;
  savepoints = savepoints.Keep;
  lists = lists.Keep;
  entry = entries.Keep;
  locks = locks.Keep;
  flights = flights.Keep;
}

-- the state with these parts new
abbrev pub replaced : State → Changes → State
replaced state changes = record {
  settings = unwrap_or changes.settings state.settings;
  server = unwrap_or changes.server state.server;
  counters = changes.counters;
  forms = bare (forms_changed changes.forms state.forms.items);
  instances = bare (instances_changed changes.instances state.instances.items);
  savepoints = bare (savepoints_changed changes.savepoints state.savepoints.items);
  lists = bare (lists_changed changes.lists state.lists.items);
  entry = entry_changed changes.entry state.entry;
  locks = locks_changed changes.locks state.locks;
  flights = bare (flights_changed changes.flights state.flights.items);
}

-- and without the hidden forms that nothing names then
abbrev pub changed : State → Changes → State
changed state changes = purged (replaced state changes)
