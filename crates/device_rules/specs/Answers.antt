-- What a query is answered. It depends on the state alone.
use Rattle.std.specs.Prelude.{ℕ, Bool, true, false, List, [], length, map, Option, Some, None, option_map, Result, Ok}
use Rattle.std.specs.List.{filter}
use Rattle.std.specs.Option.{unwrap_or}
use Rattle.device_state.specs.declared.entry.OpenEntry.{OpenEntry}
use Rattle.device_state.specs.declared.state.State.{State}
use Rattle.entity_lists.specs.EntityTables.{tables_of}
use Rattle.entity_lists.specs.declared.entities.EntityRow.{EntityRow}
use Rattle.entity_lists.specs.declared.entity_list.EntityList.{EntityList}
use Rattle.entry_form.specs.declared.hand.Hand.{Hand}
use Rattle.field_text.specs.Steps.{◌>>=◌}
use Rattle.field_text.specs.Tables.{NamedTable}
use Rattle.form_store.specs.declared.records.FormRec.{FormRec}
use Rattle.http_wire.specs.declared.address.Address.{Address}
use Rattle.instance_store.specs.declared.records.InstanceRec.{InstanceRec}
use Rattle.instance_store.specs.declared.records.Status.{Status}
use Rattle.instance_store.specs.declared.records.Status.TheVariants as status
use Rattle.kept_forms.specs.KeptForms.{id_of, lines_of, version_of}
use Rattle.wire_laws.specs.Bases.{base_in}
use Rattle.device_rules.specs.declared.answer.Answer.{Answer}
use Rattle.device_rules.specs.declared.answer.Answer.TheVariants as answers
use Rattle.device_rules.specs.declared.answer.Counts.{Counts}
use Rattle.device_rules.specs.declared.answer.EntryView.{EntryView}
use Rattle.device_rules.specs.declared.answer.FormLine.{FormLine}
use Rattle.device_rules.specs.declared.answer.InstanceLine.{InstanceLine}
use Rattle.device_rules.specs.declared.answer.NextSend.{NextSend}
use Rattle.device_rules.specs.declared.answer.Query.{Query}
use Rattle.device_rules.specs.declared.answer.Query.TheVariants as queries
use Rattle.device_rules.specs.declared.refused.Refused.{Refused}
use Rattle.device_rules.specs.declared.refused.Refused.TheVariants.{NoInstance, WrongStatus}
use Rattle.device_rules.specs.Acting.{list_named}
use Rattle.device_rules.specs.Due.{is_queued, next_due}
use Rattle.device_rules.specs.Start.{instance_of}
use Rattle.device_rules.specs.Tests.{found_or}

abbrev pub form_line : FormRec → FormLine
form_line r = record { id = r.id; version = r.version; hash = r.hash; visible = r.visible }

abbrev pub instance_line : InstanceRec → InstanceLine
instance_line r = record {
  number = r.number;
  status = r.status;
  id = r.form;
  version = r.version;
  instance_id = r.instance_id;
}

abbrev pub entry_view : List NamedTable → OpenEntry → EntryView
entry_view tables entry = record {
  id = id_of entry.form;
  version = version_of entry.form;
  fields = lines_of tables entry.form entry.sheet;
}

-- the document of an instance, if it was finalized
abbrev pub doc_in : InstanceRec → Result (List ℕ) Refused
doc_in instance = found_or instance.doc (WrongStatus instance.status)

abbrev pub doc_of : State → ℕ → Result Answer Refused
doc_of state number = do
  instance ← found_or (instance_of state number) NoInstance
  doc ← doc_in instance
  Ok (answers.Doc doc)

abbrev pub rows_of : Option EntityList → List EntityRow
rows_of None = []
rows_of (Some list) = list.rows

abbrev pub is_done : Status → Bool
is_done status.Sent = true
is_done status.Finalized = false
is_done status.SendFailed = false
is_done status.Draft = false
is_done status.Invalid = false

abbrev pub is_sent : InstanceRec → Bool
is_sent instance = is_done instance.status

abbrev pub counts_of : State → Counts
counts_of state = record {
  forms = length state.forms.items;
  instances = length state.instances.items;
  queued = length (filter is_queued state.instances.items);
  sent = length (filter is_sent state.instances.items);
  lists = length state.lists.items;
}

-- the base of the server's addresses, with empty parts where it has none
abbrev pub base_for : List ℕ → Address
base_for server = unwrap_or (base_in server) (record { authority = []; target = [] })

abbrev pub next_send : State → InstanceRec → NextSend
next_send state instance = record {
  number = instance.number;
  doc = unwrap_or instance.doc [];
  base = base_for state.server;
}

abbrev pub answer_to : State → Hand → Query → Result Answer Refused
answer_to state hand queries.Settings = Ok (answers.Settings state.settings)
answer_to state hand queries.Forms = Ok (answers.Forms (map form_line state.forms.items))
answer_to state hand queries.Instances = Ok (answers.Instances (map instance_line state.instances.items))
answer_to state hand queries.EntryNow = Ok (answers.EntryNow (option_map (entry_view (tables_of state.lists.items)) state.entry))
answer_to state hand (queries.DocOf number) = doc_of state number
answer_to state hand (queries.Entities name) = Ok (answers.Entities (rows_of (list_named state.lists.items name)))
answer_to state hand queries.NextSend = Ok (answers.NextSend (option_map (next_send state) (next_due state hand)))
answer_to state hand queries.Counts = Ok (answers.Counts (counts_of state))
