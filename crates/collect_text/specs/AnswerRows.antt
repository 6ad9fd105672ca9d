-- The lines below the first line of an answer: one for each form, instance or field.
use Rattle.std.specs.Prelude.{ℕ, List, [], ◌++◌, Bool, true, false, codes, Option, Some, None}
use Rattle.std.specs.List.{flat_map}
use Rattle.entity_lists.specs.declared.entities.EntityRow.{EntityRow}
use Rattle.entity_lists.specs.declared.entities.Prop.{Prop}
use Rattle.kept_forms.specs.declared.lines.FieldLine.{FieldLine}
use Rattle.device_rules.specs.declared.answer.Answer.{Answer}
use Rattle.device_rules.specs.declared.answer.Answer.TheVariants.{Bulk, Counts, Doc, Done, Entities, EntryNow}
use Rattle.device_rules.specs.declared.answer.Answer.TheVariants.{Forms, Instances, NextSend, Number, Settings}
use Rattle.device_rules.specs.declared.answer.EntryView.{EntryView}
use Rattle.device_rules.specs.declared.answer.FormLine.{FormLine}
use Rattle.device_rules.specs.declared.answer.InstanceLine.{InstanceLine}
use Rattle.collect_text.specs.Pieces.{spaced_number, spaced_text, spaced_word, status_word}

-- the end of the line of a form that is visible or not
abbrev pub visible_end : Bool → List ℕ
visible_end true = codes " visible\n"
visible_end false = codes " hidden\n"

unfoldable pub form_row : FormLine → List ℕ
form_row form =
    codes "form" ++ spaced_text form.id ++ spaced_text form.version ++ spaced_text form.hash ++ visible_end form.visible

-- the id of a finalized instance; `-` stands for none
abbrev pub spaced_id : Option (List ℕ) → List ℕ
spaced_id (Some id) = spaced_text id
spaced_id None = codes " -"

-- the number and the status of an instance
unfoldable pub instance_start : InstanceLine → List ℕ
instance_start instance =
    codes "instance" ++ spaced_number instance.number ++ spaced_word (status_word instance.status)

-- its form, that form's version, and its id
unfoldable pub instance_end : InstanceLine → List ℕ
instance_end instance =
    spaced_text instance.id ++ spaced_text instance.version ++ spaced_id instance.instance_id ++ codes "\n"

abbrev pub instance_row : InstanceLine → List ℕ
instance_row instance = instance_start instance ++ instance_end instance

-- the end of the line of a field that is shown or not
abbrev pub shown_end : Bool → List ℕ
shown_end true = codes " shown\n"
shown_end false = codes " hidden\n"

unfoldable pub field_row : FieldLine → List ℕ
field_row field = codes "field" ++ spaced_text field.path ++ spaced_text field.value ++ shown_end field.shown

abbrev pub entry_rows : Option EntryView → List ℕ
entry_rows (Some entry) = flat_map field_row entry.fields
entry_rows None = []

-- the version that the server gave last; `-` stands for none
abbrev pub spaced_trunk : Option ℕ → List ℕ
spaced_trunk (Some version) = spaced_number version
spaced_trunk None = codes " -"

abbrev pub online_word : Bool → List ℕ
online_word true = codes " online"
online_word false = codes " offline"

-- the id, the label and the version of an entity
unfoldable pub entity_start : EntityRow → List ℕ
entity_start row = codes "entity" ++ spaced_text row.id ++ spaced_text row.label ++ spaced_number row.version

-- its trunk version, its branch, and whether the server's list had it
unfoldable pub entity_branch : EntityRow → List ℕ
entity_branch row = spaced_trunk row.trunk ++ spaced_text row.branch ++ online_word row.online

abbrev pub property : Prop → List ℕ
property prop = spaced_text prop.name ++ spaced_text prop.value

abbrev pub entity_row : EntityRow → List ℕ
entity_row row = entity_start row ++ entity_branch row ++ flat_map property row.props ++ codes "\n"

abbrev pub answer_rows : Answer → List ℕ
answer_rows Done = []
answer_rows (Number number) = []
answer_rows (Settings settings) = []
answer_rows (Forms forms) = flat_map form_row forms
answer_rows (Instances instances) = flat_map instance_row instances
answer_rows (EntryNow entry) = entry_rows entry
answer_rows (Bulk counts) = []
answer_rows (Doc bytes) = []
answer_rows (Entities rows) = flat_map entity_row rows
answer_rows (NextSend send) = []
answer_rows (Counts counts) = []
