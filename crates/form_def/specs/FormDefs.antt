-- A form as its parts.
use Rattle.form_def.specs.declared.parts.FormParts.{FormParts}
use Rattle.form_def.specs.declared.form.FormDef.{FormDef}

abbrev pub parts_of_form : FormDef → FormParts
parts_of_form f = record {
  id = f.id;
  version = f.version;
  root = f.root;
  fields = f.fields;
  inner = f.inner;
  outer = f.outer;
  entity = f.entity;
  auto_send = f.auto_send;
  order = f.order;
}
