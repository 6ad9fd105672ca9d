-- Forms that differ in the order of their fields by dependence, and in nothing else.
use Rattle.std.specs.Prelude.{◌≡◌}
use Rattle.form_def.specs.declared.form.FormDef.{FormDef}

pub record DifferInOrder (one other : FormDef) : Type 0 where
  pub id : one.id ≡ other.id
  pub version : one.version ≡ other.version
  pub root : one.root ≡ other.root
  pub fields : one.fields ≡ other.fields
  pub inner : one.inner ≡ other.inner
  pub outer : one.outer ≡ other.outer
  pub entity : one.entity ≡ other.entity
  pub auto_send : one.auto_send ≡ other.auto_send
