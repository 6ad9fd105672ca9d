-- What bytes are read as, in place of all the forms that differ in their order alone.
use Rattle.std.specs.Prelude.{◌≢◌, ℕ, List, Result, Ok, Err}
use Rattle.form_def.specs.declared.form.FormDef.{FormDef}
use Rattle.form_read.specs.declared.refusal.FormRefused.{FormRefused}
use Rattle.form_read.specs.declared.refusal.FormRefused.TheVariants.{NoMemory}
use Rattle.form_read.specs.Forms.{Describes, Refuses}

-- a form that the bytes describe, or their refusal; want of memory is neither
abbrev pub ReadsAs : List ℕ → Result FormDef FormRefused → Type 0
ReadsAs bytes (Ok form) = Describes bytes form
ReadsAs bytes (Err refusal) = Refuses bytes refusal × (refusal ≢ NoMemory)
