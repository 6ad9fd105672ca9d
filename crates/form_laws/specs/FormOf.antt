-- The form of bytes, of those that differ in their order by dependence alone, or their refusal.
use Rattle.std.specs.Prelude.{ℕ, List, Result}
use Rattle.form_def.specs.declared.form.FormDef.{FormDef}
use Rattle.form_read.specs.declared.refusal.FormRefused.{FormRefused}
use Rattle.form_laws.specs.ReadingLaws.{all_read}

-- what the bytes are read as
unfoldable pub form_of : List ℕ → Result FormDef FormRefused
form_of bytes = (all_read bytes).0
