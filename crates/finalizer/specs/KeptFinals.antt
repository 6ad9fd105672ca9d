-- Finalizing an instance of a kept form, as a function of its document's bytes. A sheet with another number of texts
-- than the form has fields lacks what is required, at no path.
use Rattle.std.specs.Prelude.{ℕ, if◌then◌else◌, List, [], Result, Err}
use Rattle.std.specs.Option.{option_map_or}
use Rattle.form_def.specs.declared.form.FormDef.{FormDef}
use Rattle.entity_lists.specs.declared.entity_list.EntityList.{EntityList}
use Rattle.kept_forms.specs.KeptForms.{definition_of, fits_form}
use Rattle.finalizer.specs.declared.finals.Final.{Final}
use Rattle.finalizer.specs.declared.finals.MetaIn.{MetaIn}
use Rattle.finalizer.specs.declared.finals.NotFinal.{NotFinal}
use Rattle.finalizer.specs.declared.finals.NotFinal.TheVariants.{Required}
use Rattle.finalizer.specs.Finals.{final_of}

abbrev pub finalized_in : List (List ℕ) → List EntityList → MetaIn → FormDef → Result Final NotFinal
finalized_in sheet lists meta form = if fits_form form sheet then final_of form sheet lists meta else Err (Required [])

unfoldable pub finalized_of : List ℕ → List (List ℕ) → List EntityList → MetaIn → Result Final NotFinal
finalized_of bytes sheet lists meta =
    option_map_or (finalized_in sheet lists meta) (definition_of bytes) (Err (Required []))
