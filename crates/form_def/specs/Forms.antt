-- What every form keeps, and what is refused because a form would lack it.
use Rattle.std.specs.Prelude.{◌≡◌, true, false, length}
use Rattle.form_def.specs.declared.parts.FormParts.{FormParts}
use Rattle.form_def.specs.declared.parts.FormFault.{FormFault}
use Rattle.form_def.specs.declared.parts.FormFault.TheVariants.{BadRoot, BadPath, SamePath, OutOfRange, BadOrder}
use Rattle.form_def.specs.declared.parts.FormFault.TheVariants.{NoMemory}
use Rattle.form_def.specs.Paths.{is_name}
use Rattle.form_def.specs.Fields.{have_paths, PathsDiffer, are_within}
use Rattle.form_def.specs.Order.{is_order}

-- the names are local names
abbrev pub IsNamed : FormParts → Type 0
IsNamed parts = (is_name parts.root ≡ true) × (have_paths parts.root parts.fields ≡ true)

-- the first of these that the parts lack is told
abbrev pub Refuses : FormParts → FormFault → Type 0
Refuses parts BadRoot = is_name parts.root ≡ false
Refuses parts BadPath = (is_name parts.root ≡ true) × (have_paths parts.root parts.fields ≡ false)
Refuses parts SamePath = IsNamed parts × ¬ (PathsDiffer parts.fields)
Refuses parts OutOfRange =
    IsNamed parts × PathsDiffer parts.fields × (are_within (length parts.fields) 0 parts.fields ≡ false)
Refuses parts BadOrder = IsNamed parts × PathsDiffer parts.fields
    × (are_within (length parts.fields) 0 parts.fields ≡ true) × (is_order parts.fields parts.order ≡ false)
Refuses parts NoMemory = Unit {0}
