-- The parts of a form's document that a case may stand for.
use Rattle.std.specs.Prelude.{ℕ, List, [], ◌++◌, codes, if◌then◌else◌}
use Rattle.std.specs.List.{flat_map}
use Rattle.std.specs.Str.{bytes_eq}
use Rattle.case_lines.specs.Escapes.{bytes_of}
use Rattle.form_outline.specs.declared.outline.Outline.{Outline}
use Rattle.document_cases.specs.declared.outlines.Part.{Part}
use Rattle.document_cases.specs.declared.outlines.Part.TheVariants.{Primary, Model, Body, Whole}
use Rattle.document_cases.specs.Outlines.{primary_part_printed, model_part_printed, control_printed, outline_printed}

abbrev pub part_named : List ℕ → Part
part_named name =
    if bytes_eq name (codes "primary") then Primary else
    if bytes_eq name (codes "model") then Model else
    if bytes_eq name (codes "body") then Body else Whole

-- what stands before a part in a small document
abbrev pub front_of : Part → List ℕ
front_of Primary = codes "<h><head><model><instance>"
front_of Model = codes "<h><head><model><instance><d/></instance>"
front_of Body = codes "<h><head><model><instance><d/></instance></model></head><body>"
front_of Whole = []

-- what stands behind it
abbrev pub back_of : Part → List ℕ
back_of Primary = codes "</instance></model></head><body/></h>"
back_of Model = codes "</model></head><body/></h>"
back_of Body = codes "</body></h>"
back_of Whole = []

abbrev pub document_of : Part → List ℕ → List ℕ
document_of part text = front_of part ++ bytes_of text ++ back_of part

-- what is printed of an outline for a case of a part
abbrev pub part_printed : Part → Outline → List ℕ
part_printed Primary outline = flat_map primary_part_printed outline.primary
part_printed Model outline = flat_map model_part_printed outline.model
part_printed Body outline = flat_map control_printed outline.controls
part_printed Whole outline = outline_printed outline
