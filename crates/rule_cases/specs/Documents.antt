-- The small document of a case: fields, further children of the model, and a body.
use Rattle.std.specs.Prelude.{ℕ, List, ◌++◌, codes}
use Rattle.case_lines.specs.Escapes.{bytes_of}

abbrev pub document_of : List ℕ → List ℕ → List ℕ → List ℕ
document_of fields model body =
    codes "<h><head><model><instance><d id='f'>" ++ bytes_of fields
    ++ codes "</d></instance>" ++ bytes_of model
    ++ codes "</model></head><body>" ++ bytes_of body
    ++ codes "</body></h>"
