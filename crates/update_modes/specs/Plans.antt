-- Which forms of a form list are wanted, and which kept forms are gone, by the mode of updates.
use Rattle.std.specs.Prelude.{ℕ, ◌&&◌, not, Bool, true, List, []}
use Rattle.std.specs.List.{list_any}
use Rattle.std.specs.Str.{bytes_eq}
use Rattle.field_text.specs.declared.mode.Mode.{Mode}
use Rattle.field_text.specs.declared.mode.Mode.TheVariants.{Manual, Previous, Exact}
use Rattle.field_ids.specs.Hashes.{same_hash}
use Rattle.form_list.specs.declared.entries.Listed.{Listed}
use Rattle.form_store.specs.declared.records.FormRec.{FormRec}
use Rattle.form_store.specs.Forms.{is_shown}
use Rattle.update_modes.specs.Places.{places}

-- a record is the listed form: it is visible, complete, and has its id and its hash, whatever the version
abbrev pub is_same : Listed → FormRec → Bool
is_same form r = is_shown form.form_id r && r.complete && same_hash r.hash form.hash

abbrev pub is_there : List FormRec → Listed → Bool
is_there forms form = list_any (is_same form) forms

-- some visible record has the form's id
abbrev pub is_had : List FormRec → Listed → Bool
is_had forms form = list_any (is_shown form.form_id) forms

abbrev pub is_asked : List (List ℕ) → Listed → Bool
is_asked asked form = list_any (λ id. bytes_eq id form.form_id) asked

-- whether the mode lets a form be fetched that isn't there
abbrev pub is_followed : Mode → List (List ℕ) → List FormRec → Listed → Bool
is_followed Manual asked forms form = is_asked asked form
is_followed Previous asked forms form = is_had forms form
is_followed Exact asked forms form = true

abbrev pub is_wanted : Mode → List (List ℕ) → List FormRec → Listed → Bool
is_wanted mode asked forms form = not (is_there forms form) && is_followed mode asked forms form

-- the places of the listed forms that are wanted
abbrev pub plan : Mode → List Listed → List (List ℕ) → List FormRec → List ℕ
plan mode listed asked forms = places (is_wanted mode asked forms) listed

abbrev pub is_listed : List Listed → FormRec → Bool
is_listed listed r = list_any (λ form. bytes_eq form.form_id r.id) listed

abbrev pub is_gone : List Listed → FormRec → Bool
is_gone listed r = r.visible && not (is_listed listed r)

-- the places of the kept forms that are gone, which only the exact mode looks for
abbrev pub gone : Mode → List Listed → List FormRec → List ℕ
gone Manual listed forms = []
gone Previous listed forms = []
gone Exact listed forms = places (is_gone listed) forms
