-- Lists of form records, and what each call of a store makes of them.
use Rattle.std.specs.Prelude.{◌≡◌, ℕ, ◌<◌, ◌&&◌, ◌==◌, nat_le, Bool, true, false, if◌then◌else◌, max, List, [], ◌∷◌}
use Rattle.std.specs.Prelude.{◌++◌, length, map, position, slice_get, Option, Some, None}
use Rattle.std.specs.Option.{option_map_or}
use Rattle.std.specs.Str.{bytes_eq}
use Rattle.field_rows.specs.Edited.{edited}
use Rattle.form_store.specs.declared.records.FormRec.{FormRec}
use Rattle.form_store.specs.declared.records.Check.{Check}
use Rattle.form_store.specs.declared.records.Check.TheVariants.{Fresh, Same, OtherBytes, Full}

abbrev pub form_limit : ℕ
form_limit = 1000

-- ---- look-ups

abbrev pub is_form : List ℕ → List ℕ → FormRec → Bool
is_form id version r = bytes_eq r.id id && bytes_eq r.version version

-- the place of the record of an id and a version
abbrev pub exact : List ℕ → List ℕ → List FormRec → Option ℕ
exact id version records = position (is_form id version) records

abbrev pub is_shown : List ℕ → FormRec → Bool
is_shown id r = r.visible && bytes_eq r.id id

-- the greatest position at which a visible record of an id was put, 0 where there is none
abbrev pub newest : List ℕ → List FormRec → ℕ
newest id [] = 0
newest id (r ∷ rs) = if is_shown id r then max r.put_at (newest id rs) else newest id rs

abbrev pub is_shown_since : List ℕ → ℕ → FormRec → Bool
is_shown_since id at r = is_shown id r && (r.put_at == at)

-- the place of the visible record of an id that was put last
abbrev pub latest : List ℕ → List FormRec → Option ℕ
latest id records = position (is_shown_since id (newest id records)) records

-- ---- putting a form

abbrev pub has_bytes : List ℕ → List FormRec → ℕ → Bool
has_bytes bytes records place = option_map_or (λ r. bytes_eq r.bytes bytes) (slice_get records place) false

abbrev pub check_at : List ℕ → List FormRec → Option ℕ → Check
check_at bytes records None = if nat_le form_limit (length records) then Full else Fresh
check_at bytes records (Some place) = if has_bytes bytes records place then Same place else OtherBytes place

-- what a form of this id, version and bytes would meet
abbrev pub check : List ℕ → List ℕ → List ℕ → List FormRec → Check
check id version bytes records = check_at bytes records (exact id version records)

abbrev pub check_of : FormRec → List FormRec → Check
check_of item records = check item.id item.version item.bytes records

-- a kept record that is put again
abbrev pub renewed : FormRec → FormRec → FormRec
renewed item r = record r { visible = item.visible; put_at = item.put_at; complete = item.complete }

abbrev pub put_by : FormRec → List FormRec → Check → List FormRec
put_by item records Fresh = records ++ item ∷ []
put_by item records (Same place) = edited (renewed item) place records
put_by item records (OtherBytes place) = records
put_by item records Full = records

-- the records once a form is put
abbrev pub put : FormRec → List FormRec → List FormRec
put item records = put_by item records (check_of item records)

-- ---- changing a record

abbrev pub hidden : FormRec → FormRec
hidden r = record r { visible = false }

-- a visible record of an id is hidden, another one stays
abbrev pub hidden_of : List ℕ → FormRec → FormRec
hidden_of id r = if is_shown id r then hidden r else r

-- the records once the visible ones of an id are hidden
abbrev pub all_hidden : List ℕ → List FormRec → List FormRec
all_hidden id records = map (hidden_of id) records

abbrev pub completed : FormRec → FormRec
completed r = record r { complete = true }
