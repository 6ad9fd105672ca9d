-- The fields of a form, by their numbers in document order: which is whose parent, and what each reads.
use Rattle.std.specs.Prelude.{ℕ, ◌≢◌, AllPairs, ◌+◌, Bool, true, ◌&&◌, nat_lt, List, [], ◌∷◌, ◌++◌, Option, map}
use Rattle.std.specs.Prelude.{position}
use Rattle.std.specs.List.{list_all, All}
use Rattle.std.specs.Str.{bytes_eq}
use Rattle.form_def.specs.declared.field.Field.{Field}
use Rattle.form_def.specs.declared.field.Choices.{Choices}
use Rattle.form_def.specs.declared.field.Choices.TheVariants.{Nothing, Fixed, Rows}
use Rattle.form_def.specs.Reads.{reads_of}
use Rattle.form_def.specs.Paths.{parent_path, is_path}

-- the field of a path
abbrev pub number_of : List Field → List ℕ → Option ℕ
number_of fields path = position (λ f. bytes_eq f.path path) fields

-- the field that a path stands below, if that is one
abbrev pub parent_of : List Field → List ℕ → Option ℕ
parent_of fields path = number_of fields (parent_path path)

abbrev pub parents_of : List Field → List (Option ℕ)
parents_of fields = map (λ f. parent_of fields f.path) fields

abbrev pub reads_of_choices : ℕ → Choices → List ℕ
reads_of_choices own Nothing = []
reads_of_choices own (Fixed values) = []
reads_of_choices own (Rows table filter value) = reads_of own filter

-- the fields that any expression of a field reads
abbrev pub reads_of_field : ℕ → Field → List ℕ
reads_of_field own f = reads_of own f.relevant ++ reads_of own f.constraint ++ reads_of own f.required
    ++ reads_of own f.readonly ++ reads_of own f.calculate ++ reads_of_choices own f.choices

abbrev pub reads_below : ℕ → ℕ → Field → Bool
reads_below count own f = list_all (λ k. nat_lt k count) (reads_of_field own f)

-- of the fields from a number on, each reads fields of the form alone, which has so many
abbrev pub are_within : ℕ → ℕ → List Field → Bool
are_within count own [] = true
are_within count own (f ∷ fs) = reads_below count own f && are_within count (own + 1) fs

abbrev pub have_paths : List ℕ → List Field → Bool
have_paths root fields = list_all (λ f. is_path root f.path) fields

abbrev pub PathsDiffer : List Field → Type 0
PathsDiffer fields = AllPairs (λ a b. a.path ≢ b.path) fields

abbrev pub LacksPath : List ℕ → List Field → Type 0
LacksPath path fields = All (λ f. path ≢ f.path) fields
