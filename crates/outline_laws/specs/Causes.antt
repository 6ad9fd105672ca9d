-- The first cause in a list: each item has one or none, which depends on the items before it and on nothing else.
use Rattle.std.specs.Prelude.{List, [], ◌∷◌, ◌++◌, Option, Some, None, Result, Ok, Err}
use Rattle.form_read.specs.declared.refusal.FormRefused.{FormRefused}

-- the cause of each item behind those before it
abbrev pub causes : {A E : Type 0} → (List A → A → Option E) → List A → List A → List (Option E)
causes cause before [] = []
causes cause before (item ∷ items) = cause before item ∷ causes cause (before ++ item ∷ []) items

abbrev pub first_cause : {E : Type 0} → List (Option E) → Option E
first_cause [] = None
first_cause (None ∷ others) = first_cause others
first_cause (Some cause ∷ others) = Some cause

-- what something is refused for, if it is
abbrev pub refusal_in : {A : Type 0} → Result A FormRefused → Option FormRefused
refusal_in (Ok said) = None
refusal_in (Err refusal) = Some refusal
