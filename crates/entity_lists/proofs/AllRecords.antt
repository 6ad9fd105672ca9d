-- Records that were read one after the other up to the end of a text are all its records.
use Rattle.std.proofs.Common.{◌≡◌, ℕ, zero, suc, ◌+◌, ◌<◌, ◌≤◌, ◌==◌, List, [], ◌∷◌, ◌++◌, length, Bool, true, false, true≢false, if◌then◌else◌, Option, Some, None, arith, sym, refl, ◌∙◌}
use Rattle.std.specs.Bool.{⊤}
use Rattle.csv.specs.Machine.{Read, after_end, ends_at_end, ends_with, fields_after, field_after, in_field, is_end, next_record, step}
use Rattle.csv.specs.Reading.{Reached, default_config, records_from}
use Rattle.csv.specs.declared.parser.Action.{Action}
use Rattle.csv.specs.declared.parser.Action.TheVariants as act
use Rattle.csv.specs.declared.parser.State.{State}
use Rattle.csv.specs.declared.parser.State.TheVariants as st
use Rattle.csv.specs.declared.parser.Terminator.TheVariants as term

-- ---- a byte that ends a record leaves no field at hand

abbrev Ends : State × Action → Type 0
Ends p = is_end p.1 ≡ true → ends_at_end p.0 ≡ false

either : (b : Bool) (x y : State × Action) → Ends x → Ends y → Ends (if b then x else y)
either true x y p q = p
either false x y p q = q

after_end_ends : (c : ℕ) → ends_at_end (after_end term.CRLF c) ≡ false
after_end_ends c = elim (c == 13) as (λ b. ends_at_end (if b then st.AfterCr else st.StartRecord) ≡ false) [ true ↦ refl | false ↦ refl ]

in_field_ends : (c : ℕ) → Ends (in_field default_config c)
in_field_ends c = either (c == 44) _ _ (λ e. cc e) (either (ends_with term.CRLF c) _ _ (λ _. after_end_ends c) (λ e. cc e))

start_field_ends : (c : ℕ) → Ends (step default_config st.StartField c)
start_field_ends c = either (c == 34) _ _ (λ e. cc e) (in_field_ends c)

start_record_ends : (c : ℕ) → Ends (step default_config st.StartRecord c)
start_record_ends c = either (ends_with term.CRLF c) _ _ (λ e. cc e) (start_field_ends c)

step_ends : (s : State) (c : ℕ) → Ends (step default_config s c)
step_ends st.StartRecord c = start_record_ends c
step_ends st.StartField c = start_field_ends c
step_ends st.InField c = in_field_ends c
step_ends st.InQuoted c = either (c == 34) _ _ (λ e. cc e) (λ e. cc e)
step_ends st.InEscape c = λ e. cc e
step_ends st.AfterQuote c = either (c == 34) _ _ (λ e. cc e) (in_field_ends c)
step_ends st.InComment c = either (c == 10) _ _ (λ e. cc e) (λ e. cc e)
step_ends st.AfterCr c = either (c == 10) _ _ (λ e. cc e) (start_record_ends c)

-- ---- a record takes a byte, unless a field is at hand, and leaves no field at hand

abbrev Took : State → List ℕ → Option Read → Type 0
Took s xs None = ⊤
Took s xs (Some p) = (ends_at_end p.1 ≡ false) × (length p.2 ≤ length xs) × (ends_at_end s ≡ false → length p.2 < length xs)

took_last : (s : State) (fields : List (List ℕ)) (b : Bool) → ends_at_end s ≡ b → Took s [] (if b then Some (fields, st.StartRecord, []) else None)
took_last s fields true e = (refl, omega arith, λ n. absurd (true≢false (sym e ∙ n)))
took_last s fields false e = tt

took_more : (s t : State) (c : ℕ) (rest : List ℕ) (o : Option Read) → Took t rest o → Took s (c ∷ rest) o
took_more s t c rest None h = tt
took_more s t c rest (Some p) h = (h.0, omega (arith, h.1), λ _. omega (arith, h.1))

took_step : (s : State) (c : ℕ) (rest : List ℕ) (fields : List (List ℕ)) (o : Option Read) (b : Bool) → is_end (step default_config s c).1 ≡ b
    → Took (step default_config s c).0 rest o → Took s (c ∷ rest) (if b then Some (fields, (step default_config s c).0, rest) else o)
took_step s c rest fields o true e h = (step_ends s c e, omega arith, λ _. omega arith)
took_step s c rest fields o false e h = took_more s (step default_config s c).0 c rest o h

took : (s : State) (fields : List (List ℕ)) (field xs : List ℕ) → Took s xs (next_record default_config s fields field xs)
unfolding next_record
took s fields field [] = took_last s (fields ++ (field ∷ [])) (ends_at_end s) refl
took s fields field (c ∷ rest) =
    took_step s c rest (fields_after (step default_config s c).1 fields field) _ (is_end (step default_config s c).1) refl (took (step default_config s c).0 (fields_after (step default_config s c).1 fields field) (field_after (step default_config s c).1 c field) rest)

-- ---- read until none is left

pub all_records : (s t : State) (xs ys : List ℕ) (rows : List (List (List ℕ))) → ends_at_end s ≡ false
    → Reached default_config s xs rows t ys → next_record default_config t [] [] ys ≡ None
    → (n : ℕ) → length xs < n → records_from default_config n s xs ≡ rows
unfolding Reached records_from
all_records s t xs ys rows e reached none zero small = absurd (omega arith)
all_records s t xs ys [] e reached none (suc n) small = rw (reached.0, reached.1, none) refl
all_records s t xs ys (r ∷ rs) e reached none (suc n) small =
    let p = reached.0 in
    let taken = rw reached.1 at (took s [] [] xs) in
    let rest = all_records p.1 t p.2 ys rs taken.0 reached.3 none n (omega (arith, taken.2 e)) in
    rw (reached.1, reached.2, rest) refl
