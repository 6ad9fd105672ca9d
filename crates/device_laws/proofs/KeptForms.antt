-- Bytes that are kept as a form are a form.
use Rattle.std.specs.Prelude.{◌≡◌, ℕ, true, false, List, Result, Ok, Err, refl}
use Rattle.std.specs.Option.{option_map_or}
use Rattle.std.specs.Result.{result_ok}
use Rattle.std.proofs.Common.{sym}
use Rattle.field_text.specs.Steps.{◌>>=◌}
use Rattle.form_def.specs.declared.form.FormDef.{FormDef}
use Rattle.form_read.specs.declared.refusal.FormRefused.{FormRefused}
use Rattle.kept_forms.specs.KeptForms.{definition_of, is_form, kept_form}

abbrev the_form : List ℕ → Result (List ℕ) FormRefused
the_form bytes = Ok bytes

same_Ok : (bytes form : List ℕ) (r : FormDef) → (Ok r >>= λ f. the_form bytes) ≡ the_form form → bytes ≡ form
same_Ok bytes form r is = cc is

by_reading : (bytes form : List ℕ) (r : Result FormDef FormRefused) → (r >>= λ f. the_form bytes) ≡ the_form form
    → (form ≡ bytes) × (option_map_or (λ f. true) (result_ok r) false ≡ true)
by_reading bytes form (Ok f) is = (sym (same_Ok bytes form f is), refl)
by_reading bytes form (Err why) is = absurd (cc is)

pub kept_reads : (bytes form : List ℕ) → kept_form bytes ≡ Ok form → (form ≡ bytes) × (is_form bytes ≡ true)
unfolding kept_form is_form definition_of
kept_reads bytes form is = by_reading bytes form _ is
