-- What the author of a form is told of a document: what the form asks, or why there is none.
use Rattle.std.specs.Prelude.{◌≡◌, ◌≢◌, ℕ, Bool, true, false, List}
use Rattle.form_def.specs.declared.form.FormDef.{FormDef}
use Rattle.form_read.specs.Forms.{Describes, Refuses}
use Rattle.form_read.specs.declared.refusal.FormRefused.{FormRefused}
use Rattle.form_read.specs.declared.refusal.FormRefused.TheVariants.{NoMemory}
use Rattle.form_check.specs.Accepted.{form_text}
use Rattle.form_check.specs.Refused.{refused_line}

pub data Reports (document : List ℕ) : Bool → List ℕ → Type 0 where
  accepts : (form : FormDef) (text : List ℕ) → Describes document form → text ≡ form_text form
      → Reports document true text
  refuses : (why : FormRefused) (text : List ℕ) → Refuses document why → why ≢ NoMemory
      → text ≡ refused_line document why → Reports document false text
