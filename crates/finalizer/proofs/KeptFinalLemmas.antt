-- What is finalized by a definition that a document describes is what the document's own definition gives.
use Rattle.std.specs.Prelude.{ℕ, ◌≡◌, List, [], Err}
use Rattle.form_def.specs.declared.form.FormDef.{FormDef}
use Rattle.form_read.specs.Forms.{Describes}
use Rattle.entity_lists.specs.declared.entity_list.EntityList.{EntityList}
use Rattle.kept_forms.proofs.KeptFormLemmas.{fits_differs, same_of}
use Rattle.finalizer.specs.declared.finals.MetaIn.{MetaIn}
use Rattle.finalizer.specs.declared.finals.NotFinal.TheVariants.{Required}
use Rattle.finalizer.specs.Finals.{final_of}
use Rattle.finalizer.specs.KeptFinals.{finalized_in, finalized_of}
use Rattle.finalizer.proofs.FormOrders.{same_final}

pub same_finalized : (sheet : List (List ℕ)) (lists : List EntityList) (meta : MetaIn) (bytes : List ℕ) (form : FormDef)
    → Describes bytes form → finalized_in sheet lists meta form ≡ finalized_of bytes sheet lists meta
unfolding finalized_of
same_finalized sheet lists meta bytes form is =
    same_of (finalized_in sheet lists meta) (Err (Required [])) bytes form is
    (λ f d. fits_differs sheet f form d (final_of f sheet lists meta) (final_of form sheet lists meta)
    (Err (Required [])) (same_final f form sheet lists meta d))
