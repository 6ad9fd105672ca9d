use Rattle.std.proofs.Common.{◌≡◌, ◌≤◌, ℕ, List, true, length, sym, ap, subst, ◌∙◌}
use Rattle.form_def.specs.declared.field.Field.{Field}
use Rattle.instance_doc.specs.Documents.{document, document_limit}
use Rattle.instance_doc.specs.Instances.{ReadsAs}
use Rattle.instance_doc.specs.ReadBack.{are_kept, given, is_readable}
use Rattle.instance_doc.specs.Returns.{lacks_return}
use Rattle.instance_doc.specs.Rows.{rows_of}
use Rattle.instance_doc.specs.Trees.{HasFields}
use Rattle.instance_doc.proofs.DocumentWritten.{document_has_fields, document_reads}
use Rattle.instance_doc.proofs.Given.{given_document}
use Rattle.instance_doc.proofs.ReturnLemmas.{document_lacks_return}
use Rattle.instance_doc.proofs.document.doc_bytes.Goals as goal

pub returns-clause-no_return : goal.returns-clause-no_return
returns-clause-no_return c =
    let form = c.args.form.now in
    let texts = c.args.texts.now in
    let shown = c.args.shown.now in
    let meta = c.args.meta.now in
    let P = λ (x : List ℕ). lacks_return x ≡ true in
    let written = λ (fields : List Field). document form (rows_of fields texts shown) meta in
    let is = c.in_ok-document.ensures ∙ ap written c.as_slice.ensures in
    given_document P c.limited.result c.in_ok-document.field-0.items c.limited.ensures
    (λ low. subst P (sym is) (document_lacks_return form texts shown meta))

pub returns-clause-read_back : goal.returns-clause-read_back
returns-clause-read_back c =
    let form = c.args.form.now in
    let texts = c.args.texts.now in
    let shown = c.args.shown.now in
    let meta = c.args.meta.now in
    let P = λ (x : List ℕ). is_readable form (rows_of form.fields texts shown) ≡ true → are_kept form meta ≡ true
    → ReadsAs x (given form meta) in
    let Q = λ (x : List ℕ). length x ≤ document_limit → P x in
    let written = λ (fields : List Field). document form (rows_of fields texts shown) meta in
    let is = c.in_ok-document.ensures ∙ ap written c.as_slice.ensures in
    given_document P c.limited.result c.in_ok-document.field-0.items c.limited.ensures
    (subst Q (sym is) (λ low readable kept. document_reads form texts shown meta readable kept low))

pub returns-clause-fields : goal.returns-clause-fields
returns-clause-fields c =
    let form = c.args.form.now in
    let texts = c.args.texts.now in
    let shown = c.args.shown.now in
    let meta = c.args.meta.now in
    let P = λ (x : List ℕ). is_readable form (rows_of form.fields texts shown) ≡ true
    → HasFields x form.root (rows_of form.fields texts shown) in
    let Q = λ (x : List ℕ). length x ≤ document_limit → P x in
    let written = λ (fields : List Field). document form (rows_of fields texts shown) meta in
    let is = c.in_ok-document.ensures ∙ ap written c.as_slice.ensures in
    given_document P c.limited.result c.in_ok-document.field-0.items c.limited.ensures
    (subst Q (sym is) (λ low readable. document_has_fields form texts shown meta readable low))
