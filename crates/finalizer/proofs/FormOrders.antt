-- Finalizing doesn't depend on the order that a form keeps.
use Rattle.std.specs.Prelude.{ℕ, ◌≡◌, Bool, false, if◌then◌else◌, List, [], ◌++◌, codes, length, slice_get, Option}
use Rattle.std.specs.Prelude.{Some, None, Result, Ok, refl, unwrap_or}
use Rattle.std.specs.Option.{option_map_or}
use Rattle.std.proofs.Common.{ap, ◌∙◌, length-set}
use Rattle.field_text.specs.Finds as finds
use Rattle.field_text.specs.Steps.{◌>>=◌}
use Rattle.field_ids.specs.Draws.{NextDraw, drawn}
use Rattle.form_def.specs.declared.field.EntityDef.{EntityDef}
use Rattle.form_def.specs.declared.field.Field.{Field}
use Rattle.form_def.specs.declared.form.FormDef.{FormDef}
use Rattle.form_def.specs.Fields.{number_of}
use Rattle.question_rules.specs.declared.faults.Fault.{Fault}
use Rattle.question_rules.specs.Along.{shown_marks}
use Rattle.question_rules.specs.Faults.{first_fault_of}
use Rattle.question_rules.specs.Orders.{DifferInOrder}
use Rattle.question_rules.proofs.Making.{settled_is}
use Rattle.question_rules.proofs.OrderLemmas.{same_first_fault, same_marks, same_texts}
use Rattle.entity_lists.specs.declared.entity_list.EntityList.{EntityList}
use Rattle.entity_lists.specs.EntityTables.{tables_of}
use Rattle.entity_merge.specs.declared.actions.Action.{Action}
use Rattle.instance_doc.specs.declared.meta.Meta.{Meta}
use Rattle.instance_doc.specs.Documents.{declaration, doc_of, entity_text, ids_text, limited, name_text, namespaces}
use Rattle.instance_doc.specs.Elements.{fields_text}
use Rattle.instance_doc.specs.Markup.{attribute, end_tag, in_utf8, start_tag}
use Rattle.instance_doc.specs.Rows.{meta_path, rows_of}
use Rattle.finalizer.specs.declared.entity_parts.Part.{Part}
use Rattle.finalizer.specs.declared.entity_parts.Part.TheVariants.{Create, Id, Label, Update}
use Rattle.finalizer.specs.declared.finals.Drawn.{Drawn}
use Rattle.finalizer.specs.declared.finals.Final.{Final}
use Rattle.finalizer.specs.declared.finals.MetaIn.{MetaIn}
use Rattle.finalizer.specs.declared.finals.NotFinal.{NotFinal}
use Rattle.finalizer.specs.Actions.{action_of, creation, has_entity, saved_from}
use Rattle.finalizer.specs.EntityParts.{if_empty, if_filled, is_yes, part_number, path_of, undrawn}
use Rattle.finalizer.specs.Finals.{document, final_drawn, final_of, final_with, if_faultless, if_written}
use Rattle.finalizer.specs.Finals.{names_of, settled_sheet, with_id_at, with_ids}

-- ---- the parts of the entity

same_numbers : (one other : FormDef) → DifferInOrder one other → part_number one ≡ part_number other
same_numbers one other d =
    ap (λ fields part. number_of fields (meta_path one.root (path_of part))) d.fields
    ∙ ap (λ root part. number_of other.fields (meta_path root (path_of part))) d.root

-- the definitions of the entity's texts, by the numbers of its parts
abbrev text_by : (Part → Option ℕ) → List (List ℕ) → Part → Option (List ℕ)
text_by number texts part = finds.◌>>=◌ (number part) (λ n. slice_get texts n)

abbrev asked_by : (Part → Option ℕ) → List (List ℕ) → Part → Bool
asked_by number texts part = option_map_or is_yes (text_by number texts part) false

abbrev undrawn_by : (Part → Option ℕ) → Option EntityDef → List (List ℕ) → Option ℕ
undrawn_by number entity texts =
    finds.◌>>=◌ entity (λ e. finds.◌>>=◌ (if e.draws_id then number Id else None) (λ n. if_empty texts n))

abbrev action_by : (Part → Option ℕ) → Option EntityDef → List Field → List EntityList → List (List ℕ) → List Bool
    → Option Action
action_by number entity fields lists texts marks =
    finds.◌>>=◌ entity (λ e. finds.◌>>=◌ (finds.◌>>=◌ (text_by number texts Id) if_filled) (λ id.
    finds.◌>>=◌ (creation (asked_by number texts Create) (asked_by number texts Update) (has_entity lists e.dataset id))
    (λ create. Some (record {
      create = create;
      list = e.dataset;
      id = id;
      label = unwrap_or (text_by number texts Label) [];
      props = saved_from texts marks 0 fields;
    }))))

same_undrawn : (one other : FormDef) (texts : List (List ℕ)) → DifferInOrder one other
    → undrawn one texts ≡ undrawn other texts
same_undrawn one other texts d =
    ap (λ number. undrawn_by number one.entity texts) (same_numbers one other d)
    ∙ ap (λ entity. undrawn_by (part_number other) entity texts) d.entity

same_action : (one other : FormDef) (lists : List EntityList) (texts : List (List ℕ)) (marks : List Bool)
    → DifferInOrder one other → action_of one lists texts marks ≡ action_of other lists texts marks
same_action one other lists texts marks d =
    ap (λ number. action_by number one.entity one.fields lists texts marks) (same_numbers one other d)
    ∙ ap (λ entity. action_by (part_number other) entity one.fields lists texts marks) d.entity
    ∙ ap (λ fields. action_by (part_number other) other.entity fields lists texts marks) d.fields

-- ---- the document

abbrev doc_by : (root id version : List ℕ) → List Field → Option EntityDef → List (List ℕ) → List Bool → Meta → List ℕ
doc_by root id version fields entity texts marks names =
    let rows = rows_of fields texts marks in
    declaration ++ (((codes "<" ++ (in_utf8 root ++ namespaces)) ++ ((attribute (codes "id") id
    ++ attribute (codes "version") version) ++ codes ">")) ++ ((fields_text root rows ++ (start_tag (codes "orx:meta")
    ++ ((ids_text names ++ (name_text root rows ++ entity_text root rows entity)) ++ end_tag (codes "orx:meta"))))
    ++ end_tag root))

same_doc : (one other : FormDef) (texts : List (List ℕ)) (marks : List Bool) (names : Meta) → DifferInOrder one other
    → doc_of one texts marks names ≡ doc_of other texts marks names
same_doc one other texts marks names d =
    ap (λ root. doc_by root one.id one.version one.fields one.entity texts marks names) d.root
    ∙ ap (λ id. doc_by other.root id one.version one.fields one.entity texts marks names) d.id
    ∙ ap (λ version. doc_by other.root other.id version one.fields one.entity texts marks names) d.version
    ∙ ap (λ fields. doc_by other.root other.id other.version fields one.entity texts marks names) d.fields
    ∙ ap (λ entity. doc_by other.root other.id other.version other.fields entity texts marks names) d.entity

-- ---- the finalized instance

-- with this document and this action
abbrev final_by : Meta → Drawn → Result (List ℕ) NotFinal → Option Action → Result Final NotFinal
final_by names made doc action = doc >>= λ bytes. Ok (record {
  bytes = bytes;
  instance_id = names.instance_id;
  sheet = made.sheet;
  action = action;
  draws = made.draws;
})

same_with : (one other : FormDef) (lists : List EntityList) (names : Meta) (made : Drawn) (marks : List Bool)
    → DifferInOrder one other → final_with one lists names made marks ≡ final_with other lists names made marks
same_with one other lists names made marks d =
    ap (λ doc. final_by names made (if_written (limited doc)) (action_of one lists made.sheet marks))
    (same_doc one other made.sheet marks names d)
    ∙ ap (final_by names made (document other made.sheet marks names)) (same_action one other lists made.sheet marks d)

same_drawn : (one other : FormDef) (lists : List EntityList) (names : Meta) (made : Drawn) → DifferInOrder one other
    → length made.sheet ≡ length one.fields → final_drawn one lists names made ≡ final_drawn other lists names made
same_drawn one other lists names made d long =
    ap (final_with one lists names made) (same_marks one other (tables_of lists) made.sheet d long)
    ∙ same_with one other lists names made (shown_marks other (tables_of lists) made.sheet) d

as_long : (texts : List (List ℕ)) (draws : NextDraw) (number : Option ℕ)
    → length (with_id_at texts draws number).sheet ≡ length texts
as_long texts draws None = refl
as_long texts draws (Some number) = length-set texts number _

same_behind : (one other : FormDef) (lists : List EntityList) (meta : MetaIn) (texts : List (List ℕ))
    → DifferInOrder one other → length texts ≡ length one.fields
    → final_drawn one lists (names_of meta) (with_ids one meta.draws texts)
    ≡ final_drawn other lists (names_of meta) (with_ids other meta.draws texts)
same_behind one other lists meta texts d long =
    same_drawn one other lists (names_of meta) (with_ids one meta.draws texts) d
    (as_long texts (drawn meta.draws 1) (undrawn one texts) ∙ long)
    ∙ ap (λ number. final_drawn other lists (names_of meta) (with_id_at texts (drawn meta.draws 1) number))
    (same_undrawn one other texts d)

-- what two functions that agree on texts make of them, where these are tested alike
same_tested : (texts : List (List ℕ)) (fault : Option Fault) (f g : List (List ℕ) → Result Final NotFinal)
    → f texts ≡ g texts → (if_faultless texts fault >>= f) ≡ (if_faultless texts fault >>= g)
same_tested texts None f g same = same
same_tested texts (Some fault) f g same = refl

pub same_final : (one other : FormDef) (sheet : List (List ℕ)) (lists : List EntityList) (meta : MetaIn)
    → DifferInOrder one other → length sheet ≡ length one.fields
    → final_of one sheet lists meta ≡ final_of other sheet lists meta
same_final one other sheet lists meta d long =
    let tables = tables_of lists in
    let texts = settled_sheet one tables sheet in
    let after : List (List ℕ) → Result Final NotFinal =
    λ t. final_drawn other lists (names_of meta) (with_ids other meta.draws t) in
    let long_too : length texts ≡ length one.fields = (settled_is one tables sheet long).0 ∙ long in
    same_tested texts (first_fault_of one tables texts) _ after (same_behind one other lists meta texts d long_too)
    ∙ ap (λ fault. if_faultless texts fault >>= after) (same_first_fault one other tables texts d long_too)
    ∙ ap (λ t. if_faultless t (first_fault_of other tables t) >>= after) (same_texts one other tables sheet d long)
