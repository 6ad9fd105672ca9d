-- What an instance does to a draft, and that the first instance of an id is the one that counts.
use Rattle.std.specs.Prelude.{◌≡◌, ℕ, Bool, true, false, ◌||◌, if◌then◌else◌, List, [], ◌∷◌, ◌++◌, find, Option, Some, None, Result, Ok, Err, refl}
use Rattle.std.specs.Str.{bytes_eq}
use Rattle.std.proofs.Common.{ap, sym, ◌∙◌, subst}
use Rattle.form_expr.proofs.Complete.{same_bytes}
use Rattle.rosa_doc.proofs.Names.{bytes_alike}
use Rattle.form_def.specs.declared.field.Cell.{Cell}
use Rattle.form_def.specs.declared.field.InnerTable.{InnerTable}
use Rattle.form_def.specs.declared.field.OuterTable.{OuterTable}
use Rattle.form_outline.specs.declared.outline.ModelPart.{ModelPart}
use Rattle.form_outline.specs.declared.outline.ModelPart.TheVariants as part
use Rattle.form_outline.specs.declared.outline.Table.{Table}
use Rattle.form_outline.specs.declared.outline.TableContent.{TableContent}
use Rattle.form_outline.specs.declared.outline.TableContent.TheVariants.{Rows, Source, Nothing}
use Rattle.form_read.specs.Tables.{content_taken, has_table, list_named, source_taken, table_taken, with_inner, with_outer}
use Rattle.form_read.specs.declared.draft.Draft.{Draft}
use Rattle.form_read.specs.declared.refusal.FormRefused.{FormRefused}
use Rattle.form_read.specs.declared.refusal.FormRefused.TheVariants.{UnknownList}
use Rattle.outline_laws.specs.FirstTables.{TablesSay, content_cause, inner_table, is_inner_of, is_outer_of, is_table_of, outer_table, source_cause, table_cause}
use Rattle.outline_laws.specs.FirstTables.{of_list, of_rows, unknown, without_rows}
use Rattle.outline_laws.proofs.Finding.{find_kept, find_new, find_none, find_other, none_any, some_any}

abbrev pub AreTables : List ModelPart → List InnerTable → List OuterTable → Type 0
AreTables before inner outer = (id : List ℕ) → TablesSay before id (find (is_inner_of id) inner) (find (is_outer_of id) outer)

-- a part that isn't the first instance of an id changes nothing of it
say_on : (before : List ModelPart) (p : ModelPart) (id : List ℕ) (i : Option InnerTable) (o : Option OuterTable)
    → (find (is_table_of id) before ≡ None → is_table_of id p ≡ false) → TablesSay before id i o → TablesSay (before ++ p ∷ []) id i o
say_on before p id i o other (unknown none) = unknown (find_none (is_table_of id) before p none (other none))
say_on before p id i o other (of_rows table rows found is) = of_rows table rows (find_kept (is_table_of id) before p (part.Table table) found) is
say_on before p id i o other (without_rows table found is) = without_rows table (find_kept (is_table_of id) before p (part.Table table) found) is
say_on before p id i o other (of_list table source list found is named) = of_list table source list (find_kept (is_table_of id) before p (part.Table table) found) is named

pub tables_on : (before : List ModelPart) (p : ModelPart) (inner : List InnerTable) (outer : List OuterTable)
    → ((id : List ℕ) → find (is_table_of id) before ≡ None → is_table_of id p ≡ false) → AreTables before inner outer → AreTables (before ++ p ∷ []) inner outer
tables_on before p inner outer other h id = say_on before p id (find (is_inner_of id) inner) (find (is_outer_of id) outer) (other id) (h id)

-- what an instance has given
pub data TableStep (before : List ModelPart) (table : Table) (d : Draft) : Result Draft FormRefused → Type 0 where
  kept : table_cause before table ≡ None → AreTables (before ++ part.Table table ∷ []) d.inner d.outer → TableStep before table d (Ok d)
  inner : (new : InnerTable) → table_cause before table ≡ None → AreTables (before ++ part.Table table ∷ []) (d.inner ++ new ∷ []) d.outer
      → TableStep before table d (Ok (with_inner d new))
  outer : (new : OuterTable) → table_cause before table ≡ None → AreTables (before ++ part.Table table ∷ []) d.inner (d.outer ++ new ∷ [])
      → TableStep before table d (Ok (with_outer d new))
  refused : (why : FormRefused) → table_cause before table ≡ Some why → TableStep before table d (Err why)

module _ (before : List ModelPart) (table : Table) (d : Draft) (h : AreTables before d.inner d.outer) where
  -- the first instance of its id
  module _ (none : find (is_table_of table.id) before ≡ None) where
    -- what the tables of an id are with one more
    with_new_inner : (rows : List (List Cell))
        → ((id : List ℕ) → table.id ≡ id → TablesSay (before ++ part.Table table ∷ []) id (Some (inner_table id rows)) None)
        → find (is_inner_of table.id) d.inner ≡ None → find (is_outer_of table.id) d.outer ≡ None
        → AreTables (before ++ part.Table table ∷ []) (d.inner ++ inner_table table.id rows ∷ []) d.outer
    with_new_inner rows new no_inner no_outer id = by (bytes_eq table.id id) refl
      where
        by : (b : Bool) → bytes_eq table.id id ≡ b
            → TablesSay (before ++ part.Table table ∷ []) id (find (is_inner_of id) (d.inner ++ inner_table table.id rows ∷ [])) (find (is_outer_of id) d.outer)
        by true alike =
            let same : table.id ≡ id = same_bytes table.id id alike in
            subst (λ i. TablesSay (before ++ part.Table table ∷ []) id i (find (is_outer_of id) d.outer))
            (sym (find_new (is_inner_of id) d.inner (inner_table table.id rows) (subst (λ t. find (is_inner_of t) d.inner ≡ None) same no_inner) alike
            ∙ ap (λ t. Some (inner_table t rows)) same))
            (subst (λ o. TablesSay (before ++ part.Table table ∷ []) id (Some (inner_table id rows)) o)
            (sym (subst (λ t. find (is_outer_of t) d.outer ≡ None) same no_outer)) (new id same))
        by false alike =
            subst (λ i. TablesSay (before ++ part.Table table ∷ []) id i (find (is_outer_of id) d.outer)) (sym (find_other (is_inner_of id) d.inner (inner_table table.id rows) alike))
            (say_on before (part.Table table) id (find (is_inner_of id) d.inner) (find (is_outer_of id) d.outer) (λ none. alike) (h id))

    with_new_outer : (list : List ℕ)
        → ((id : List ℕ) → table.id ≡ id → TablesSay (before ++ part.Table table ∷ []) id None (Some (outer_table id list)))
        → find (is_inner_of table.id) d.inner ≡ None → find (is_outer_of table.id) d.outer ≡ None
        → AreTables (before ++ part.Table table ∷ []) d.inner (d.outer ++ outer_table table.id list ∷ [])
    with_new_outer list new no_inner no_outer id = by (bytes_eq table.id id) refl
      where
        by : (b : Bool) → bytes_eq table.id id ≡ b
            → TablesSay (before ++ part.Table table ∷ []) id (find (is_inner_of id) d.inner) (find (is_outer_of id) (d.outer ++ outer_table table.id list ∷ []))
        by true alike =
            let same : table.id ≡ id = same_bytes table.id id alike in
            subst (λ o. TablesSay (before ++ part.Table table ∷ []) id (find (is_inner_of id) d.inner) o)
            (sym (find_new (is_outer_of id) d.outer (outer_table table.id list) (subst (λ t. find (is_outer_of t) d.outer ≡ None) same no_outer) alike
            ∙ ap (λ t. Some (outer_table t list)) same))
            (subst (λ i. TablesSay (before ++ part.Table table ∷ []) id i (Some (outer_table id list)))
            (sym (subst (λ t. find (is_inner_of t) d.inner ≡ None) same no_inner)) (new id same))
        by false alike =
            subst (λ o. TablesSay (before ++ part.Table table ∷ []) id (find (is_inner_of id) d.inner) o) (sym (find_other (is_outer_of id) d.outer (outer_table table.id list) alike))
            (say_on before (part.Table table) id (find (is_inner_of id) d.inner) (find (is_outer_of id) d.outer) (λ none. alike) (h id))

    -- the instance is the first of its id among those with it
    first_here : (id : List ℕ) → table.id ≡ id → find (is_table_of id) (before ++ part.Table table ∷ []) ≡ Some (part.Table table)
    first_here id same = find_new (is_table_of id) before (part.Table table) (subst (λ t. find (is_table_of t) before ≡ None) same none)
        (ap (bytes_eq table.id) (sym same) ∙ bytes_alike table.id)

    cause_first : (c : TableContent) → table.content ≡ c → table_cause before table ≡ content_cause table.id c
    cause_first c is = (rw none refl) ∙ ap (content_cause table.id) is

    of_source : (source : List ℕ) → table.content ≡ Source source → find (is_inner_of table.id) d.inner ≡ None → find (is_outer_of table.id) d.outer ≡ None
        → (named : Option (List ℕ)) → list_named source ≡ named → TableStep before table d (source_taken d table.id named)
    of_source source is no_inner no_outer None named = refused (UnknownList table.id) (cause_first (Source source) is ∙ ap (source_cause table.id) named)
    of_source source is no_inner no_outer (Some list) named = outer (outer_table table.id list) (cause_first (Source source) is ∙ ap (source_cause table.id) named)
        (with_new_outer list (λ id same. of_list table source list (first_here id same) is named) no_inner no_outer)

    of_content : find (is_inner_of table.id) d.inner ≡ None → find (is_outer_of table.id) d.outer ≡ None
        → (c : TableContent) → table.content ≡ c → TableStep before table d (content_taken d table.id c)
    of_content no_inner no_outer (Rows rows) is = inner (inner_table table.id rows) (cause_first (Rows rows) is)
        (with_new_inner rows (λ id same. of_rows table rows (first_here id same) is) no_inner no_outer)
    of_content no_inner no_outer Nothing is = inner (inner_table table.id []) (cause_first Nothing is)
        (with_new_inner [] (λ id same. without_rows table (first_here id same) is) no_inner no_outer)
    of_content no_inner no_outer (Source source) is = of_source source is no_inner no_outer (list_named source) refl

  -- a later instance of an id
  later : (first : Table) → find (is_table_of table.id) before ≡ Some (part.Table first) → has_table d table.id ≡ true → TableStep before table d (table_taken d table)
  later first found is = rw is (kept (rw found refl) (tables_on before (part.Table table) d.inner d.outer other h))
    where
      other : (id : List ℕ) → find (is_table_of id) before ≡ None → bytes_eq table.id id ≡ false
      other id none = by (bytes_eq table.id id) refl
        where
          by : (b : Bool) → bytes_eq table.id id ≡ b → bytes_eq table.id id ≡ false
          by true alike =
              let e : Some (part.Table first) ≡ None = sym found ∙ ap (λ t. find (is_table_of t) before) (same_bytes table.id id alike) ∙ none in absurd (cc (e))
          by false alike = alike

  any_inner : (t : InnerTable) → find (is_inner_of table.id) d.inner ≡ Some t → has_table d table.id ≡ true
  any_inner t is = rw (some_any (is_inner_of table.id) d.inner t is) refl

  any_outer : (t : OuterTable) → find (is_inner_of table.id) d.inner ≡ None → find (is_outer_of table.id) d.outer ≡ Some t → has_table d table.id ≡ true
  any_outer t none is = rw (none_any (is_inner_of table.id) d.inner none, some_any (is_outer_of table.id) d.outer t is) refl

  at : (i : Option InnerTable) (o : Option OuterTable) → find (is_inner_of table.id) d.inner ≡ i → find (is_outer_of table.id) d.outer ≡ o
      → TablesSay before table.id i o → TableStep before table d (table_taken d table)
  at None None no_inner no_outer (unknown none) =
      let no_table : has_table d table.id ≡ false = rw (none_any (is_inner_of table.id) d.inner no_inner, none_any (is_outer_of table.id) d.outer no_outer) refl in
      rw no_table (of_content none no_inner no_outer table.content refl)
  at (Some t) None is lacks (of_rows first rows found content) = later first found (any_inner t is)
  at (Some t) None is lacks (without_rows first found content) = later first found (any_inner t is)
  at (Some t) (Some u) is also says = elim says [ ]
  at None (Some t) none is (of_list first source list found content named) = later first found (any_outer t none is)

  pub table_step : TableStep before table d (table_taken d table)
  table_step = at (find (is_inner_of table.id) d.inner) (find (is_outer_of table.id) d.outer) refl refl (h table.id)
