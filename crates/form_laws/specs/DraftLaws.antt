-- Proofs that what an outline says is never refused for want of memory, and no definitions but of that.
use Rattle.std.specs.Prelude.{◌≡◌, ◌≢◌, ℕ, Bool, true, false, if◌then◌else◌, nat_lt, List, [], ◌∷◌, ◌++◌, codes, length}
use Rattle.std.specs.Prelude.{Option, Some, None, Result, Ok, Err, IfErr, map}
use Rattle.std.specs.List.{slice_index_or}
use Rattle.std.specs.Str.{bytes_eq}
use Rattle.std.proofs.Common.{sym, subst}
use Rattle.form_def.specs.declared.expr.Op.{Op}
use Rattle.form_def.specs.declared.expr.Expr.{Expr}
use Rattle.form_def.specs.declared.expr.Expr.TheVariants as e
use Rattle.form_def.specs.declared.field.Kind.{Kind}
use Rattle.form_def.specs.declared.field.Kind.TheVariants as kind
use Rattle.form_expr.specs.declared.syntax.Syntax.{Syntax, fold-roll-Syntax, ind-Syntax, roll-Syntax, map-Syntax}
use Rattle.form_expr.specs.declared.syntax.Syntax.TheOpen.{Syntax-F}
use Rattle.form_expr.specs.declared.syntax.Itemset.{Itemset}
use Rattle.form_expr.specs.Reading.{expr_of, itemset_of}
use Rattle.form_outline.specs.declared.outline.PrimaryField.{PrimaryField}
use Rattle.form_outline.specs.declared.outline.EntityPart.{EntityPart}
use Rattle.form_outline.specs.declared.outline.PrimaryPart.{PrimaryPart}
use Rattle.form_outline.specs.declared.outline.PrimaryPart.TheVariants as primary
use Rattle.form_outline.specs.declared.outline.Bind.{Bind}
use Rattle.form_outline.specs.declared.outline.Table.{Table}
use Rattle.form_outline.specs.declared.outline.TableContent.{TableContent}
use Rattle.form_outline.specs.declared.outline.TableContent.TheVariants.{Rows, Source, Nothing}
use Rattle.form_outline.specs.declared.outline.SetValue.{SetValue}
use Rattle.form_outline.specs.declared.outline.ItemsetPart.{ItemsetPart}
use Rattle.form_outline.specs.declared.outline.ControlPart.{ControlPart}
use Rattle.form_outline.specs.declared.outline.ControlPart.TheVariants as control
use Rattle.form_outline.specs.declared.outline.Control.{Control}
use Rattle.form_outline.specs.declared.outline.ModelPart.{ModelPart}
use Rattle.form_outline.specs.declared.outline.ModelPart.TheVariants as part
use Rattle.form_outline.specs.declared.outline.Outline.{Outline}
use Rattle.form_read.specs.declared.refusal.FormRefused.{FormRefused}
use Rattle.form_read.specs.declared.refusal.FormRefused.TheVariants.{Doc, NoPrimary, NoId, BadExpr, UnknownPath}
use Rattle.form_read.specs.declared.refusal.FormRefused.TheVariants.{UnknownControl, UnknownType, Cycle, UnknownList}
use Rattle.form_read.specs.declared.refusal.FormRefused.TheVariants.{TooManyFields, BadEntity, NoMemory}
use Rattle.form_read.specs.declared.scope.Scope.{Scope}
use Rattle.form_read.specs.declared.primary.Seen.{Seen}
use Rattle.form_read.specs.declared.draft.Offer.{Offer}
use Rattle.form_read.specs.declared.draft.Draft.{Draft}
use Rattle.form_read.specs.Lists.{is_empty}
use Rattle.form_read.specs.Refusals.{◌>>=◌}
use Rattle.form_read.specs.Slots.{slot_of, slots_of}
use Rattle.form_read.specs.Paths.{leaf_of, field_read}
use Rattle.form_read.specs.Expressions.{is_declared, read_or_refused, all_resolved}
use Rattle.form_read.specs.Expressions.{resolved_with_parts, resolved, or_bad, expr_at, optional_at}
use Rattle.form_read.specs.Primary.{has_path, path_taken, paths_taken, is_no_entity, field_taken, entity_taken}
use Rattle.form_read.specs.Primary.{part_taken, parts_taken, nothing_seen}
use Rattle.form_read.specs.Binds.{type_of, is_below_meta, is_given, bound_by, bound_at, bind_taken}
use Rattle.form_read.specs.Tables.{has_table, list_named, source_taken, content_taken, table_taken, draws_id}
use Rattle.form_read.specs.Tables.{setvalue_taken}
use Rattle.form_read.specs.Controls.{is_input, is_select_one, is_control, input_kind, is_select_type, select_kind}
use Rattle.form_read.specs.Controls.{control_kind, input_choices, filter_resolved, rows_resolved, rows_offered}
use Rattle.form_read.specs.Controls.{part_offered, parts_offered, nothing_offered, select_choices, control_choices}
use Rattle.form_read.specs.Controls.{asked_by, asked_at, control_taken}
use Rattle.form_read.specs.Drafts.{model_part_taken, model_taken, controls_taken, empty_draft, head_first, body_first}
use Rattle.form_read.specs.Drafts.{all_taken, most_fields, scope_of, taken_unless_many, draft_of}

-- no want of memory
abbrev pub IsTold : FormRefused → Type 0
IsTold (Doc refusal) = Unit {0}
IsTold NoPrimary = Unit {0}
IsTold NoId = Unit {0}
IsTold (BadExpr path at) = Unit {0}
IsTold (UnknownPath path) = Unit {0}
IsTold (UnknownControl name) = Unit {0}
IsTold (UnknownType path) = Unit {0}
IsTold (Cycle path) = Unit {0}
IsTold (UnknownList name) = Unit {0}
IsTold (TooManyFields count) = Unit {0}
IsTold (BadEntity path) = Unit {0}
IsTold NoMemory = ⊥

pub is_told : (why : FormRefused) → IsTold why → why ≢ NoMemory
is_told why told same = subst IsTold same told

then_told : {A B : Type 0} (r : Result A FormRefused) (f : A → Result B FormRefused) → IfErr r IsTold
    → ((x : A) → IfErr (f x) IsTold) → IfErr (r >>= f) IsTold
then_told (Ok x) f h others = others x
then_told (Err refusal) f h others = h

if_told : {A : Type 0} (b : Bool) (one other : Result A FormRefused) → IfErr one IsTold → IfErr other IsTold
    → IfErr (if b then one else other) IsTold
if_told true one other h k = h
if_told false one other h k = k

-- ---- expressions

read_told : (path : List ℕ) (number : Option ℕ) → IfErr (read_or_refused path number) IsTold
read_told path None = tt
read_told path (Some number) = tt

args_told : (f : Syntax → Result Expr FormRefused) (E : Type 0) (at : E → Syntax) → ((s : E) → IfErr (f (at s)) IsTold)
    → (args : List E) → IfErr (all_resolved (map f (map at args))) IsTold
args_told f E at told [] = tt
args_told f E at told (s ∷ ss) = then_told (f (at s)) _ (told s)
    (λ x. then_told (all_resolved (map f (map at ss))) (λ es. Ok (x ∷ es)) (args_told f E at told ss) (λ es. tt))

pair_told : (op : Op) (left right : Result Expr FormRefused) → IfErr left IsTold → IfErr right IsTold
    → IfErr (left >>= λ l. (right >>= λ r. Ok (e.Pair op l r))) IsTold
pair_told op left right h k =
    then_told left _ h (λ l. then_told right (λ r. Ok (e.Pair op l r)) k (λ r. tt))

item_told : (b : Bool) (table column : List ℕ) (filter : Result Expr FormRefused) → IfErr filter IsTold
    → IfErr (if b then (filter >>= λ f. Ok (e.Item table f column)) else Err (UnknownList table)) IsTold
item_told b table column filter h = if_told b _ (Err (UnknownList table))
    (then_told filter (λ f. Ok (e.Item table f column)) h (λ f. tt)) tt

parts_told : (scope : Scope) (own : List ℕ) (E : Type 0) (at : E → Syntax)
    → ((s : E) → IfErr (resolved scope own (at s)) IsTold) → (y : Syntax-F E)
    → IfErr (resolved_with_parts scope own (map-Syntax Syntax (Result Expr FormRefused) (resolved scope own)
    (map-Syntax E Syntax at y))) IsTold
parts_told scope own E at told (Syntax-F.Number n) = tt
parts_told scope own E at told (Syntax-F.Words text) = tt
parts_told scope own E at told Syntax-F.Own = tt
parts_told scope own E at told (Syntax-F.Path path) = read_told path (field_read scope.slots own path)
parts_told scope own E at told (Syntax-F.Column column) = tt
parts_told scope own E at told (Syntax-F.Item table filter column) =
    item_told (is_declared scope table) table column (resolved scope own (at filter)) (told filter)
parts_told scope own E at told (Syntax-F.Call func args) =
    then_told (all_resolved (map (resolved scope own) (map at args))) (λ es. Ok (e.Call func es))
    (args_told (resolved scope own) E at told args) (λ es. tt)
parts_told scope own E at told (Syntax-F.Pair op left right) =
    pair_told op (resolved scope own (at left)) (resolved scope own (at right)) (told left) (told right)
parts_told scope own E at told (Syntax-F.Negative negated) =
    then_told (resolved scope own (at negated)) (λ n. Ok (e.Negative n)) (told negated) (λ n. tt)

resolved_roll : (scope : Scope) (own : List ℕ) (x : Syntax-F Syntax) → resolved scope own (roll-Syntax x)
    ≡ resolved_with_parts scope own (map-Syntax Syntax (Result Expr FormRefused) (resolved scope own) x)
unfolding resolved
resolved_roll scope own x = fold-roll-Syntax (Result Expr FormRefused) (resolved_with_parts scope own) x

abbrev Resolves : Scope → List ℕ → Syntax → Type 0
Resolves scope own syntax = IfErr (resolved scope own syntax) IsTold

layer_told : (scope : Scope) (own : List ℕ) (E : Type 0) (at : E → Syntax) → ((s : E) → Resolves scope own (at s))
    → (y : Syntax-F E) → Resolves scope own (roll-Syntax (map-Syntax E Syntax at y))
layer_told scope own E at told y =
    subst (λ r. IfErr r IsTold) (sym (resolved_roll scope own (map-Syntax E Syntax at y)))
    (parts_told scope own E at told y)

resolved_told : (scope : Scope) (own : List ℕ) (syntax : Syntax) → Resolves scope own syntax
resolved_told scope own syntax = ind-Syntax (Resolves scope own)
    (λ x y is. subst (λ z. Resolves scope own (roll-Syntax z)) is
    (layer_told scope own _ (λ s. s.0) (λ s. s.1) y)) syntax

or_bad_told : {A : Type 0} (path : List ℕ) (r : Result A ℕ) → IfErr (or_bad path r) IsTold
or_bad_told path (Ok x) = tt
or_bad_told path (Err at) = tt

expr_told : (scope : Scope) (own text : List ℕ) → IfErr (expr_at scope own text) IsTold
unfolding expr_at
expr_told scope own text =
    then_told (or_bad own (expr_of text)) (resolved scope own) (or_bad_told own (expr_of text))
    (λ syntax. resolved_told scope own syntax)

optional_told : (scope : Scope) (own : List ℕ) (text : Option (List ℕ)) → IfErr (optional_at scope own text) IsTold
optional_told scope own None = tt
optional_told scope own (Some text) =
    then_told (expr_at scope own text) (λ x. Ok (Some x)) (expr_told scope own text) (λ x. tt)

-- ---- the primary instance

path_told : (paths : List (List ℕ)) (path : List ℕ) → IfErr (path_taken paths path) IsTold
path_told paths path = if_told (has_path paths path) (Err (UnknownPath path)) (Ok (paths ++ path ∷ [])) tt tt

paths_told : (paths : List (List ℕ)) (fs : List PrimaryField) → IfErr (paths_taken paths fs) IsTold
paths_told paths [] = tt
paths_told paths (f ∷ fs) =
    then_told (path_taken paths f.path) (λ more. paths_taken more fs) (path_told paths f.path)
    (λ more. paths_told more fs)

field_told : (seen : Seen) (f : PrimaryField) → IfErr (field_taken seen f) IsTold
field_told seen f = then_told (path_taken seen.paths f.path) _ (path_told seen.paths f.path) (λ paths. tt)

entity_told : (root : List ℕ) (seen : Seen) (entity : EntityPart) → IfErr (entity_taken root seen entity) IsTold
entity_told root seen entity = if_told (is_no_entity seen.has_entity entity.dataset) _ _ tt
    (then_told (paths_taken seen.paths entity.fields) _ (paths_told seen.paths entity.fields) (λ paths. tt))

primary_part_told : (root : List ℕ) (seen : Seen) (p : PrimaryPart) → IfErr (part_taken root seen p) IsTold
primary_part_told root seen (primary.Field f) = field_told seen f
primary_part_told root seen (primary.Meta f) = field_told seen f
primary_part_told root seen (primary.Entity entity) = entity_told root seen entity

primary_told : (root : List ℕ) (seen : Seen) (ps : List PrimaryPart) → IfErr (parts_taken root seen ps) IsTold
primary_told root seen [] = tt
primary_told root seen (p ∷ ps) = then_told (part_taken root seen p) (λ next. parts_taken root next ps)
    (primary_part_told root seen p) (λ next. primary_told root next ps)

-- ---- binds and tables

bound_told : (scope : Scope) (bind : Bind) → IfErr (bound_by scope bind) IsTold
unfolding bound_by
bound_told scope bind =
    let own = bind.nodeset in
    then_told (optional_at scope own bind.relevant) _ (optional_told scope own bind.relevant)
    (λ relevant. then_told (optional_at scope own bind.constraint) _ (optional_told scope own bind.constraint)
    (λ constraint. then_told (optional_at scope own bind.required) _ (optional_told scope own bind.required)
    (λ required. then_told (optional_at scope own bind.readonly) _ (optional_told scope own bind.readonly)
    (λ readonly. then_told (optional_at scope own bind.calculate) _ (optional_told scope own bind.calculate)
    (λ calculate. tt)))))

bound_at_told : (scope : Scope) (d : Draft) (bind : Bind) (number : Option ℕ)
    → IfErr (bound_at scope d bind number) IsTold
bound_at_told scope d bind None =
    if_told (is_below_meta scope.root bind.nodeset) (Ok d) (Err (UnknownPath bind.nodeset)) tt tt
bound_at_told scope d bind (Some number) = if_told (is_given (slice_index_or d.bounds number None)) (Ok d) _ tt
    (then_told (bound_by scope bind) _ (bound_told scope bind) (λ bound. tt))

bind_told : (scope : Scope) (d : Draft) (bind : Bind) → IfErr (bind_taken scope d bind) IsTold
unfolding bind_taken
bind_told scope d bind = bound_at_told scope d bind (slot_of scope.slots bind.nodeset)

source_told : (d : Draft) (id : List ℕ) (list : Option (List ℕ)) → IfErr (source_taken d id list) IsTold
source_told d id None = tt
source_told d id (Some list) = tt

content_told : (d : Draft) (id : List ℕ) (content : TableContent) → IfErr (content_taken d id content) IsTold
content_told d id (Rows rows) = tt
content_told d id Nothing = tt
content_told d id (Source source) = source_told d id (list_named source)

table_told : (d : Draft) (table : Table) → IfErr (table_taken d table) IsTold
table_told d table = if_told (has_table d table.id) (Ok d) (content_taken d table.id table.content) tt
    (content_told d table.id table.content)

setvalue_told : (scope : Scope) (d : Draft) (setvalue : SetValue) → IfErr (setvalue_taken scope d setvalue) IsTold
setvalue_told scope d setvalue = if_told (draws_id scope setvalue) _ _ tt tt

-- ---- controls

input_kind_told : (path : List ℕ) (data_type : Option (List ℕ)) → IfErr (input_kind path data_type) IsTold
input_kind_told path None = tt
input_kind_told path (Some data_type) = if_told (bytes_eq data_type (codes "string")) (Ok kind.Words) _ tt
    (if_told (bytes_eq data_type (codes "int")) (Ok kind.Whole) (Err (UnknownType path)) tt tt)

select_kind_told : (path : List ℕ) (k : Kind) (data_type : Option (List ℕ))
    → IfErr (select_kind path k data_type) IsTold
select_kind_told path k data_type = if_told (is_select_type data_type) (Ok k) (Err (UnknownType path)) tt tt

kind_told : (name path : List ℕ) (data_type : Option (List ℕ)) → IfErr (control_kind name path data_type) IsTold
kind_told name path data_type =
    if_told (is_input name) (input_kind path data_type) _ (input_kind_told path data_type)
    (if_told (is_select_one name) (select_kind path kind.One data_type) (select_kind path kind.Many data_type)
    (select_kind_told path kind.One data_type) (select_kind_told path kind.Many data_type))

input_choices_told : (ps : List ControlPart) → IfErr (input_choices ps) IsTold
input_choices_told [] = tt
input_choices_told (p ∷ ps) = tt

filter_told : (scope : Scope) (path : List ℕ) (filter : Option Syntax)
    → IfErr (filter_resolved scope path filter) IsTold
filter_told scope path None = tt
filter_told scope path (Some syntax) =
    then_told (resolved scope path syntax) (λ x. Ok (Some x)) (resolved_told scope path syntax) (λ x. tt)

rows_resolved_told : (scope : Scope) (path : List ℕ) (value : Option (List ℕ)) (itemset : Itemset)
    → IfErr (rows_resolved scope path value itemset) IsTold
rows_resolved_told scope path value itemset =
    if_told (is_declared scope itemset.table) _ (Err (UnknownList itemset.table))
    (then_told (filter_resolved scope path itemset.filter) _ (filter_told scope path itemset.filter) (λ filter. tt)) tt

rows_told : (scope : Scope) (path : List ℕ) (i : ItemsetPart) → IfErr (rows_offered scope path i) IsTold
unfolding rows_offered
rows_told scope path i =
    then_told (or_bad path (itemset_of i.nodeset)) (rows_resolved scope path i.value)
    (or_bad_told path (itemset_of i.nodeset)) (λ itemset. rows_resolved_told scope path i.value itemset)

part_told : (scope : Scope) (path : List ℕ) (o : Offer) (p : ControlPart) → IfErr (part_offered scope path o p) IsTold
part_told scope path o (control.Item None) = tt
part_told scope path o (control.Item (Some value)) = tt
part_told scope path o (control.Itemset i) = if_told (is_given o.rows) (Ok o) _ tt
    (then_told (rows_offered scope path i) _ (rows_told scope path i) (λ rows. tt))
part_told scope path o (control.Other name) = tt

offers_told : (scope : Scope) (path : List ℕ) (o : Offer) (ps : List ControlPart)
    → IfErr (parts_offered scope path o ps) IsTold
offers_told scope path o [] = tt
offers_told scope path o (p ∷ ps) =
    then_told (part_offered scope path o p) (λ next. parts_offered scope path next ps) (part_told scope path o p)
    (λ next. offers_told scope path next ps)

choices_told : (scope : Scope) (c : Control) → IfErr (control_choices scope c) IsTold
choices_told scope c =
    if_told (is_input c.name) (input_choices c.parts) (select_choices scope c.target c.parts)
    (input_choices_told c.parts)
    (then_told (parts_offered scope c.target nothing_offered c.parts) _
    (offers_told scope c.target nothing_offered c.parts) (λ o. tt))

asked_told : (scope : Scope) (c : Control) → IfErr (asked_by scope c) IsTold
unfolding asked_by
asked_told scope c =
    then_told (control_kind c.name c.target (type_of scope c.target)) _
    (kind_told c.name c.target (type_of scope c.target))
    (λ k. then_told (control_choices scope c) _ (choices_told scope c) (λ offered. tt))

asked_at_told : (scope : Scope) (d : Draft) (c : Control) (number : Option ℕ)
    → IfErr (asked_at scope d c number) IsTold
asked_at_told scope d c None = tt
asked_at_told scope d c (Some number) =
    if_told (is_given (slice_index_or d.asked number None)) (Err (UnknownControl c.name)) _ tt
    (then_told (asked_by scope c) _ (asked_told scope c) (λ asked. tt))

control_told : (scope : Scope) (d : Draft) (c : Control) → IfErr (control_taken scope d c) IsTold
unfolding control_taken
control_told scope d c =
    if_told (is_control c.name) (asked_at scope d c (leaf_of scope.slots c.target)) (Err (UnknownControl c.name))
    (asked_at_told scope d c (leaf_of scope.slots c.target)) tt

-- ---- drafts

model_part_told : (scope : Scope) (ps : List PrimaryPart) (d : Draft) (p : ModelPart)
    → IfErr (model_part_taken scope ps d p) IsTold
model_part_told scope ps d part.Primary =
    then_told (parts_taken scope.root nothing_seen ps) _ (primary_told scope.root nothing_seen ps) (λ seen. tt)
model_part_told scope ps d (part.Bind bind) = bind_told scope d bind
model_part_told scope ps d (part.Table table) = table_told d table
model_part_told scope ps d (part.Submission auto_send) = tt
model_part_told scope ps d (part.SetValue setvalue) = setvalue_told scope d setvalue
model_part_told scope ps d (part.Other name) = tt

model_told : (scope : Scope) (ps : List PrimaryPart) (d : Draft) (parts : List ModelPart)
    → IfErr (model_taken scope ps d parts) IsTold
model_told scope ps d [] = tt
model_told scope ps d (p ∷ parts) =
    then_told (model_part_taken scope ps d p) (λ next. model_taken scope ps next parts) (model_part_told scope ps d p)
    (λ next. model_told scope ps next parts)

controls_told : (scope : Scope) (d : Draft) (cs : List Control) → IfErr (controls_taken scope d cs) IsTold
controls_told scope d [] = tt
controls_told scope d (c ∷ cs) =
    then_told (control_taken scope d c) (λ next. controls_taken scope next cs) (control_told scope d c)
    (λ next. controls_told scope next cs)

all_told : (is_body_first : Bool) (scope : Scope) (ps : List PrimaryPart) (cs : List Control) (d : Draft)
    → IfErr (all_taken is_body_first scope ps cs d) IsTold
unfolding head_first body_first
all_told is_body_first scope ps cs d =
    if_told is_body_first (body_first scope ps cs d) (head_first scope ps cs d)
    (then_told (controls_taken scope d cs) (λ next. model_taken scope ps next scope.model) (controls_told scope d cs)
    (λ next. model_told scope ps next scope.model))
    (then_told (model_taken scope ps d scope.model) (λ next. controls_taken scope next cs)
    (model_told scope ps d scope.model) (λ next. controls_told scope next cs))

-- what an outline says, or a refusal that is told
pub draft_told : (o : Outline) → IfErr (draft_of o) IsTold
unfolding draft_of
draft_told o =
    if_told (is_empty o.id) (Err NoId) (taken_unless_many o (scope_of o)) tt
    (if_told (nat_lt most_fields (length (slots_of o.primary))) (Err (TooManyFields (length (slots_of o.primary))))
    (all_taken o.body_first (scope_of o) o.primary o.controls (empty_draft (slots_of o.primary))) tt
    (all_told o.body_first (scope_of o) o.primary o.controls (empty_draft (slots_of o.primary))))
