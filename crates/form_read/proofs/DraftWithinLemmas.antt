-- The fields that a draft gives read fields of the form alone.
use Rattle.std.specs.Prelude.{◌≡◌, ℕ, zero, suc, ◌+◌, ◌<◌, Bool, true, false, nat_lt, if◌then◌else◌, List, [], ◌∷◌, Option, Some, None, Result, Ok, Err, IfOk, IfSome, length, map, slice_set, unwrap_or, refl}
use Rattle.std.specs.List.{slice_index_or}
use Rattle.std.specs.Str.{bytes_eq}
use Rattle.std.proofs.Common.{sym, ◌∙◌, subst, arith, length-set}
use Rattle.std.proofs.lemmas.List.{length-map}
use Rattle.std.proofs.lemmas.Bool.{and_from}
use Rattle.std.proofs.lemmas.Result.{IfOk-at_ok}
use Rattle.form_def.specs.declared.expr.Expr.{Expr}
use Rattle.form_def.specs.declared.field.Choices.{Choices}
use Rattle.form_def.specs.declared.field.Choices.TheVariants as choices
use Rattle.form_def.specs.Reads.{reads_of}
use Rattle.form_def.specs.Fields.{reads_of_choices, reads_below, are_within}
use Rattle.form_expr.specs.declared.syntax.Syntax.{Syntax}
use Rattle.form_expr.specs.declared.syntax.Itemset.{Itemset}
use Rattle.form_expr.specs.Reading.{expr_of, itemset_of}
use Rattle.form_outline.specs.declared.outline.Bind.{Bind}
use Rattle.form_outline.specs.declared.outline.Table.{Table}
use Rattle.form_outline.specs.declared.outline.TableContent.{TableContent}
use Rattle.form_outline.specs.declared.outline.TableContent.TheVariants.{Rows, Source, Nothing}
use Rattle.form_outline.specs.declared.outline.SetValue.{SetValue}
use Rattle.form_outline.specs.declared.outline.ItemsetPart.{ItemsetPart}
use Rattle.form_outline.specs.declared.outline.ControlPart.{ControlPart}
use Rattle.form_outline.specs.declared.outline.ControlPart.TheVariants as control
use Rattle.form_outline.specs.declared.outline.Control.{Control}
use Rattle.form_outline.specs.declared.outline.PrimaryField.{PrimaryField}
use Rattle.form_outline.specs.declared.outline.PrimaryPart.{PrimaryPart}
use Rattle.form_outline.specs.declared.outline.ModelPart.{ModelPart}
use Rattle.form_outline.specs.declared.outline.ModelPart.TheVariants as part
use Rattle.form_outline.specs.declared.outline.Outline.{Outline}
use Rattle.form_read.specs.declared.refusal.FormRefused.{FormRefused}
use Rattle.form_read.specs.declared.refusal.FormRefused.TheVariants.{NoId, UnknownPath, UnknownControl, UnknownList, TooManyFields}
use Rattle.form_read.specs.declared.scope.Scope.{Scope}
use Rattle.form_read.specs.declared.draft.Bound.{Bound}
use Rattle.form_read.specs.declared.draft.Asked.{Asked}
use Rattle.form_read.specs.declared.draft.Offer.{Offer}
use Rattle.form_read.specs.declared.draft.Draft.{Draft}
use Rattle.form_read.specs.Refusals.{◌>>=◌}
use Rattle.form_read.specs.Lists.{is_empty}
use Rattle.form_read.specs.Slots.{slots_of, slot_of}
use Rattle.form_read.specs.Paths.{is_leaf_at, leaf_of}
use Rattle.form_read.specs.Expressions.{is_declared, resolved, or_bad, expr_at, optional_at}
use Rattle.form_read.specs.Primary.{parts_taken, nothing_seen}
use Rattle.form_read.specs.Binds.{is_below_meta, is_given, type_of, bound_by, bound_at, bind_taken}
use Rattle.form_read.specs.Tables.{has_table, list_named, source_taken, content_taken, table_taken, draws_id, setvalue_taken}
use Rattle.form_read.specs.Controls.{is_control, is_input, control_kind, input_choices, filter_resolved, value_column, rows_resolved, rows_offered, part_offered, parts_offered, nothing_offered, fixed_choices, choices_in, select_choices, control_choices, asked_by, asked_at, control_taken}
use Rattle.form_read.specs.Drafts.{model_part_taken, model_taken, controls_taken, empty_draft, most_fields, head_first, body_first, all_taken, scope_of, taken_unless_many, draft_of}
use Rattle.form_read.specs.Forms.{bound_in, asked_in, joined, fields_of, fields_in}
use Rattle.form_read.proofs.WithinLemmas.{AreWithin, IsWithin, IsFound, then_holds, both_within, position_within, resolves_within}

-- each of the elements that are given, with its number, where the first has the number n
abbrev pub EachFrom : {A : Type 0} → (ℕ → A → Type 0) → ℕ → List (Option A) → Type 0
EachFrom P n [] = Unit {0}
EachFrom P n (o ∷ os) = IfSome o (P n) × EachFrom P (n + 1) os

pub set_each : {A : Type 0} (P : ℕ → A → Type 0) (n : ℕ) (os : List (Option A)) (k m : ℕ) (x : A) → m ≡ n + k → EachFrom P n os → P m x → EachFrom P n (slice_set os k (Some x))
set_each P n [] k m x is h p = tt
set_each P n (o ∷ os) zero m x is h p = let same : m ≡ n = omega arith in (subst (λ (i : ℕ). P i x) same p, h.1)
set_each P n (o ∷ os) (suc k) m x is h p = (h.0, set_each P (n + 1) os k m x (omega arith) h.1 p)

pub none_each : {A B : Type 0} (P : ℕ → A → Type 0) (n : ℕ) (bs : List B) → EachFrom P n (map (λ b. None) bs)
none_each P n [] = tt
none_each P n (b ∷ bs) = (tt, none_each P (n + 1) bs)

abbrev pub OptionWithin : ℕ → ℕ → Option Expr → Type 0
OptionWithin count number o = AreWithin count (reads_of number o)

-- what the bind of the field `number` says reads fields below this count alone
pub record BoundWithin (count number : ℕ) (b : Bound) : Type 0 where
  pub relevant : OptionWithin count number b.relevant
  pub constraint : OptionWithin count number b.constraint
  pub required : OptionWithin count number b.required
  pub readonly : OptionWithin count number b.readonly
  pub calculate : OptionWithin count number b.calculate

abbrev pub ChoicesWithin : ℕ → ℕ → Choices → Type 0
ChoicesWithin count number c = AreWithin count (reads_of_choices number c)

abbrev pub AskedWithin : ℕ → ℕ → Asked → Type 0
AskedWithin count number a = ChoicesWithin count number a.choices

-- of each field what its bind and its control say, if there is one, reads fields of the form alone
pub record Whole (count : ℕ) (bounds : List (Option Bound)) (asked : List (Option Asked)) : Type 0 where
  pub bounds_count : length bounds ≡ count
  pub asked_count : length asked ≡ count
  pub bounds_within : EachFrom (BoundWithin count) 0 bounds
  pub asked_within : EachFrom (AskedWithin count) 0 asked

abbrev pub IsWhole : Scope → Draft → Type 0
IsWhole scope d = Whole (length scope.slots) d.bounds d.asked

any_ok : {A : Type 0} (r : Result A FormRefused) → IfOk r (λ x. Unit {0})
any_ok (Ok x) = tt
any_ok (Err refusal) = tt

-- Whatever a first step gives, what follows holds.
after_any : {A B : Type 0} (Q : B → Type 0) (r : Result A FormRefused) (f : A → Result B FormRefused) → ((x : A) → IfOk (f x) Q) → IfOk (r >>= f) Q
after_any Q r f g = then_holds (λ x. Unit {0}) Q r f (any_ok r) (λ x h. g x)

either_if : {B : Type 0} (Q : B → Type 0) (b : Bool) (one other : Result B FormRefused) → IfOk one Q → IfOk other Q → IfOk (if b then one else other) Q
either_if Q true one other h g = h
either_if Q false one other h g = g

expr_at_within : (scope : Scope) (own text : List ℕ) (number : ℕ) → number < length scope.slots → IfOk (expr_at scope own text) (IsWithin (length scope.slots) number)
unfolding expr_at
expr_at_within scope own text number h = after_any (IsWithin (length scope.slots) number) (or_bad own (expr_of text)) (resolved scope own) (λ syntax. resolves_within scope own number syntax h)

optional_within : (scope : Scope) (own : List ℕ) (text : Option (List ℕ)) (number : ℕ) → number < length scope.slots → IfOk (optional_at scope own text) (OptionWithin (length scope.slots) number)
optional_within scope own None number h = refl
optional_within scope own (Some text) number h =
    then_holds (IsWithin (length scope.slots) number) (OptionWithin (length scope.slots) number) (expr_at scope own text) (λ x. Ok (Some x)) (expr_at_within scope own text number h) (λ x is. is)

bound_within : (scope : Scope) (bind : Bind) (number : ℕ) → number < length scope.slots → IfOk (bound_by scope bind) (BoundWithin (length scope.slots) number)
unfolding bound_by
bound_within scope bind number h =
    let P : Option Expr → Type 0 = OptionWithin (length scope.slots) number in
    let Q : Bound → Type 0 = BoundWithin (length scope.slots) number in
    then_holds P Q (optional_at scope bind.nodeset bind.relevant) _ (optional_within scope bind.nodeset bind.relevant number h)
    (λ relevant a. then_holds P Q (optional_at scope bind.nodeset bind.constraint) _ (optional_within scope bind.nodeset bind.constraint number h)
    (λ constraint b. then_holds P Q (optional_at scope bind.nodeset bind.required) _ (optional_within scope bind.nodeset bind.required number h)
    (λ required c. then_holds P Q (optional_at scope bind.nodeset bind.readonly) _ (optional_within scope bind.nodeset bind.readonly number h)
    (λ readonly d. then_holds P Q (optional_at scope bind.nodeset bind.calculate) _ (optional_within scope bind.nodeset bind.calculate number h)
    (λ calculate e. record { relevant = a; constraint = b; required = c; readonly = d; calculate = e })))))

with_bound : (scope : Scope) (d : Draft) (number : ℕ) (bound : Bound) → IsWhole scope d → BoundWithin (length scope.slots) number bound → IsWhole scope (record d { bounds = slice_set d.bounds number (Some bound) })
with_bound scope d number bound w h = record {
  bounds_count = length-set d.bounds number (Some bound) ∙ w.bounds_count;
  asked_count = w.asked_count;
  bounds_within = set_each (BoundWithin (length scope.slots)) 0 d.bounds number number bound (omega arith) w.bounds_within h;
  asked_within = w.asked_within;
}

bound_at_whole : (scope : Scope) (d : Draft) (bind : Bind) (o : Option ℕ) → IsFound (length scope.slots) o → IsWhole scope d → IfOk (bound_at scope d bind o) (IsWhole scope)
bound_at_whole scope d bind None h w = either_if (IsWhole scope) (is_below_meta scope.root bind.nodeset) (Ok d) (Err (UnknownPath bind.nodeset)) w tt
bound_at_whole scope d bind (Some number) h w =
    either_if (IsWhole scope) (is_given (slice_index_or d.bounds number None)) (Ok d) _ w
    (then_holds (BoundWithin (length scope.slots) number) (IsWhole scope) (bound_by scope bind) (λ bound. Ok (record d { bounds = slice_set d.bounds number (Some bound) })) (bound_within scope bind number h)
    (λ bound is. with_bound scope d number bound w is))

bind_whole : (scope : Scope) (d : Draft) (bind : Bind) → IsWhole scope d → IfOk (bind_taken scope d bind) (IsWhole scope)
unfolding bind_taken
bind_whole scope d bind w = bound_at_whole scope d bind (slot_of scope.slots bind.nodeset) (position_within (λ s. bytes_eq s.path bind.nodeset) scope.slots) w

filter_within : (scope : Scope) (path : List ℕ) (filter : Option Syntax) (number : ℕ) → number < length scope.slots → IfOk (filter_resolved scope path filter) (OptionWithin (length scope.slots) number)
filter_within scope path None number h = refl
filter_within scope path (Some syntax) number h =
    then_holds (IsWithin (length scope.slots) number) (OptionWithin (length scope.slots) number) (resolved scope path syntax) (λ x. Ok (Some x)) (resolves_within scope path number syntax h) (λ x is. is)

itemset_within : (scope : Scope) (path : List ℕ) (value : Option (List ℕ)) (itemset : Itemset) (number : ℕ) → number < length scope.slots
    → IfOk (rows_resolved scope path value itemset) (ChoicesWithin (length scope.slots) number)
itemset_within scope path value itemset number h =
    either_if (ChoicesWithin (length scope.slots) number) (is_declared scope itemset.table) _ (Err (UnknownList itemset.table))
    (then_holds (OptionWithin (length scope.slots) number) (ChoicesWithin (length scope.slots) number) (filter_resolved scope path itemset.filter) (λ filter. Ok (choices.Rows itemset.table filter (value_column value)))
    (filter_within scope path itemset.filter number h) (λ filter is. is))
    tt

rows_within : (scope : Scope) (path : List ℕ) (i : ItemsetPart) (number : ℕ) → number < length scope.slots → IfOk (rows_offered scope path i) (ChoicesWithin (length scope.slots) number)
unfolding rows_offered
rows_within scope path i number h = after_any (ChoicesWithin (length scope.slots) number) (or_bad path (itemset_of i.nodeset)) (rows_resolved scope path i.value) (λ itemset. itemset_within scope path i.value itemset number h)

-- the rows that are offered so far, if there are any
abbrev OfferWithin : ℕ → ℕ → Offer → Type 0
OfferWithin count number o = IfSome o.rows (ChoicesWithin count number)

part_within : (scope : Scope) (path : List ℕ) (o : Offer) (p : ControlPart) (number : ℕ) → number < length scope.slots → OfferWithin (length scope.slots) number o
    → IfOk (part_offered scope path o p) (OfferWithin (length scope.slots) number)
part_within scope path o (control.Item None) number h w = w
part_within scope path o (control.Item (Some value)) number h w = w
part_within scope path o (control.Itemset i) number h w =
    either_if (OfferWithin (length scope.slots) number) (is_given o.rows) (Ok o) _ w
    (then_holds (ChoicesWithin (length scope.slots) number) (OfferWithin (length scope.slots) number) (rows_offered scope path i) (λ rows. Ok (record o { rows = Some rows })) (rows_within scope path i number h) (λ rows is. is))
part_within scope path o (control.Other name) number h w = tt

parts_within : (scope : Scope) (path : List ℕ) (o : Offer) (ps : List ControlPart) (number : ℕ) → number < length scope.slots → OfferWithin (length scope.slots) number o
    → IfOk (parts_offered scope path o ps) (OfferWithin (length scope.slots) number)
parts_within scope path o [] number h w = w
parts_within scope path o (p ∷ ps) number h w =
    then_holds (OfferWithin (length scope.slots) number) (OfferWithin (length scope.slots) number) (part_offered scope path o p) (λ next. parts_offered scope path next ps) (part_within scope path o p number h w)
    (λ next is. parts_within scope path next ps number h is)

fixed_if : (count number : ℕ) (b : Bool) (values : List (List ℕ)) → ChoicesWithin count number (if b then choices.Nothing else choices.Fixed values)
fixed_if count number true values = refl
fixed_if count number false values = refl

unwrapped_within : (count number : ℕ) (rows : Option Choices) (c : Choices) → IfSome rows (ChoicesWithin count number) → ChoicesWithin count number c → ChoicesWithin count number (unwrap_or rows c)
unwrapped_within count number None c h g = g
unwrapped_within count number (Some rows) c h g = h

input_within : (count number : ℕ) (ps : List ControlPart) → IfOk (input_choices ps) (ChoicesWithin count number)
input_within count number [] = refl
input_within count number (p ∷ ps) = tt

choices_within : (scope : Scope) (c : Control) (number : ℕ) → number < length scope.slots → IfOk (control_choices scope c) (ChoicesWithin (length scope.slots) number)
choices_within scope c number h =
    either_if (ChoicesWithin (length scope.slots) number) (is_input c.name) (input_choices c.parts) (select_choices scope c.target c.parts) (input_within (length scope.slots) number c.parts)
    (then_holds (OfferWithin (length scope.slots) number) (ChoicesWithin (length scope.slots) number) (parts_offered scope c.target nothing_offered c.parts) (λ o. Ok (choices_in o))
    (parts_within scope c.target nothing_offered c.parts number h tt)
    (λ o is. unwrapped_within (length scope.slots) number o.rows (fixed_choices o.values) is (fixed_if (length scope.slots) number (is_empty o.values) o.values)))

asked_within : (scope : Scope) (c : Control) (number : ℕ) → number < length scope.slots → IfOk (asked_by scope c) (AskedWithin (length scope.slots) number)
unfolding asked_by
asked_within scope c number h =
    after_any (AskedWithin (length scope.slots) number) (control_kind c.name c.target (type_of scope c.target)) _
    (λ k. then_holds (ChoicesWithin (length scope.slots) number) (AskedWithin (length scope.slots) number) (control_choices scope c) _ (choices_within scope c number h) (λ offered is. is))

with_asked : (scope : Scope) (d : Draft) (number : ℕ) (asked : Asked) → IsWhole scope d → AskedWithin (length scope.slots) number asked → IsWhole scope (record d { asked = slice_set d.asked number (Some asked) })
with_asked scope d number asked w h = record {
  bounds_count = w.bounds_count;
  asked_count = length-set d.asked number (Some asked) ∙ w.asked_count;
  bounds_within = w.bounds_within;
  asked_within = set_each (AskedWithin (length scope.slots)) 0 d.asked number number asked (omega arith) w.asked_within h;
}

asked_at_whole : (scope : Scope) (d : Draft) (c : Control) (o : Option ℕ) → IsFound (length scope.slots) o → IsWhole scope d → IfOk (asked_at scope d c o) (IsWhole scope)
asked_at_whole scope d c None h w = tt
asked_at_whole scope d c (Some number) h w =
    either_if (IsWhole scope) (is_given (slice_index_or d.asked number None)) (Err (UnknownControl c.name)) _ tt
    (then_holds (AskedWithin (length scope.slots) number) (IsWhole scope) (asked_by scope c) (λ asked. Ok (record d { asked = slice_set d.asked number (Some asked) })) (asked_within scope c number h)
    (λ asked is. with_asked scope d number asked w is))

control_whole : (scope : Scope) (d : Draft) (c : Control) → IsWhole scope d → IfOk (control_taken scope d c) (IsWhole scope)
unfolding control_taken
control_whole scope d c w =
    either_if (IsWhole scope) (is_control c.name) (asked_at scope d c (leaf_of scope.slots c.target)) (Err (UnknownControl c.name))
    (asked_at_whole scope d c (leaf_of scope.slots c.target) (position_within (is_leaf_at c.target) scope.slots) w) tt

source_whole : (scope : Scope) (d : Draft) (id : List ℕ) (list : Option (List ℕ)) → IsWhole scope d → IfOk (source_taken d id list) (IsWhole scope)
source_whole scope d id None w = tt
source_whole scope d id (Some list) w = record { bounds_count = w.bounds_count; asked_count = w.asked_count; bounds_within = w.bounds_within; asked_within = w.asked_within }

content_whole : (scope : Scope) (d : Draft) (id : List ℕ) (content : TableContent) → IsWhole scope d → IfOk (content_taken d id content) (IsWhole scope)
content_whole scope d id (Rows rows) w = w
content_whole scope d id Nothing w = w
content_whole scope d id (Source source) w = source_whole scope d id (list_named source) w

table_whole : (scope : Scope) (d : Draft) (table : Table) → IsWhole scope d → IfOk (table_taken d table) (IsWhole scope)
table_whole scope d table w = either_if (IsWhole scope) (has_table d table.id) (Ok d) (content_taken d table.id table.content) w (content_whole scope d table.id table.content w)

setvalue_whole : (scope : Scope) (d : Draft) (setvalue : SetValue) → IsWhole scope d → IfOk (setvalue_taken scope d setvalue) (IsWhole scope)
setvalue_whole scope d setvalue w = either_if (IsWhole scope) (draws_id scope setvalue) _ _ w tt

model_part_whole : (scope : Scope) (primary : List PrimaryPart) (d : Draft) (p : ModelPart) → IsWhole scope d → IfOk (model_part_taken scope primary d p) (IsWhole scope)
model_part_whole scope primary d part.Primary w = after_any (IsWhole scope) (parts_taken scope.root nothing_seen primary) (λ seen. Ok d) (λ seen. w)
model_part_whole scope primary d (part.Bind bind) w = bind_whole scope d bind w
model_part_whole scope primary d (part.Table table) w = table_whole scope d table w
model_part_whole scope primary d (part.Submission auto_send) w = w
model_part_whole scope primary d (part.SetValue setvalue) w = setvalue_whole scope d setvalue w
model_part_whole scope primary d (part.Other name) w = tt

model_whole : (scope : Scope) (primary : List PrimaryPart) (d : Draft) (ps : List ModelPart) → IsWhole scope d → IfOk (model_taken scope primary d ps) (IsWhole scope)
model_whole scope primary d [] w = w
model_whole scope primary d (p ∷ ps) w =
    then_holds (IsWhole scope) (IsWhole scope) (model_part_taken scope primary d p) (λ next. model_taken scope primary next ps) (model_part_whole scope primary d p w) (λ next is. model_whole scope primary next ps is)

controls_whole : (scope : Scope) (d : Draft) (cs : List Control) → IsWhole scope d → IfOk (controls_taken scope d cs) (IsWhole scope)
controls_whole scope d [] w = w
controls_whole scope d (c ∷ cs) w =
    then_holds (IsWhole scope) (IsWhole scope) (control_taken scope d c) (λ next. controls_taken scope next cs) (control_whole scope d c w) (λ next is. controls_whole scope next cs is)

all_whole : (is_body_first : Bool) (scope : Scope) (primary : List PrimaryPart) (controls : List Control) (d : Draft) → IsWhole scope d → IfOk (all_taken is_body_first scope primary controls d) (IsWhole scope)
unfolding head_first body_first
all_whole is_body_first scope primary controls d w =
    either_if (IsWhole scope) is_body_first (body_first scope primary controls d) (head_first scope primary controls d)
    (then_holds (IsWhole scope) (IsWhole scope) (controls_taken scope d controls) (λ next. model_taken scope primary next scope.model) (controls_whole scope d controls w) (λ next is. model_whole scope primary next scope.model is))
    (then_holds (IsWhole scope) (IsWhole scope) (model_taken scope primary d scope.model) (λ next. controls_taken scope next controls) (model_whole scope primary d scope.model w) (λ next is. controls_whole scope next controls is))

empty_whole : (scope : Scope) → IsWhole scope (empty_draft scope.slots)
empty_whole scope = record {
  bounds_count = length-map scope.slots (λ s. None);
  asked_count = length-map scope.slots (λ s. None);
  bounds_within = none_each (BoundWithin (length scope.slots)) 0 scope.slots;
  asked_within = none_each (AskedWithin (length scope.slots)) 0 scope.slots;
}

-- a draft of an outline has so many bounds and controls as there are fields, and they read these alone
drafts_whole : (o : Outline) → IfOk (draft_of o) (IsWhole (scope_of o))
unfolding draft_of
drafts_whole o =
    either_if (IsWhole (scope_of o)) (is_empty o.id) (Err NoId) (taken_unless_many o (scope_of o)) tt
    (either_if (IsWhole (scope_of o)) (nat_lt most_fields (length (slots_of o.primary))) (Err (TooManyFields (length (slots_of o.primary)))) (all_taken o.body_first (scope_of o) o.primary o.controls (empty_draft (slots_of o.primary))) tt
    (all_whole o.body_first (scope_of o) o.primary o.controls (empty_draft (slots_of o.primary)) (empty_whole (scope_of o))))

pub whole_draft : (o : Outline) (d : Draft) → draft_of o ≡ Ok d → Whole (length (slots_of o.primary)) d.bounds d.asked
whole_draft o d is = IfOk-at_ok (IsWhole (scope_of o)) is (drafts_whole o)

bound_or_none : (count number : ℕ) (b : Option Bound) → IfSome b (BoundWithin count number) → BoundWithin count number (bound_in b)
bound_or_none count number None h = record { relevant = refl; constraint = refl; required = refl; readonly = refl; calculate = refl }
bound_or_none count number (Some bound) h = h

asked_or_none : (count number : ℕ) (is_group : Bool) (a : Option Asked) → IfSome a (AskedWithin count number) → AskedWithin count number (asked_in is_group a)
asked_or_none count number is_group None h = refl
asked_or_none count number is_group (Some asked) h = h

pub joined_within : (count number : ℕ) (s : PrimaryField) (b : Bound) (a : Asked) → BoundWithin count number b → AskedWithin count number a → reads_below count number (joined s b a) ≡ true
joined_within count number s b a h g =
    both_within count _ (reads_of_choices number a.choices)
    (both_within count _ (reads_of number b.calculate)
    (both_within count _ (reads_of number b.readonly)
    (both_within count _ (reads_of number b.required) (both_within count (reads_of number b.relevant) (reads_of number b.constraint) h.relevant h.constraint) h.required)
    h.readonly)
    h.calculate)
    g

pub fields_within : (count number : ℕ) (ss : List PrimaryField) (bs : List (Option Bound)) (rest : List (Option Asked)) → EachFrom (BoundWithin count) number bs → EachFrom (AskedWithin count) number rest
    → are_within count number (fields_of ss bs rest) ≡ true
fields_within count number [] bs rest h g = refl
fields_within count number (s ∷ ss) [] rest h g = refl
fields_within count number (s ∷ ss) (b ∷ bs) [] h g = refl
fields_within count number (s ∷ ss) (b ∷ bs) (a ∷ rest) h g =
    and_from _ _ (joined_within count number s (bound_in b) (asked_in s.is_group a) (bound_or_none count number b h.0) (asked_or_none count number s.is_group a g.0))
    (fields_within count (number + 1) ss bs rest h.1 g.1)

pub fields_count : (ss : List PrimaryField) (bs : List (Option Bound)) (rest : List (Option Asked)) → length bs ≡ length ss → length rest ≡ length ss → length (fields_of ss bs rest) ≡ length ss
fields_count [] bs rest h g = refl
fields_count (s ∷ ss) [] rest h g = absurd (omega (arith, h))
fields_count (s ∷ ss) (b ∷ bs) [] h g = absurd (omega (arith, g))
fields_count (s ∷ ss) (b ∷ bs) (a ∷ rest) h g = let is = fields_count ss bs rest (omega (arith, h)) (omega (arith, g)) in omega (arith, is)

pub draft_whole : (o : Outline) (d : Draft) → draft_of o ≡ Ok d → length (fields_in o d) ≡ length (slots_of o.primary)
draft_whole o d is = let w = whole_draft o d is in fields_count (slots_of o.primary) d.bounds d.asked w.bounds_count w.asked_count

pub draft_within : (o : Outline) (d : Draft) → draft_of o ≡ Ok d → are_within (length (fields_in o d)) 0 (fields_in o d) ≡ true
draft_within o d is =
    let w = whole_draft o d is in
    subst (λ (count : ℕ). are_within count 0 (fields_in o d) ≡ true) (sym (draft_whole o d is)) (fields_within (length (slots_of o.primary)) 0 (slots_of o.primary) d.bounds d.asked w.bounds_within w.asked_within)
