-- What a bind does to a draft, and that the first bind of a path is the one that counts.
use Rattle.std.specs.Prelude.{◌≡◌, ◌≢◌, ℕ, ◌<◌, Bool, true, false, cond, nat_lt, if◌then◌else◌, List, [], ◌∷◌, ◌++◌, find, position, length, Option, Some, None, Result, Ok, Err, slice_set, refl}
use Rattle.std.specs.List.{position_or_len, slice_index_or}
use Rattle.std.specs.Str.{bytes_eq}
use Rattle.std.proofs.Common.{ap, sym, ◌∙◌, subst, length-set}
use Rattle.std.proofs.Math.ListN.{get_or}
use Rattle.std.proofs.lemmas.Bool.{ltb-true}
use Rattle.std.proofs.lemmas.List.{get_or-set_same, get_or-set_other}
use Rattle.std.proofs.lemmas.List.Sums.{passes_at_first}
use Rattle.form_expr.proofs.Complete.{same_bytes}
use Rattle.rosa_doc.proofs.Names.{bytes_alike}
use Rattle.form_outline.specs.declared.outline.Bind.{Bind}
use Rattle.form_outline.specs.declared.outline.ModelPart.{ModelPart}
use Rattle.form_outline.specs.declared.outline.ModelPart.TheVariants as part
use Rattle.form_outline.specs.declared.outline.PrimaryField.{PrimaryField}
use Rattle.form_read.specs.Binds.{bind_taken, bound_at, bound_by, is_below_meta, is_bind_of, is_given}
use Rattle.form_read.specs.Refusals.{◌>>=◌}
use Rattle.form_read.specs.Slots.{slot_of}
use Rattle.form_read.specs.declared.draft.Bound.{Bound}
use Rattle.form_read.specs.declared.draft.Draft.{Draft}
use Rattle.form_read.specs.declared.refusal.FormRefused.{FormRefused}
use Rattle.form_read.specs.declared.refusal.FormRefused.TheVariants.{UnknownPath}
use Rattle.form_read.specs.declared.scope.Scope.{Scope}
use Rattle.outline_laws.specs.FirstBinds.{BindsSay, bind_cause, bind_cause_at, bound, unbound}
use Rattle.outline_laws.proofs.Finding.{find_kept, find_new, find_none}

-- ---- the number of a path

pub found_at : {A : Type 0} (t : A → Bool) (xs : List A) (n : ℕ) (d : A) → position t xs ≡ Some n → (n < length xs) × (t (get_or xs n d) ≡ true)
found_at t xs n d is = by (nat_lt (position_or_len t xs) (length xs)) refl is
  where
    by : (b : Bool) → nat_lt (position_or_len t xs) (length xs) ≡ b → cond b (Some (position_or_len t xs)) None ≡ Some n
        → (n < length xs) × (t (get_or xs n d) ≡ true)
    by true less e =
        let same : position_or_len t xs ≡ n = cc in
        let within : position_or_len t xs < length xs = ltb-true (position_or_len t xs) (length xs) less in
        subst (λ k. (k < length xs) × (t (get_or xs k d) ≡ true)) same (within, passes_at_first t xs d within)
    by false less e = absurd (cc (e))

nowhere : PrimaryField
nowhere = record { path = []; initial = []; is_group = false }

pub slot_within : (slots : List PrimaryField) (path : List ℕ) (n : ℕ) → slot_of slots path ≡ Some n → n < length slots
slot_within slots path n is = (found_at (λ s. bytes_eq s.path path) slots n nowhere is).0

-- one field has one path
pub one_path : (slots : List PrimaryField) (a b : List ℕ) (n : ℕ) → slot_of slots a ≡ Some n → slot_of slots b ≡ Some n → a ≡ b
one_path slots a b n is_a is_b =
    let s = get_or slots n nowhere in
    sym (same_bytes s.path a (found_at (λ s. bytes_eq s.path a) slots n nowhere is_a).1) ∙ same_bytes s.path b (found_at (λ s. bytes_eq s.path b) slots n nowhere is_b).1

-- ---- what binds say

-- each field has what the first bind of its path says
pub record AreBound (scope : Scope) (before : List ModelPart) (bounds : List (Option Bound)) : Type 0 where
  pub count : length bounds ≡ length scope.slots
  pub say : (path : List ℕ) (n : ℕ) → slot_of scope.slots path ≡ Some n → BindsSay scope before path (slice_index_or bounds n None)

-- a part that isn't the first bind of a path changes nothing of it
say_on : (scope : Scope) (before : List ModelPart) (p : ModelPart) (path : List ℕ) (o : Option Bound)
    → (find (is_bind_of path) before ≡ None → is_bind_of path p ≡ false) → BindsSay scope before path o → BindsSay scope (before ++ p ∷ []) path o
say_on scope before p path o other (unbound none) = unbound (find_none (is_bind_of path) before p none (other none))
say_on scope before p path o other (bound bind said found is) = bound bind said (find_kept (is_bind_of path) before p (part.Bind bind) found) is

pub bound_on : (scope : Scope) (before : List ModelPart) (p : ModelPart) (bounds : List (Option Bound))
    → ((path : List ℕ) (n : ℕ) → slot_of scope.slots path ≡ Some n → find (is_bind_of path) before ≡ None → is_bind_of path p ≡ false)
    → AreBound scope before bounds → AreBound scope (before ++ p ∷ []) bounds
bound_on scope before p bounds other h = record {
  count = h.count;
  say = λ path n is. say_on scope before p path (slice_index_or bounds n None) (other path n is) (h.say path n is);
}

-- what a bind has given
pub data BindStep (scope : Scope) (before : List ModelPart) (bind : Bind) (d : Draft) : Result Draft FormRefused → Type 0 where
  kept : bind_cause scope before bind ≡ None → AreBound scope (before ++ part.Bind bind ∷ []) d.bounds → BindStep scope before bind d (Ok d)
  set : (bounds : List (Option Bound)) → bind_cause scope before bind ≡ None → AreBound scope (before ++ part.Bind bind ∷ []) bounds
      → BindStep scope before bind d (Ok (record d { bounds = bounds }))
  refused : (why : FormRefused) → bind_cause scope before bind ≡ Some why → BindStep scope before bind d (Err why)

module _ (scope : Scope) (before : List ModelPart) (bind : Bind) (d : Draft) (h : AreBound scope before d.bounds) where
  cause_at : (o : Option ℕ) → slot_of scope.slots bind.nodeset ≡ o → bind_cause scope before bind ≡ bind_cause_at scope before bind o
  cause_at o is = ap (bind_cause_at scope before bind) is

  no_field : slot_of scope.slots bind.nodeset ≡ None → (b : Bool) → is_below_meta scope.root bind.nodeset ≡ b
      → BindStep scope before bind d (if b then Ok d else Err (UnknownPath bind.nodeset))
  no_field is true below = kept (cause_at None is ∙ rw below refl) (bound_on scope before (part.Bind bind) d.bounds other h)
    where
      other : (path : List ℕ) (n : ℕ) → slot_of scope.slots path ≡ Some n → find (is_bind_of path) before ≡ None → bytes_eq bind.nodeset path ≡ false
      other path n at none = by (bytes_eq bind.nodeset path) refl
        where
          by : (b : Bool) → bytes_eq bind.nodeset path ≡ b → bytes_eq bind.nodeset path ≡ false
          by true same = let e : None ≡ Some n = sym is ∙ ap (slot_of scope.slots) (same_bytes bind.nodeset path same) ∙ at in absurd (cc (e))
          by false same = same
  no_field is false below = refused (UnknownPath bind.nodeset) (cause_at None is ∙ rw below refl)

  module _ (m : ℕ) (is : slot_of scope.slots bind.nodeset ≡ Some m) where
    new_say : (said : Bound) → find (is_bind_of bind.nodeset) before ≡ None → bound_by scope bind ≡ Ok said
        → (path : List ℕ) (n : ℕ) → slot_of scope.slots path ≡ Some n
        → BindsSay scope (before ++ part.Bind bind ∷ []) path (slice_index_or (slice_set d.bounds m (Some said)) n None)
    new_say said none by_it path n at = by (bytes_eq bind.nodeset path) refl
      where
        by : (b : Bool) → bytes_eq bind.nodeset path ≡ b
            → BindsSay scope (before ++ part.Bind bind ∷ []) path (slice_index_or (slice_set d.bounds m (Some said)) n None)
        by true alike =
            let same : bind.nodeset ≡ path = same_bytes bind.nodeset path alike in
            let number : m ≡ n = (let e : Some m ≡ Some n = sym is ∙ ap (slot_of scope.slots) same ∙ at in cc) in
            let within : m < length d.bounds = subst (λ k. m < k) (sym h.count) (slot_within scope.slots bind.nodeset m is) in
            subst (λ k. BindsSay scope (before ++ part.Bind bind ∷ []) path (slice_index_or (slice_set d.bounds m (Some said)) k None)) number
            (subst (BindsSay scope (before ++ part.Bind bind ∷ []) path) (sym (get_or-set_same d.bounds m (Some said) None within))
            (bound bind said (find_new (is_bind_of path) before (part.Bind bind) (subst (λ t. find (is_bind_of t) before ≡ None) same none) alike) by_it))
        by false alike =
            let other : n ≢ m = λ e. (
            let same : path ≡ bind.nodeset = one_path scope.slots path bind.nodeset m (at ∙ ap (λ (k : ℕ). Some k) e) is in
            let e2 : true ≡ false = sym (bytes_alike bind.nodeset) ∙ ap (bytes_eq bind.nodeset) (sym same) ∙ alike in absurd (cc (e2))
            ) in
            subst (BindsSay scope (before ++ part.Bind bind ∷ []) path) (sym (get_or-set_other d.bounds m n (Some said) None other))
            (say_on scope before (part.Bind bind) path (slice_index_or d.bounds n None) (λ none. alike) (h.say path n at))

    new_bind : find (is_bind_of bind.nodeset) before ≡ None → (r : Result Bound FormRefused) → bound_by scope bind ≡ r
        → BindStep scope before bind d (r >>= λ said. Ok (record d { bounds = slice_set d.bounds m (Some said) }))
    new_bind none (Ok said) by_it = set (slice_set d.bounds m (Some said)) (cause_at (Some m) is ∙ rw (none, by_it) refl)
        (record { count = length-set d.bounds m (Some said) ∙ h.count; say = new_say said none by_it })
    new_bind none (Err why) by_it = refused why (cause_at (Some m) is ∙ rw (none, by_it) refl)

    field : (o : Option Bound) → BindsSay scope before bind.nodeset o
        → BindStep scope before bind d (if is_given o then Ok d else (bound_by scope bind >>= λ said. Ok (record d { bounds = slice_set d.bounds m (Some said) })))
    field None (unbound none) = new_bind none (bound_by scope bind) refl
    field (Some said) (bound first _ found by_it) = kept (cause_at (Some m) is ∙ rw found refl) (bound_on scope before (part.Bind bind) d.bounds other h)
      where
        other : (path : List ℕ) (n : ℕ) → slot_of scope.slots path ≡ Some n → find (is_bind_of path) before ≡ None → bytes_eq bind.nodeset path ≡ false
        other path n at none = by (bytes_eq bind.nodeset path) refl
          where
            by : (b : Bool) → bytes_eq bind.nodeset path ≡ b → bytes_eq bind.nodeset path ≡ false
            by true alike =
                let e : Some (part.Bind first) ≡ None = sym found ∙ ap (λ t. find (is_bind_of t) before) (same_bytes bind.nodeset path alike) ∙ none in absurd (cc (e))
            by false alike = alike

  pub bind_step : BindStep scope before bind d (bind_taken scope d bind)
  unfolding bind_taken
  bind_step = at (slot_of scope.slots bind.nodeset) refl
    where
      at : (o : Option ℕ) → slot_of scope.slots bind.nodeset ≡ o → BindStep scope before bind d (bound_at scope d bind o)
      at None is = no_field is (is_below_meta scope.root bind.nodeset) refl
      at (Some m) is = field m is (slice_index_or d.bounds m None) (h.say bind.nodeset m is)
