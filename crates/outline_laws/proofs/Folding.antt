-- Steps over a list, of which the first refusal is the first cause.
use Rattle.std.specs.Prelude.{◌≡◌, List, [], ◌∷◌, ◌++◌, Option, Some, None, Result, Ok, Err, refl}
use Rattle.std.proofs.Common.{ap, sym, ◌∙◌, subst, append_assoc}
use Rattle.std.proofs.lemmas.List.{append-nil}
use Rattle.form_read.specs.Refusals.{◌>>=◌}
use Rattle.form_read.specs.declared.refusal.FormRefused.{FormRefused}
use Rattle.outline_laws.specs.Causes.{causes, first_cause}

-- a list of causes of which the first is none
pub first_none : {E : Type 0} (o : Option E) (others : List (Option E)) → o ≡ None → first_cause (o ∷ others) ≡ first_cause others
first_none o others none = ap (λ x. first_cause (x ∷ others)) none

pub first_some : {E : Type 0} (o : Option E) (e : E) (others : List (Option E)) → o ≡ Some e → first_cause (o ∷ others) ≡ Some e
first_some o e others some = ap (λ x. first_cause (x ∷ others)) some

-- the first of two lists of causes
pub first_both : {E : Type 0} (xs ys : List (Option E)) → first_cause xs ≡ None → first_cause (xs ++ ys) ≡ first_cause ys
first_both [] ys none = refl
first_both (None ∷ xs) ys none = first_both xs ys none
first_both (Some e ∷ xs) ys none = absurd (cc (none))

pub first_front : {E : Type 0} (xs ys : List (Option E)) (e : E) → first_cause xs ≡ Some e → first_cause (xs ++ ys) ≡ Some e
first_front [] ys e some = absurd (cc (some))
first_front (None ∷ xs) ys e some = first_front xs ys e some
first_front (Some x ∷ xs) ys e some = some

module _ {A S : Type 0} (keeps : List A → S → Type 0) (cause : List A → A → Option FormRefused) where
  -- what a step over an item behind others has given
  abbrev pub Tracked : List A → A → Result S FormRefused → Type 0
  Tracked before item (Ok next) = (cause before item ≡ None) × keeps (before ++ item ∷ []) next
  Tracked before item (Err why) = cause before item ≡ Some why

  -- what the steps over items behind others have given
  abbrev pub Folded : List A → List A → Result S FormRefused → Type 0
  Folded before items (Ok next) = (first_cause (causes cause before items) ≡ None) × keeps (before ++ items) next
  Folded before items (Err why) = first_cause (causes cause before items) ≡ Some why

  module _ (step : S → A → Result S FormRefused) (fold : S → List A → Result S FormRefused)
      (ends : (s : S) → fold s [] ≡ Ok s)
      (goes : (s : S) (item : A) (items : List A) → fold s (item ∷ items) ≡ step s item >>= λ next. fold next items)
      (tracks : (before : List A) (s : S) (item : A) → keeps before s → Tracked before item (step s item)) where
    pub folds : (before : List A) (s : S) (items : List A) → keeps before s → Folded before items (fold s items)
    folds before s [] kept = subst (Folded before []) (sym (ends s)) (refl, subst (λ xs. keeps xs s) (sym (append-nil before)) kept)
    folds before s (item ∷ items) kept =
        subst (Folded before (item ∷ items)) (sym (goes s item items)) (on (λ next. folds (before ++ item ∷ []) next items) (step s item) (tracks before s item kept))
      where
        more : (r : Result S FormRefused) → cause before item ≡ None → Folded (before ++ item ∷ []) items r → Folded before (item ∷ items) r
        more (Ok last) none h = (first_none (cause before item) (causes cause (before ++ item ∷ []) items) none ∙ h.0, subst (λ xs. keeps xs last) (append_assoc before (item ∷ []) items) h.1)
        more (Err why) none h = first_none (cause before item) (causes cause (before ++ item ∷ []) items) none ∙ h

        on : ((next : S) → keeps (before ++ item ∷ []) next → Folded (before ++ item ∷ []) items (fold next items))
            → (r : Result S FormRefused) → Tracked before item r → Folded before (item ∷ items) (r >>= λ next. fold next items)
        on further (Ok next) t = more (fold next items) t.0 (further next t.1)
        on further (Err why) t = first_some (cause before item) why (causes cause (before ++ item ∷ []) items) t
