-- What changes of the kept forms leave: each record with its id, version and bytes.
use Rattle.std.proofs.Common.{◌≡◌, inl, inr, ℕ, zero, suc, List, [], ◌∷◌, ◌++◌, Bool, true, false, Option, Some, None}
use Rattle.std.proofs.Common.{refl, sym, ◌∙◌, ap, subst}
use Rattle.std.specs.Prelude.{◌&&◌, if◌then◌else◌, length, nat_le, slice_get, slice_set}
use Rattle.std.specs.List.{AllByRecursion, AllZip}
use Rattle.std.specs.Option.{option_map_or}
use Rattle.std.specs.Str.{bytes_eq}
use Rattle.std.proofs.lemmas.Option.{same_Some}
use Rattle.field_rows.specs.Edited.{edited}
use Rattle.form_store.specs.declared.records.Check.TheVariants.{Fresh, Same, OtherBytes, Full}
use Rattle.form_store.specs.declared.records.FormRec.{FormRec}
use Rattle.form_store.specs.Forms.{all_hidden, check_at, exact, form_limit, has_bytes, hidden, is_form, is_shown, put}
use Rattle.form_store.specs.Forms.{put_by, renewed}
use Rattle.kept_forms.specs.KeptForms.{id_of, is_form as describes_form, version_of}
use Rattle.device_laws.specs.Soundness.{AnyByRecursion, AreApart, IsOther, IsRead, IsSameForm}
use Rattle.device_laws.proofs.Lists.{all_elements, all_joined, all_then, any_front, any_then, none_passes}

-- each record of the one list is in the other with its id, version and bytes
abbrev pub Carries : List FormRec → List FormRec → Type 0
Carries old new = AllByRecursion (λ r. AnyByRecursion (IsSameForm r) new) old

pub same_form : (r : FormRec) → IsSameForm r r
same_form r = record { id = refl; version = refl; bytes = refl }

pub carries_itself : (forms : List FormRec) → Carries forms forms
carries_itself forms = all_elements forms
    (λ r among. any_then forms (λ other is. subst (λ s. IsSameForm r s) (sym is) (same_form r)) among)

-- what one record has is found where the records are carried
pub carried : (P : FormRec → Type 0) → ((r other : FormRec) → IsSameForm r other → P r → P other)
    → (old new : List FormRec) → Carries old new → AnyByRecursion P old → AnyByRecursion P new
carried P keeps [] new all any = absurd any
carried P keeps (r ∷ rs) new (here, there) (inl holds) = any_then new (λ other same. keeps r other same holds) here
carried P keeps (r ∷ rs) new (here, there) (inr any) = carried P keeps rs new there any

-- a test of id and version
pub test_same : (test : List ℕ → List ℕ → Bool) (b : Bool) (r other : FormRec) → IsSameForm r other
    → test r.id r.version ≡ b → test other.id other.version ≡ b
test_same test b r other same is = ap (λ id. test id other.version) same.id ∙ ap (test r.id) same.version ∙ is

-- ---- what a change of the records keeps

pub record FormsFollow (old new : List FormRec) : Type 0 where
  pub carries : Carries old new
  pub read : AllByRecursion IsRead old → AllByRecursion IsRead new
  pub apart : AreApart old → AreApart new

pub follow_themselves : (forms : List FormRec) → FormsFollow forms forms
follow_themselves forms = record { carries = carries_itself forms; read = λ all. all; apart = λ all. all }

-- ---- lists whose records differ in their flags alone

abbrev AreAlike : List FormRec → List FormRec → Type 0
AreAlike old new = AllZip IsSameForm old new

alike_itself : (forms : List FormRec) → AreAlike forms forms
alike_itself [] = tt
alike_itself (r ∷ rs) = (same_form r, alike_itself rs)

alike_carries : (old new : List FormRec) → AreAlike old new → Carries old new
alike_carries [] [] alike = tt
alike_carries [] (s ∷ ss) alike = tt
alike_carries (r ∷ rs) [] alike = absurd alike
alike_carries (r ∷ rs) (s ∷ ss) (here, there) =
    (inl here, all_then rs (λ x any. inr any) (alike_carries rs ss there))

alike_all : (P : FormRec → Type 0) → ((r other : FormRec) → IsSameForm r other → P r → P other)
    → (old new : List FormRec) → AreAlike old new → AllByRecursion P old → AllByRecursion P new
alike_all P keeps [] [] alike all = tt
alike_all P keeps [] (s ∷ ss) alike all = absurd alike
alike_all P keeps (r ∷ rs) [] alike all = tt
alike_all P keeps (r ∷ rs) (s ∷ ss) (here, there) (holds, rest) =
    (keeps r s here holds, alike_all P keeps rs ss there rest)

read_same : (r other : FormRec) → IsSameForm r other → IsRead r → IsRead other
read_same r other same read = record {
  form = ap describes_form same.bytes ∙ read.form;
  id = ap id_of same.bytes ∙ read.id ∙ sym same.id;
  version = ap version_of same.bytes ∙ read.version ∙ sym same.version;
}

alike_apart : (old new : List FormRec) → AreAlike old new → AreApart old → AreApart new
alike_apart [] [] alike apart = tt
alike_apart [] (s ∷ ss) alike apart = absurd alike
alike_apart (r ∷ rs) [] alike apart = tt
alike_apart (r ∷ rs) (s ∷ ss) (here, there) (others, rest) = (
  all_then ss (λ x other. test_same (λ id version. bytes_eq id x.id && bytes_eq version x.version) false r s here other)
      (alike_all (IsOther r)
      (λ x y same other. test_same (λ id version. bytes_eq r.id id && bytes_eq r.version version) false x y same other)
      rs ss there others),
  alike_apart rs ss there rest,
)

alike_follow : (old new : List FormRec) → AreAlike old new → FormsFollow old new
alike_follow old new alike = record {
  carries = alike_carries old new alike;
  read = alike_all IsRead read_same old new alike;
  apart = alike_apart old new alike;
}

-- ---- hiding

hidden_by : (b : Bool) (r : FormRec) → IsSameForm r (if b then hidden r else r)
hidden_by true r = record { id = refl; version = refl; bytes = refl }
hidden_by false r = same_form r

hiding_alike : (id : List ℕ) (forms : List FormRec) → AreAlike forms (all_hidden id forms)
hiding_alike id [] = tt
hiding_alike id (r ∷ rs) = (hidden_by (is_shown id r) r, hiding_alike id rs)

pub hiding_follows : (id : List ℕ) (forms : List FormRec) → FormsFollow forms (all_hidden id forms)
hiding_follows id forms = alike_follow forms (all_hidden id forms) (hiding_alike id forms)

-- ---- putting

set_alike : (forms : List FormRec) (place : ℕ) (r s : FormRec) → slice_get forms place ≡ Some r → IsSameForm r s
    → AreAlike forms (slice_set forms place s)
set_alike [] place r s at same = tt
set_alike (x ∷ xs) zero r s at same = (subst (λ y. IsSameForm y s) (sym (same_Some x r at)) same, alike_itself xs)
set_alike (x ∷ xs) (suc n) r s at same = (same_form x, set_alike xs n r s at same)

renewing_alike : (item : FormRec) (place : ℕ) (forms : List FormRec) (o : Option FormRec) → slice_get forms place ≡ o
    → AreAlike forms (option_map_or (λ r. slice_set forms place (renewed item r)) o forms)
renewing_alike item place forms None at = alike_itself forms
renewing_alike item place forms (Some r) at =
    set_alike forms place r (renewed item r) at (record { id = refl; version = refl; bytes = refl })

apart_push : (forms : List FormRec) (item : FormRec)
    → AllByRecursion (λ r. is_form item.id item.version r ≡ false) forms → AreApart forms
    → AreApart (forms ++ item ∷ [])
apart_push [] item others apart = (tt, tt)
apart_push (r ∷ rs) item (other, others) (here, there) =
    (all_joined (IsOther r) rs (item ∷ []) here (other, tt), apart_push rs item others there)

push_follows : (item : FormRec) (forms : List FormRec) → IsRead item → exact item.id item.version forms ≡ None
    → FormsFollow forms (forms ++ item ∷ [])
push_follows item forms reads none = record {
  carries = all_then forms (λ r any. any_front (IsSameForm r) forms (item ∷ []) any) (carries_itself forms);
  read = λ all. all_joined IsRead forms (item ∷ []) all (reads, tt);
  apart = apart_push forms item (none_passes (is_form item.id item.version) forms none);
}

put_fresh : (item : FormRec) (forms : List FormRec) (full : Bool) → IsRead item
    → exact item.id item.version forms ≡ None
    → FormsFollow forms (put_by item forms (if full then Full else Fresh))
put_fresh item forms true reads none = follow_themselves forms
put_fresh item forms false reads none = push_follows item forms reads none

put_again : (item : FormRec) (forms : List FormRec) (place : ℕ) (same : Bool)
    → FormsFollow forms (put_by item forms (if same then Same place else OtherBytes place))
put_again item forms place true =
    alike_follow forms (edited (renewed item) place forms)
    (renewing_alike item place forms (slice_get forms place) refl)
put_again item forms place false = follow_themselves forms

put_at : (item : FormRec) (forms : List FormRec) (o : Option ℕ) → IsRead item → exact item.id item.version forms ≡ o
    → FormsFollow forms (put_by item forms (check_at item.bytes forms o))
put_at item forms None reads is = put_fresh item forms (nat_le form_limit (length forms)) reads is
put_at item forms (Some place) reads is = put_again item forms place (has_bytes item.bytes forms place)

pub put_follows : (item : FormRec) (forms : List FormRec) → IsRead item → FormsFollow forms (put item forms)
put_follows item forms reads = put_at item forms (exact item.id item.version forms) reads refl
