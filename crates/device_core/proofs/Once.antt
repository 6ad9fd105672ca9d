-- An image reads as one thing.
use Rattle.std.proofs.Common.{◌≡◌, ℕ, List, [], ◌∷◌, ◌++◌, length, Option, Some, None, Result, Ok, Err, refl, sym, ◌∙◌, ap, subst, arith}
use Rattle.std.specs.List.{AllByRecursion}
use Rattle.std.specs.Option.{option_and_then}
use Rattle.std.proofs.lemmas.List.{append-nil}
use Rattle.entry_form.specs.declared.entry.Entry.{Entry}
use Rattle.entry_codec.specs.Spelling.{Fits, spelling}
use Rattle.entry_codec.proofs.Found.{begins_none}
use Rattle.device_journal.specs.Frames.{HasFrames}
use Rattle.device_journal.proofs.Unique.{unique, not_both, off_once}
use Rattle.device_journal.specs.declared.fault.OpenFault.{OpenFault}
use Rattle.device_journal.specs.declared.fault.OpenFault.TheVariants as opening
use Rattle.std.specs.Prelude.{option_map}
use Rattle.std.specs.Result.{result_ok}
use Rattle.device_rules.specs.declared.refused.Refused.{Refused}
use Rattle.device_state.specs.declared.state.State.{State}
use Rattle.device_core.specs.Images.{StandsFor, IsOffFrom, IsOffSpelling, payloads_of, ReadsAs}
use Rattle.device_state.specs.State.{initial}
use Rattle.device_rules.specs.Step.{step}
use Rattle.device_rules.specs.Trail.{replay, state_after}

-- the entry of a spelling
one_entry : (one other : Entry) → Fits one → Fits other → spelling one ≡ spelling other → one ≡ other
one_entry one other a b is = sym ((begins_none one other [] a b (sym is ∙ sym (append-nil (spelling one)))).0)

head_of : {X : Type 0} (x y : X) (xs ys : List X) → x ∷ xs ≡ y ∷ ys → x ≡ y
head_of x y xs ys is = cc (is)

tail_of : {X : Type 0} (x y : X) (xs ys : List X) → x ∷ xs ≡ y ∷ ys → xs ≡ ys
tail_of x y xs ys is = cc (is)

-- the entries of spellings
pub same_entries : (xs ys : List Entry) → AllByRecursion Fits xs → AllByRecursion Fits ys → payloads_of xs ≡ payloads_of ys → xs ≡ ys
same_entries [] [] a b is = refl
same_entries [] (y ∷ ys) a b is = absurd (cc (is))
same_entries (x ∷ xs) [] a b is = absurd (cc (is))
same_entries (x ∷ xs) (y ∷ ys) a b is =
    let one = one_entry x y a.0 b.0 (head_of (spelling x) (spelling y) (payloads_of xs) (payloads_of ys) is) in
    let rest = same_entries xs ys a.1 b.1 (tail_of (spelling x) (spelling y) (payloads_of xs) (payloads_of ys) is) in
    λ i. one i ∷ rest i

-- spelled payloads have none that is off
none_off : (entries before : List Entry) (bad : List ℕ) (after : List (List ℕ)) → AllByRecursion Fits entries → IsOffSpelling bad → payloads_of entries ≡ payloads_of before ++ bad ∷ after → ⊥
none_off [] [] bad after fit off is = absurd (cc (is))
none_off [] (b ∷ before) bad after fit off is = absurd (cc (is))
none_off (e ∷ entries) [] bad after fit off is = off e fit.0 (sym (head_of (spelling e) bad (payloads_of entries) after is))
none_off (e ∷ entries) (b ∷ before) bad after fit off is = none_off entries before bad after fit.1 off (tail_of (spelling e) (spelling b) (payloads_of entries) (payloads_of before ++ bad ∷ after) is)

-- the first payload that is off
first_off : (xs ys : List Entry) (bad other : List ℕ) (after behind : List (List ℕ)) → AllByRecursion Fits xs → AllByRecursion Fits ys → IsOffSpelling bad → IsOffSpelling other → payloads_of xs ++ bad ∷ after ≡ payloads_of ys ++ other ∷ behind → length xs ≡ length ys
first_off [] [] bad other after behind a b p q is = refl
first_off [] (y ∷ ys) bad other after behind a b p q is = absurd (p y b.0 (head_of bad (spelling y) after (payloads_of ys ++ other ∷ behind) is))
first_off (x ∷ xs) [] bad other after behind a b p q is = absurd (q x a.0 (sym (head_of (spelling x) other (payloads_of xs ++ bad ∷ after) behind is)))
first_off (x ∷ xs) (y ∷ ys) bad other after behind a b p q is =
    let rest = first_off xs ys bad other after behind a.1 b.1 p q (tail_of (spelling x) (spelling y) (payloads_of xs ++ bad ∷ after) (payloads_of ys ++ other ∷ behind) is) in
    omega (arith, rest)

refused_none : (state : State) (entry : Entry) (why : Refused) → step state entry ≡ Err why → state_after state entry ≡ None
refused_none state entry why is = ap (λ r. option_map (λ x. x.0) (result_ok r)) is

-- the first entry that the rules refuse
first_refused : (start s t : State) (xs ys : List Entry) (e f : Entry) (after behind : List Entry) (w v : Refused) → replay start xs ≡ Some s → replay start ys ≡ Some t → step s e ≡ Err w → step t f ≡ Err v → xs ++ e ∷ after ≡ ys ++ f ∷ behind → length xs ≡ length ys
first_refused start s t [] [] e f after behind w v a b p q is = refl
first_refused start s t [] (y ∷ ys) e f after behind w v a b p q is =
    let none : state_after start y ≡ None = ap (λ x. state_after start x) (sym (head_of e y after (ys ++ f ∷ behind) is)) ∙ refused_none start e w (ap (λ x. step x e) (cc (a)) ∙ p) in
    absurd (cc (sym (ap (λ o. option_and_then (λ next. replay next ys) o) none) ∙ b))
first_refused start s t (x ∷ xs) [] e f after behind w v a b p q is =
    let none : state_after start x ≡ None = ap (λ z. state_after start z) (head_of x f (xs ++ e ∷ after) behind is) ∙ refused_none start f v (ap (λ z. step z f) (cc (b)) ∙ q) in
    absurd (cc (sym (ap (λ o. option_and_then (λ next. replay next xs) o) none) ∙ a))
first_refused start s t (x ∷ xs) (y ∷ ys) e f after behind w v a b p q is =
    let same = ap (λ z. state_after start z) (head_of x y (xs ++ e ∷ after) (ys ++ f ∷ behind) is) in
    let rest = tail_of x y (xs ++ e ∷ after) (ys ++ f ∷ behind) is in
    by (state_after start x) (state_after start y) same a b (λ next h k. first_refused next s t xs ys e f after behind w v h k p q rest)
  where
    by : (o r : Option State) → o ≡ r → option_and_then (λ next. replay next xs) o ≡ Some s → option_and_then (λ next. replay next ys) r ≡ Some t → ((next : State) → replay next xs ≡ Some s → replay next ys ≡ Some t → length xs ≡ length ys) → length (x ∷ xs) ≡ length (y ∷ ys)
    by None r same h k on = absurd (cc (h))
    by (Some n) None same h k on = absurd (cc (k))
    by (Some n) (Some m) same h k on = let e : length xs ≡ length ys = on n h (subst (λ z. replay z ys ≡ Some t) (cc (same)) k) in omega (arith, e)

-- a list in which the rules refuse an entry isn't legal
legal_refused : (start s t : State) (before : List Entry) (refused : Entry) (after : List Entry) (why : Refused) → replay start before ≡ Some s → step s refused ≡ Err why → replay start (before ++ refused ∷ after) ≡ Some t → ⊥
legal_refused start s t [] refused after why reached refuses legal =
    let none : state_after start refused ≡ None = refused_none start refused why (ap (λ z. step z refused) (cc (reached)) ∙ refuses) in
    absurd (cc (sym (ap (λ o. option_and_then (λ next. replay next after) o) none) ∙ legal))
legal_refused start s t (x ∷ before) refused after why reached refuses legal =
    by (state_after start x) reached legal (λ next h k. legal_refused next s t before refused after why h refuses k)
  where
    by : (o : Option State) → option_and_then (λ next. replay next before) o ≡ Some s → option_and_then (λ next. replay next (before ++ refused ∷ after)) o ≡ Some t → ((next : State) → replay next before ≡ Some s → replay next (before ++ refused ∷ after) ≡ Some t → ⊥) → ⊥
    by None h k on = absurd (cc (h))
    by (Some n) h k on = on n h k

same_list : (image : List ℕ) (a b : List Entry) → StandsFor image a → StandsFor image b → a ≡ b
same_list image a b r s = same_entries a b r.fit s.fit (unique image (payloads_of a) (payloads_of b) r.frames s.frames)

off_list : (image : List ℕ) (a : List Entry) (payloads : List (List ℕ)) (position : ℕ) → StandsFor image a → HasFrames image payloads → IsOffFrom payloads position → ⊥
off_list image a payloads position r frames off = none_off a off.before off.bad off.after r.fit off.off (unique image (payloads_of a) payloads r.frames frames ∙ off.split)

ok_err : (image : List ℕ) (a : List Entry) (fault : OpenFault) → ReadsAs image (Ok a) → ReadsAs image (Err fault) → ⊥
ok_err image a (opening.BadJournal at) r s = not_both image (payloads_of a) at r.0.frames s
ok_err image a (opening.BadEntry position) r s = off_list image a s.0 position r.0 s.1 s.2
ok_err image a (opening.IllegalEntry position) r s =
    let same = same_list image a s.0 r.0 s.1 ∙ s.2.split in
    legal_refused initial s.2.state r.1.0 s.2.before s.2.refused s.2.after s.2.why s.2.reached s.2.refuses (subst (λ (l : List Entry). replay initial l ≡ Some r.1.0) same r.1.1)
ok_err image a _ r s = absurd s

same_fault : (image : List ℕ) (one other : OpenFault) → ReadsAs image (Err one) → ReadsAs image (Err other) → one ≡ other
same_fault image (opening.BadJournal a) (opening.BadJournal b) r s = ap (λ n. opening.BadJournal n) (off_once image a b r s)
same_fault image (opening.BadJournal a) (opening.BadEntry q) r s = absurd (not_both image s.0 a s.1 r)
same_fault image (opening.BadJournal a) (opening.IllegalEntry q) r s = absurd (not_both image (payloads_of s.0) a s.1.frames r)
same_fault image (opening.BadJournal a) _ r s = absurd s
same_fault image (opening.BadEntry p) (opening.BadJournal b) r s = absurd (not_both image r.0 b r.1 s)
same_fault image (opening.BadEntry p) (opening.BadEntry q) r s =
    let split = sym r.2.split ∙ unique image r.0 s.0 r.1 s.1 ∙ s.2.split in
    let e = first_off r.2.before s.2.before r.2.bad s.2.bad r.2.after s.2.after r.2.fit s.2.fit r.2.off s.2.off split in
    ap (λ n. opening.BadEntry n) (omega (arith, e, r.2.place, s.2.place))
same_fault image (opening.BadEntry p) (opening.IllegalEntry q) r s = absurd (off_list image s.0 r.0 p s.1 r.1 r.2)
same_fault image (opening.BadEntry p) _ r s = absurd s
same_fault image (opening.IllegalEntry p) (opening.BadJournal b) r s = absurd (not_both image (payloads_of r.0) b r.1.frames s)
same_fault image (opening.IllegalEntry p) (opening.BadEntry q) r s = absurd (off_list image r.0 s.0 q r.1 s.1 s.2)
same_fault image (opening.IllegalEntry p) (opening.IllegalEntry q) r s =
    let split = sym r.2.split ∙ same_list image r.0 s.0 r.1 s.1 ∙ s.2.split in
    let e = first_refused initial r.2.state s.2.state r.2.before s.2.before r.2.refused s.2.refused r.2.after s.2.after r.2.why s.2.why r.2.reached s.2.reached r.2.refuses s.2.refuses split in
    ap (λ n. opening.IllegalEntry n) (omega (arith, e, r.2.place, s.2.place))
same_fault image (opening.IllegalEntry p) _ r s = absurd s
same_fault image _ other r s = absurd r

-- An image reads as one thing at most.
pub reads_once : (image : List ℕ) (r s : Result (List Entry) OpenFault) → ReadsAs image r → ReadsAs image s → r ≡ s
reads_once image (Ok a) (Ok b) r s = ap (λ l. Ok l) (same_list image a b r.0 s.0)
reads_once image (Ok a) (Err e) r s = absurd (ok_err image a e r s)
reads_once image (Err e) (Ok a) r s = absurd (ok_err image a e s r)
reads_once image (Err e) (Err f) r s = ap (λ x. Err x) (same_fault image e f r s)
