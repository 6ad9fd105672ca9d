-- What the parts of the primary instance are refused for, by the paths and the entities before them.
use Rattle.std.specs.Prelude.{◌≡◌, ℕ, Bool, true, false, ◌||◌, if◌then◌else◌, List, [], ◌∷◌, ◌++◌, map, Option, Some, None, Result, Ok, Err, refl}
use Rattle.std.specs.List.{flat_map, list_any}
use Rattle.std.proofs.Common.{ap, sym, ◌∙◌, subst, append_assoc}
use Rattle.std.proofs.Math.Bool.{or-false}
use Rattle.std.proofs.lemmas.List.{append-nil}
use Rattle.std.proofs.lemmas.List.Folds.{list_any-append}
use Rattle.form_outline.specs.declared.outline.EntityPart.{EntityPart}
use Rattle.form_outline.specs.declared.outline.PrimaryField.{PrimaryField}
use Rattle.form_outline.specs.declared.outline.PrimaryPart.{PrimaryPart}
use Rattle.form_outline.specs.declared.outline.PrimaryPart.TheVariants.{Field, Meta, Entity}
use Rattle.form_read.specs.Primary.{entity_path, entity_taken, has_path, is_no_entity, nothing_seen, part_taken, parts_taken, path_taken, paths_taken}
use Rattle.form_read.specs.Refusals.{◌>>=◌}
use Rattle.form_read.specs.Slots.{is_entity}
use Rattle.form_read.specs.declared.primary.Seen.{Seen}
use Rattle.form_read.specs.declared.refusal.FormRefused.{FormRefused}
use Rattle.form_read.specs.declared.refusal.FormRefused.TheVariants.{BadEntity, UnknownPath}
use Rattle.outline_laws.specs.Causes.{causes, first_cause, refusal_in}
use Rattle.outline_laws.specs.FirstRefusals.{entity_cause, path_cause, path_cause_behind, path_of, paths_in, primary_cause}
use Rattle.outline_laws.proofs.Folding.{Folded, Tracked, folds}

flat_more : (xs : List PrimaryPart) (p : PrimaryPart) → flat_map paths_in (xs ++ p ∷ []) ≡ flat_map paths_in xs ++ paths_in p
flat_more [] p = append-nil (paths_in p)
flat_more (x ∷ xs) p = ap (λ ps. paths_in x ++ ps) (flat_more xs p) ∙ sym (append_assoc (paths_in x) (flat_map paths_in xs) (paths_in p))

map_more : (xs : List PrimaryField) (f : PrimaryField) → map path_of (xs ++ f ∷ []) ≡ map path_of xs ++ f.path ∷ []
map_more [] f = refl
map_more (x ∷ xs) f = ap (λ ps. x.path ∷ ps) (map_more xs f)

-- ---- the fields of one part

module _ (known : List (List ℕ)) where
  abbrev keeps_paths : List PrimaryField → List (List ℕ) → Type 0
  keeps_paths before paths = paths ≡ known ++ map path_of before

  abbrev taken_by : List (List ℕ) → PrimaryField → Result (List (List ℕ)) FormRefused
  taken_by paths f = path_taken paths f.path

  path_tracked : (before : List PrimaryField) (paths : List (List ℕ)) (f : PrimaryField) → keeps_paths before paths
      → Tracked keeps_paths (path_cause_behind known) before f (taken_by paths f)
  path_tracked before paths f is = subst (λ ps. Tracked keeps_paths (path_cause_behind known) before f (taken_by ps f)) (sym is) (by (has_path (known ++ map path_of before) f.path) refl)
    where
      by : (b : Bool) → has_path (known ++ map path_of before) f.path ≡ b
          → Tracked keeps_paths (path_cause_behind known) before f (taken_by (known ++ map path_of before) f)
      by true has = rw has (rw has refl)
      by false has = rw has (rw has refl, append_assoc known (map path_of before) (f.path ∷ []) ∙ ap (λ ps. known ++ ps) (sym (map_more before f)))

  pub paths_folded : (fields : List PrimaryField) → Folded keeps_paths (path_cause_behind known) [] fields (paths_taken known fields)
  paths_folded fields = folds keeps_paths (path_cause_behind known) taken_by paths_taken (λ paths. refl) (λ paths f fs. refl) path_tracked [] known fields (sym (append-nil known))

-- ---- the parts

pub record AreSeen (before : List PrimaryPart) (seen : Seen) : Type 0 where
  pub paths : seen.paths ≡ flat_map paths_in before
  pub entity : seen.has_entity ≡ list_any is_entity before

abbrev seen_as : List (List ℕ) → Bool → Seen
seen_as paths has_entity = record { paths = paths; has_entity = has_entity }

any_more : (before : List PrimaryPart) (p : PrimaryPart) (has : Bool) → has ≡ list_any is_entity before → is_entity p ≡ false → has ≡ list_any is_entity (before ++ p ∷ [])
any_more before p has is not_one =
    is ∙ sym (or-false (list_any is_entity before)) ∙ ap (λ b. list_any is_entity before || b) (sym (ap (λ b. b || false) not_one)) ∙ sym (list_any-append is_entity before (p ∷ []))

or-true : (b : Bool) → b || true ≡ true
or-true true = refl
or-true false = refl

any_entity : (before : List PrimaryPart) (e : EntityPart) → true ≡ list_any is_entity (before ++ Entity e ∷ [])
any_entity before e = sym (list_any-append is_entity before (Entity e ∷ []) ∙ or-true (list_any is_entity before))

module _ (root : List ℕ) where
  -- a field, which is the one path of its part
  one_tracked : (before : List PrimaryPart) (seen : Seen) (p : PrimaryPart) (f : PrimaryField) → paths_in p ≡ f.path ∷ [] → is_entity p ≡ false
      → primary_cause root before p ≡ path_cause (flat_map paths_in before) f → AreSeen before seen
      → Tracked AreSeen (primary_cause root) before p (path_taken seen.paths f.path >>= λ paths. Ok (seen_as paths seen.has_entity))
  one_tracked before seen p f one not_entity cause h = by (has_path seen.paths f.path) refl
    where
      by : (b : Bool) → has_path seen.paths f.path ≡ b
          → Tracked AreSeen (primary_cause root) before p (path_taken seen.paths f.path >>= λ paths. Ok (seen_as paths seen.has_entity))
      by true has = rw has (cause ∙ ap (λ ps. path_cause ps f) (sym h.paths) ∙ rw has refl)
      by false has = rw has (
        cause ∙ ap (λ ps. path_cause ps f) (sym h.paths) ∙ rw has refl,
        record {
          paths = ap (λ ps. ps ++ f.path ∷ []) h.paths ∙ ap (λ ps. flat_map paths_in before ++ ps) (sym one) ∙ sym (flat_more before p);
          entity = any_more before p seen.has_entity h.entity not_entity;
        },
      )

  -- the entity, whose paths are taken one after the other
  entity_on : (before : List PrimaryPart) (e : EntityPart) (known : List (List ℕ)) → known ≡ flat_map paths_in before
      → is_no_entity (list_any is_entity before) e.dataset ≡ false → (r : Result (List (List ℕ)) FormRefused)
      → Folded (keeps_paths known) (path_cause_behind known) [] e.fields r
      → Tracked AreSeen (primary_cause root) before (Entity e) (r >>= λ paths. Ok (seen_as paths true))
  entity_on before e known is free (Ok paths) h = (
    rw free (ap (λ ps. first_cause (causes (path_cause_behind ps) [] e.fields)) (sym is) ∙ h.0),
    record { paths = h.1 ∙ ap (λ ps. ps ++ map path_of e.fields) is ∙ sym (flat_more before (Entity e)); entity = any_entity before e },
  )
  entity_on before e known is free (Err why) h = rw free (ap (λ ps. first_cause (causes (path_cause_behind ps) [] e.fields)) (sym is) ∙ h)

  entity_tracked : (before : List PrimaryPart) (seen : Seen) (e : EntityPart) → AreSeen before seen
      → Tracked AreSeen (primary_cause root) before (Entity e) (entity_taken root seen e)
  entity_tracked before seen e h = subst (λ has. Tracked AreSeen (primary_cause root) before (Entity e)
      (if is_no_entity has e.dataset then Err (BadEntity (entity_path root)) else (paths_taken seen.paths e.fields >>= λ paths. Ok (seen_as paths true))))
      (sym h.entity) (by (is_no_entity (list_any is_entity before) e.dataset) refl)
    where
      by : (b : Bool) → is_no_entity (list_any is_entity before) e.dataset ≡ b
          → Tracked AreSeen (primary_cause root) before (Entity e) (if is_no_entity (list_any is_entity before) e.dataset then Err (BadEntity (entity_path root)) else (paths_taken seen.paths e.fields >>= λ paths. Ok (seen_as paths true)))
      by true bad = rw bad (rw bad refl)
      by false bad = subst (λ b. Tracked AreSeen (primary_cause root) before (Entity e) (if b then Err (BadEntity (entity_path root)) else (paths_taken seen.paths e.fields >>= λ paths. Ok (seen_as paths true))))
          (sym bad) (entity_on before e seen.paths h.paths bad (paths_taken seen.paths e.fields) (paths_folded seen.paths e.fields))

  part_tracked : (before : List PrimaryPart) (seen : Seen) (p : PrimaryPart) → AreSeen before seen
      → Tracked AreSeen (primary_cause root) before p (part_taken root seen p)
  part_tracked before seen (Field f) h = one_tracked before seen (Field f) f refl refl refl h
  part_tracked before seen (Meta f) h = one_tracked before seen (Meta f) f refl refl refl h
  part_tracked before seen (Entity e) h = entity_tracked before seen e h

  parts_folded : (parts : List PrimaryPart) → Folded AreSeen (primary_cause root) [] parts (parts_taken root nothing_seen parts)
  parts_folded parts = folds AreSeen (primary_cause root) (part_taken root) (parts_taken root) (λ seen. refl) (λ seen p ps. refl) part_tracked [] nothing_seen parts
      (record { paths = refl; entity = refl })

  -- the primary instance is refused for the first cause
  pub primary_refusal : (parts : List PrimaryPart) → refusal_in (parts_taken root nothing_seen parts) ≡ first_cause (causes (primary_cause root) [] parts)
  primary_refusal parts = by (parts_taken root nothing_seen parts) (parts_folded parts)
    where
      by : (r : Result Seen FormRefused) → Folded AreSeen (primary_cause root) [] parts r → refusal_in r ≡ first_cause (causes (primary_cause root) [] parts)
      by (Ok seen) h = sym h.0
      by (Err why) h = sym h
