-- The fields of `meta` stand in document order, since there is one entity.
use Rattle.std.specs.Prelude.{◌≡◌, ℕ, Bool, true, false, ◌||◌, if◌then◌else◌, List, [], ◌∷◌, ◌++◌, Option, Some, None, Result, Ok, Err, refl}
use Rattle.std.specs.List.{flat_map}
use Rattle.std.proofs.Common.{ap, sym, ◌∙◌, subst}
use Rattle.std.proofs.Math.Bool.{or-false}
use Rattle.form_outline.specs.declared.outline.EntityPart.{EntityPart}
use Rattle.form_outline.specs.declared.outline.PrimaryField.{PrimaryField}
use Rattle.form_outline.specs.declared.outline.PrimaryPart.{PrimaryPart}
use Rattle.form_outline.specs.declared.outline.PrimaryPart.TheVariants.{Field, Meta, Entity}
use Rattle.form_read.specs.Primary.{entity_path, has_path, is_no_entity, part_taken, parts_taken, path_taken, paths_taken}
use Rattle.form_read.specs.Refusals.{◌>>=◌}
use Rattle.form_read.specs.Slots.{inside_meta, is_entity, meta_slots}
use Rattle.form_read.specs.declared.primary.Seen.{Seen}
use Rattle.form_read.specs.declared.refusal.FormRefused.{FormRefused}
use Rattle.form_read.specs.declared.refusal.FormRefused.TheVariants.{BadEntity}
use Rattle.outline_laws.specs.FormFields.{in_meta}

-- what a part that was taken gives of `meta`
record IsTaken (seen next : Seen) (p : PrimaryPart) : Type 0 where
  pub fields : inside_meta seen.has_entity p ≡ in_meta p
  pub entity : next.has_entity ≡ (seen.has_entity || is_entity p)

field_taken_so : (seen next : Seen) (f : PrimaryField) (r : Result (List (List ℕ)) FormRefused)
    → (r >>= λ paths. Ok (record { paths = paths; has_entity = seen.has_entity })) ≡ Ok next → next.has_entity ≡ (seen.has_entity || false)
field_taken_so seen next f (Ok paths) is = (let same : seen.has_entity ≡ next.has_entity = cc in sym same) ∙ sym (or-false seen.has_entity)
field_taken_so seen next f (Err why) is = absurd (cc (is))

entity_fields_so : (next : Seen) (r : Result (List (List ℕ)) FormRefused) → (r >>= λ paths. Ok (record { paths = paths; has_entity = true })) ≡ Ok next → next.has_entity ≡ true
entity_fields_so next (Ok paths) is = (let same : true ≡ next.has_entity = cc in sym same)
entity_fields_so next (Err why) is = absurd (cc (is))

entity_so : (root : List ℕ) (seen next : Seen) (e : EntityPart) (has : Bool) (dataset : Option (List ℕ)) → seen.has_entity ≡ has
    → (if is_no_entity has dataset then Err (BadEntity (entity_path root)) else (paths_taken seen.paths e.fields >>= λ paths. Ok (record { paths = paths; has_entity = true }))) ≡ Ok next
    → IsTaken seen next (Entity e)
entity_so root seen next e has None is taken = absurd (cc (taken))
entity_so root seen next e true (Some dataset) is taken = absurd (cc (taken))
entity_so root seen next e false (Some dataset) is taken = record {
  fields = rw is refl;
  entity = entity_fields_so next (paths_taken seen.paths e.fields) taken ∙ rw is refl;
}

part_so : (root : List ℕ) (seen next : Seen) (p : PrimaryPart) → part_taken root seen p ≡ Ok next → IsTaken seen next p
part_so root seen next (Field f) taken = record { fields = refl; entity = field_taken_so seen next f (path_taken seen.paths f.path) taken }
part_so root seen next (Meta f) taken = record { fields = refl; entity = field_taken_so seen next f (path_taken seen.paths f.path) taken }
part_so root seen next (Entity e) taken = entity_so root seen next e seen.has_entity e.dataset refl taken

pub meta_in_order : (root : List ℕ) (parts : List PrimaryPart) (seen after : Seen) → parts_taken root seen parts ≡ Ok after
    → meta_slots seen.has_entity parts ≡ flat_map in_meta parts
meta_in_order root [] seen after taken = refl
meta_in_order root (p ∷ ps) seen after taken = by (λ next. meta_in_order root ps next after) (part_taken root seen p) refl taken
  where
    by : ((next : Seen) → parts_taken root next ps ≡ Ok after → meta_slots next.has_entity ps ≡ flat_map in_meta ps)
        → (r : Result Seen FormRefused) → part_taken root seen p ≡ r → (r >>= λ next. parts_taken root next ps) ≡ Ok after
        → meta_slots seen.has_entity (p ∷ ps) ≡ flat_map in_meta (p ∷ ps)
    by further (Ok next) is rest =
        let so = part_so root seen next p is in
        ap (λ fs. fs ++ meta_slots (seen.has_entity || is_entity p) ps) so.fields
        ∙ ap (λ fs. in_meta p ++ fs) (ap (λ b. meta_slots b ps) (sym so.entity) ∙ further next rest)
    by further (Err why) is rest = absurd (cc (rest))
