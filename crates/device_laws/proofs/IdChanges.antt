-- The ids of instances once one of them is changed in nothing that they are told by.
use Rattle.std.proofs.Common.{◌≡◌, ℕ, List, Option, Some, None, arith, sym, ◌∙◌, subst}
use Rattle.std.specs.Option.{IfSome}
use Rattle.device_state.specs.Numbered.{changed_at}
use Rattle.field_ids.specs.Draws.{NextDraw}
use Rattle.instance_store.specs.declared.records.InstanceRec.{InstanceRec}
use Rattle.device_laws.specs.DrawnIds.{AreApart, HasNoIdYet, IsOwned, IsOwner, OwnsId}
use Rattle.device_laws.proofs.Changed.{all_changed}
use Rattle.device_laws.proofs.DrawnIds.{LeavesIds}
use Rattle.device_laws.proofs.Lists.{all_then}

module _ (f : InstanceRec → InstanceRec) (number : ℕ) (kept : List InstanceRec) (draws : NextDraw)
    (same_number : (i : InstanceRec) → (f i).number ≡ i.number)
    (same_id : (i : InstanceRec) → (f i).instance_id ≡ i.instance_id)
    (no_id : (i : InstanceRec) → HasNoIdYet i → HasNoIdYet (f i)) (apart : AreApart kept draws) where
  abbrev left : List InstanceRec
  left = changed_at f number kept

  owned_still : (n : ℕ) (id : List ℕ) → IsOwned kept draws.next n id → IsOwned left draws.next n id
  owned_still n id owns = record {
    drawn = owns.drawn;
    owner = all_changed f number (IsOwner id n)
        (λ i (owner : IsOwner id n i) (is : (f i).instance_id ≡ Some id). same_number i ∙ owner (sym (same_id i) ∙ is))
        kept owns.owner;
  }

  owns_still : (n : ℕ) (o : Option (List ℕ)) → IfSome o (IsOwned kept draws.next n)
      → IfSome o (IsOwned left draws.next n)
  owns_still n None owns = tt
  owns_still n (Some id) owns = owned_still n id owns

  -- what the changed one owns
  moved : (i : InstanceRec) → OwnsId left draws.next i → OwnsId left draws.next (f i)
  moved i owns = subst (λ n. IfSome (f i).instance_id (IsOwned left draws.next n)) (sym (same_number i))
      (subst (λ o. IfSome o (IsOwned left draws.next i.number)) (sym (same_id i)) owns)

  pub changed_leaves : LeavesIds kept draws left draws
  changed_leaves = record {
    apart = record {
      range = apart.range;
      owned = all_changed f number (OwnsId left draws.next) moved kept
          (all_then kept (λ (k : InstanceRec) (owns : OwnsId kept draws.next k).
          owns_still k.number k.instance_id owns) apart.owned);
      drafts = all_changed f number HasNoIdYet no_id kept apart.drafts;
    };
    further = omega arith;
    owned = owned_still;
  }
