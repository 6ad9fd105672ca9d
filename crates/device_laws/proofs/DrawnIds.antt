-- The ids of instances through each change of the list.
use Rattle.std.proofs.Common.{◌≡◌, ◌≢◌, ℕ, ◌≤◌, List, ◌++◌, Option, Some}
use Rattle.std.proofs.Common.{None, refl, arith, sym, ◌∙◌, ap, subst}
use Rattle.std.specs.Prelude.{codes, drop}
use Rattle.std.specs.List.{AllByRecursion}
use Rattle.std.specs.Option.{IfSome}
use Rattle.field_ids.specs.Draws.{IsInRange, NextDraw, drawn}
use Rattle.field_ids.specs.Ids.{id_of, text_of_id}
use Rattle.field_ids.proofs.IdLemmas.{same_draw}
use Rattle.instance_store.specs.declared.records.InstanceRec.{InstanceRec}
use Rattle.device_laws.specs.DrawnIds.{AreApart, HasNoIdYet, IsDrawnFrom, IsOwned, IsOwner, OwnsId}
use Rattle.device_laws.proofs.Lists.{all_then}

-- ---- ids

same_behind : (one other : List ℕ) → codes "uuid:" ++ one ≡ codes "uuid:" ++ other → one ≡ other
same_behind one other same = ap (drop 5) same

-- an id that is drawn later is another one
pub drawn_later : (least middle next : ℕ) (one other : List ℕ) → IsDrawnFrom least middle one
    → IsDrawnFrom middle next other → one ≢ other
drawn_later least middle next one other x y same =
    let draw = same_draw x.device x.counter y.device y.counter x.device_fits x.counter_fits y.device_fits y.counter_fits
    (same_behind (text_of_id (id_of x.device x.counter)) (text_of_id (id_of y.device y.counter))
    (sym x.text ∙ same ∙ y.text)) in
    omega (arith, draw.1, x.below, y.from)

pub grown : (least lower next later : ℕ) (id : List ℕ) → lower ≤ least → next ≤ later → IsDrawnFrom least next id
    → IsDrawnFrom lower later id
grown least lower next later id down up x = record {
  device = x.device;
  counter = x.counter;
  device_fits = x.device_fits;
  counter_fits = x.counter_fits;
  from = omega (arith, down, x.from);
  below = omega (arith, up, x.below);
  text = x.text;
}

-- ---- a change of the list

-- what is left of a list and draws: ids are apart, and an id that was an instance's own stays so
pub record LeavesIds (kept : List InstanceRec) (draws : NextDraw) (left : List InstanceRec) (after : NextDraw) : Type 0
  where
    pub apart : AreApart left after
    pub further : draws.next ≤ after.next
    pub owned : (number : ℕ) (id : List ℕ) → IsOwned kept draws.next number id → IsOwned left after.next number id

pub leaves_then : (a b c : List InstanceRec) (d e f : NextDraw) → LeavesIds a d b e → LeavesIds b e c f
    → LeavesIds a d c f
leaves_then a b c d e f one other = record {
  apart = other.apart;
  further = omega (arith, one.further, other.further);
  owned = λ number id owns. other.owned number id (one.owned number id owns);
}

pub leaves_itself : (kept : List InstanceRec) (draws : NextDraw) → AreApart kept draws → LeavesIds kept draws kept draws
leaves_itself kept draws apart = record { apart = apart; further = omega arith; owned = λ number id owns. owns }

-- what holds of all that were kept holds of all that are left, where it holds of the item
abbrev pub HoldsOn : InstanceRec → List InstanceRec → List InstanceRec → Type 1
HoldsOn item kept left = (P : InstanceRec → Type 0) → P item → AllByRecursion P kept → AllByRecursion P left

-- no id, or one that is drawn now
abbrev pub HasNewId : NextDraw → NextDraw → InstanceRec → Type 0
HasNewId draws after item = IfSome item.instance_id (IsDrawnFrom draws.next after.next)

module _ (item : InstanceRec) (kept left : List InstanceRec) (draws after : NextDraw) (apart : AreApart kept draws)
    (further : draws.next ≤ after.next) (new : HasNewId draws after item) (holds : HoldsOn item kept left) where
  not_others : (number : ℕ) (id : List ℕ) (k : InstanceRec) → IsDrawnFrom draws.next after.next id
      → OwnsId kept draws.next k → IsOwner id number k
  not_others number id k drawn owns is = absurd (drawn_later 0 draws.next after.next id id
      (subst (λ o. IfSome o (IsOwned kept draws.next k.number)) is owns).drawn drawn refl)

  not_item : (number : ℕ) (id : List ℕ) → IsOwned kept draws.next number id → IsOwner id number item
  not_item number id owns is = absurd (drawn_later 0 draws.next after.next id id owns.drawn
      (subst (λ o. IfSome o (IsDrawnFrom draws.next after.next)) is new) refl)

  still_owned : (number : ℕ) (id : List ℕ) → IsOwned kept draws.next number id → IsOwned left after.next number id
  still_owned number id owns = record {
    drawn = grown 0 0 draws.next after.next id (omega arith) further owns.drawn;
    owner = holds (IsOwner id number) (not_item number id owns) owns.owner;
  }

  item_owns : (o : Option (List ℕ)) → IfSome o (IsDrawnFrom draws.next after.next)
      → IfSome o (IsOwned left after.next item.number)
  item_owns None drawn = tt
  item_owns (Some id) drawn = record {
    drawn = grown draws.next 0 after.next after.next id (omega arith) (omega arith) drawn;
    owner = holds (IsOwner id item.number) (λ is. refl)
        (all_then kept (λ (k : InstanceRec) (owns : OwnsId kept draws.next k). not_others item.number id k drawn owns)
        apart.owned);
  }

  other_owns : (number : ℕ) (o : Option (List ℕ)) → IfSome o (IsOwned kept draws.next number)
      → IfSome o (IsOwned left after.next number)
  other_owns number None owns = tt
  other_owns number (Some id) owns = still_owned number id owns

  pub put_leaves : IsInRange after → HasNoIdYet item → LeavesIds kept draws left after
  put_leaves range draft = record {
    apart = record {
      range = range;
      owned = holds (OwnsId left after.next) (item_owns item.instance_id new)
          (all_then kept (λ (k : InstanceRec) (owns : OwnsId kept draws.next k).
          other_owns k.number k.instance_id owns) apart.owned);
      drafts = holds HasNoIdYet draft apart.drafts;
    };
    further = further;
    owned = still_owned;
  }

-- what holds of all that were kept holds of all that are left
abbrev pub HoldsOf : List InstanceRec → List InstanceRec → Type 1
HoldsOf kept left = (P : InstanceRec → Type 0) → AllByRecursion P kept → AllByRecursion P left

module _ (kept left : List InstanceRec) (draws after : NextDraw) (apart : AreApart kept draws)
    (same : after.next ≡ draws.next) (holds : HoldsOf kept left) where
  owned_there : (number : ℕ) (id : List ℕ) → IsOwned kept draws.next number id → IsOwned left after.next number id
  owned_there number id owns = record {
    drawn = grown 0 0 draws.next after.next id (omega arith) (omega (arith, same)) owns.drawn;
    owner = holds (IsOwner id number) owns.owner;
  }

  owns_there : (number : ℕ) (o : Option (List ℕ)) → IfSome o (IsOwned kept draws.next number)
      → IfSome o (IsOwned left after.next number)
  owns_there number None owns = tt
  owns_there number (Some id) owns = owned_there number id owns

  pub gone_leaves : IsInRange after → LeavesIds kept draws left after
  gone_leaves range = record {
    apart = record {
      range = range;
      owned = holds (OwnsId left after.next) (all_then kept (λ (k : InstanceRec) (owns : OwnsId kept draws.next k).
          owns_there k.number k.instance_id owns) apart.owned);
      drafts = holds HasNoIdYet apart.drafts;
    };
    further = omega (arith, same);
    owned = owned_there;
  }
