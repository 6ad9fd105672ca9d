-- Proofs of the laws that a caller owes, and no definitions: an implementation may cite only what stands in this
-- folder.
use Rattle.std.specs.Prelude.{◌≡◌, ◌⊎◌, ℕ, ◌+◌, ◌-◌, ◌^◌, ◌≤◌, min, Bool, true, IsTrue, List, [], ◌∷◌, ◌++◌, length}
use Rattle.std.specs.Prelude.{Option, Some, None, option_to_list, is_some, refl}
use Rattle.std.specs.List.{AllByRecursion}
use Rattle.std.proofs.Common.{inl, inr, ⊎_elim, sym, ◌∙◌, ap, subst, arith, append_assoc}
use Rattle.std.proofs.lemmas.List.{append-nil}
use Rattle.field_io.specs.Causes.{Rose}
use Rattle.entry_form.specs.declared.entry.Entry.{Entry}
use Rattle.entry_form.specs.declared.hand.Hand.TheVariants.{Script}
use Rattle.device_state.specs.declared.state.State.{State}
use Rattle.device_rules.specs.Caller.{CallerView, HasLegal, is_of}
use Rattle.device_state.specs.State.{initial}
use Rattle.device_rules.specs.Trail.{entries_of, replay, IsLegal}
use Rattle.device_core.specs.Caller.{seen_of, Leads, LeadsOn}
use Rattle.device_core.specs.Crash.{AddsOnly, HasAtLeast}
use Rattle.device_core.specs.View.{DeviceView, IsReady}
use Rattle.device_core.specs.CrashLaws.{adds_same, adds_then, at_least_less, at_least_more}

pub legal_is : (start : State) (entries : List Entry) → is_some (replay start entries) ≡ true → IsLegal start entries
legal_is start entries is = by (replay start entries) refl is
  where
    by : (o : Option State) → replay start entries ≡ o → is_some o ≡ true → IsLegal start entries
    by None same none = absurd (cc (none))
    by (Some state) same some = (state, same)

pub seen_legal : {D : Type 0} (disk_faults : D → ℕ) (device : DeviceView D) (before refusals closings : ℕ)
    → is_some (replay initial (entries_of device.entries ++ option_to_list device.rest)) ≡ true
    → HasLegal (seen_of disk_faults device before refusals closings)
seen_legal disk_faults device before refusals closings is =
    record { legal = legal_is initial (entries_of device.entries ++ option_to_list device.rest) is }

all_script : (xs ys : List Entry) → AllByRecursion (λ e. IsTrue (is_of Script e)) xs
    → AllByRecursion (λ e. IsTrue (is_of Script e)) ys
    → AllByRecursion (λ e. IsTrue (is_of Script e)) (xs ++ ys)
all_script [] ys p q = q
all_script (x ∷ xs) ys p q = (p.0, all_script xs ys p.1 q)

rose_then : (a b c : ℕ) → Rose a b → b ≤ c → Rose a c
rose_then a b c rose le = omega (arith, rose, le)

then_rose : (a b c : ℕ) → a ≤ b → Rose b c → Rose a c
then_rose a b c le rose = omega (arith, rose, le)

module _ {D : Type 0} (since : D → ℕ → List ℕ → Type 0) (clock disk_faults : D → ℕ) where
  pub leads_same : (device : DeviceView D) → Leads since clock disk_faults device device
  leads_same device = record {
    found = refl;
    opened = refl;
    longer = omega arith;
    more = [];
    script = tt;
    grows = sym (append-nil (entries_of device.entries ++ option_to_list device.rest));
    images = adds_same since clock device.disk device.disk _ refl;
    later = omega arith;
    ready = λ is. inl is;
  }

  pub leads_then : (a b c : DeviceView D) → Leads since clock disk_faults a b → Leads since clock disk_faults b c
      → Leads since clock disk_faults a c
  leads_then a b c first second = record {
    found = second.found ∙ first.found;
    opened = second.opened ∙ first.opened;
    longer = omega (arith, first.longer, second.longer);
    more = first.more ++ second.more;
    script = all_script first.more second.more first.script second.script;
    grows = second.grows ∙ ap (λ l. l ++ second.more) first.grows
        ∙ append_assoc (entries_of a.entries ++ option_to_list a.rest) first.more second.more;
    images = adds_then since clock a.disk b.disk c.disk _ _ _ first.images second.images
        (λ image has. subst (λ (l : List Entry). HasAtLeast l (length a.entries) image) (sym second.grows)
        (at_least_more (entries_of b.entries ++ option_to_list b.rest) second.more (length a.entries) image has))
        (λ image has. at_least_less (entries_of c.entries ++ option_to_list c.rest) (length a.entries)
        (length b.entries) image first.longer has);
    later = omega (arith, first.later, second.later);
    ready = λ is. ⊎_elim
        (λ mid. ⊎_elim (λ end. inl end) (λ rose. inr
        (then_rose (disk_faults a.disk) (disk_faults b.disk) (disk_faults c.disk) first.later rose)) (second.ready mid))
        (λ rose. inr (rose_then (disk_faults a.disk) (disk_faults b.disk) (disk_faults c.disk) rose second.later))
        (first.ready is);
  }

  pub leads_on_same : (before : ℕ) (device : DeviceView D) → LeadsOn since clock disk_faults before before device device
  leads_on_same before device = record { same = refl; leads = leads_same device }

  pub leads_on_then : (x y z : ℕ) (a b c : DeviceView D) → LeadsOn since clock disk_faults x y a b
      → LeadsOn since clock disk_faults y z b c
      → LeadsOn since clock disk_faults x z a c
  leads_on_then x y z a b c first second =
      record { same = second.same ∙ first.same; leads = leads_then a b c first.leads second.leads }
