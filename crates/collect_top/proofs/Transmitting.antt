-- The exchanges of a call, from those of the lines that it answered.
use Rattle.std.proofs.Common.{◌≡◌, inl, inr, ℕ, ◌-◌, List, [], ◌∷◌, ◌++◌, length, take, drop, Option, refl, ap, sym, ◌∙◌, subst, arith, append_assoc, append-nil, length-append}
use Rattle.std.proofs.Math.Seq.{take-append_seam}
use Rattle.std.specs.List.{AllByRecursion, slice_get}
use Rattle.std.proofs.lemmas.List.{drop_at}
use Rattle.entry_form.specs.declared.entry.Entry.{Entry}
use Rattle.entry_form.specs.declared.entry.Entry.TheVariants.{Opened}
use Rattle.entry_form.specs.declared.entry.Opening.{Opening}
use Rattle.entry_form.specs.declared.hand.Hand.TheVariants.{Script}
use Rattle.field_io.specs.declared.exchange.Exchange.{Exchange}
use Rattle.device_rules.specs.declared.trail.Trail.{Trail}
use Rattle.device_rules.specs.Caller.{Grows, IsCommand}
use Rattle.device_rules.specs.Trail.{entries_of}
use Rattle.device_state.specs.State.{initial}
use Rattle.device_core.specs.Caller.{seen_of}
use Rattle.device_core.specs.View.{DeviceView}
use Rattle.collect_script.proofs.Histories.{slice_get_middle}
use Rattle.collect_top.specs.Outside.{Images}
use Rattle.collect_top.specs.Run.{Closed}
use Rattle.collect_top.specs.Transmissions.{IsBehindOpening, Transmits, Transmitted}
use Rattle.send_workers.specs.Agreement.{AreExchanged, HasExchanged}
use Rattle.send_workers.specs.Rounds.{view}
use Rattle.send_workers.proofs.Agreeing.{goes_none}
use Rattle.send_workers.proofs.Steps.{no_gain}

-- no entries, and no exchanges
pub transmits_none : (carried : Option (List Exchange)) → Transmits [] carried carried
transmits_none carried = record {
  first = 0;
  behind = record { within = omega arith; commands = tt; opening = inl refl };
  turns = [];
  exchanged = goes_none Script [];
  gained = no_gain carried;
}

pub transmitted_none : (h : List Entry) (carried : Option (List Exchange)) → Transmitted h h carried carried
transmitted_none h carried = record {
  added = [];
  joined = sym (append-nil h);
  commands = tt;
  turns = [];
  exchanged = goes_none Script h;
  gained = no_gain carried;
}

module _ (front : List Entry) (opening : Opening) (earlier later : List Entry) (c d : Option (List Exchange))
    (last : earlier ≡ front ++ Opened opening ∷ []) (x : Transmitted earlier later c d) where
  place : length earlier - 1 ≡ length front
  place =
      let e = ap length last in
      let l = length-append front (Opened opening ∷ []) in
      omega (arith, e, l)

  is_later : later ≡ front ++ Opened opening ∷ x.added
  is_later = x.joined ∙ ap (λ (h : List Entry). h ++ x.added) last ∙ append_assoc front (Opened opening ∷ []) x.added

  behind : IsBehindOpening later (length earlier)
  behind = record {
    within = (let e = ap length x.joined in let l = length-append earlier x.added in omega (arith, e, l));
    commands = subst (AllByRecursion IsCommand) (sym (ap (drop (length earlier)) x.joined
        ∙ drop_at earlier x.added (length earlier) refl)) x.commands;
    opening = inr (
      opening,
      ap (λ h. slice_get h (length earlier - 1)) is_later
          ∙ ap (slice_get (front ++ Opened opening ∷ x.added)) place ∙ slice_get_middle front x.added (Opened opening),
    );
  }

  -- behind the opening of a device
  pub transmits_opened : Transmits later c d
  transmits_opened = record {
    first = length earlier;
    behind = behind;
    turns = x.turns;
    exchanged = subst (λ (h : List Entry). AreExchanged initial Script h x.turns later)
        (sym (ap (take (length earlier)) x.joined ∙ take-append_seam earlier x.added)) x.exchanged;
    gained = x.gained;
  }

-- what the lines of a script have exchanged over a device
module _ {D : Type 0} (images : Images D) (faults : D → ℕ) (old made end_device now : DeviceView D)
    (count count_now refusals closings refusals_now closings_now : ℕ) (disk : D) (trail : Trail)
    (c d : Option (List Exchange)) where
  pub transmitted_over : made ≡ old → now ≡ end_device → (added : List Entry)
      → Grows (seen_of faults made count refusals closings) (seen_of faults end_device count_now refusals_now closings_now) added
      → HasExchanged (view (seen_of faults made count refusals closings) c)
      (view (seen_of faults end_device count_now refusals_now closings_now) d)
      → Closed images now disk trail → Transmitted (entries_of old.entries) (entries_of trail.entries) c d
  transmitted_over made_is now_is added grows x closed =
      subst (λ (v : DeviceView D). Transmitted (entries_of v.entries) (entries_of trail.entries) c d) made_is
      (subst (λ h. Transmitted (entries_of made.entries) h c d)
      (ap (λ (v : DeviceView D). entries_of v.entries) (sym now_is) ∙ ap entries_of (sym closed.entries_are))
      (record {
        added = added;
        joined = grows.trail;
        commands = grows.commands;
        turns = x.turns;
        exchanged = x.exchanged;
        gained = x.gained;
      }))
