-- What each entry that is none of a send leaves of the instances, as far as sends go.
use Rattle.std.proofs.Common.{◌≡◌, ◌≢◌, ℕ, List, Bool, false, Ok, refl, arith, sym, subst}
use Rattle.std.specs.Prelude.{◌==◌, not}
use Rattle.std.specs.List.{list_any}
use Rattle.std.proofs.lemmas.Bool.Decides.{nat_tests}
use Rattle.field_text.proofs.StepLemmas.{then_ok}
use Rattle.device_rules.specs.AutoSend.{auto_send}
use Rattle.device_rules.specs.declared.answer.Answer.{Answer}
use Rattle.device_rules.specs.declared.refused.Refused.TheVariants.{NoForm}
use Rattle.device_rules.specs.DropForm.{drop_form}
use Rattle.device_rules.specs.DropInstance.{drop_instance, without}
use Rattle.device_rules.specs.Fill.{fill, filled}
use Rattle.device_rules.specs.Finalize.{finalize, finalized_as, finish, kept_final}
use Rattle.device_rules.specs.FinalizeAll.{batch_of, finalize_all, finalized_all}
use Rattle.device_rules.specs.Holders.{free_for}
use Rattle.device_rules.specs.Leave.{leave}
use Rattle.device_rules.specs.Load.{load, load_by, load_read, put_form, read_form}
use Rattle.device_rules.specs.NotBuilt.{not_built}
use Rattle.device_rules.specs.SaveDraft.{draft_of, name_of, save_draft, saved}
use Rattle.device_rules.specs.Start.{begun, opened_with, source_of, start}
use Rattle.device_rules.specs.Tests.{not_full, open_entry, refused_if}
use Rattle.device_rules.specs.Tick.{tick}
use Rattle.device_rules.specs.UpdateMode.{update_mode}
use Rattle.device_state.specs.declared.state.State.{State}
use Rattle.entity_lists.specs.EntityTables.{tables_of}
use Rattle.entry_form.specs.declared.command.Base.{Base}
use Rattle.entry_form.specs.declared.command.Command.TheVariants as commands
use Rattle.entry_form.specs.declared.command.How.{How}
use Rattle.entry_form.specs.declared.entry.Entry.{Entry}
use Rattle.entry_form.specs.declared.entry.Entry.TheVariants.{Done}
use Rattle.entry_form.specs.declared.hand.Hand.{Hand}
use Rattle.field_text.specs.declared.mode.Mode.{Mode}
use Rattle.form_store.specs.declared.records.Check.{Check}
use Rattle.form_store.specs.declared.records.Check.TheVariants.{Fresh, Same, OtherBytes, Full}
use Rattle.form_store.specs.Forms.{check, is_shown}
use Rattle.kept_forms.specs.KeptForms.{id_of, version_of}
use Rattle.device_laws.specs.Finals.{IsOrderly}
use Rattle.device_laws.proofs.Finals.{each_with}
use Rattle.device_laws.proofs.Following.{came}
use Rattle.device_laws.proofs.Leaving.{open_base}
use Rattle.device_laws.proofs.Lists.{IsAmong}
use Rattle.device_laws.proofs.Made.{dropping}
use Rattle.device_laws.proofs.Numbers.{numbers_each}
use Rattle.device_laws.proofs.Passing.{IsSentBy, PassesOn, changed_sent, dropped_among, later_on, put_sent, same_passes}
use Rattle.device_laws.proofs.Passing.{with_among}
use Rattle.device_laws.proofs.Rows.{all_dropped}

module _ (entry : Entry) (state : State) (x : State × Answer) where
  pub auto_passes : (on : Bool) → auto_send state on ≡ Ok x → PassesOn entry state x.0
  auto_passes on is = came (PassesOn entry state) _ _ x (then_ok (not_full state) _ x is).2
      (same_passes entry state _ refl refl refl refl)

  pub mode_passes : (mode : Mode) → update_mode state mode ≡ Ok x → PassesOn entry state x.0
  mode_passes mode is = came (PassesOn entry state) _ _ x (then_ok (not_full state) _ x is).2
      (same_passes entry state _ refl refl refl refl)

  pub tick_passes : tick state ≡ Ok x → PassesOn entry state x.0
  tick_passes is = came (PassesOn entry state) _ _ x (then_ok (not_full state) _ x is).2
      (same_passes entry state _ refl refl refl refl)

  pub not_built_passes : not_built state ≡ Ok x → PassesOn entry state x.0
  not_built_passes is = absurd (cc ((then_ok (not_full state) _ x is).2))

  -- ---- forms and the open questionnaire

  put_passes : (bytes : List ℕ) → put_form state bytes ≡ Ok x → PassesOn entry state x.0
  put_passes bytes is = came (PassesOn entry state) _ _ x (then_ok (not_full state) _ x is).2
      (same_passes entry state _ refl refl refl refl)

  load_by_passes : (bytes : List ℕ) (met : Check) → load_by state bytes met ≡ Ok x → PassesOn entry state x.0
  load_by_passes bytes Fresh is = put_passes bytes is
  load_by_passes bytes (Same place) is = put_passes bytes is
  load_by_passes bytes (OtherBytes place) is = absurd (cc is)
  load_by_passes bytes Full is = absurd (cc is)

  load_read_passes : (bytes : List ℕ) → load_read state bytes ≡ Ok x → PassesOn entry state x.0
  load_read_passes bytes is =
      let form = then_ok (read_form bytes) _ x is in
      load_by_passes form.0 (check (id_of form.0) (version_of form.0) form.0 state.forms.items) form.2

  pub load_passes : (hand : Hand) (bytes : List ℕ) → load state hand bytes ≡ Ok x → PassesOn entry state x.0
  load_passes hand bytes is = load_read_passes bytes (then_ok (free_for hand state.locks.forms) _ x is).2

  pub drop_form_passes : (hand : Hand) (id : List ℕ) → drop_form state hand id ≡ Ok x → PassesOn entry state x.0
  drop_form_passes hand id is =
      let nobody = then_ok (free_for hand state.locks.forms) _ x is in
      let there = then_ok (refused_if (not (list_any (is_shown id) state.forms.items)) NoForm) _ x nobody.2 in
      came (PassesOn entry state) _ _ x (then_ok (not_full state) _ x there.2).2
      (same_passes entry state _ refl refl refl refl)

  pub start_passes : (base : Base) (how : How) → start state base how ≡ Ok x → PassesOn entry state x.0
  start_passes base how is =
      let source = then_ok (source_of state base how) _ x is in
      let with_what = then_ok (begun state how source.0) _ x source.2 in
      let left = opened_with state source.0 with_what.0.0 with_what.0.1 in
      came (PassesOn entry state) left _ x with_what.2 (same_passes entry state left refl refl refl refl)

  pub fill_passes : (path value : List ℕ) → fill state path value ≡ Ok x → PassesOn entry state x.0
  fill_passes path value is =
      let entered = then_ok (open_entry state) _ x is in
      let sheet = then_ok (filled (tables_of state.lists.items) entered.0 path value) _ x entered.2 in
      came (PassesOn entry state) _ _ x (then_ok (not_full state) _ x sheet.2).2
      (same_passes entry state _ refl refl refl refl)

  pub leave_passes : leave state ≡ Ok x → PassesOn entry state x.0
  leave_passes is =
      let entered = then_ok (open_entry state) _ x is in
      came (PassesOn entry state) _ _ x (then_ok (not_full state) _ x entered.2).2
      (same_passes entry state _ refl refl refl refl)

  -- ---- instances

  pub save_passes : IsOrderly state → save_draft state ≡ Ok x → PassesOn entry state x.0
  save_passes orderly is =
      let entered = then_ok (open_entry state) _ x is in
      let name = then_ok (name_of state entered.0.base) _ x entered.2 in
      let left = saved state entered.0 name.0 in
      let item = draft_of name.0 entered.0 in
      let right = open_base state entered.0 entered.1 orderly in
      came (PassesOn entry state) left _ x (then_ok (not_full state) _ x name.2).2 (record {
        sent = λ g none all. put_sent state name.0 item refl refl g none all entered.0.base name.1 right;
        kept = λ n off among. with_among entered.0.base item state.instances.items n among;
        later = later_on entered.0.base state.counters;
        flights = refl;
        holder = refl;
      })

  pub finalize_passes : IsOrderly state → finalize state ≡ Ok x → PassesOn entry state x.0
  finalize_passes orderly is =
      let entered = then_ok (open_entry state) _ x is in
      let done = then_ok (finish state state.lists.items state.counters.draws entered.0) _ x entered.2 in
      let name = then_ok (name_of state entered.0.base) _ x done.2 in
      let left = kept_final state entered.0 done.0 name.0 in
      let item = finalized_as state entered.0 name.0 done.0.last in
      let right = open_base state entered.0 entered.1 orderly in
      came (PassesOn entry state) left _ x (then_ok (not_full state) _ x name.2).2 (record {
        sent = λ g none all. put_sent state name.0 item refl refl g none all entered.0.base name.1 right;
        kept = λ n off among. with_among entered.0.base item state.instances.items n among;
        later = later_on entered.0.base state.counters;
        flights = refl;
        holder = refl;
      })

  pub finalize_all_passes : (hand : Hand) → finalize_all state hand ≡ Ok x → PassesOn entry state x.0
  finalize_all_passes hand is =
      let nobody = then_ok (free_for hand state.locks.instances) _ x is in
      let changed = (batch_of state).changed in
      let kept = state.instances.items in
      came (PassesOn entry state) (finalized_all state (batch_of state)) _ x (then_ok (not_full state) _ x nobody.2).2
      (record {
        sent = λ g none all. each_with (IsSentBy g) changed kept (changed_sent state g all) all;
        kept = λ n off among. subst (λ ns. IsAmong ns n) (sym (numbers_each changed kept)) among;
        later = omega arith;
        flights = refl;
        holder = refl;
      })

pub not_same : (m n : ℕ) → (m == n) ≡ false → m ≢ n
not_same m n fails same = absurd (grind (arith, nat_tests, fails, same))

pub drop_instance_passes : (state : State) (hand : Hand) (number : ℕ) (x : State × Answer)
    → drop_instance state hand number ≡ Ok x → PassesOn (Done hand (commands.DropInstance number)) state x.0
drop_instance_passes state hand number x is =
    let entry = Done hand (commands.DropInstance number) in
    let kept = state.instances.items in
    came (PassesOn entry state) (without state number) _ x (dropping state hand number x is).made (record {
      sent = λ g none all. all_dropped (IsSentBy g) number kept all;
      kept = λ n off among. dropped_among kept number n (not_same number n off) among;
      later = omega arith;
      flights = refl;
      holder = refl;
    })
