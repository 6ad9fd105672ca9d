-- One step of the rules: the first refusal that applies or, without one, the answer and the state behind it. Each
-- command has a file of its own. Behind each entry the hidden forms that nothing names are gone.
use Rattle.std.specs.Prelude.{◌≡◌, not, Ok}
use Rattle.device_state.specs.declared.state.State.{State}
use Rattle.device_state.specs.Purging.{purged}
use Rattle.field_text.specs.Steps.{◌>>=◌, Tells}
use Rattle.entry_form.specs.declared.command.Command.{Command}
use Rattle.entry_form.specs.declared.command.Command.TheVariants as commands
use Rattle.entry_form.specs.declared.entry.Entry.{Entry}
use Rattle.entry_form.specs.declared.entry.Entry.TheVariants.{Opened, Done}
use Rattle.entry_form.specs.declared.hand.Hand.{Hand}
use Rattle.device_rules.specs.declared.answer.Answer.{Answer}
use Rattle.device_rules.specs.declared.refused.Refused.{Refused}
use Rattle.device_rules.specs.declared.refused.Refused.TheVariants.{BadValue}
use Rattle.device_rules.specs.AutoSend.{auto_send}
use Rattle.device_rules.specs.DropForm.{drop_form}
use Rattle.device_rules.specs.DropInstance.{drop_instance}
use Rattle.device_rules.specs.Fill.{fill}
use Rattle.device_rules.specs.Finalize.{finalize}
use Rattle.device_rules.specs.FinalizeAll.{finalize_all}
use Rattle.device_rules.specs.Leave.{leave}
use Rattle.device_rules.specs.Limits.{is_within_limits}
use Rattle.device_rules.specs.Load.{load}
use Rattle.device_rules.specs.NotBuilt.{not_built}
use Rattle.device_rules.specs.Opened.{opened}
use Rattle.device_rules.specs.Refused.{rule_of}
use Rattle.device_rules.specs.Release.{release}
use Rattle.device_rules.specs.SaveDraft.{save_draft}
use Rattle.device_rules.specs.SendBegun.{send_begun}
use Rattle.device_rules.specs.SendEnded.{send_ended}
use Rattle.device_rules.specs.Start.{start}
use Rattle.device_rules.specs.TakeLock.{take_lock}
use Rattle.device_rules.specs.Tests.{Stepped, refused_if}
use Rattle.device_rules.specs.Tick.{tick}
use Rattle.device_rules.specs.UpdateMode.{update_mode}

-- a hand's command whose values are within their limits
abbrev pub obeyed : State → Hand → Command → Stepped
obeyed state hand (commands.AutoSend on) = auto_send state on
obeyed state hand (commands.UpdateMode mode) = update_mode state mode
obeyed state hand (commands.TakeLock round) = take_lock state hand round
obeyed state hand (commands.Release lock) = release state hand lock
obeyed state hand (commands.Load bytes) = load state hand bytes
obeyed state hand (commands.DropForm id) = drop_form state hand id
obeyed state hand (commands.Start base how) = start state base how
obeyed state hand (commands.Fill path value) = fill state path value
obeyed state hand commands.SaveDraft = save_draft state
obeyed state hand commands.Finalize = finalize state
obeyed state hand commands.FinalizeAll = finalize_all state hand
obeyed state hand commands.Leave = leave state
obeyed state hand (commands.DropInstance number) = drop_instance state hand number
obeyed state hand (commands.SendBegun number at) = send_begun state hand number
obeyed state hand (commands.SendEnded number outcome) = send_ended state hand number outcome
obeyed state hand commands.Tick = tick state
obeyed state hand command = not_built state

-- a command of a hand
abbrev pub commanded : State → Hand → Command → Stepped
commanded state hand command = do
  within ← refused_if (not (is_within_limits command)) BadValue
  obeyed state hand command

abbrev pub entered : State → Entry → Stepped
entered state (Opened opening) = opened state opening
entered state (Done hand command) = commanded state hand command

abbrev pub step : State → Entry → Stepped
step state entry = do
  next ← entered state entry
  Ok (purged next.0, next.1)

-- the rules don't refuse the entry
abbrev pub IsAllowed : State → Entry → Type 0
IsAllowed state entry = (next : State × Answer) × (step state entry ≡ Ok next)

-- the rules refuse the entry so; want of memory is free
abbrev pub IsRefused : State → Entry → Refused → Type 0
IsRefused state entry why = Tells (rule_of why) (step state entry)
