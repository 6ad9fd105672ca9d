-- The limits of what a command carries.
use Rattle.std.specs.Prelude.{ℕ, ◌^◌, ◌&&◌, Bool, true, nat_le, nat_lt, List, [], length, Option, Some, None}
use Rattle.entry_form.specs.declared.command.Base.{Base}
use Rattle.entry_form.specs.declared.command.Base.TheVariants.{Blank, Draft, Edit}
use Rattle.entry_form.specs.declared.command.Command.{Command}
use Rattle.entry_form.specs.declared.command.Command.TheVariants as commands
use Rattle.entry_form.specs.declared.command.Outcome.{Outcome}
use Rattle.entry_form.specs.declared.command.Outcome.TheVariants.{Reply, Fault}
use Rattle.entry_form.specs.declared.entry.Entry.{Entry}
use Rattle.entry_form.specs.declared.entry.Entry.TheVariants.{Opened, Done}

-- how many entries a device holds at most
abbrev pub most_entries : ℕ
most_entries = 2 ^ 62

-- how many bytes the payload of a journal has at most, and the journal itself
abbrev pub largest_payload : ℕ
largest_payload = 524283

abbrev pub largest_journal : ℕ
largest_journal = 134217728

-- a text other than an answer has at most 4,096 bytes
abbrev pub is_short : List ℕ → Bool
is_short text = nat_le (length text) 4096

abbrev pub is_form_short : List ℕ → Bool
is_form_short bytes = nat_le (length bytes) 262144

abbrev pub is_reply_short : List ℕ → Bool
is_reply_short bytes = nat_le (length bytes) 300000

-- a moment is before the year 10000
abbrev pub is_moment : ℕ → Bool
is_moment at = nat_lt at 253402300800

abbrev pub is_version_short : Option (List ℕ) → Bool
is_version_short None = true
is_version_short (Some version) = is_short version

abbrev pub is_base_short : Base → Bool
is_base_short (Blank form version) = is_short form && is_version_short version
is_base_short (Draft number) = true
is_base_short (Edit number) = true

abbrev pub is_outcome_short : Outcome → Bool
is_outcome_short (Reply bytes) = is_reply_short bytes
is_outcome_short (Fault stage) = true

-- Each text, blob and moment of the command is within its limit. An answer has no limit here: a question tells it.
abbrev pub is_within_limits : Command → Bool
is_within_limits (commands.AutoSend on) = true
is_within_limits (commands.UpdateMode mode) = true
is_within_limits (commands.TakeLock round) = true
is_within_limits (commands.Release lock) = true
is_within_limits (commands.Load form) = is_form_short form
is_within_limits (commands.Ask id) = is_short id
is_within_limits (commands.Fetched job at outcome) = is_moment at && is_outcome_short outcome
is_within_limits commands.RoundDone = true
is_within_limits (commands.DropForm id) = is_short id
is_within_limits (commands.Start base how) = is_base_short base
is_within_limits (commands.Fill path value) = is_short path
is_within_limits commands.SaveDraft = true
is_within_limits commands.Leave = true
is_within_limits commands.Finalize = true
is_within_limits commands.FinalizeAll = true
is_within_limits (commands.DropInstance number) = true
is_within_limits (commands.SendBegun number at) = is_moment at
is_within_limits (commands.SendEnded number outcome) = is_outcome_short outcome
is_within_limits commands.Tick = true

-- the answer to a question that an entry carries
abbrev pub answer_in : Entry → List ℕ
answer_in (Done hand (commands.Fill path value)) = value
answer_in _ = []
