-- The lines of a log: for each entry its hand and the name of its kind.
use Rattle.std.specs.Prelude.{ℕ, List, ◌++◌, codes}
use Rattle.entry_form.specs.declared.command.Command.{Command}
use Rattle.entry_form.specs.declared.command.Command.TheVariants as commands
use Rattle.entry_form.specs.declared.entry.Entry.{Entry}
use Rattle.entry_form.specs.declared.entry.Entry.TheVariants.{Opened, Done}
use Rattle.entry_form.specs.declared.hand.Hand.{Hand}
use Rattle.entry_form.specs.declared.hand.Hand.TheVariants.{Script, Sender, Updater, Lister}
use Rattle.collect_text.specs.Lines.{line_at}

abbrev pub hand_word : Hand → List ℕ
hand_word Script = codes "script"
hand_word Sender = codes "sender"
hand_word Updater = codes "updater"
hand_word Lister = codes "lister"

-- the name of a command's kind, in lower case
abbrev pub command_word : Command → List ℕ
command_word (commands.AutoSend on) = codes "autosend"
command_word (commands.UpdateMode mode) = codes "updatemode"
command_word (commands.TakeLock round) = codes "takelock"
command_word (commands.Release lock) = codes "release"
command_word (commands.Load bytes) = codes "load"
command_word (commands.Ask form) = codes "ask"
command_word (commands.Fetched job at outcome) = codes "fetched"
command_word commands.RoundDone = codes "rounddone"
command_word (commands.DropForm form) = codes "dropform"
command_word (commands.Start base how) = codes "start"
command_word (commands.Fill path value) = codes "fill"
command_word commands.SaveDraft = codes "savedraft"
command_word commands.Leave = codes "leave"
command_word commands.Finalize = codes "finalize"
command_word commands.FinalizeAll = codes "finalizeall"
command_word (commands.DropInstance number) = codes "dropinstance"
command_word (commands.SendBegun number at) = codes "sendbegun"
command_word (commands.SendEnded number outcome) = codes "sendended"
command_word commands.Tick = codes "tick"

-- the hand of an entry and the name of its kind; an opening is the script's
abbrev pub entry_text : Entry → List ℕ
entry_text (Opened opening) = codes "script opened"
entry_text (Done hand command) = hand_word hand ++ codes " " ++ command_word command

-- the line of an entry in a log
abbrev pub printed_entry : ℕ → Entry → List ℕ
printed_entry position entry = line_at position (entry_text entry)
