-- Whose an entry is.
use Rattle.std.specs.Prelude.{ℕ}
use Rattle.entry_form.specs.declared.hand.Hand.{Hand}
use Rattle.entry_form.specs.declared.hand.Hand.TheVariants.{Script}
use Rattle.entry_form.specs.declared.entry.Entry.{Entry}
use Rattle.entry_form.specs.declared.entry.Entry.TheVariants.{Opened, Done}
use Rattle.entry_form.specs.Hand.{hand_number}

-- an opening is the script's
abbrev pub entry_hand : Entry → Hand
entry_hand (Opened opening) = Script
entry_hand (Done hand command) = hand

-- the number of the hand whose it is
abbrev pub owner : Entry → ℕ
owner entry = hand_number (entry_hand entry)
