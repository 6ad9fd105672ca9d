-- The numbers of hands, and which lock a round takes.
use Rattle.std.specs.Prelude.{ℕ}
use Rattle.entry_form.specs.declared.hand.Hand.{Hand}
use Rattle.entry_form.specs.declared.hand.Hand.TheVariants.{Script, Sender, Updater, Lister}
use Rattle.entry_form.specs.declared.hand.Lock.{Lock}
use Rattle.entry_form.specs.declared.hand.Lock.TheVariants as lock
use Rattle.entry_form.specs.declared.hand.Round.{Round}
use Rattle.entry_form.specs.declared.hand.Round.TheVariants as round

abbrev pub hand_number : Hand → ℕ
hand_number Script = 0
hand_number Sender = 1
hand_number Updater = 2
hand_number Lister = 3

abbrev pub round_lock : Round → Lock
round_lock round.Forms = lock.Forms
round_lock round.Lists = lock.Forms
round_lock round.Send = lock.Instances
