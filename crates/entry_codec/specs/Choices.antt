-- The byte of each value that is spelled in one byte.
use Rattle.std.specs.Prelude.{ℕ, Bool, true, false}
use Rattle.field_io.specs.declared.dialer.Stage.{Stage}
use Rattle.field_io.specs.declared.dialer.Stage.TheVariants as stage
use Rattle.field_text.specs.declared.mode.Mode.{Mode}
use Rattle.field_text.specs.declared.mode.Mode.TheVariants as mode
use Rattle.entry_form.specs.declared.hand.Lock.{Lock}
use Rattle.entry_form.specs.declared.hand.Lock.TheVariants as lock
use Rattle.entry_form.specs.declared.hand.Round.{Round}
use Rattle.entry_form.specs.declared.hand.Round.TheVariants as round
use Rattle.entry_form.specs.declared.command.How.{How}
use Rattle.entry_form.specs.declared.command.How.TheVariants as how
use Rattle.entry_codec.specs.declared.kind.CommandKind.{CommandKind}
use Rattle.entry_codec.specs.declared.kind.CommandKind.TheVariants as kind

abbrev pub bool_byte : Bool → ℕ
bool_byte false = 0
bool_byte true = 1

abbrev pub mode_byte : Mode → ℕ
mode_byte mode.Manual = 0
mode_byte mode.Previous = 1
mode_byte mode.Exact = 2

abbrev pub round_byte : Round → ℕ
round_byte round.Forms = 0
round_byte round.Lists = 1
round_byte round.Send = 2

abbrev pub lock_byte : Lock → ℕ
lock_byte lock.Forms = 0
lock_byte lock.Instances = 1

abbrev pub how_byte : How → ℕ
how_byte how.Fresh = 0
how_byte how.Recover = 1
how_byte how.Discard = 2

abbrev pub stage_byte : Stage → ℕ
stage_byte stage.Dial = 0
stage_byte stage.Send = 1
stage_byte stage.Take = 2

-- an opening has the byte 1
abbrev pub kind_byte : CommandKind → ℕ
kind_byte kind.AutoSend = 2
kind_byte kind.UpdateMode = 3
kind_byte kind.TakeLock = 4
kind_byte kind.Release = 5
kind_byte kind.Load = 6
kind_byte kind.Ask = 7
kind_byte kind.Fetched = 8
kind_byte kind.RoundDone = 9
kind_byte kind.DropForm = 10
kind_byte kind.Start = 11
kind_byte kind.Fill = 12
kind_byte kind.SaveDraft = 13
kind_byte kind.Leave = 14
kind_byte kind.Finalize = 15
kind_byte kind.FinalizeAll = 16
kind_byte kind.DropInstance = 17
kind_byte kind.SendBegun = 18
kind_byte kind.SendEnded = 19
kind_byte kind.Tick = 20
