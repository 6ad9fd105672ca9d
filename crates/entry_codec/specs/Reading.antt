-- Reading from left to right. Each reader gives a value and the bytes after it, or how many bytes are left where
-- it stops: at the first part that can't stand there. Public contracts don't speak of it.
use Rattle.std.specs.Prelude.{◌≡◌, ℕ, ◌+◌, Bool, true, false, List, [], ◌∷◌, length, take, drop, Option, Some, None}
use Rattle.std.specs.Prelude.{Result, Ok, Err, nat_lt, ◌==◌, if◌then◌else◌, find}
use Rattle.std.specs.Int.{w32, w64, from_le_bytes}
use Rattle.std.specs.Str.{is_utf8}
use Rattle.field_io.specs.declared.dialer.Stage.{Stage}
use Rattle.field_io.specs.declared.dialer.Stage.TheVariants as stage
use Rattle.field_text.specs.declared.mode.Mode.{Mode}
use Rattle.field_text.specs.declared.mode.Mode.TheVariants as mode
use Rattle.entry_form.specs.declared.hand.Hand.{Hand}
use Rattle.entry_form.specs.declared.hand.Hand.TheVariants as hand
use Rattle.entry_form.specs.declared.hand.Lock.{Lock}
use Rattle.entry_form.specs.declared.hand.Lock.TheVariants as lock
use Rattle.entry_form.specs.declared.hand.Round.{Round}
use Rattle.entry_form.specs.declared.hand.Round.TheVariants as round
use Rattle.entry_form.specs.declared.command.How.{How}
use Rattle.entry_form.specs.declared.command.How.TheVariants as how
use Rattle.entry_form.specs.declared.command.Outcome.{Outcome}
use Rattle.entry_form.specs.declared.command.Outcome.TheVariants.{Reply, Fault}
use Rattle.entry_form.specs.declared.command.Base.{Base}
use Rattle.entry_form.specs.declared.command.Base.TheVariants.{Blank, Draft, Edit}
use Rattle.entry_form.specs.declared.command.Command.{Command}
use Rattle.entry_form.specs.declared.command.Command.TheVariants as command
use Rattle.entry_form.specs.declared.entry.Opening.{Opening}
use Rattle.entry_form.specs.declared.entry.Entry.{Entry}
use Rattle.entry_form.specs.declared.entry.Entry.TheVariants.{Opened, Done}
use Rattle.entry_form.specs.Hand.{hand_number}
use Rattle.entry_codec.specs.declared.kind.CommandKind.{CommandKind}
use Rattle.entry_codec.specs.declared.kind.CommandKind.TheVariants as kind
use Rattle.entry_codec.specs.declared.kind.Kind.{Kind}
use Rattle.entry_codec.specs.declared.kind.Kind.TheVariants as entries
use Rattle.entry_codec.specs.declared.kind.BaseKind.{BaseKind}
use Rattle.entry_codec.specs.declared.kind.BaseKind.TheVariants as bases
use Rattle.entry_codec.specs.declared.fault.ReadFault.{ReadFault}
use Rattle.entry_codec.specs.declared.fault.ReadFault.TheVariants as fault
use Rattle.entry_codec.specs.Choices.{bool_byte, mode_byte, round_byte, lock_byte, how_byte, stage_byte, kind_byte}
use Rattle.entry_codec.specs.declared.kind.Opener.{Opener}
use Rattle.entry_codec.specs.declared.kind.Opener.TheVariants as opener

infixl 10 ◌>>=◌
abbrev pub ◌>>=◌ : {A B : Type 0} → Result A ℕ → (A → Result B ℕ) → Result B ℕ
(Ok x) >>= f = f x
(Err left) >>= f = Err left

-- What a function returned, seen by view, is what reading gives, unless memory ran out.
abbrev pub Fails : {Y : Type 0} → ReadFault → Result Y ℕ → Type 0
Fails fault.NoMemory read = Unit {0}
Fails (fault.Stopped left) read = read ≡ Err left

abbrev pub Gives : {X Y : Type 0} → (X → Y) → Result X ReadFault → Result Y ℕ → Type 0
Gives view (Ok x) read = read ≡ Ok (view x)
Gives view (Err e) read = Fails e read

-- ---- one part

abbrev pub chosen : {A : Type 0} → Option A → List ℕ → Result (A × List ℕ) ℕ
chosen (Some choice) rest = Ok (choice, rest)
chosen None rest = Err (length rest + 1)

-- the value whose byte stands first
abbrev pub choice_at : {A : Type 0} → (A → ℕ) → List A → List ℕ → Result (A × List ℕ) ℕ
choice_at byte_of all [] = Err 0
choice_at byte_of all (b ∷ rest) = chosen (find (λ choice. byte_of choice == b) all) rest

abbrev pub number_at : List ℕ → Result (ℕ × List ℕ) ℕ
number_at bytes =
    if nat_lt (length bytes) 8 then Err (length bytes) else Ok (from_le_bytes w64 (take 8 bytes), drop 8 bytes)

abbrev pub length_at : List ℕ → ℕ
length_at bytes = from_le_bytes w32 (take 4 bytes)

unfoldable pub blob_at : List ℕ → Result (List ℕ × List ℕ) ℕ
blob_at bytes =
    if nat_lt (length bytes) 4 then Err (length bytes)
    else if nat_lt (length (drop 4 bytes)) (length_at bytes) then Err (length bytes)
    else Ok (take (length_at bytes) (drop 4 bytes), drop (length_at bytes) (drop 4 bytes))

unfoldable pub text_at : List ℕ → Result (List ℕ × List ℕ) ℕ
text_at bytes = do
  x ← blob_at bytes
  if is_utf8 x.0 then Ok x else Err (length bytes)

-- ---- the values of a byte

abbrev pub bools : List Bool
bools = false ∷ true ∷ []

abbrev pub modes : List Mode
modes = mode.Manual ∷ mode.Previous ∷ mode.Exact ∷ []

abbrev pub rounds : List Round
rounds = round.Forms ∷ round.Lists ∷ round.Send ∷ []

abbrev pub locks : List Lock
locks = lock.Forms ∷ lock.Instances ∷ []

abbrev pub hows : List How
hows = how.Fresh ∷ how.Recover ∷ how.Discard ∷ []

abbrev pub stages : List Stage
stages = stage.Dial ∷ stage.Send ∷ stage.Take ∷ []

abbrev pub hands : List Hand
hands = hand.Script ∷ hand.Sender ∷ hand.Updater ∷ hand.Lister ∷ []

abbrev pub base_kind_byte : BaseKind → ℕ
base_kind_byte bases.Blank = 0
base_kind_byte bases.Draft = 1
base_kind_byte bases.Edit = 2

abbrev pub base_kinds : List BaseKind
base_kinds = bases.Blank ∷ bases.Draft ∷ bases.Edit ∷ []

abbrev pub entry_kind_byte : Kind → ℕ
entry_kind_byte entries.Opened = 1
entry_kind_byte (entries.Done kind) = kind_byte kind

abbrev pub entry_kinds : List Kind
entry_kinds = entries.Opened ∷ entries.Done kind.AutoSend ∷ entries.Done kind.UpdateMode ∷ entries.Done kind.TakeLock
    ∷ entries.Done kind.Release ∷ entries.Done kind.Load ∷ entries.Done kind.Ask ∷ entries.Done kind.Fetched
    ∷ entries.Done kind.RoundDone ∷ entries.Done kind.DropForm ∷ entries.Done kind.Start ∷ entries.Done kind.Fill
    ∷ entries.Done kind.SaveDraft ∷ entries.Done kind.Leave ∷ entries.Done kind.Finalize
    ∷ entries.Done kind.FinalizeAll ∷ entries.Done kind.DropInstance ∷ entries.Done kind.SendBegun
    ∷ entries.Done kind.SendEnded ∷ entries.Done kind.Tick ∷ []

-- ---- what is made of parts

unfoldable pub option_behind : Bool → List ℕ → Result (Option (List ℕ) × List ℕ) ℕ
option_behind false bytes = Ok (None, bytes)
option_behind true bytes = do
  t ← text_at bytes
  Ok (Some t.0, t.1)

unfoldable pub option_at : List ℕ → Result (Option (List ℕ) × List ℕ) ℕ
option_at bytes = do
  there ← choice_at bool_byte bools bytes
  option_behind there.0 there.1

unfoldable pub outcome_behind : Bool → List ℕ → Result (Outcome × List ℕ) ℕ
outcome_behind false bytes = do
  reply ← blob_at bytes
  Ok (Reply reply.0, reply.1)
outcome_behind true bytes = do
  failed ← choice_at stage_byte stages bytes
  Ok (Fault failed.0, failed.1)

unfoldable pub outcome_at : List ℕ → Result (Outcome × List ℕ) ℕ
outcome_at bytes = do
  failed ← choice_at bool_byte bools bytes
  outcome_behind failed.0 failed.1

unfoldable pub base_behind : BaseKind → List ℕ → Result (Base × List ℕ) ℕ
base_behind bases.Blank bytes = do
  form ← text_at bytes
  version ← option_at form.1
  Ok (Blank form.0 version.0, version.1)
base_behind bases.Draft bytes = do
  n ← number_at bytes
  Ok (Draft n.0, n.1)
base_behind bases.Edit bytes = do
  n ← number_at bytes
  Ok (Edit n.0, n.1)

unfoldable pub base_at : List ℕ → Result (Base × List ℕ) ℕ
base_at bytes = do
  k ← choice_at base_kind_byte base_kinds bytes
  base_behind k.0 k.1

unfoldable pub fetched_at : List ℕ → Result (Command × List ℕ) ℕ
fetched_at bytes = do
  job ← number_at bytes
  at ← number_at job.1
  outcome ← outcome_at at.1
  Ok (command.Fetched job.0 at.0 outcome.0, outcome.1)

unfoldable pub start_at : List ℕ → Result (Command × List ℕ) ℕ
start_at bytes = do
  base ← base_at bytes
  how ← choice_at how_byte hows base.1
  Ok (command.Start base.0 how.0, how.1)

unfoldable pub fill_at : List ℕ → Result (Command × List ℕ) ℕ
fill_at bytes = do
  path ← text_at bytes
  value ← text_at path.1
  Ok (command.Fill path.0 value.0, value.1)

unfoldable pub send_begun_at : List ℕ → Result (Command × List ℕ) ℕ
send_begun_at bytes = do
  n ← number_at bytes
  at ← number_at n.1
  Ok (command.SendBegun n.0 at.0, at.1)

unfoldable pub send_ended_at : List ℕ → Result (Command × List ℕ) ℕ
send_ended_at bytes = do
  n ← number_at bytes
  outcome ← outcome_at n.1
  Ok (command.SendEnded n.0 outcome.0, outcome.1)

-- what stands behind the kind and the hand
unfoldable pub command_at : CommandKind → List ℕ → Result (Command × List ℕ) ℕ
command_at kind.AutoSend bytes = do
  on ← choice_at bool_byte bools bytes
  Ok (command.AutoSend on.0, on.1)
command_at kind.UpdateMode bytes = do
  mode ← choice_at mode_byte modes bytes
  Ok (command.UpdateMode mode.0, mode.1)
command_at kind.TakeLock bytes = do
  round ← choice_at round_byte rounds bytes
  Ok (command.TakeLock round.0, round.1)
command_at kind.Release bytes = do
  lock ← choice_at lock_byte locks bytes
  Ok (command.Release lock.0, lock.1)
command_at kind.Load bytes = do
  form ← blob_at bytes
  Ok (command.Load form.0, form.1)
command_at kind.Ask bytes = do
  id ← text_at bytes
  Ok (command.Ask id.0, id.1)
command_at kind.Fetched bytes = fetched_at bytes
command_at kind.RoundDone bytes = Ok (command.RoundDone, bytes)
command_at kind.DropForm bytes = do
  id ← text_at bytes
  Ok (command.DropForm id.0, id.1)
command_at kind.Start bytes = start_at bytes
command_at kind.Fill bytes = fill_at bytes
command_at kind.SaveDraft bytes = Ok (command.SaveDraft, bytes)
command_at kind.Leave bytes = Ok (command.Leave, bytes)
command_at kind.Finalize bytes = Ok (command.Finalize, bytes)
command_at kind.FinalizeAll bytes = Ok (command.FinalizeAll, bytes)
command_at kind.DropInstance bytes = do
  n ← number_at bytes
  Ok (command.DropInstance n.0, n.1)
command_at kind.SendBegun bytes = send_begun_at bytes
command_at kind.SendEnded bytes = send_ended_at bytes
command_at kind.Tick bytes = Ok (command.Tick, bytes)

unfoldable pub opening_at : List ℕ → Result (Opening × List ℕ) ℕ
opening_at bytes = do
  device ← number_at bytes
  server ← text_at device.1
  Ok (record { device = device.0; server = server.0 }, server.1)

-- an opening is the script's alone
abbrev pub opener_byte : Opener → ℕ
opener_byte opener.Script = 0

abbrev pub openers : List Opener
openers = opener.Script ∷ []

unfoldable pub entry_behind : Kind → List ℕ → Result (Entry × List ℕ) ℕ
entry_behind entries.Opened bytes = do
  hand ← choice_at opener_byte openers bytes
  opening ← opening_at hand.1
  Ok (Opened opening.0, opening.1)
entry_behind (entries.Done kind) bytes = do
  hand ← choice_at hand_number hands bytes
  c ← command_at kind hand.1
  Ok (Done hand.0 c.0, c.1)

unfoldable pub entry_at : List ℕ → Result (Entry × List ℕ) ℕ
entry_at bytes = do
  k ← choice_at entry_kind_byte entry_kinds bytes
  entry_behind k.0 k.1
