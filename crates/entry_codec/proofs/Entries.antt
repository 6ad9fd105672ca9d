-- The format of each kind of entry, put together from its parts.
use Rattle.std.specs.Prelude.{find}
use Rattle.std.proofs.Common.{◌≡◌, ℕ, Bool, true, false, eqb, List, [], ◌∷◌, ◌++◌, Option, Some, None, Result, Ok, Err, refl, ap, subst}
use Rattle.field_io.specs.declared.dialer.Stage.{Stage}
use Rattle.field_io.specs.declared.dialer.Stage.TheVariants as stage
use Rattle.field_text.specs.declared.mode.Mode.{Mode}
use Rattle.field_text.specs.declared.mode.Mode.TheVariants as mode
use Rattle.entry_form.specs.declared.hand.Hand.{Hand}
use Rattle.entry_form.specs.declared.hand.Hand.TheVariants as hand
use Rattle.entry_form.specs.declared.hand.Lock.{Lock}
use Rattle.entry_form.specs.declared.hand.Lock.TheVariants as lock
use Rattle.entry_form.specs.declared.hand.Round.{Round}
use Rattle.entry_form.specs.declared.hand.Round.TheVariants as round
use Rattle.entry_form.specs.declared.command.How.{How}
use Rattle.entry_form.specs.declared.command.How.TheVariants as how
use Rattle.entry_form.specs.declared.command.Outcome.{Outcome}
use Rattle.entry_form.specs.declared.command.Outcome.TheVariants.{Reply, Fault}
use Rattle.entry_form.specs.declared.command.Base.{Base}
use Rattle.entry_form.specs.declared.command.Base.TheVariants.{Blank, Draft, Edit}
use Rattle.entry_form.specs.declared.command.Command.{Command}
use Rattle.entry_form.specs.declared.command.Command.TheVariants as command
use Rattle.entry_form.specs.declared.entry.Opening.{Opening}
use Rattle.entry_form.specs.declared.entry.Entry.{Entry}
use Rattle.entry_form.specs.declared.entry.Entry.TheVariants.{Opened, Done}
use Rattle.entry_form.specs.Hand.{hand_number}
use Rattle.entry_codec.specs.declared.kind.CommandKind.{CommandKind}
use Rattle.entry_codec.specs.declared.kind.CommandKind.TheVariants as kind
use Rattle.entry_codec.specs.declared.kind.Kind.{Kind}
use Rattle.entry_codec.specs.declared.kind.Kind.TheVariants as entries
use Rattle.entry_codec.specs.declared.kind.BaseKind.{BaseKind}
use Rattle.entry_codec.specs.declared.kind.BaseKind.TheVariants as bases
use Rattle.entry_codec.specs.declared.kind.Opener.{Opener}
use Rattle.entry_codec.specs.declared.kind.Opener.TheVariants as opener
use Rattle.entry_codec.specs.Choices.{bool_byte, mode_byte, round_byte, lock_byte, how_byte, stage_byte}
use Rattle.entry_codec.specs.Spelling.{Part, byte, number, text, blob, option_parts, outcome_parts, base_parts, kind_of, command_parts, parts}
use Rattle.entry_codec.specs.Reading.{◌>>=◌, choice_at, number_at, blob_at, text_at, bools, modes, rounds, locks, hows, stages, hands, base_kind_byte, base_kinds, entry_kind_byte, entry_kinds, opener_byte, openers, option_behind, option_at, outcome_behind, outcome_at, base_behind, base_at, fetched_at, start_at, fill_at, send_begun_at, send_ended_at, command_at, opening_at, entry_behind, entry_at}
use Rattle.entry_codec.proofs.Formats.{Any, IsFormat, IsFormat-same}
use Rattle.entry_codec.proofs.Then.{IsMade, IsFormat-then}
use Rattle.entry_codec.proofs.Shapes.{IsFormat-nothing, IsFormat-one, IsFormat-two, IsFormat-tagged}
use Rattle.entry_codec.proofs.Fields.{IsFormat-choice, number_format, blob_format, text_format}

-- ---- choices

found_bool : (a : Bool) → find (λ choice. eqb (bool_byte choice) (bool_byte a)) bools ≡ Some a
found_bool false = refl
found_bool true = refl

bool_format : IsFormat Any (λ a. byte (bool_byte a) ∷ []) (choice_at bool_byte bools)
bool_format = IsFormat-choice bool_byte bools false found_bool

found_mode : (a : Mode) → find (λ choice. eqb (mode_byte choice) (mode_byte a)) modes ≡ Some a
found_mode mode.Manual = refl
found_mode mode.Previous = refl
found_mode mode.Exact = refl

mode_format : IsFormat Any (λ a. byte (mode_byte a) ∷ []) (choice_at mode_byte modes)
mode_format = IsFormat-choice mode_byte modes mode.Manual found_mode

found_round : (a : Round) → find (λ choice. eqb (round_byte choice) (round_byte a)) rounds ≡ Some a
found_round round.Forms = refl
found_round round.Lists = refl
found_round round.Send = refl

round_format : IsFormat Any (λ a. byte (round_byte a) ∷ []) (choice_at round_byte rounds)
round_format = IsFormat-choice round_byte rounds round.Forms found_round

found_lock : (a : Lock) → find (λ choice. eqb (lock_byte choice) (lock_byte a)) locks ≡ Some a
found_lock lock.Forms = refl
found_lock lock.Instances = refl

lock_format : IsFormat Any (λ a. byte (lock_byte a) ∷ []) (choice_at lock_byte locks)
lock_format = IsFormat-choice lock_byte locks lock.Forms found_lock

found_how : (a : How) → find (λ choice. eqb (how_byte choice) (how_byte a)) hows ≡ Some a
found_how how.Fresh = refl
found_how how.Recover = refl
found_how how.Discard = refl

how_format : IsFormat Any (λ a. byte (how_byte a) ∷ []) (choice_at how_byte hows)
how_format = IsFormat-choice how_byte hows how.Fresh found_how

found_stage : (a : Stage) → find (λ choice. eqb (stage_byte choice) (stage_byte a)) stages ≡ Some a
found_stage stage.Dial = refl
found_stage stage.Send = refl
found_stage stage.Take = refl

stage_format : IsFormat Any (λ a. byte (stage_byte a) ∷ []) (choice_at stage_byte stages)
stage_format = IsFormat-choice stage_byte stages stage.Dial found_stage

found_hand : (a : Hand) → find (λ choice. eqb (hand_number choice) (hand_number a)) hands ≡ Some a
found_hand hand.Script = refl
found_hand hand.Sender = refl
found_hand hand.Updater = refl
found_hand hand.Lister = refl

hand_format : IsFormat Any (λ a. byte (hand_number a) ∷ []) (choice_at hand_number hands)
hand_format = IsFormat-choice hand_number hands hand.Script found_hand

found_opener : (a : Opener) → find (λ choice. eqb (opener_byte choice) (opener_byte a)) openers ≡ Some a
found_opener opener.Script = refl

opener_format : IsFormat Any (λ a. byte (opener_byte a) ∷ []) (choice_at opener_byte openers)
opener_format = IsFormat-choice opener_byte openers opener.Script found_opener

found_base_kind : (a : BaseKind) → find (λ choice. eqb (base_kind_byte choice) (base_kind_byte a)) base_kinds ≡ Some a
found_base_kind bases.Blank = refl
found_base_kind bases.Draft = refl
found_base_kind bases.Edit = refl

base_kind_format : IsFormat Any (λ a. byte (base_kind_byte a) ∷ []) (choice_at base_kind_byte base_kinds)
base_kind_format = IsFormat-choice base_kind_byte base_kinds bases.Draft found_base_kind

found_entry_kind : (a : Kind) → find (λ choice. eqb (entry_kind_byte choice) (entry_kind_byte a)) entry_kinds ≡ Some a
found_entry_kind entries.Opened = refl
found_entry_kind (entries.Done kind.AutoSend) = refl
found_entry_kind (entries.Done kind.UpdateMode) = refl
found_entry_kind (entries.Done kind.TakeLock) = refl
found_entry_kind (entries.Done kind.Release) = refl
found_entry_kind (entries.Done kind.Load) = refl
found_entry_kind (entries.Done kind.Ask) = refl
found_entry_kind (entries.Done kind.Fetched) = refl
found_entry_kind (entries.Done kind.RoundDone) = refl
found_entry_kind (entries.Done kind.DropForm) = refl
found_entry_kind (entries.Done kind.Start) = refl
found_entry_kind (entries.Done kind.Fill) = refl
found_entry_kind (entries.Done kind.SaveDraft) = refl
found_entry_kind (entries.Done kind.Leave) = refl
found_entry_kind (entries.Done kind.Finalize) = refl
found_entry_kind (entries.Done kind.FinalizeAll) = refl
found_entry_kind (entries.Done kind.DropInstance) = refl
found_entry_kind (entries.Done kind.SendBegun) = refl
found_entry_kind (entries.Done kind.SendEnded) = refl
found_entry_kind (entries.Done kind.Tick) = refl

entry_kind_format : IsFormat Any (λ a. byte (entry_kind_byte a) ∷ []) (choice_at entry_kind_byte entry_kinds)
entry_kind_format = IsFormat-choice entry_kind_byte entry_kinds entries.Opened found_entry_kind

-- ---- options, outcomes, bases

abbrev is_there : Option (List ℕ) → Bool
is_there None = false
is_there (Some t) = true

abbrev behind_option : Option (List ℕ) → List Part
behind_option None = []
behind_option (Some t) = text t ∷ []

there_is_none : (o : Option (List ℕ)) → is_there o ≡ false → o ≡ None
there_is_none None e = refl
there_is_none (Some t) e = cc

there_is_some : (o : Option (List ℕ)) → is_there o ≡ true → (t : List ℕ) × (o ≡ Some t)
there_is_some None e = absurd cc
there_is_some (Some t) e = (t, refl)

option_kinds : (k : Bool) → IsFormat (λ o. is_there o ≡ k) behind_option (option_behind k)
unfolding option_behind
option_kinds false = IsFormat-nothing (λ o. is_there o ≡ false) behind_option None refl there_is_none refl
option_kinds true = IsFormat-one (λ t. text t ∷ []) text_at (λ t. Some t) (λ o. is_there o ≡ true) behind_option text_format (λ t. refl) (λ t. refl) there_is_some

option_parts_are : (o : Option (List ℕ)) → option_parts o ≡ byte (bool_byte (is_there o)) ∷ behind_option o
option_parts_are None = refl
option_parts_are (Some t) = refl

option_format : IsFormat Any option_parts option_at
unfolding option_at
option_format = IsFormat-tagged bool_byte bools is_there behind_option option_parts option_behind bool_format option_kinds option_parts_are

abbrev is_fault : Outcome → Bool
is_fault (Reply bytes) = false
is_fault (Fault stage) = true

abbrev behind_outcome : Outcome → List Part
behind_outcome (Reply bytes) = blob bytes ∷ []
behind_outcome (Fault stage) = byte (stage_byte stage) ∷ []

reply_of : (o : Outcome) → is_fault o ≡ false → (bytes : List ℕ) × (o ≡ Reply bytes)
reply_of (Reply bytes) e = (bytes, refl)
reply_of (Fault stage) e = absurd cc

fault_of : (o : Outcome) → is_fault o ≡ true → (stage : Stage) × (o ≡ Fault stage)
fault_of (Reply bytes) e = absurd cc
fault_of (Fault stage) e = (stage, refl)

outcome_kinds : (k : Bool) → IsFormat (λ o. is_fault o ≡ k) behind_outcome (outcome_behind k)
unfolding outcome_behind
outcome_kinds false = IsFormat-one (λ b. blob b ∷ []) blob_at (λ b. Reply b) (λ o. is_fault o ≡ false) behind_outcome blob_format (λ b. refl) (λ b. refl) reply_of
outcome_kinds true = IsFormat-one (λ s. byte (stage_byte s) ∷ []) (choice_at stage_byte stages) (λ s. Fault s) (λ o. is_fault o ≡ true) behind_outcome stage_format (λ s. refl) (λ s. refl) fault_of

outcome_parts_are : (o : Outcome) → outcome_parts o ≡ byte (bool_byte (is_fault o)) ∷ behind_outcome o
outcome_parts_are (Reply bytes) = refl
outcome_parts_are (Fault stage) = refl

outcome_format : IsFormat Any outcome_parts outcome_at
unfolding outcome_at
outcome_format = IsFormat-tagged bool_byte bools is_fault behind_outcome outcome_parts outcome_behind bool_format outcome_kinds outcome_parts_are

abbrev base_kind_of : Base → BaseKind
base_kind_of (Blank form version) = bases.Blank
base_kind_of (Draft n) = bases.Draft
base_kind_of (Edit n) = bases.Edit

abbrev behind_base : Base → List Part
behind_base (Blank form version) = text form ∷ option_parts version
behind_base (Draft n) = number n ∷ []
behind_base (Edit n) = number n ∷ []

blank_of : (b : Base) → base_kind_of b ≡ bases.Blank → (form : List ℕ) × (version : Option (List ℕ)) × (b ≡ Blank form version)
blank_of (Blank form version) e = (form, version, refl)
blank_of (Draft n) e = absurd cc
blank_of (Edit n) e = absurd cc

draft_of : (b : Base) → base_kind_of b ≡ bases.Draft → (n : ℕ) × (b ≡ Draft n)
draft_of (Blank form version) e = absurd cc
draft_of (Draft n) e = (n, refl)
draft_of (Edit n) e = absurd cc

edit_of : (b : Base) → base_kind_of b ≡ bases.Edit → (n : ℕ) × (b ≡ Edit n)
edit_of (Blank form version) e = absurd cc
edit_of (Draft n) e = absurd cc
edit_of (Edit n) e = (n, refl)

base_kinds_format : (k : BaseKind) → IsFormat (λ b. base_kind_of b ≡ k) behind_base (base_behind k)
unfolding base_behind
base_kinds_format bases.Blank = IsFormat-two (λ t. text t ∷ []) text_at option_parts option_at (λ t o. Blank t o) (λ b. base_kind_of b ≡ bases.Blank) behind_base text_format option_format (λ t o. refl) (λ t o. refl) blank_of
base_kinds_format bases.Draft = IsFormat-one (λ n. number n ∷ []) number_at (λ n. Draft n) (λ b. base_kind_of b ≡ bases.Draft) behind_base number_format (λ n. refl) (λ n. refl) draft_of
base_kinds_format bases.Edit = IsFormat-one (λ n. number n ∷ []) number_at (λ n. Edit n) (λ b. base_kind_of b ≡ bases.Edit) behind_base number_format (λ n. refl) (λ n. refl) edit_of

base_parts_are : (b : Base) → base_parts b ≡ byte (base_kind_byte (base_kind_of b)) ∷ behind_base b
base_parts_are (Blank form version) = refl
base_parts_are (Draft n) = refl
base_parts_are (Edit n) = refl

base_format : IsFormat Any base_parts base_at
unfolding base_at
base_format = IsFormat-tagged base_kind_byte base_kinds base_kind_of behind_base base_parts base_behind base_kind_format base_kinds_format base_parts_are

-- ---- commands

-- what a command of a kind carries, and the command that carries it
abbrev carried : CommandKind → Type 0
carried kind.AutoSend = Bool
carried kind.UpdateMode = Mode
carried kind.TakeLock = Round
carried kind.Release = Lock
carried kind.Load = List ℕ
carried kind.Ask = List ℕ
carried kind.Fetched = ℕ × (ℕ × Outcome)
carried kind.RoundDone = Unit {0}
carried kind.DropForm = List ℕ
carried kind.Start = Base × How
carried kind.Fill = List ℕ × List ℕ
carried kind.SaveDraft = Unit {0}
carried kind.Leave = Unit {0}
carried kind.Finalize = Unit {0}
carried kind.FinalizeAll = Unit {0}
carried kind.DropInstance = ℕ
carried kind.SendBegun = ℕ × ℕ
carried kind.SendEnded = ℕ × Outcome
carried kind.Tick = Unit {0}

abbrev command_of : (k : CommandKind) → carried k → Command
command_of kind.AutoSend a = command.AutoSend a
command_of kind.UpdateMode a = command.UpdateMode a
command_of kind.TakeLock a = command.TakeLock a
command_of kind.Release a = command.Release a
command_of kind.Load a = command.Load a
command_of kind.Ask a = command.Ask a
command_of kind.Fetched a = command.Fetched a.0 a.1.0 a.1.1
command_of kind.RoundDone a = command.RoundDone
command_of kind.DropForm a = command.DropForm a
command_of kind.Start a = command.Start a.0 a.1
command_of kind.Fill a = command.Fill a.0 a.1
command_of kind.SaveDraft a = command.SaveDraft
command_of kind.Leave a = command.Leave
command_of kind.Finalize a = command.Finalize
command_of kind.FinalizeAll a = command.FinalizeAll
command_of kind.DropInstance a = command.DropInstance a
command_of kind.SendBegun a = command.SendBegun a.0 a.1
command_of kind.SendEnded a = command.SendEnded a.0 a.1
command_of kind.Tick a = command.Tick

carries : (c : Command) → (a : carried (kind_of c)) × (c ≡ command_of (kind_of c) a)
carries (command.AutoSend a) = (a, refl)
carries (command.UpdateMode a) = (a, refl)
carries (command.TakeLock a) = (a, refl)
carries (command.Release a) = (a, refl)
carries (command.Load a) = (a, refl)
carries (command.Ask a) = (a, refl)
carries (command.Fetched a b c) = ((a, (b, c)), refl)
carries command.RoundDone = (tt, refl)
carries (command.DropForm a) = (a, refl)
carries (command.Start a b) = ((a, b), refl)
carries (command.Fill a b) = ((a, b), refl)
carries command.SaveDraft = (tt, refl)
carries command.Leave = (tt, refl)
carries command.Finalize = (tt, refl)
carries command.FinalizeAll = (tt, refl)
carries (command.DropInstance a) = (a, refl)
carries (command.SendBegun a b) = ((a, b), refl)
carries (command.SendEnded a b) = ((a, b), refl)
carries command.Tick = (tt, refl)

-- a command of this kind is one that carries such a value
one_of : (k : CommandKind) (c : Command) → kind_of c ≡ k → (a : carried k) × (c ≡ command_of k a)
one_of k c e = subst (λ (z : CommandKind). (a : carried z) × (c ≡ command_of z a)) e (carries c)

abbrev pair_of : ℕ → Outcome × List ℕ → Result ((ℕ × Outcome) × List ℕ) ℕ
pair_of at o = Ok ((at, o.0), o.1)

abbrev fetched_of : ℕ → (ℕ × Outcome) × List ℕ → Result (Command × List ℕ) ℕ
fetched_of job y = Ok (command.Fetched job y.0.0 y.0.1, y.1)

abbrev moment_and_outcome_at : List ℕ → Result ((ℕ × Outcome) × List ℕ) ℕ
moment_and_outcome_at bytes = number_at bytes >>= λ at. outcome_at at.1 >>= λ o. pair_of at.0 o

moment_and_outcome : IsFormat Any (λ (p : ℕ × Outcome). number p.0 ∷ outcome_parts p.1) moment_and_outcome_at
moment_and_outcome =
    let pair : ℕ → Outcome → ℕ × Outcome = λ a o. (a, o) in
    IsFormat-two (λ n. number n ∷ []) number_at outcome_parts outcome_at pair Any (λ p. number p.0 ∷ outcome_parts p.1) number_format outcome_format (λ a o. refl) (λ a o. tt) (λ p h. (p.0, p.1, refl))

start_format : IsFormat (λ c. kind_of c ≡ kind.Start) command_parts start_at
unfolding start_at
start_format = IsFormat-two base_parts base_at (λ b. byte (how_byte b) ∷ []) (choice_at how_byte hows) (λ a b. command.Start a b) (λ c. kind_of c ≡ kind.Start) command_parts base_format how_format (λ a b. refl) (λ a b. refl) (λ c e. let p = one_of kind.Start c e in (p.0.0, p.0.1, p.1))

fill_format : IsFormat (λ c. kind_of c ≡ kind.Fill) command_parts fill_at
unfolding fill_at
fill_format = IsFormat-two (λ a. text a ∷ []) text_at (λ b. text b ∷ []) text_at (λ a b. command.Fill a b) (λ c. kind_of c ≡ kind.Fill) command_parts text_format text_format (λ a b. refl) (λ a b. refl) (λ c e. let p = one_of kind.Fill c e in (p.0.0, p.0.1, p.1))

send_begun_format : IsFormat (λ c. kind_of c ≡ kind.SendBegun) command_parts send_begun_at
unfolding send_begun_at
send_begun_format = IsFormat-two (λ a. number a ∷ []) number_at (λ b. number b ∷ []) number_at (λ a b. command.SendBegun a b) (λ c. kind_of c ≡ kind.SendBegun) command_parts number_format number_format (λ a b. refl) (λ a b. refl) (λ c e. let p = one_of kind.SendBegun c e in (p.0.0, p.0.1, p.1))

send_ended_format : IsFormat (λ c. kind_of c ≡ kind.SendEnded) command_parts send_ended_at
unfolding send_ended_at
send_ended_format = IsFormat-two (λ a. number a ∷ []) number_at outcome_parts outcome_at (λ a b. command.SendEnded a b) (λ c. kind_of c ≡ kind.SendEnded) command_parts number_format outcome_format (λ a b. refl) (λ a b. refl) (λ c e. let p = one_of kind.SendEnded c e in (p.0.0, p.0.1, p.1))

abbrev fetched_by_two : List ℕ → Result (Command × List ℕ) ℕ
fetched_by_two bytes = number_at bytes >>= λ job. moment_and_outcome_at job.1 >>= λ y. fetched_of job.0 y

fetched_reads : (bytes : List ℕ) → fetched_by_two bytes ≡ fetched_at bytes
unfolding fetched_at
fetched_reads bytes = outer (number_at bytes)
  where
    innermost : (job at : ℕ) (r : Result (Outcome × List ℕ) ℕ) → ((r >>= λ o. pair_of at o) >>= λ y. fetched_of job y) ≡ (r >>= λ o. Ok (command.Fetched job at o.0, o.1))
    innermost job at (Ok o) = refl
    innermost job at (Err left) = refl

    inner : (job : ℕ) (r : Result (ℕ × List ℕ) ℕ) → ((r >>= λ at. outcome_at at.1 >>= λ o. pair_of at.0 o) >>= λ y. fetched_of job y) ≡ (r >>= λ at. outcome_at at.1 >>= λ o. Ok (command.Fetched job at.0 o.0, o.1))
    inner job (Ok at) = innermost job at.0 (outcome_at at.1)
    inner job (Err left) = refl

    outer : (r : Result (ℕ × List ℕ) ℕ) → (r >>= λ job. (number_at job.1 >>= λ at. outcome_at at.1 >>= λ o. pair_of at.0 o) >>= λ y. fetched_of job.0 y) ≡ (r >>= λ job. number_at job.1 >>= λ at. outcome_at at.1 >>= λ o. Ok (command.Fetched job.0 at.0 o.0, o.1))
    outer (Ok job) = inner job.0 (number_at job.1)
    outer (Err left) = refl

fetched_format : IsFormat (λ c. kind_of c ≡ kind.Fetched) command_parts fetched_at
fetched_format =
    IsFormat-same (λ c. kind_of c ≡ kind.Fetched) command_parts fetched_by_two fetched_at fetched_reads
    (IsFormat-two (λ n. number n ∷ []) number_at (λ (p : ℕ × Outcome). number p.0 ∷ outcome_parts p.1) moment_and_outcome_at (λ job p. command.Fetched job p.0 p.1) (λ c. kind_of c ≡ kind.Fetched) command_parts
    number_format moment_and_outcome (λ job p. refl) (λ job p. refl) (λ c e. let p = one_of kind.Fetched c e in (p.0.0, p.0.1, p.1)))

command_kinds : (k : CommandKind) → IsFormat (λ c. kind_of c ≡ k) command_parts (command_at k)
unfolding command_at
command_kinds kind.AutoSend = IsFormat-one (λ a. byte (bool_byte a) ∷ []) (choice_at bool_byte bools) (λ a. command.AutoSend a) (λ c. kind_of c ≡ kind.AutoSend) command_parts bool_format (λ a. refl) (λ a. refl) (one_of kind.AutoSend)
command_kinds kind.UpdateMode = IsFormat-one (λ a. byte (mode_byte a) ∷ []) (choice_at mode_byte modes) (λ a. command.UpdateMode a) (λ c. kind_of c ≡ kind.UpdateMode) command_parts mode_format (λ a. refl) (λ a. refl) (one_of kind.UpdateMode)
command_kinds kind.TakeLock = IsFormat-one (λ a. byte (round_byte a) ∷ []) (choice_at round_byte rounds) (λ a. command.TakeLock a) (λ c. kind_of c ≡ kind.TakeLock) command_parts round_format (λ a. refl) (λ a. refl) (one_of kind.TakeLock)
command_kinds kind.Release = IsFormat-one (λ a. byte (lock_byte a) ∷ []) (choice_at lock_byte locks) (λ a. command.Release a) (λ c. kind_of c ≡ kind.Release) command_parts lock_format (λ a. refl) (λ a. refl) (one_of kind.Release)
command_kinds kind.Load = IsFormat-one (λ a. blob a ∷ []) blob_at (λ a. command.Load a) (λ c. kind_of c ≡ kind.Load) command_parts blob_format (λ a. refl) (λ a. refl) (one_of kind.Load)
command_kinds kind.Ask = IsFormat-one (λ a. text a ∷ []) text_at (λ a. command.Ask a) (λ c. kind_of c ≡ kind.Ask) command_parts text_format (λ a. refl) (λ a. refl) (one_of kind.Ask)
command_kinds kind.Fetched = fetched_format
command_kinds kind.RoundDone = IsFormat-nothing (λ c. kind_of c ≡ kind.RoundDone) command_parts command.RoundDone refl (λ c e. (one_of kind.RoundDone c e).1) refl
command_kinds kind.DropForm = IsFormat-one (λ a. text a ∷ []) text_at (λ a. command.DropForm a) (λ c. kind_of c ≡ kind.DropForm) command_parts text_format (λ a. refl) (λ a. refl) (one_of kind.DropForm)
command_kinds kind.Start = start_format
command_kinds kind.Fill = fill_format
command_kinds kind.SaveDraft = IsFormat-nothing (λ c. kind_of c ≡ kind.SaveDraft) command_parts command.SaveDraft refl (λ c e. (one_of kind.SaveDraft c e).1) refl
command_kinds kind.Leave = IsFormat-nothing (λ c. kind_of c ≡ kind.Leave) command_parts command.Leave refl (λ c e. (one_of kind.Leave c e).1) refl
command_kinds kind.Finalize = IsFormat-nothing (λ c. kind_of c ≡ kind.Finalize) command_parts command.Finalize refl (λ c e. (one_of kind.Finalize c e).1) refl
command_kinds kind.FinalizeAll = IsFormat-nothing (λ c. kind_of c ≡ kind.FinalizeAll) command_parts command.FinalizeAll refl (λ c e. (one_of kind.FinalizeAll c e).1) refl
command_kinds kind.DropInstance = IsFormat-one (λ a. number a ∷ []) number_at (λ a. command.DropInstance a) (λ c. kind_of c ≡ kind.DropInstance) command_parts number_format (λ a. refl) (λ a. refl) (one_of kind.DropInstance)
command_kinds kind.SendBegun = send_begun_format
command_kinds kind.SendEnded = send_ended_format
command_kinds kind.Tick = IsFormat-nothing (λ c. kind_of c ≡ kind.Tick) command_parts command.Tick refl (λ c e. (one_of kind.Tick c e).1) refl

-- ---- entries

opening_format : IsFormat Any (λ (o : Opening). number o.device ∷ text o.server ∷ []) opening_at
unfolding opening_at
opening_format =
    let make : ℕ → List ℕ → Opening = λ d s. record { device = d; server = s } in
    IsFormat-two (λ n. number n ∷ []) number_at (λ t. text t ∷ []) text_at make Any (λ o. number o.device ∷ text o.server ∷ []) number_format text_format (λ d s. refl) (λ d s. tt) (λ o h. (o.device, o.server, refl))

abbrev entry_kind : Entry → Kind
entry_kind (Opened opening) = entries.Opened
entry_kind (Done hand c) = entries.Done (kind_of c)

abbrev behind_kind : Entry → List Part
behind_kind (Opened opening) = byte 0 ∷ number opening.device ∷ text opening.server ∷ []
behind_kind (Done hand c) = byte (hand_number hand) ∷ command_parts c

is_opened : (e : Entry) → entry_kind e ≡ entries.Opened → (o : Opener) × (opening : Opening) × (e ≡ Opened opening)
is_opened (Opened opening) e = (opener.Script, opening, refl)
is_opened (Done hand c) e = absurd cc

is_done : (k : CommandKind) (e : Entry) → entry_kind e ≡ entries.Done k → (h : Hand) × (c : Command) × (e ≡ Done h c) × (kind_of c ≡ k)
is_done k (Opened opening) e = absurd cc
is_done k (Done h c) e = (h, c, refl, cc)

opener_is : (o : Opener) (opening : Opening) → behind_kind (Opened opening) ≡ (byte (opener_byte o) ∷ []) ++ number opening.device ∷ text opening.server ∷ []
opener_is opener.Script opening = refl

entry_kinds_format : (k : Kind) → IsFormat (λ e. entry_kind e ≡ k) behind_kind (entry_behind k)
unfolding entry_behind
entry_kinds_format entries.Opened =
    IsFormat-two (λ o. byte (opener_byte o) ∷ []) (choice_at opener_byte openers) (λ (o : Opening). number o.device ∷ text o.server ∷ []) opening_at (λ o opening. Opened opening) (λ e. entry_kind e ≡ entries.Opened) behind_kind
    opener_format opening_format opener_is (λ o opening. refl) is_opened
entry_kinds_format (entries.Done k) =
    let made : IsMade (λ (h : Hand). byte (hand_number h) ∷ []) (λ (h : Hand) (c : Command). kind_of c ≡ k) (λ h c. command_parts c) (λ h c. Done h c) (λ e. entry_kind e ≡ entries.Done k) behind_kind = record {
      parts_are = λ h c same. refl;
      of = λ h c same. ap (λ (z : CommandKind). entries.Done z) same;
      inverse = is_done k;
    } in
    IsFormat-then (λ h. byte (hand_number h) ∷ []) (choice_at hand_number hands) (λ (h : Hand) (c : Command). kind_of c ≡ k) (λ h c. command_parts c) (λ h. command_at k) (λ h c. Done h c) (λ e. entry_kind e ≡ entries.Done k) behind_kind
    hand_format (λ h. command_kinds k) made

parts_are : (e : Entry) → parts e ≡ byte (entry_kind_byte (entry_kind e)) ∷ behind_kind e
parts_are (Opened opening) = refl
parts_are (Done hand c) = refl

pub entry_format : IsFormat Any parts entry_at
unfolding entry_at
entry_format = IsFormat-tagged entry_kind_byte entry_kinds entry_kind behind_kind parts entry_behind entry_kind_format entry_kinds_format parts_are
