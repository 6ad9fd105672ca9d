-- How many bytes the entries take whose values are within their limits.
use Rattle.std.proofs.Common.{◌≡◌, ◌≢◌, ℕ, ◌+◌, ◌≤◌, ◌<◌, ◌^◌, List, [], ◌∷◌, ◌++◌, length, Bool, true, false, Option, Some, None, Result, Ok, Err, refl, sym, ◌∙◌, ap, arith, length-append}
use Rattle.std.specs.Prelude.{◌&&◌, not, nat_lt, nat_le, is_some, if◌then◌else◌}
use Rattle.std.specs.Int.{w32, to_le_bytes}
use Rattle.std.proofs.lemmas.Bool.Decides.{nat_tests}
use Rattle.std.proofs.lemmas.List.Concat.{flat_map-cons}
use Rattle.entry_form.specs.declared.command.Base.TheVariants.{Blank, Draft, Edit}
use Rattle.entry_form.specs.declared.command.Command.{Command}
use Rattle.entry_form.specs.declared.command.Command.TheVariants as commands
use Rattle.entry_form.specs.declared.command.Outcome.TheVariants.{Reply, Fault}
use Rattle.entry_form.specs.declared.entry.Entry.{Entry}
use Rattle.entry_form.specs.declared.entry.Entry.TheVariants.{Opened, Done}
use Rattle.entry_form.specs.declared.entry.Opening.{Opening}
use Rattle.entry_form.specs.declared.hand.Hand.{Hand}
use Rattle.entry_codec.specs.Spelling.{Part, byte, number, text, blob, part_bytes, number_bytes, with_length, parts, bytes_of, IsShort}
use Rattle.device_rules.specs.declared.answer.Answer.{Answer}
use Rattle.device_rules.specs.declared.refused.Refused.{Refused}
use Rattle.device_rules.specs.declared.refused.Refused.TheVariants.{BadValue, NoEntry}
use Rattle.device_state.specs.declared.state.State.{State}
use Rattle.device_rules.specs.Limits.{most_entries, is_short, is_form_short, is_reply_short, is_moment, is_version_short, is_within_limits, answer_in}
use Rattle.device_rules.specs.Opened.{is_opening, is_server}
use Rattle.device_rules.specs.Payload.{FitsPayload}
use Rattle.device_rules.specs.Fill.{fill, filled}
use Rattle.entity_lists.specs.EntityTables.{tables_of}
use Rattle.device_rules.specs.Refused.{or_answer_refused}
use Rattle.device_rules.specs.Step.{commanded, entered, step}
use Rattle.device_rules.specs.Tests.{Stepped, open_entry, refused_if}
use Rattle.field_text.specs.Steps.{◌>>=◌}
use Rattle.kept_forms.proofs.KeptLemmas.{filled_short}
use Rattle.kept_forms.specs.KeptForms.{filled_of}
use Rattle.question_rules.specs.declared.answers.AnswerRefused.{AnswerRefused}
use Rattle.question_rules.specs.declared.answers.AnswerRefused.TheVariants.{NoQuestion}
use Rattle.field_text.proofs.StepLemmas.{then_ok}
use Rattle.wire_laws.specs.Bases.{base_in}

-- ---- bytes of parts

length-number : (n : ℕ) → length (number_bytes n) ≡ 8
unfolding number_bytes
length-number n = refl

length-bytes : (t : List ℕ) → length (with_length t) ≡ 4 + length t
unfolding with_length
length-bytes t = omega (arith, length-append (to_le_bytes w32 (length t)) t)

abbrev size_of : List Part → ℕ
size_of [] = 0
size_of (byte b ∷ ps) = 1 + size_of ps
size_of (number n ∷ ps) = 8 + size_of ps
size_of (text t ∷ ps) = 4 + length t + size_of ps
size_of (blob b ∷ ps) = 4 + length b + size_of ps

length-cons : (p : Part) (ps : List Part) → length (bytes_of (p ∷ ps)) ≡ length (part_bytes p) + length (bytes_of ps)
length-cons p ps = ap length (flat_map-cons part_bytes p ps) ∙ length-append (part_bytes p) (bytes_of ps)

length-parts : (ps : List Part) → length (bytes_of ps) ≡ size_of ps
length-parts [] = refl
length-parts (byte b ∷ ps) = omega (arith, length-cons (byte b) ps, length-parts ps)
length-parts (number n ∷ ps) = omega (arith, length-cons (number n) ps, length-parts ps, length-number n)
length-parts (text t ∷ ps) = omega (arith, length-cons (text t) ps, length-parts ps, length-bytes t)
length-parts (blob b ∷ ps) = omega (arith, length-cons (blob b) ps, length-parts ps, length-bytes b)

fits : (entry : Entry) → IsShort entry → 1 ≤ size_of (parts entry) → size_of (parts entry) ≤ 524283 → FitsPayload entry
fits entry short some small = record {
  short = short;
  some = let e = length-parts (parts entry) in omega (arith, e, some);
  small = let e = length-parts (parts entry) in omega (arith, e, small);
}

-- ---- limits

both : (a b : Bool) → (a && b) ≡ true → (a ≡ true) × (b ≡ true)
both true b is = (refl, is)
both false b is = absurd (cc (is))

within : (n most : ℕ) → nat_le n most ≡ true → n ≤ most
within n most is = grind (arith, nat_tests)

-- a command whose values are within their limits
pub command_fits : (hand : Hand) (command : Command) → is_within_limits command ≡ true → length (answer_in (Done hand command)) ≤ 2000 → FitsPayload (Done hand command)
command_fits hand (commands.AutoSend on) ok few = fits (Done hand (commands.AutoSend on)) (tt, (tt, (tt, tt))) (omega arith) (omega arith)
command_fits hand (commands.UpdateMode mode) ok few = fits (Done hand (commands.UpdateMode mode)) (tt, (tt, (tt, tt))) (omega arith) (omega arith)
command_fits hand (commands.TakeLock round) ok few = fits (Done hand (commands.TakeLock round)) (tt, (tt, (tt, tt))) (omega arith) (omega arith)
command_fits hand (commands.Release lock) ok few = fits (Done hand (commands.Release lock)) (tt, (tt, (tt, tt))) (omega arith) (omega arith)
command_fits hand (commands.Load form) ok few =
    let l = within (length form) 262144 ok in
    fits (Done hand (commands.Load form)) (tt, (tt, (omega (arith, l), tt))) (omega arith) (omega (arith, l))
command_fits hand (commands.Ask id) ok few =
    let l = within (length id) 4096 ok in
    fits (Done hand (commands.Ask id)) (tt, (tt, (omega (arith, l), tt))) (omega arith) (omega (arith, l))
command_fits hand (commands.Fetched job at (Reply bytes)) ok few =
    let l = within (length bytes) 300000 (both (is_moment at) (is_reply_short bytes) ok).1 in
    fits (Done hand (commands.Fetched job at (Reply bytes))) (tt, (tt, (tt, (tt, (tt, (omega (arith, l), tt)))))) (omega arith) (omega (arith, l))
command_fits hand (commands.Fetched job at (Fault stage)) ok few = fits (Done hand (commands.Fetched job at (Fault stage))) (tt, (tt, (tt, (tt, (tt, (tt, tt)))))) (omega arith) (omega arith)
command_fits hand commands.RoundDone ok few = fits (Done hand commands.RoundDone) (tt, (tt, tt)) (omega arith) (omega arith)
command_fits hand (commands.DropForm id) ok few =
    let l = within (length id) 4096 ok in
    fits (Done hand (commands.DropForm id)) (tt, (tt, (omega (arith, l), tt))) (omega arith) (omega (arith, l))
command_fits hand (commands.Start (Blank form None) how) ok few =
    let l = within (length form) 4096 (both (is_short form) true ok).0 in
    fits (Done hand (commands.Start (Blank form None) how)) (tt, (tt, (tt, (omega (arith, l), (tt, (tt, tt)))))) (omega arith) (omega (arith, l))
command_fits hand (commands.Start (Blank form (Some version)) how) ok few =
    let p = both (is_short form) (is_short version) ok in
    let l = within (length form) 4096 p.0 in
    let m = within (length version) 4096 p.1 in
    fits (Done hand (commands.Start (Blank form (Some version)) how)) (tt, (tt, (tt, (omega (arith, l), (tt, (omega (arith, m), (tt, tt))))))) (omega arith) (omega (arith, l, m))
command_fits hand (commands.Start (Draft n) how) ok few = fits (Done hand (commands.Start (Draft n) how)) (tt, (tt, (tt, (tt, (tt, tt))))) (omega arith) (omega arith)
command_fits hand (commands.Start (Edit n) how) ok few = fits (Done hand (commands.Start (Edit n) how)) (tt, (tt, (tt, (tt, (tt, tt))))) (omega arith) (omega arith)
command_fits hand (commands.Fill path value) ok few =
    let l = within (length path) 4096 ok in
    fits (Done hand (commands.Fill path value)) (tt, (tt, (omega (arith, l), (omega (arith, few), tt)))) (omega arith) (omega (arith, l, few))
command_fits hand commands.SaveDraft ok few = fits (Done hand commands.SaveDraft) (tt, (tt, tt)) (omega arith) (omega arith)
command_fits hand commands.Leave ok few = fits (Done hand commands.Leave) (tt, (tt, tt)) (omega arith) (omega arith)
command_fits hand commands.Finalize ok few = fits (Done hand commands.Finalize) (tt, (tt, tt)) (omega arith) (omega arith)
command_fits hand commands.FinalizeAll ok few = fits (Done hand commands.FinalizeAll) (tt, (tt, tt)) (omega arith) (omega arith)
command_fits hand (commands.DropInstance n) ok few = fits (Done hand (commands.DropInstance n)) (tt, (tt, (tt, tt))) (omega arith) (omega arith)
command_fits hand (commands.SendBegun n at) ok few = fits (Done hand (commands.SendBegun n at)) (tt, (tt, (tt, (tt, tt)))) (omega arith) (omega arith)
command_fits hand (commands.SendEnded n (Reply bytes)) ok few =
    let l = within (length bytes) 300000 ok in
    fits (Done hand (commands.SendEnded n (Reply bytes))) (tt, (tt, (tt, (tt, (omega (arith, l), tt))))) (omega arith) (omega (arith, l))
command_fits hand (commands.SendEnded n (Fault stage)) ok few = fits (Done hand (commands.SendEnded n (Fault stage))) (tt, (tt, (tt, (tt, (tt, tt))))) (omega arith) (omega arith)
command_fits hand commands.Tick ok few = fits (Done hand commands.Tick) (tt, (tt, tt)) (omega arith) (omega arith)

-- ---- entries that aren't refused for a value

not_bad : (ok : Bool) (more : Unit {0} → Stepped) (purge : State × Answer → Stepped)
    → ((refused_if (not ok) BadValue >>= more) >>= purge) ≢ Err BadValue → ok ≡ true
not_bad true more purge good = refl
not_bad false more purge good = absurd (good refl)

opening_fits : (opening : Opening) → is_opening opening ≡ true → FitsPayload (Opened opening)
opening_fits opening ok =
    let server = both (nat_lt opening.device (2 ^ 48)) (is_server opening.server) ok in
    let l = within (length opening.server) 4096 (both (is_short opening.server) (is_some (base_in opening.server)) server.1).0 in
    fits (Opened opening) (tt, (tt, (tt, (omega (arith, l), tt)))) (omega arith) (omega (arith, l))

pub good_fits : (state : State) (entry : Entry) → step state entry ≢ Err BadValue → length (answer_in entry) ≤ 2000 → FitsPayload entry
good_fits state (Opened opening) good few = opening_fits opening (not_bad (is_opening opening) _ _ good)
good_fits state (Done hand command) good few = command_fits hand command (not_bad (is_within_limits command) _ _ good) few

-- ---- what the rules allow

taken : (o : Result (List (List ℕ)) AnswerRefused) (sheet : List (List ℕ)) → or_answer_refused o ≡ Ok sheet → o ≡ Ok sheet
taken (Ok s) sheet is = ap (λ r. or_no_sheet r) is
  where
    or_no_sheet : Result (List (List ℕ)) Refused → Result (List (List ℕ)) AnswerRefused
    or_no_sheet (Ok s) = Ok s
    or_no_sheet (Err why) = Err NoQuestion
taken (Err why) sheet is = absurd (cc is)

fill_short : (state : State) (path value : List ℕ) (x : State × Answer) → fill state path value ≡ Ok x → length value ≤ 2000
fill_short state path value x is =
    let opened = then_ok (open_entry state) _ x is in
    let filled_so = then_ok (filled (tables_of state.lists.items) opened.0 path value) _ x opened.2 in
    filled_short (tables_of state.lists.items) opened.0.form opened.0.sheet path value filled_so.0
    (taken (filled_of (tables_of state.lists.items) opened.0.form opened.0.sheet path value) filled_so.0 filled_so.1)

-- an answer that is taken is short, and no other entry carries one
answer_short : (state : State) (hand : Hand) (command : Command) (x : State × Answer) → commanded state hand command ≡ Ok x
    → length (answer_in (Done hand command)) ≤ 2000
answer_short state hand (commands.AutoSend on) x is = omega arith
answer_short state hand (commands.UpdateMode mode) x is = omega arith
answer_short state hand (commands.TakeLock round) x is = omega arith
answer_short state hand (commands.Release lock) x is = omega arith
answer_short state hand (commands.Load form) x is = omega arith
answer_short state hand (commands.Ask id) x is = omega arith
answer_short state hand (commands.Fetched job at outcome) x is = omega arith
answer_short state hand commands.RoundDone x is = omega arith
answer_short state hand (commands.DropForm id) x is = omega arith
answer_short state hand (commands.Start base how) x is = omega arith
answer_short state hand (commands.Fill path value) x is =
    fill_short state path value x (then_ok (refused_if (not (is_short path)) BadValue) _ x is).2
answer_short state hand commands.SaveDraft x is = omega arith
answer_short state hand commands.Leave x is = omega arith
answer_short state hand commands.Finalize x is = omega arith
answer_short state hand commands.FinalizeAll x is = omega arith
answer_short state hand (commands.DropInstance n) x is = omega arith
answer_short state hand (commands.SendBegun n at) x is = omega arith
answer_short state hand (commands.SendEnded n outcome) x is = omega arith
answer_short state hand commands.Tick x is = omega arith

entered_short : (state : State) (entry : Entry) (x : State × Answer) → entered state entry ≡ Ok x
    → length (answer_in entry) ≤ 2000
entered_short state (Opened opening) x is = omega arith
entered_short state (Done hand command) x is = answer_short state hand command x is

pub allowed_fits : (state : State) (entry : Entry) (x : State × Answer) → step state entry ≡ Ok x → FitsPayload entry
allowed_fits state entry x is =
    let came = then_ok (entered state entry) _ x is in
    good_fits state entry (λ bad. cc (is, bad)) (entered_short state entry came.0 came.1)
