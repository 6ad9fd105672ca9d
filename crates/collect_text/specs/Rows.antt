-- The lines of fixed words: a table from words to what the line asks for. To add a line is to add a row, here and in
-- the code.
use Rattle.std.specs.Prelude.{ℕ, List, [], ◌∷◌, Bool, true, false, codes, if◌then◌else◌}
use Rattle.std.specs.Str.{bytes_eq}
use lib.Pointwise.{pointwise}
use Rattle.field_text.specs.declared.mode.Mode.TheVariants.{Manual, Previous, Exact}
use Rattle.entry_form.specs.declared.command.Command.TheVariants.{AutoSend, Finalize, FinalizeAll, Leave}
use Rattle.entry_form.specs.declared.command.Command.TheVariants.{SaveDraft, Tick, UpdateMode}
use Rattle.device_rules.specs.declared.answer.Query.TheVariants as queries
use Rattle.collect_text.specs.Arguments.{with_arguments}
use Rattle.collect_text.specs.declared.line.Line.{Line}
use Rattle.collect_text.specs.declared.line.Line.TheVariants.{Quit, NotBuilt, Send, Look, Give}
use Rattle.collect_text.specs.declared.rows.Asked.{Asked}
use Rattle.collect_text.specs.declared.rows.Asked.TheVariants as asked

-- a row: its words, and what they ask for
abbrev pub LineRow : Type 0
LineRow = List (List ℕ) × Asked

abbrev pub rows : List LineRow
rows =
    (codes "quit" ∷ [], asked.Quit)
    ∷ (codes "show" ∷ codes "settings" ∷ [], asked.ShowSettings)
    ∷ (codes "show" ∷ codes "forms" ∷ [], asked.ShowForms)
    ∷ (codes "show" ∷ codes "instances" ∷ [], asked.ShowInstances)
    ∷ (codes "show" ∷ codes "entry" ∷ [], asked.ShowEntry)
    ∷ (codes "set" ∷ codes "autosend" ∷ codes "on" ∷ [], asked.AutoSend true)
    ∷ (codes "set" ∷ codes "autosend" ∷ codes "off" ∷ [], asked.AutoSend false)
    ∷ (codes "set" ∷ codes "mode" ∷ codes "manual" ∷ [], asked.UpdateMode Manual)
    ∷ (codes "set" ∷ codes "mode" ∷ codes "previous" ∷ [], asked.UpdateMode Previous)
    ∷ (codes "set" ∷ codes "mode" ∷ codes "exact" ∷ [], asked.UpdateMode Exact)
    ∷ (codes "tick" ∷ [], asked.Tick)
    ∷ (codes "save" ∷ [], asked.Save)
    ∷ (codes "leave" ∷ [], asked.Leave)
    ∷ (codes "finalize" ∷ [], asked.Finalize)
    ∷ (codes "finalizeall" ∷ [], asked.FinalizeAll)
    ∷ (codes "send" ∷ [], asked.Send)
    ∷ (codes "update" ∷ [], asked.NotBuilt)
    ∷ (codes "lists" ∷ [], asked.NotBuilt)
    ∷ (codes "settle" ∷ [], asked.NotBuilt)
    ∷ []

-- the line of what was asked
abbrev pub line_of : Asked → Line
line_of asked.Quit = Quit
line_of asked.NotBuilt = NotBuilt
line_of asked.Send = Send
line_of asked.ShowSettings = Look queries.Settings
line_of asked.ShowForms = Look queries.Forms
line_of asked.ShowInstances = Look queries.Instances
line_of asked.ShowEntry = Look queries.EntryNow
line_of (asked.AutoSend on) = Give (AutoSend on)
line_of (asked.UpdateMode mode) = Give (UpdateMode mode)
line_of asked.Tick = Give Tick
line_of asked.Save = Give SaveDraft
line_of asked.Leave = Give Leave
line_of asked.Finalize = Give Finalize
line_of asked.FinalizeAll = Give FinalizeAll

abbrev pub same_words : List (List ℕ) → List (List ℕ) → Bool
same_words = pointwise bytes_eq

-- of the first row of these words; a line without a row is one with arguments
abbrev pub meaning_among : List (List ℕ) → List LineRow → Line
meaning_among words [] = with_arguments words
meaning_among words (row ∷ others) = if same_words words row.0 then line_of row.1 else meaning_among words others

abbrev pub words_meaning : List (List ℕ) → Line
words_meaning words = meaning_among words rows
