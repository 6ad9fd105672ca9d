-- The line of a refusal: its number and its words; that of a lock which is held names the holder.
use Rattle.std.specs.Prelude.{ℕ, List, [], ◌++◌, codes}
use Rattle.finalizer.specs.declared.finals.NotFinal.{NotFinal}
use Rattle.finalizer.specs.declared.finals.NotFinal.TheVariants as finals
use Rattle.form_read.specs.declared.refusal.FormRefused.{FormRefused}
use Rattle.form_read.specs.declared.refusal.FormRefused.TheVariants as forms
use Rattle.question_rules.specs.declared.answers.AnswerRefused.{AnswerRefused}
use Rattle.question_rules.specs.declared.answers.AnswerRefused.TheVariants as answers
use Rattle.device_rules.specs.declared.refused.Refused.{Refused}
use Rattle.device_rules.specs.declared.refused.Refused.TheVariants as refusals
use Rattle.device_rules.specs.declared.refused.Which.{Which}
use Rattle.device_rules.specs.declared.refused.Which.TheVariants.{Forms, Instances, Lists, Rows, Versions, Counters}
use Rattle.device_rules.specs.Refused.{refused_number}
use Rattle.collect_text.specs.Lines.{line_at}
use Rattle.collect_text.specs.Log.{hand_word}
use Rattle.collect_text.specs.Pieces.{spaced_number, spaced_text, spaced_word, status_word}

abbrev pub limit_word : Which → List ℕ
limit_word Forms = codes "forms"
limit_word Instances = codes "instances"
limit_word Lists = codes "lists"
limit_word Rows = codes "rows"
limit_word Versions = codes "versions"
limit_word Counters = codes "counters"

-- why an answer isn't taken
abbrev pub answer_word : AnswerRefused → List ℕ
answer_word answers.NoQuestion = codes "no-question"
answer_word answers.NotRelevant = codes "not-relevant"
answer_word answers.ReadOnly = codes "read-only"
answer_word answers.NotWhole = codes "not-whole"
answer_word answers.NotAChoice = codes "not-a-choice"
answer_word answers.TooLong = codes "too-long"
answer_word (answers.BadChar at) = codes "bad-char"
answer_word answers.NoMemory = codes "memory"

-- why an instance isn't finalized
abbrev pub not_final_words : NotFinal → List ℕ
not_final_words (finals.Required path) = codes "required" ++ spaced_text path
not_final_words (finals.Constraint path) = codes "constraint" ++ spaced_text path
not_final_words (finals.TooLong length) = codes "too-long"
not_final_words finals.NoMemory = codes "memory"

-- the number by which it is printed why bytes are no form
abbrev pub form_refused_number : FormRefused → ℕ
form_refused_number (forms.Doc why) = 1
form_refused_number forms.NoPrimary = 2
form_refused_number forms.NoId = 3
form_refused_number (forms.BadExpr path at) = 4
form_refused_number (forms.UnknownPath path) = 5
form_refused_number (forms.UnknownControl name) = 6
form_refused_number (forms.UnknownType path) = 7
form_refused_number (forms.Cycle path) = 8
form_refused_number (forms.UnknownList name) = 9
form_refused_number (forms.TooManyFields count) = 10
form_refused_number (forms.BadEntity path) = 11
form_refused_number forms.NoMemory = 12

abbrev pub refusal_words : Refused → List ℕ
refusal_words refusals.BadValue = codes "value"
refusal_words (refusals.Busy hand since) =
    codes "busy" ++ spaced_word (hand_word hand) ++ spaced_word (codes "since") ++ spaced_number since
refusal_words (refusals.NotHolder holder) = codes "holder"
refusal_words refusals.NothingDue = codes "due"
refusal_words refusals.NoForm = codes "form"
refusal_words refusals.NoVersion = codes "version"
refusal_words refusals.NoInstance = codes "instance"
refusal_words refusals.NoEntry = codes "entry"
refusal_words refusals.EntryThere = codes "entry-there"
refusal_words refusals.SavepointThere = codes "savepoint"
refusal_words refusals.NoSavepoint = codes "no-savepoint"
refusal_words (refusals.WrongStatus status) = codes "status" ++ spaced_word (status_word status)
refusal_words (refusals.HasEdit number) = codes "edit" ++ spaced_number number
refusal_words (refusals.InUse number) = codes "used" ++ spaced_number number
refusal_words (refusals.Answer why) = codes "answer" ++ spaced_word (answer_word why)
refusal_words (refusals.NotFinal why) = not_final_words why
refusal_words (refusals.FormRefused why) = codes "form-refused" ++ spaced_number (form_refused_number why)
refusal_words (refusals.OtherBytes kept new) = codes "other" ++ spaced_text kept ++ spaced_text new
refusal_words (refusals.Limit which number) = codes "limit" ++ spaced_word (limit_word which) ++ spaced_number number
refusal_words refusals.NotInFlight = codes "not-in-flight"
refusal_words (refusals.InFlight number) = codes "in-flight" ++ spaced_number number
refusal_words refusals.NoMemory = codes "memory"
refusal_words refusals.NotBuilt = codes "not-built"

abbrev pub numbered : Refused → List ℕ
numbered why = codes "refused" ++ spaced_number (refused_number why) ++ codes " "

-- what stands before the words of a refusal: its number, but where a lock is held
abbrev pub refusal_start : Refused → List ℕ
refusal_start (refusals.Busy hand since) = []
refusal_start why = numbered why

-- what is told of a refusal, behind the position
abbrev pub refused_text : Refused → List ℕ
refused_text why = refusal_start why ++ refusal_words why

abbrev pub printed_refused : ℕ → Refused → List ℕ
printed_refused position why = line_at position (refused_text why)
