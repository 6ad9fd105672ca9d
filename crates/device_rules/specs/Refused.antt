-- The numbers of refusals, and what the rules say of one.
use Rattle.std.specs.Prelude.{ℕ, Option, Some, None, Result, Ok, Err}
use Rattle.entity_lists.specs.ServerRows.{row_limit}
use Rattle.entity_lists.specs.Versions.{version_limit}
use Rattle.entity_merge.specs.declared.actions.ActionRefused.{ActionRefused}
use Rattle.entity_merge.specs.declared.actions.ActionRefused.TheVariants as actions
use Rattle.finalizer.specs.declared.finals.NotFinal.{NotFinal as Unfinished}
use Rattle.finalizer.specs.declared.finals.NotFinal.TheVariants as finals
use Rattle.form_read.specs.declared.refusal.FormRefused.{FormRefused as FormFault}
use Rattle.form_read.specs.declared.refusal.FormRefused.TheVariants as forms
use Rattle.question_rules.specs.declared.answers.AnswerRefused.{AnswerRefused}
use Rattle.question_rules.specs.declared.answers.AnswerRefused.TheVariants as answers
use Rattle.device_rules.specs.declared.refused.Refused.{Refused}
use Rattle.device_rules.specs.declared.refused.Refused.TheVariants.{BadValue, Busy, NotHolder, NothingDue}
use Rattle.device_rules.specs.declared.refused.Refused.TheVariants.{NoForm, NoVersion, NoInstance, NoEntry}
use Rattle.device_rules.specs.declared.refused.Refused.TheVariants.{EntryThere, SavepointThere, NoSavepoint}
use Rattle.device_rules.specs.declared.refused.Refused.TheVariants.{WrongStatus, HasEdit, InUse, Answer, NotFinal, FormRefused}
use Rattle.device_rules.specs.declared.refused.Refused.TheVariants.{OtherBytes, Limit, NotInFlight, InFlight}
use Rattle.device_rules.specs.declared.refused.Refused.TheVariants.{NoMemory, NotBuilt}
use Rattle.device_rules.specs.declared.refused.Which.TheVariants.{Rows, Versions}

-- Of the refusals that apply the one of the least number is given; want of memory comes after all.
abbrev pub refused_number : Refused → ℕ
refused_number BadValue = 1
refused_number (Busy hand since) = 2
refused_number (NotHolder holder) = 3
refused_number NothingDue = 4
refused_number NoForm = 5
refused_number NoVersion = 6
refused_number NoInstance = 7
refused_number NoEntry = 8
refused_number EntryThere = 9
refused_number SavepointThere = 10
refused_number NoSavepoint = 11
refused_number (WrongStatus status) = 12
refused_number (HasEdit number) = 13
refused_number (InUse number) = 14
refused_number (Answer why) = 15
refused_number (NotFinal why) = 16
refused_number (FormRefused why) = 17
refused_number (OtherBytes kept new) = 18
refused_number (Limit which number) = 19
refused_number NotInFlight = 21
refused_number (InFlight number) = 22
refused_number NoMemory = 23
refused_number NotBuilt = 24

-- the refusal as the rules give it, which know nothing of memory
abbrev pub rule_of : Refused → Option Refused
rule_of NoMemory = None
rule_of why = Some why

-- want of memory in taking an answer is want of memory
abbrev pub answer_refused : AnswerRefused → Refused
answer_refused answers.NoMemory = NoMemory
answer_refused why = Answer why

-- and in reading a form
abbrev pub form_refused : FormFault → Refused
form_refused forms.NoMemory = NoMemory
form_refused why = FormRefused why

-- what taking an answer gives, with its refusal as one of the rules
abbrev pub or_answer_refused : {A : Type 0} → Result A AnswerRefused → Result A Refused
or_answer_refused (Ok a) = Ok a
or_answer_refused (Err why) = Err (answer_refused why)

-- what reading a form gives, with its refusal as one of the rules
abbrev pub or_form_refused : {A : Type 0} → Result A FormFault → Result A Refused
or_form_refused (Ok a) = Ok a
or_form_refused (Err why) = Err (form_refused why)

-- want of memory in finalizing
abbrev pub not_final : Unfinished → Refused
not_final finals.NoMemory = NoMemory
not_final why = NotFinal why

-- what finalizing gives, with its refusal as one of the rules
abbrev pub or_not_final : {A : Type 0} → Result A Unfinished → Result A Refused
or_not_final (Ok a) = Ok a
or_not_final (Err why) = Err (not_final why)

-- the limit that an action meets
abbrev pub action_refused : ActionRefused → Refused
action_refused (actions.TooManyRecords count) = Limit Rows row_limit
action_refused (actions.AtEnd id) = Limit Versions version_limit
action_refused actions.NoMemory = NoMemory

abbrev pub or_action_refused : {A : Type 0} → Result A ActionRefused → Result A Refused
or_action_refused (Ok a) = Ok a
or_action_refused (Err why) = Err (action_refused why)
