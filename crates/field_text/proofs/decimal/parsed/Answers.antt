-- Digits are ASCII, so they are a text, and std reads a printed number as itself.
use Rattle.std.proofs.Common.{◌∙◌, ap, sym, subst}
use Rattle.std.specs.Result.{result_ok}
use Rattle.std.specs.Str.{IsUtf8}
use Rattle.std.proofs.lemmas.Str.{IsUtf8-from_ascii}
use Rattle.std.proofs.lemmas.Fmt.{IsAscii-decimal, parse-decimal}
use Rattle.field_text.proofs.decimal.parsed.Goals as goal

pub returns-in-Ok : goal.returns-in-Ok
returns-in-Ok c value small same =
    c.ok.ensures.value ∙ ap result_ok (parse-decimal 64 value _ _ small small (c.in-Ok.ensures.cases.0 ∙ same) c.parse.ensures.value.0)

pub returns-in-Err : goal.returns-in-Err
returns-in-Err c value small same =
    absurd (c.in-Err.ensures.cases.0 (subst IsUtf8 (sym same) (IsUtf8-from_ascii _ (IsAscii-decimal value small))))
