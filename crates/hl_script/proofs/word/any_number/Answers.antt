use Rattle.std.proofs.Common.{sym, ◌∙◌}
use Rattle.hl_script.proofs.WordLaws.{utf8_from_numeral, number_none}
use Rattle.hl_script.proofs.word.any_number.Goals as goal

pub returns-in_default : goal.returns-in_default
returns-in_default c =
    absurd (c.in_default.ensures.cases.0 (utf8_from_numeral c.args.word.now (sym c.if-not-is_numeral.ensures)))

pub returns-in-Err : goal.returns-in-Err
returns-in-Err c =
    number_none c.args.word.now c.in-Err.field-0 (sym c.if-not-is_numeral.ensures)
    (rw c.in-Ok.ensures.cases.0 at c.in-Err.ensures.value.0)
