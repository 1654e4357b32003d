use Rattle.hl_script.proofs.OneLine.{none_text, line_of_answer}
use Rattle.hl_script.proofs.answer.answers_are_lines.Goals as goal

pub returns-clause-text : goal.returns-clause-text
returns-clause-text c = λ answer. none_text answer

pub returns-clause-line : goal.returns-clause-line
returns-clause-line c = λ answer. line_of_answer answer
