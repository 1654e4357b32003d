use Rattle.hl_script.proofs.LineLaws.{reads_a_line, reads_one_line, refuses_no_line}
use Rattle.hl_script.proofs.reading.read_line.Goals as goal

pub returns-clause-ok : goal.returns-clause-ok
returns-clause-ok c = reads_a_line c.line_of_text.result c.args.bytes.now c.line_of_text.ensures

pub returns-clause-one : goal.returns-clause-one
returns-clause-one c = reads_one_line c.line_of_text.result c.args.bytes.now c.line_of_text.ensures

pub returns-clause-bad : goal.returns-clause-bad
returns-clause-bad c = refuses_no_line c.line_of_text.result c.args.bytes.now c.line_of_text.ensures
