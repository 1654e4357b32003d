use Rattle.hl_script.proofs.LineLaws.{reads_a_user_line, reads_one_user_line, refuses_no_user_line}
use Rattle.hl_script.proofs.reading.read_user_line.Goals as goal

pub returns-clause-ok : goal.returns-clause-ok
returns-clause-ok c = reads_a_user_line c.user_line_of_text.result c.args.bytes.now c.user_line_of_text.ensures

pub returns-clause-one : goal.returns-clause-one
returns-clause-one c = reads_one_user_line c.user_line_of_text.result c.args.bytes.now c.user_line_of_text.ensures

pub returns-clause-bad : goal.returns-clause-bad
returns-clause-bad c = refuses_no_user_line c.user_line_of_text.result c.args.bytes.now c.user_line_of_text.ensures
