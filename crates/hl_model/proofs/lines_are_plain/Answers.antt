use Rattle.hl_model.proofs.LineRuns.{lines_are_one_run, lines_in_plain}
use Rattle.hl_model.proofs.lines_are_plain.Goals as goal

pub returns : goal.returns
returns c = record {
  steps = λ g w lines said after run. lines_are_one_run g w lines said after run;
  files = λ g w lines said after site run. (lines_in_plain g w lines said after site run).0;
  replies = λ g w lines said after site run. (lines_in_plain g w lines said after site run).1;
}
