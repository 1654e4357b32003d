use Rattle.hl_survey.proofs.RulesKept.{surveyed_keeps}
use Rattle.hl_survey.proofs.laws.surveyed_images_keep_the_rules.Goals as goal

pub returns : goal.returns
returns r g image t found limits are rec parts rule address of broken = surveyed_keeps g image t found limits are rec parts address rule of broken
