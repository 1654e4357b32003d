use Rattle.hl_recovery.proofs.TableReads.{recovered_keeps}
use Rattle.hl_recovery.proofs.laws.recovered_images_keep_the_rules.Goals as goal

pub returns : goal.returns
returns _ blocks rack r image has parts t rule address of broken = recovered_keeps blocks rack r image has parts t rule address of broken
