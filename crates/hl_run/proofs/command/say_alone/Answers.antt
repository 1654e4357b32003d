use Rattle.hl_media.proofs.Sayings.{on_ok_says, on_err_says}
use Rattle.hl_run.proofs.Alone.{alone, whole_told}
use Rattle.hl_run.proofs.OneTurn.{either}
use Rattle.hl_run.proofs.command.say_alone.Goals as goal

pub returns-clause-says : goal.returns-clause-says
returns-clause-says g c = alone _ c.args.text.now _ _ (either c.say.result (on_ok_says _ _ c.args.text.now c.say.result c.say.ensures.did) (on_err_says _ _ c.args.text.now c.say.result c.say.ensures.did) c.say.ensures.say_faults.failed)

pub returns-clause-whole : goal.returns-clause-whole
returns-clause-whole g c = whole_told _ _ c.args.text.now c.say.result (on_ok_says _ _ c.args.text.now c.say.result c.say.ensures.did)
