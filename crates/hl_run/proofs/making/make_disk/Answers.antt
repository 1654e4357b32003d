use Rattle.hl_run.proofs.Alone.{made_whole, made_unsaid}
use Rattle.hl_run.proofs.making.make_disk.Goals as goal

pub returns-in-Ok-say_alone-clause-makes : goal.returns-in-Ok-say_alone-clause-makes
returns-in-Ok-say_alone-clause-makes g c = made_whole _ _ _ _ c.in-Ok.ensures.formats c.in-Ok.ensures.formatted c.in-Ok.ensures.said c.in-Ok-say_alone.ensures.says.0 c.in-Ok-say_alone.ensures.whole

pub returns-in-Err-say_alone-clause-makes : goal.returns-in-Err-say_alone-clause-makes
returns-in-Err-say_alone-clause-makes g c = made_unsaid _ _ _ _ c.in-Ok.ensures.formats c.in-Ok.ensures.formatted c.in-Ok.ensures.said c.in-Err-say_alone.ensures.says.0
