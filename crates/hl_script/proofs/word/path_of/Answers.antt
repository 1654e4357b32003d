use Rattle.hl_script.proofs.WordLaws.{AreNames-from_script}
use Rattle.hl_script.proofs.word.path_of.Goals as goal

pub unwrap-requires : goal.unwrap-requires
unwrap-requires c = c.new.ensures.valid.1 (AreNames-from_script _ c.requires)
