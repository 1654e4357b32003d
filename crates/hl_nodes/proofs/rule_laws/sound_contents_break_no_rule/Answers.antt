use Rattle.hl_nodes.proofs.SoundLaws.{sound_breaks_none}
use Rattle.hl_nodes.proofs.rule_laws.sound_contents_break_no_rule.Goals as goal

pub returns : goal.returns
returns r g image c has sound rule address of breaks = sound_breaks_none g image c has sound rule address of breaks
