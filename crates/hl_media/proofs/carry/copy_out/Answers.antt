use Rattle.std.proofs.Common.{sym, ◌∙◌}
use Rattle.hl_media.proofs.VolumeLaws.{done_on, ended_on, synced_lasts, synced_others}
use Rattle.hl_media.proofs.carry.copy_out.Goals as goal

pub returns-in-Ok-Done-clause-lasts : goal.returns-in-Ok-Done-clause-lasts
returns-in-Ok-Done-clause-lasts g c = synced_lasts _ _ _ _ (rw c.in-Ok-Done.field-0-is at c.in-Ok-Done.ensures.did)

pub returns-in-Ok-Done-clause-others : goal.returns-in-Ok-Done-clause-others
returns-in-Ok-Done-clause-others g c = synced_others _ _ _ _ _ c.write_seg_synced.ensures.did

pub returns-in-Ok-Done-clause-medium : goal.returns-in-Ok-Done-clause-medium
returns-in-Ok-Done-clause-medium g c = λ x told. done_on c.args.slot x (sym c.in-Ok-Done.field-0-is ∙ c.in-Ok-Done.ensures.medium x told)

pub returns-in-Ok-EndOfMedium-clause-others : goal.returns-in-Ok-EndOfMedium-clause-others
returns-in-Ok-EndOfMedium-clause-others g c = synced_others _ _ _ _ _ c.write_seg_synced.ensures.did

pub returns-in-Ok-EndOfMedium-clause-medium : goal.returns-in-Ok-EndOfMedium-clause-medium
returns-in-Ok-EndOfMedium-clause-medium g c = λ x told. ended_on c.args.slot x (sym c.in-Ok-EndOfMedium.field-0-is ∙ c.in-Ok-EndOfMedium.ensures.medium x told)

pub returns-in-Err-clause-others : goal.returns-in-Err-clause-others
returns-in-Err-clause-others g c = synced_others _ _ _ _ _ c.write_seg_synced.ensures.did
