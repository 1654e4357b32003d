use Rattle.hl_tally.proofs.MountLaws.{mounted_tally}
use Rattle.hl_tally.proofs.laws.a_mount_counts_all_live_blocks.Goals as goal

pub returns : goal.returns
returns r g image c o addresses n counts = mounted_tally g image c o n addresses counts
