use Rattle.hl_log.proofs.Wraps.{head_runs, head_ends}
use Rattle.hl_log.proofs.Silence.{write_silent}
use Rattle.hl_log.proofs.writing.clear_head.Goals as goal

pub returns-clause-crash : goal.returns-clause-crash
returns-clause-crash g c =
    let did = rw c.block_at.ensures.value at c.write_synced.ensures.did in
    head_runs c.args.geometry.now _ _ c.args.log _ _ c.requires.fresh c.zeros-zeros.ensures did

pub returns-clause-cleared : goal.returns-clause-cleared
returns-clause-cleared g c =
    let did = rw c.block_at.ensures.value at c.write_synced.ensures.did in
    head_ends c.args.geometry.now _ _ c.args.log _ _ c.requires.fresh c.zeros-zeros.ensures did

pub returns-clause-silent : goal.returns-clause-silent
returns-clause-silent g c = write_silent _ _ _ _ _ c.write_synced.ensures.did
