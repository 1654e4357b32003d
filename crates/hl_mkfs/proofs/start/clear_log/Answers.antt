use Rattle.std.proofs.Common.{refl}
use Rattle.hl_bytes.specs.Fields.{zeros}
use Rattle.hl_log.proofs.Sites.{large_segments}
use Rattle.hl_mkfs.proofs.Clearing.{clear_ends, clear_runs}
use Rattle.hl_mkfs.proofs.start.clear_log.Goals as goal

pub returns-clause-blank : goal.returns-clause-blank
unfolding zeros
returns-clause-blank g c =
    let site = c.args.geometry.now in
    let did = rw c.first_block.ensures.value at c.write_synced.ensures.did in
    clear_ends site (large_segments site c.first_block.ensures.limits) _ refl refl _ _ c.write_synced.result did

pub returns-clause-crash : goal.returns-clause-crash
unfolding zeros
returns-clause-crash g c =
    let site = c.args.geometry.now in
    let did = rw c.first_block.ensures.value at c.write_synced.ensures.did in
    clear_runs site (large_segments site c.first_block.ensures.limits) _ refl refl _ _ c.write_synced.result did _
