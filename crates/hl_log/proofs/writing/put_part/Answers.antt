use Rattle.std.proofs.Common.{arith}
use Rattle.std.proofs.Math.Nat.{mul-le-mul_left}
use Rattle.hl_log.proofs.Wraps.{put_runs, put_ends}
use Rattle.hl_log.proofs.Silence.{write_silent, write_synced}
use Rattle.hl_log.proofs.writing.put_part.Goals as goal

pub write_synced-requires-clause-within : goal.write_synced-requires-clause-within
write_synced-requires-clause-within g c =
    let m = mul-le-mul_left c.args.geometry.now.k c.requires.place.high in
    omega (arith, m, c.block_at.ensures.value, c.requires.within, c.requires.room)

pub returns-clause-crash : goal.returns-clause-crash
returns-clause-crash g c =
    let did = rw c.block_at.ensures.value at c.write_synced.ensures.did in
    put_runs c.args.geometry.now _ _ c.args.log _ _ c.requires.settled c.args.next did

pub returns-clause-put : goal.returns-clause-put
returns-clause-put g c =
    let did = rw c.block_at.ensures.value at c.write_synced.ensures.did in
    put_ends c.args.geometry.now _ _ c.args.log _ _ c.requires.settled c.args.next did

pub returns-clause-silent : goal.returns-clause-silent
returns-clause-silent g c = write_silent _ _ _ _ _ c.write_synced.ensures.did

pub returns-clause-synced : goal.returns-clause-synced
returns-clause-synced g c = write_synced _ _ _ _ _ c.write_synced.ensures.did
