use Rattle.std.proofs.Common.{◌≤◌, arith}
use Rattle.hl_super.proofs.RecordLemmas.{room_of}
use Rattle.hl_image.specs.Newest.{home_of, label_of}
use Rattle.hl_log.proofs.Records.{record_runs, record_ends}
use Rattle.hl_log.proofs.Sites.{large_segments}
use Rattle.hl_log.proofs.Silence.{write_silent, write_synced}
use Rattle.hl_log.proofs.checkpoint.write_record.Goals as goal

pub encode_record-requires-clause-room : goal.encode_record-requires-clause-room
encode_record-requires-clause-room g c = room_of (home_of c.args.new.now.number) (label_of c.args.geometry.now) c.args.new.now c.requires.is.ranges

pub returns-clause-crash : goal.returns-clause-crash
returns-clause-crash g c =
    let three : 3 ≤ c.args.geometry.now.k = omega (arith, large_segments c.args.geometry.now c.requires.limits) in
    record_runs c.args.geometry.now _ _ c.args.log c.requires.settled three c.args.new.now _ c.encode_record.auto.out (record { value = c.requires.is; bytes = c.encode_record.ensures.bytes }) _ c.write_synced.ensures.did

pub returns-clause-recorded : goal.returns-clause-recorded
returns-clause-recorded g c =
    let three : 3 ≤ c.args.geometry.now.k = omega (arith, large_segments c.args.geometry.now c.requires.limits) in
    record_ends c.args.geometry.now _ _ c.args.log c.requires.settled three c.args.new.now _ c.encode_record.auto.out (record { value = c.requires.is; bytes = c.encode_record.ensures.bytes }) _ c.write_synced.ensures.did

pub returns-clause-silent : goal.returns-clause-silent
returns-clause-silent g c = write_silent _ _ _ _ _ c.write_synced.ensures.did

pub returns-clause-synced : goal.returns-clause-synced
returns-clause-synced g c = write_synced _ _ _ _ _ c.write_synced.ensures.did
