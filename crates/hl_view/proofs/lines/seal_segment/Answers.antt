use Rattle.std.proofs.Common.{◌+◌, ◌*◌, ◌++◌, length, refl, arith}
use Rattle.hl_bytes.specs.Fields.{le32, le64, zeros}
use Rattle.hl_bytes.specs.Records.{block_records_bytes}
use Rattle.hl_bytes.proofs.Places.{written_on}
use Rattle.hl_tseg.specs.Segments.{head_fields, segment_magic}
use Rattle.hl_view.specs.Lines.{head_with}
use Rattle.hl_view.proofs.SegmentLemmas.{length-head, sealed}
use Rattle.hl_view.proofs.lines.seal_segment.Goals as goal

pub returns-clause-bytes : goal.returns-clause-bytes
unfolding le32 le64 zeros
returns-clause-bytes c =
    let old = c.args.segment.now in
    let head = head_with c.args.serial c.args.records.now in
    let serial = segment_magic ++ le64 c.args.serial in
    let count = serial ++ le32 (length c.args.records.now) in
    let put2 = written_on old c.put_bytes.new.bytes c.put_u64.new.bytes segment_magic (le64 c.args.serial) 0 8 c.put_bytes.ensures.whole c.put_u64.ensures.whole refl (omega arith) in
    let put3 = written_on old c.put_u64.new.bytes c.put_u32.new.bytes serial (le32 (length c.args.records.now)) 0 16 put2 c.put_u32.ensures.whole refl (omega arith) in
    let put4 = written_on old c.put_u32.new.bytes c.put_zeros.new.bytes count (zeros 4) 0 20 put3 c.put_zeros.ensures.whole refl (omega arith) in
    let put5 = written_on old c.put_zeros.new.bytes c.put_block_records.new.bytes (count ++ zeros 4) (block_records_bytes c.args.records.now) 0 24 put4 c.put_block_records.ensures.whole refl (omega arith) in
    let n = length c.args.records.now in
    sealed old c.put_block_records.new.bytes c.end_page_over.new.bytes (head_fields head) (24 + 8 * n) c.requires.blocks (length-head head) (omega (arith, c.requires.few)) put5 c.end_page_over.ensures
