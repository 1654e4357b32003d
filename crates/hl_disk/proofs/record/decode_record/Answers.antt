use Rattle.std.proofs.Common.{◌≡◌, ◌↔◌, Some, None, Option, arith}
use Rattle.hl_bytes.proofs.Decoding.{accepted, refused, none_exactly}
use Rattle.hl_disk.specs.declared.record.DumpRecord.{DumpRecord}
use Rattle.hl_disk.specs.Records.{Spells}
use Rattle.hl_disk.proofs.RecordLemmas.{only, is_record}
use Rattle.hl_disk.proofs.record.decode_record.Goals as goal

pub returns-then-is_spelled : goal.returns-then-is_spelled
returns-then-is_spelled c =
    let x = c.record_in-rec.result in
    let P = Spells c.args.at c.args.block.now in
    let found : (v : DumpRecord) → (Some x ≡ Some v) ↔ P v =
    accepted P x c.is_spelled.result c.if-is_spelled.true
    (λ t. let p = c.is_spelled.ensures.0 t in record { value = is_record c.args.at c.args.block.now x c.requires (λ i. omega (arith, c.type_inv.block i)) c.record_in-rec.ensures p.0 p.1; bytes = p.2 })
    (only c.args.at c.args.block.now x c.record_in-rec.ensures) in
    record { found = found; none = none_exactly P (Some x) found }

pub returns-else-is_spelled : goal.returns-else-is_spelled
returns-else-is_spelled c =
    let x = c.record_in-rec.result in
    let P = Spells c.args.at c.args.block.now in
    let nothing : Option DumpRecord = None in
    let found : (v : DumpRecord) → (nothing ≡ Some v) ↔ P v =
    refused P x c.is_spelled.result c.if-is_spelled.false (λ p. c.is_spelled.ensures.1 (p.value.number, p.value.parity, p.bytes)) (only c.args.at c.args.block.now x c.record_in-rec.ensures) in
    record { found = found; none = none_exactly P nothing found }
