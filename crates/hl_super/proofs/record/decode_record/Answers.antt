use Rattle.std.proofs.Common.{◌≡◌, ◌↔◌, Some, None, Option, arith}
use Rattle.hl_bytes.proofs.Decoding.{accepted, refused, none_exactly}
use Rattle.hl_super.specs.declared.record.Record.{Record}
use Rattle.hl_super.specs.Records.{Spells}
use Rattle.hl_super.proofs.RecordLemmas.{only, has_room, is_record}
use Rattle.hl_super.proofs.record.decode_record.Goals as goal

pub is_spelled-requires-clause-room : goal.is_spelled-requires-clause-room
is_spelled-requires-clause-room c = has_room c.args.block.now c.in_ok-rec.rec c.in_ok-rec.ensures

pub returns-then-is_spelled : goal.returns-then-is_spelled
returns-then-is_spelled c =
    let x = c.in_ok-rec.rec in
    let P = Spells c.args.at c.args.label.now c.args.block.now in
    let found : (v : Record) → (Some x ≡ Some v) ↔ P v =
    accepted P x c.is_spelled.result c.if-is_spelled.true
    (λ t. let p = c.is_spelled.ensures.0 t in record { value = is_record c.args.at c.args.label.now c.args.block.now x (λ i. omega (arith, c.type_inv.block i)) c.in_ok-rec.ensures p.0; bytes = p.1 })
    (only c.args.at c.args.label.now c.args.block.now x c.in_ok-rec.ensures) in
    record { found = found; none = none_exactly P (Some x) found }

pub returns-else-is_spelled : goal.returns-else-is_spelled
returns-else-is_spelled c =
    let x = c.in_ok-rec.rec in
    let P = Spells c.args.at c.args.label.now c.args.block.now in
    let nothing : Option Record = None in
    let found : (v : Record) → (nothing ≡ Some v) ↔ P v =
    refused P x c.is_spelled.result c.if-is_spelled.false (λ p. c.is_spelled.ensures.1 (p.value.ranges, p.bytes)) (only c.args.at c.args.label.now c.args.block.now x c.in_ok-rec.ensures) in
    record { found = found; none = none_exactly P nothing found }
