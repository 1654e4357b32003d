use Rattle.std.proofs.Common.{◌≡◌, ◌+◌, ◌-◌, ℕ, length, take, drop, ap, refl, arith}
use Rattle.hl_log.specs.Batches.{brought_of, part_of_unit, blocks_of_part}
use Rattle.hl_log.proofs.Wraps.{adds_piece, has_added_piece}
use Rattle.hl_log.proofs.Batching.{ranges_ok, records_taken, part_bytes_of, own_of}
use Rattle.hl_log.proofs.batch.write_piece.Goals as goal

pub returns-clause-crash : goal.returns-clause-crash
returns-clause-crash g c =
    let G = c.args.geometry.now in
    let u = brought_of c.args.batch.now in
    let p = c.args.piece in
    let left = c.args.left in
    let serial = c.args.log.serial in
    let last = c.args.last in
    let first = c.len.result - left.blocks in
    let new = c.fill.new.out in
    let from = length u.changes - left.tables in
    let taken : from + p.tables - from ≡ p.tables = omega arith in
    let first_is : first ≡ length u.records - left.blocks = ap (λ (n : ℕ). n - left.blocks) c.len.ensures.records in
    let bytes = part_bytes_of G c.args.log.head left u p serial last first c.ends_unit.result (take (from + p.tables - from) (drop from u.changes)) new
    first_is c.ends_unit.ensures (ap (λ (n : ℕ). take n (drop from u.changes)) taken) c.fill.ensures.part (ranges_ok G c.args.log.head left u p serial last c.requires.batch c.requires.stands) in
    let own = own_of left u p first new first_is (records_taken G c.args.log.head left u p serial last c.requires.batch c.requires.stands) c.fill.ensures.blocks in
    adds_piece G c.args.log p.next (part_of_unit u left serial last p) new (blocks_of_part u left p) bytes refl own _ _ c.write_part.ensures.crash

pub returns-clause-added : goal.returns-clause-added
returns-clause-added g c =
    let G = c.args.geometry.now in
    let u = brought_of c.args.batch.now in
    let p = c.args.piece in
    let left = c.args.left in
    let serial = c.args.log.serial in
    let last = c.args.last in
    let first = c.len.result - left.blocks in
    let new = c.fill.new.out in
    let from = length u.changes - left.tables in
    let taken : from + p.tables - from ≡ p.tables = omega arith in
    let first_is : first ≡ length u.records - left.blocks = ap (λ (n : ℕ). n - left.blocks) c.len.ensures.records in
    let bytes = part_bytes_of G c.args.log.head left u p serial last first c.ends_unit.result (take (from + p.tables - from) (drop from u.changes)) new
    first_is c.ends_unit.ensures (ap (λ (n : ℕ). take n (drop from u.changes)) taken) c.fill.ensures.part (ranges_ok G c.args.log.head left u p serial last c.requires.batch c.requires.stands) in
    let own = own_of left u p first new first_is (records_taken G c.args.log.head left u p serial last c.requires.batch c.requires.stands) c.fill.ensures.blocks in
    has_added_piece G c.args.log p.next (part_of_unit u left serial last p) new (blocks_of_part u left p) bytes refl own _ _ _ c.write_part.ensures.added
