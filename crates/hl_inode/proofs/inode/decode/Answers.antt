use Rattle.std.proofs.Common.{◌≡◌, ◌↔◌, Some, None, Option, arith}
use Rattle.hl_bytes.proofs.Decoding.{accepted, refused, none_exactly}
use Rattle.hl_inode.specs.declared.inode.Inode.{Inode}
use Rattle.hl_inode.specs.Inodes.{Spells}
use Rattle.hl_inode.proofs.InodeLemmas.{only, has_room}
use Rattle.hl_inode.proofs.inode.decode.Goals as goal

pub returns-then-is_spelled : goal.returns-then-is_spelled
returns-then-is_spelled c =
    let x = c.inode_in-inode.result in
    let P = Spells c.args.bytes.now in
    let found : (v : Inode) → (Some x ≡ Some v) ↔ P v =
    accepted P x c.is_spelled.result c.if-is_spelled.true
    (λ t. let p = c.is_spelled.ensures.0 t in record { value = record { ranges = p.0; room = has_room c.args.bytes.now x (λ i. omega (arith, c.type_inv.bytes i)) c.inode_in-inode.ensures }; bytes = p.1 })
    (only c.args.bytes.now x c.inode_in-inode.ensures) in
    record { found = found; none = none_exactly P (Some x) found }

pub returns-else-is_spelled : goal.returns-else-is_spelled
returns-else-is_spelled c =
    let x = c.inode_in-inode.result in
    let P = Spells c.args.bytes.now in
    let nothing : Option Inode = None in
    let found : (v : Inode) → (nothing ≡ Some v) ↔ P v =
    refused P x c.is_spelled.result c.if-is_spelled.false (λ p. c.is_spelled.ensures.1 (p.value.ranges, p.bytes)) (only c.args.bytes.now x c.inode_in-inode.ensures) in
    record { found = found; none = none_exactly P nothing found }
