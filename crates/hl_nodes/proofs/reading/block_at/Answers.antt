use Rattle.std.proofs.Common.{◌≡◌, ◌+◌, ◌*◌, ◌-◌, ℕ, take, drop, ap, arith}
use Rattle.hl_bytes.specs.Buffers.{block_of}
use Rattle.hl_nodes.proofs.reading.block_at.Goals as goal

pub returns-clause-bytes : goal.returns-clause-bytes
unfolding block_of
returns-clause-bytes c =
    let e : 4096 * c.args.address + 4096 - 4096 * c.args.address ≡ 4096 = omega arith in
    ap (λ (n : ℕ). take n (drop (4096 * c.args.address) c.args.image.now)) e
