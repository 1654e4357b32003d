-- How small the numbers of a site are.
use Rattle.std.proofs.Common.{inl, inr, ℕ, ◌+◌, ◌*◌, ◌≤◌, arith}
use Rattle.std.proofs.Math.Nat.{mul-le-mul_left}
use Rattle.hl_addr.specs.Layout.{Layout, IsSegmentSize, IsWithinLimits, table_blocks}

segment_small : (k : ℕ) → IsSegmentSize k → k ≤ 512
segment_small k (inl a) = omega arith
segment_small k (inr (inl a)) = omega arith
segment_small k (inr (inr (inl a))) = omega arith
segment_small k (inr (inr (inr a))) = omega arith

pub small_segments : (g : Layout) → IsWithinLimits g → g.k ≤ 512
small_segments g is = segment_small g.k is.segment_size

pub few_tables : (g : Layout) → IsWithinLimits g → table_blocks g ≤ 256
few_tables g is = omega (arith, small_segments g is, is.tables_fit)

-- every place of the log has a number far below 2^32
pub small_places : (g : Layout) (seg block : ℕ) → IsWithinLimits g → seg ≤ g.log → block ≤ g.k → g.k * seg + block ≤ 2097664
small_places g seg block is high low =
    let k = small_segments g is in
    let a : g.k * seg ≤ g.k * 4096 = mul-le-mul_left g.k (omega (arith, is.log_count.1)) in
    omega arith

segment_large : (k : ℕ) → IsSegmentSize k → 64 ≤ k
segment_large k (inl a) = omega arith
segment_large k (inr (inl a)) = omega arith
segment_large k (inr (inr (inl a))) = omega arith
segment_large k (inr (inr (inr a))) = omega arith

pub large_segments : (g : Layout) → IsWithinLimits g → 64 ≤ g.k
large_segments g is = segment_large g.k is.segment_size
