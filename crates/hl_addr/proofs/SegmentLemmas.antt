-- Addresses, segments and blocks.
use Rattle.std.proofs.Common.{◌≡◌, ℕ, ◌+◌, ◌-◌, ◌*◌, ◌/◌, ◌^◌, ◌<◌, ◌≤◌, inl, inr, refl, sym, arith}
use Rattle.std.proofs.lemmas.Nat.{div-mul-add, mod-mul-add, div-add-mod'}
use Rattle.hl_addr.specs.Layout.{IsSegmentSize, Layout}
use Rattle.hl_addr.specs.Place.{IsIn}

-- the last segment ends at the last address
pub top_ends : (k : ℕ) → IsSegmentSize k → (2 ^ 32 / k - 1) * k + k ≡ 2 ^ 32
top_ends k (inl is) = rw is refl
top_ends k (inr (inl is)) = rw is refl
top_ends k (inr (inr (inl is))) = rw is refl
top_ends k (inr (inr (inr is))) = rw is refl

-- the last address lies in the last segment
pub top_is : (k : ℕ) → IsSegmentSize k → 4294967295 / k ≡ 2 ^ 32 / k - 1
top_is k (inl is) = rw is refl
top_is k (inr (inl is)) = rw is refl
top_is k (inr (inr (inl is))) = rw is refl
top_is k (inr (inr (inr is))) = rw is refl

-- there are many segments
pub top_high : (k : ℕ) → IsSegmentSize k → 8388607 ≤ 2 ^ 32 / k - 1
top_high k (inl is) = rw is (omega arith)
top_high k (inr (inl is)) = rw is (omega arith)
top_high k (inr (inr (inl is))) = rw is (omega arith)
top_high k (inr (inr (inr is))) = rw is (omega arith)

-- the address of a block of a segment lies there
pub is_in : (g : Layout) (segment block : ℕ) → block < g.k → IsIn g (segment * g.k + block) segment block
is_in g segment block inside = record { segment_is = div-mul-add segment g.k block inside; block_is = mod-mul-add segment g.k block inside }

-- what lies there has the address
pub address_is : (g : Layout) (address segment block : ℕ) → IsIn g address segment block → address ≡ segment * g.k + block
address_is g address segment block is = rw (← is.segment_is, ← is.block_is) (sym (div-add-mod' address g.k))
