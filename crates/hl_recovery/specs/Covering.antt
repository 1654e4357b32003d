-- How far the parts before one reach in a segment.
use Rattle.std.specs.Prelude.{ℕ, ◌+◌, ◌≤◌, ◌==◌, if◌then◌else◌, max, length}
use Rattle.hl_addr.specs.Layout.{Layout}
use Rattle.hl_image.specs.declared.chain.ChainPart.{ChainPart}

-- how far the parts before it reach in a segment, and a part more
abbrev pub reach : ℕ → ℕ → ChainPart → ℕ
reach seg n p = if p.seg == seg then max n (p.block + 1 + length p.summary.blocks) else n

-- the part lies in its segment of the log
pub record LiesInLog (g : Layout) (p : ChainPart) : Type 0 where
  pub low : 1 ≤ p.seg
  pub high : p.seg ≤ g.log
  pub room : p.block + 1 + length p.summary.blocks ≤ g.k
