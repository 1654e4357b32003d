-- Units of a site.
use Rattle.std.specs.Prelude.{ℕ, ◌^◌, ◌<◌, List, length, map, All}
use Rattle.hl_addr.specs.Layout.{Layout, table_blocks}
use Rattle.hl_bytes.specs.declared.block.Block.{Block}
use Rattle.hl_bytes.specs.declared.records.BlockRecord.{BlockRecord}
use Rattle.hl_summary.specs.Ranges.{IsBlockOf}
use Rattle.hl_log.specs.Loads.{AreOf}
use Rattle.hl_log.specs.Logs.{unit_of}
use Rattle.hl_log.specs.declared.unit.Unit.{Unit}

-- the blocks are those of the site's inodes and tables
abbrev pub AreBlocksOf : Layout → List (BlockRecord × Block) → Type 0
AreBlocksOf g blocks = All (IsBlockOf g.inodes (table_blocks g)) (map (λ b. b.0) blocks)

-- the unit's records are of the site, and its blocks few
pub record IsOfSite (g : Layout) (u : Unit) : Type 0 where
  pub records : AreOf g (unit_of u).records (unit_of u).changes
  pub few : length u.blocks < 2 ^ 32
