use Rattle.std.proofs.Common.{◌≡◌, ℕ, ◌/◌, ◌<◌, List, length, ap, ◌∙◌, sym, arith}
use Rattle.std.specs.Prelude.{slice_index}
use Rattle.hl_addr.specs.Layout.{Layout, table_blocks, table_blocks_of}
use Rattle.hl_survey.proofs.entries.map_block.Goals as goal

-- a block of the inode map is there
within : (g : Layout) (tables : List ℕ) (ino : ℕ) → length tables ≡ table_blocks g → ino < g.inodes → ino / 1024 < length tables
unfolding table_blocks_of
within g tables ino count lt = omega arith

pub bounds-items-ino : goal.bounds-items-ino
bounds-items-ino c = within c.args.geometry.now c.items.result.now c.args.ino (ap length c.items.ensures ∙ c.requires.tables) c.requires.number

pub returns : goal.returns
returns c = (
  within c.args.geometry.now c.args.rec.now.tables c.args.ino c.requires.tables c.requires.number,
  ap (λ (l : List ℕ). slice_index l (c.args.ino / 1024)) (sym c.items.ensures),
)
