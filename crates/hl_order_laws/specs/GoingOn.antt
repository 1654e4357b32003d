-- The same nodes in another image.
use Rattle.std.specs.Prelude.{◌≡◌, ℕ, ◌+◌, ◌<◌}
use Rattle.hl_media.specs.History.{Image}
use Rattle.hl_addr.specs.Layout.{Layout}
use Rattle.hl_tseg.specs.SlotTable.{SlotTable, slot_at}
use Rattle.hl_tseg.specs.declared.slot.Slot.TheVariants.{Staged}
use Rattle.hl_nodes.specs.Lines.{line_start}
use Rattle.hl_nodes.specs.Contents.{Contents}

-- these contents have the nodes and the slots of those
pub record HasSame (c d : Contents) : Type 0 where
  pub nodes : d.nodes ≡ c.nodes
  pub slots : d.tables.slots ≡ c.tables.slots

-- each block of a staged line is in one image as it is in the other
abbrev pub KeepsLines : Layout → SlotTable → Image → Image → Type 0
KeepsLines g slots a b = (n line serial i : ℕ) → slot_at slots n ≡ Staged line serial → i < g.k
    → b (line_start g line + i) ≡ a (line_start g line + i)
