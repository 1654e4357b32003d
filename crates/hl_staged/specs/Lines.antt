-- Staged lines that hold another segment, or none.
use Rattle.std.specs.Prelude.{◌≡◌, ◌≢◌, ℕ}
use Rattle.hl_media.specs.History.{Image}
use Rattle.hl_addr.specs.Layout.{Layout}
use Rattle.hl_tseg.specs.declared.slot.Slot.{Slot}
use Rattle.hl_tseg.specs.declared.slot.Slot.TheVariants.{Staged}
use Rattle.hl_tseg.specs.Segments.{SegmentHead, SpellsSegment}
use Rattle.hl_nodes.specs.Lines.{line_start, line_bytes}

-- the block is the first of the slot's line, which doesn't hold its segment
abbrev pub IsOffLine : Layout → Image → Slot → ℕ → Type 0
IsOffLine g image slot block = (line serial : ℕ) × (slot ≡ Staged line serial) × (block ≡ line_start g line)
    × ((head : SegmentHead) → SpellsSegment g.k (line_bytes g image line) head → head.serial ≢ serial)
