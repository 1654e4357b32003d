-- Segments that lie in lines of an image.
use Rattle.std.specs.Prelude.{◌≡◌, ℕ, ◌+◌, ◌*◌, ◌<◌, List}
use Rattle.std.specs.List.{slice_index_or}
use Rattle.hl_media.specs.History.{Image}
use Rattle.hl_addr.specs.Layout.{Layout}
use Rattle.hl_tseg.specs.declared.slot.Slot.{Slot}
use Rattle.hl_tseg.specs.declared.slot.Slot.TheVariants.{Free, Staged}
use Rattle.hl_tseg.specs.Segments.{SegmentHead, SpellsSegment}
use Rattle.hl_nodes.specs.Lines.{line_bytes}

-- the first block behind the lines
abbrev pub lines_end : Layout → ℕ
lines_end g = g.k * (g.log + 1 + g.lines)

-- the line of the image holds the segment of the serial
abbrev pub HoldsSegment : Layout → Image → ℕ → ℕ → Type 0
HoldsSegment g image line serial = (head : SegmentHead) × SpellsSegment g.k (line_bytes g image line) head × (head.serial ≡ serial)

-- where the slot is staged, its line holds its segment
abbrev pub HoldsStaged : Layout → Image → Slot → Type 0
HoldsStaged g image slot = (line serial : ℕ) → slot ≡ Staged line serial → HoldsSegment g image line serial

-- the line of each slot that is staged is one of the disk
abbrev pub HaveLines : ℕ → List Slot → Type 0
HaveLines lines slots = (n line serial : ℕ) → slice_index_or slots n Free ≡ Staged line serial → line < lines
