-- How far the parts of a chain reach in each log segment.
use Rattle.std.specs.Prelude.{◌≡◌, ◌⊎◌, ℕ, ◌+◌, ◌*◌, ◌<◌, ◌≤◌, List, slice_index}
use Rattle.hl_addr.specs.Layout.{Layout}
use Rattle.hl_super.specs.declared.record.Record.{Record}
use Rattle.hl_summary.specs.declared.parts.Summary.{Summary}
use Rattle.hl_image.specs.declared.place.LogPlace.{LogPlace}
use Rattle.hl_image.specs.Chain.{Covers}
use Rattle.hl_image.specs.Newest.{start_of}

-- block n of the segment is the one behind the last that a part of these has there, and 0 where none has one
pub record IsCoveredTo (g : Layout) (start : LogPlace) (parts : List Summary)
    (seg n : ℕ) : Type 0 where
  pub within : (b : ℕ) → b < g.k → Covers g start parts (g.k * seg + b) → b < n
  pub reached : (n ≡ 0)
      ⊎ ((b : ℕ) × (n ≡ b + 1) × (b < g.k) × Covers g start parts (g.k * seg + b))

-- so far the parts behind the record reach in each segment, from 0 to the log's last
abbrev pub IsCovered : Layout → Record → List Summary → List ℕ → Type 0
IsCovered g rec parts covered = (seg : ℕ) → seg ≤ g.log
    → IsCoveredTo g (start_of rec) parts seg (slice_index covered seg)
