-- What a draft stands on.
use Rattle.std.specs.Prelude.{◌≡◌, ℕ, ◌+◌, ◌<◌, ◌^◌, length, Option}
use Rattle.hl_addr.specs.Layout.{Layout}
use Rattle.hl_overlay.specs.declared.pointers.Pointer.{Pointer}
use Rattle.hl_overlay.specs.declared.draft.NodeDraft.{NodeDraft}
use Rattle.hl_overlay.specs.declared.draft.Shape.{Shape}
use Rattle.hl_overlay.specs.Pointing.{has_far, where_is}
use Rattle.hl_overlay.specs.Overlays.{Holding}
use Rattle.hl_tally.specs.Tally.{Tally}
use Rattle.hl_tally.specs.Counting.{block_counted, charge_held, shape_counted}
use Rattle.hl_store.specs.declared.footing.Footing.{Footing}

-- what of a draft its next change may let go
abbrev pub footing_of : NodeDraft → Footing
footing_of d =
    record { changed = d.changed; own = d.own; single = d.single; far = has_far d.pointers }

-- a charge that has room to grow
abbrev pub HasChargeRoom : Tally → Type 0
HasChargeRoom n = n.charge + 2 < 2 ^ 32

-- A block of a draft was where the pointer tells and is charged so much now; it is counted so, where the charge has room.
abbrev pub CountsBlock : ℕ → ℕ → Footing → Pointer → ℕ → Footing → Tally → Tally → Type 0
CountsBlock k i was before held is old new = (g : Layout) (h : Holding) (d e : NodeDraft)
    → g.k ≡ k → g.log ≡ length old.live → charge_held h ≡ held
    → footing_of d ≡ was → where_is d.pointers i ≡ before → footing_of e ≡ is
    → HasChargeRoom old → new ≡ block_counted g i h d e old

-- A number is of another shape, or of none; it is counted so, where the charge has room.
abbrev pub CountsShape : ℕ → ℕ → Footing → Option Shape → Option Shape → Tally → Tally → Type 0
CountsShape k ino was before shape old new = (g : Layout) (d : NodeDraft)
    → g.k ≡ k → footing_of d ≡ was → d.shape ≡ before
    → HasChargeRoom old → new ≡ shape_counted g ino shape d old
