-- The chain that a mount finds.
use Rattle.std.specs.Prelude.{◌≡◌, ℕ, ◌+◌, ◌-◌, ◌^◌, min, List, [], ◌∷◌, length, Option, MatchOption}
use Rattle.hl_media.specs.History.{Image}
use Rattle.hl_addr.specs.Layout.{Layout}
use Rattle.hl_super.specs.declared.record.Record.{Record}
use Rattle.hl_summary.specs.declared.parts.Summary.{Summary}
use Rattle.hl_summary.specs.Parts.{IsSummary}
use Rattle.hl_image.specs.declared.place.LogPlace.{LogPlace}
use Rattle.hl_image.specs.Parts.{IsPart, NoPart, next_of}
use Rattle.hl_image.specs.Chain.{end_of, placed}
use Rattle.hl_image.specs.Newest.{start_of}
use Rattle.hl_found.specs.Found.{parts_found}
use Rattle.hl_recovery.specs.declared.chain.Chain.{Chain}

-- the part of the serial that was found at a place, if one stands there
abbrev pub FindsPart : Layout → Image → LogPlace → ℕ → Option Summary → Type 0
FindsPart g image at serial found = MatchOption found
    (NoPart g image at serial)
    (λ s. IsPart g image at serial s)

-- each part may stand where the one before it names, the first at this place
abbrev pub AreSummaries : Layout → LogPlace → List Summary → Type 0
AreSummaries g at [] = Unit {0}
AreSummaries g at (s ∷ parts) = IsSummary g at.seg at.block s × AreSummaries g (next_of s) parts

-- parts behind a record, each where the one before it names, and where they end
pub record IsBehind (g : Layout) (rec : Record) (chain : Chain) : Type 0 where
  pub places : placed (start_of rec) (parts_found chain.parts.items) ≡ chain.parts.items
  pub summaries : AreSummaries g (start_of rec) (parts_found chain.parts.items)
  pub at_is : chain.at ≡ end_of (start_of rec) (parts_found chain.parts.items)
  pub serial_is : chain.serial ≡ min (rec.serial + length chain.parts.items) (2 ^ 64 - 1)
