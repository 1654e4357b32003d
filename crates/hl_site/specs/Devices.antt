-- Whether devices have room for a site.
use Rattle.std.specs.Prelude.{◌≡◌, ◌≢◌, ℕ, ◌+◌, ◌*◌, ◌<◌, ◌≤◌, List, slice_get, Result, Ok, Err}
use Rattle.hl_addr.specs.Layout.{Layout}
use Rattle.hl_site.specs.declared.error.SiteError.{SiteError}
use Rattle.hl_site.specs.declared.error.SiteError.TheVariants.{TooSmall, OtherRack}

-- the blocks that the disk of a site has at least
abbrev pub blocks_needed : Layout → ℕ
blocks_needed g = (1 + g.log + g.lines) * g.k

-- the first place at which the lists differ, or that one has alone
pub record IsFirstDifference (xs ys : List ℕ) (place : ℕ) : Type 0 where
  pub differ : slice_get xs place ≢ slice_get ys place
  pub same_before : (i : ℕ) → i < place → slice_get xs i ≡ slice_get ys i

-- what is said of a machine of so many blocks, and of a rack whose volumes have these slots
abbrev pub TellsWhether : Layout → ℕ → List ℕ → Result (Unit {0}) SiteError → Type 0
TellsWhether g blocks rack (Ok _) = (blocks_needed g ≤ blocks) × (g.volumes ≡ rack)
TellsWhether g blocks rack (Err (TooSmall needed)) = (blocks < blocks_needed g) × (needed ≡ blocks_needed g)
TellsWhether g blocks rack (Err (OtherRack volume)) = (blocks_needed g ≤ blocks) × IsFirstDifference g.volumes rack volume
TellsWhether g blocks rack (Err _) = ⊥
