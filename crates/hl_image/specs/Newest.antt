-- The newest record of an image.
use Rattle.std.specs.Prelude.{ℕ, ◌+◌, ◌-◌, ◌%◌, ◌<◌, Option, Some, None}
use Rattle.hl_media.specs.History.{Image}
use Rattle.hl_addr.specs.Layout.{Layout}
use Rattle.hl_super.specs.declared.label.Label.{Label}
use Rattle.hl_super.specs.declared.record.Record.{Record}
use Rattle.hl_super.specs.Records.{Spells}
use Rattle.hl_image.specs.declared.place.LogPlace.{LogPlace}

-- the label of a site
abbrev pub label_of : Layout → Label
label_of g = record { k = g.k; log = g.log; lines = g.lines; inodes = g.inodes }

-- the block of a record: 1 for odd numbers, 2 for even ones
abbrev pub home_of : ℕ → ℕ
home_of number = 2 - number % 2

-- this block of the image is this record of the site
abbrev pub IsRecordAt : Layout → Image → ℕ → Record → Type 0
IsRecordAt g image at r = Spells at (label_of g) (image at) r

-- the record stands in its block, and one that stands in the other block has a lesser number
pub record IsNewestRecord (g : Layout) (image : Image) (r : Record) : Type 0 where
  pub here : IsRecordAt g image (home_of r.number) r
  pub other : (s : Record) → IsRecordAt g image (home_of (r.number + 1)) s → s.number < r.number

-- the newest record of the image, or none where neither block is a record
abbrev pub IsNewest : Layout → Image → Option Record → Type 0
IsNewest g image None = ((r : Record) → ¬ IsRecordAt g image 1 r) × ((r : Record) → ¬ IsRecordAt g image 2 r)
IsNewest g image (Some r) = IsNewestRecord g image r

-- its number, and 0 where there is none
abbrev pub number_of : Option Record → ℕ
number_of None = 0
number_of (Some r) = r.number

-- where its chain starts
abbrev pub start_of : Record → LogPlace
start_of r = record { seg = r.seg; block = r.block }
