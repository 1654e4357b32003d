-- The segments that a shelf has, as a list.
use Rattle.std.specs.Prelude.{◌≡◌, ℕ, ◌<◌, List, [], ◌∷◌, IsSome}
use Rattle.std.specs.FinMap.{get, insert}
use Rattle.std.specs.List.{slice_index_or}
use Rattle.hl_placed.specs.Blocks.{Away, Block, PlacedFile, Shelf, SerialsAre, no_shelf}
use Rattle.hl_nodes.specs.Files.{EndsInZeros}
use Rattle.hl_found.specs.declared.shelves.ShelfSegment.{ShelfSegment}

-- a shelf with further segments; of two with one serial the first counts
abbrev pub shelf_over : Shelf → List ShelfSegment → Shelf
shelf_over base [] = base
shelf_over base (x ∷ xs) = insert (shelf_over base xs) x.serial x.bytes.items

-- the shelf that has these segments
abbrev pub shelf_of : List ShelfSegment → Shelf
shelf_of xs = shelf_over no_shelf xs

-- the shelf has each segment in which a block of the file is away, and there the file is zero past its size
pub record ServesFile (shelf : Shelf) (file : PlacedFile) : Type 0 where
  pub segments : SerialsAre (λ serial. IsSome (get shelf serial)) file
  pub zeros : EndsInZeros shelf file

-- a shelf, with the segments in the lines of an image before its own
abbrev pub at_hand : List ShelfSegment → List ShelfSegment → Shelf
at_hand staged shelf = shelf_over (shelf_of shelf) staged

-- the shelf has the segment of the block, if that is away
abbrev pub HasSegmentOf : Shelf → Block → Type 0
HasSegmentOf shelf block = (serial position : ℕ) → block ≡ Away serial position → IsSome (get shelf serial)

-- none of the first segments has the serial
abbrev pub NoneBefore : List ShelfSegment → ℕ → ℕ → Type 0
NoneBefore held serial n = (j : ℕ) (d : ShelfSegment) → j < n → (slice_index_or held j d).serial ≡ serial → ⊥
