-- Placed files: where each block of a file lies, and its bytes.
use Rattle.std.specs.Prelude.{◌≡◌, ℕ, ◌+◌, ◌*◌, ◌/◌, ◌%◌, ◌<◌, ◌≤◌, Bool, true, false, List, [], map, length, drop, get_or, unwrap_or}
use Rattle.std.specs.List.{range_with_len}
use Rattle.std.specs.FinMap.{FinMap, empty, get}
use Rattle.std.specs.Int.{div_ceil}
use Rattle.std.specs.Ordering.{nat_cmp}
use Rattle.hl_tree.specs.Contents.{resized}

-- a block is zeros, or 4,096 bytes on the disk, or a block of the tertiary segment with that serial
pub data Block : Type 0 where
  Hole : Block
  Here : (bytes : List ℕ) → Block
  Away : (serial position : ℕ) → Block

abbrev pub is_hole : Block → Bool
is_hole Hole = true
is_hole (Here bytes) = false
is_hole (Away serial position) = false

-- the block is resident
abbrev pub is_here : Block → Bool
is_here Hole = false
is_here (Here bytes) = true
is_here (Away serial position) = false

-- a file by its size, the moment of its last use and its blocks
pub record PlacedFile : Type 0 where
  pub size : ℕ
  pub used : ℕ
  pub blocks : List Block

-- the bytes of tertiary segments, by serial
abbrev pub Shelf : Type 0
Shelf = FinMap nat_cmp (List ℕ)

abbrev pub no_shelf : Shelf
no_shelf = empty

-- byte k of a block
abbrev pub byte_of : Shelf → Block → ℕ → ℕ
byte_of shelf Hole k = 0
byte_of shelf (Here bytes) k = get_or bytes k 0
byte_of shelf (Away serial position) k = get_or (unwrap_or (get shelf serial) []) (4096 * position + k) 0

abbrev pub listed : {X : Type 0} → ℕ → (ℕ → X) → List X
listed n f = map f (range_with_len 0 n)

-- a block past the end is a hole
abbrev pub file_block : PlacedFile → ℕ → Block
file_block file i = get_or file.blocks i Hole

-- byte j of a file is byte j mod 4,096 of its block j / 4,096
unfoldable pub plain_bytes : Shelf → PlacedFile → List ℕ
plain_bytes shelf file = listed file.size (λ j. byte_of shelf (file_block file (j / 4096)) (j % 4096))

-- how many blocks a size takes
unfoldable pub blocks_of : ℕ → ℕ
blocks_of size = div_ceil size 4096

-- block i of these bytes, filled up with zeros
unfoldable pub padded_block : List ℕ → ℕ → List ℕ
padded_block bytes i = resized (drop (4096 * i) bytes) 4096

-- a block for each 4,096 bytes begun, 4,096 bytes in each that is here, and zeros past the size
pub record IsPlacedFile (shelf : Shelf) (file : PlacedFile) : Type 0 where
  pub count : length file.blocks ≡ blocks_of file.size
  pub full : (i : ℕ) (bytes : List ℕ) → file_block file i ≡ Here bytes → length bytes ≡ 4096
  pub zeros : (j : ℕ) → file.size ≤ j → byte_of shelf (file_block file (j / 4096)) (j % 4096) ≡ 0

-- each away block lies so, in its segment and at its position there
abbrev pub AwaysAre : (ℕ → ℕ → Type 0) → PlacedFile → Type 0
AwaysAre S file = (i serial position : ℕ) → file_block file i ≡ Away serial position → S serial position

-- each away block is in a segment with such a serial
abbrev pub SerialsAre : (ℕ → Type 0) → PlacedFile → Type 0
SerialsAre S = AwaysAre (λ serial position. S serial)

-- each away block is in a segment whose serial is below this one
abbrev pub SerialsBelow : ℕ → PlacedFile → Type 0
SerialsBelow next = SerialsAre (λ serial. serial < next)
