-- The label of a disk as bytes.
use Rattle.std.specs.Prelude.{◌≡◌, ℕ, ◌+◌, ◌*◌, ◌≤◌, List, [], ◌∷◌, ◌++◌}
use Rattle.hl_addr.specs.Layout.{Layout, IsSegmentSize, IsLogCount, IsLineCount, IsInodeCount}
use Rattle.hl_bytes.specs.Fields.{le32, u32_at}
use Rattle.hl_bytes.specs.Pages.{page}
use Rattle.hl_super.specs.declared.label.Label.{Label}

-- the numbers are within the limits
pub record IsLabel (v : Label) : Type 0 where
  pub segment_size : IsSegmentSize v.k
  pub log_count : IsLogCount v.log
  pub line_count : IsLineCount v.lines
  pub inode_count : IsInodeCount v.inodes

-- the site of a label and the volumes of a rack
abbrev pub layout_of : Label → List ℕ → Layout
layout_of label volumes = record { k = label.k; log = label.log; lines = label.lines; inodes = label.inodes; volumes = volumes }

-- the bytes `HLLABEL1`
abbrev pub magic : List ℕ
magic = 72 ∷ 76 ∷ 76 ∷ 65 ∷ 66 ∷ 69 ∷ 76 ∷ 49 ∷ []

-- the fields, one after the other
abbrev pub label_fields : Label → List ℕ
label_fields v = (((magic ++ le32 v.k) ++ le32 v.log) ++ le32 v.lines) ++ le32 v.inodes

-- the one spelling of a label
unfoldable pub label_bytes : Label → List ℕ
label_bytes v = page (label_fields v)

-- a block is the spelling of a label, and a machine of so many blocks has room for its segments
pub record Spells (blocks : ℕ) (block : List ℕ) (v : Label) : Type 0 where
  pub value : IsLabel v
  pub room : (1 + v.log + v.lines) * v.k ≤ blocks
  pub bytes : block ≡ label_bytes v

-- the candidate: the numbers at the fields' places
unfoldable pub label_in : List ℕ → Label
label_in bytes = record { k = u32_at 8 bytes; log = u32_at 12 bytes; lines = u32_at 16 bytes; inodes = u32_at 20 bytes }
