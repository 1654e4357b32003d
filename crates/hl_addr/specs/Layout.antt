-- The numbers that a site is laid out by, and their limits.
use Rattle.std.specs.Prelude.{◌≡◌, ◌⊎◌, ℕ, ◌+◌, ◌-◌, ◌*◌, ◌/◌, ◌≤◌, min, List, length, sum, All}
use Rattle.std.specs.Int.{div_ceil}

-- blocks of a segment, log segments, lines, inode numbers, and the slots of each volume
pub record Layout : Type 0 where
  pub k : ℕ
  pub log : ℕ
  pub lines : ℕ
  pub inodes : ℕ
  pub volumes : List ℕ

-- how many blocks a segment may have
abbrev pub IsSegmentSize : ℕ → Type 0
IsSegmentSize n = (n ≡ 64) ⊎ ((n ≡ 128) ⊎ ((n ≡ 256) ⊎ (n ≡ 512)))

-- how many segments the log may have
abbrev pub IsLogCount : ℕ → Type 0
IsLogCount n = (16 ≤ n) × (n ≤ 4096)

-- how many lines the disk may have
abbrev pub IsLineCount : ℕ → Type 0
IsLineCount n = (13 ≤ n) × (n ≤ 256)

-- how many inode numbers there may be
abbrev pub IsInodeCount : ℕ → Type 0
IsInodeCount n = (2 ≤ n) × (n ≤ 2048)

-- how many volumes the rack may have
abbrev pub IsVolumeCount : ℕ → Type 0
IsVolumeCount n = (1 ≤ n) × (n ≤ 32)

-- how many slots a volume may have
abbrev pub IsSlotCount : ℕ → Type 0
IsSlotCount n = (1 ≤ n) × (n ≤ 4096)

-- the blocks of the inode map, the segment states, the tertiary table and the volume table
unfoldable pub table_blocks_of : ℕ → ℕ → ℕ → ℕ
table_blocks_of log inodes slots = div_ceil (4 * inodes) 4096 + div_ceil (4 * log) 4096 + div_ceil (16 * slots) 4096 + 1

abbrev pub table_blocks : Layout → ℕ
table_blocks g = table_blocks_of g.log g.inodes (sum g.volumes)

-- the numbers of a site that may be
pub record IsWithinLimits (g : Layout) : Type 0 where
  pub segment_size : IsSegmentSize g.k
  pub log_count : IsLogCount g.log
  pub line_count : IsLineCount g.lines
  pub inode_count : IsInodeCount g.inodes
  pub volume_count : IsVolumeCount (length g.volumes)
  pub slot_counts : All IsSlotCount g.volumes
  pub tables_fit : table_blocks g ≤ g.k / 2

-- the greatest charge that the tree of a site may have
abbrev pub quota : Layout → ℕ
quota g = (g.log - 12) * g.k / 4

-- how many data blocks a tertiary segment may hold
abbrev pub data_max : Layout → ℕ
data_max g = min (g.k - 1) 500
