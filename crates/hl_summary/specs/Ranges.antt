-- What may stand in the summary of a part.
use Rattle.std.specs.Prelude.{◌≡◌, ◌≢◌, ◌⊎◌, ℕ, ◌+◌, ◌<◌, ◌≤◌}
use Rattle.hl_addr.specs.Layout.{Layout}
use Rattle.hl_bytes.specs.declared.records.BlockRecord.{BlockRecord}
use Rattle.hl_bytes.specs.declared.records.TableRecord.{TableRecord}

-- a part may begin there: in a log segment, with room for a block behind the summary
pub record IsPlace (g : Layout) (seg block : ℕ) : Type 0 where
  pub seg_low : 1 ≤ seg
  pub seg_high : seg ≤ g.log
  pub block_high : block + 2 ≤ g.k

-- where the part behind one of n blocks begins: just behind it, where a part may begin there, and
-- else with another log segment
abbrev pub IsBehind : Layout → ℕ → ℕ → ℕ → ℕ → ℕ → Type 0
IsBehind g seg block n next_seg next_block = ((block + n + 1) + 2 ≤ g.k) × (next_seg ≡ seg) × (next_block ≡ block + n + 1)

abbrev pub IsElsewhere : Layout → ℕ → ℕ → ℕ → ℕ → ℕ → Type 0
IsElsewhere g seg block n next_seg next_block = (g.k < (block + n + 1) + 2) × (next_seg ≢ seg) × (1 ≤ next_seg) × (next_seg ≤ g.log) × (next_block ≡ 0)

abbrev pub IsNextPlace : Layout → ℕ → ℕ → ℕ → ℕ → ℕ → Type 0
IsNextPlace g seg block n next_seg next_block = IsBehind g seg block n next_seg next_block ⊎ IsElsewhere g seg block n next_seg next_block

-- the number of an inode, among so many numbers from 0 on
abbrev pub IsInodeNumber : ℕ → ℕ → Type 0
IsInodeNumber inodes number = (1 ≤ number) × (number < inodes)

-- the index stands for a data block, the pointer block or the inode block of an inode
abbrev pub IsInodeIndex : ℕ → Type 0
IsInodeIndex index = (index ≤ 1035) ⊎ ((index ≡ 4294967294) ⊎ (index ≡ 4294967295))

-- a block of an inode, or one of so many table blocks
abbrev pub IsBlockOf : ℕ → ℕ → BlockRecord → Type 0
IsBlockOf inodes tables r = ((r.index ≡ 4294967293) × (r.ino < tables)) ⊎ (IsInodeIndex r.index × IsInodeNumber inodes r.ino)

-- the changes of the tables: an inode is freed; a slot is staged in a line, home or spoilt; a
-- volume is full
abbrev pub IsFreed : ℕ → TableRecord → Type 0
IsFreed inodes r = (r.kind ≡ 1) × IsInodeNumber inodes r.a × (r.b ≡ 0) × (r.serial ≡ 0)

abbrev pub IsStaged : ℕ → TableRecord → Type 0
IsStaged slots r = (r.kind ≡ 2) × (r.a < slots)

abbrev pub IsHome : ℕ → TableRecord → Type 0
IsHome slots r = (r.kind ≡ 3) × (r.a < slots) × (r.b ≡ 0)

abbrev pub IsSpoilt : ℕ → TableRecord → Type 0
IsSpoilt slots r = (r.kind ≡ 4) × (r.a < slots) × (r.b ≡ 0) × (r.serial ≡ 0)

abbrev pub IsFull : ℕ → TableRecord → Type 0
IsFull volumes r = (r.kind ≡ 5) × (r.a < volumes) × (r.b ≡ 0) × (r.serial ≡ 0)

-- one of the changes, on a site of so many inode numbers, slots and volumes
abbrev pub IsChangeOf : ℕ → ℕ → ℕ → TableRecord → Type 0
IsChangeOf inodes slots volumes r = IsFreed inodes r ⊎ (IsStaged slots r ⊎ (IsHome slots r ⊎ (IsSpoilt slots r ⊎ IsFull volumes r)))
