-- The tables as plain lists.
use Rattle.std.specs.Prelude.{◌≡◌, ℕ, ◌<◌, ◌^◌, Bool, false, List, length, replicate, All}
use Rattle.hl_addr.specs.Layout.{Layout, IsSegmentSize, IsInodeCount, IsLogCount}
use Rattle.hl_tseg.specs.SlotTable.{SlotTable}
use Rattle.hl_tseg.specs.SlotTable as slots
use Rattle.hl_tseg.specs.Slots.{HasRoom}

-- the blocks of a segment; the address of each inode's block, from number 0 on; whether each log segment is used, from
-- segment 1 on; and the slots of the volumes
pub record TableValues : Type 0 where
  pub k : ℕ
  pub inodes : List ℕ
  pub used : List Bool
  pub slots : SlotTable

-- tables of a site within the limits, whose addresses have room in their entries
pub record IsWithinLimits (t : TableValues) : Type 0 where
  pub segment_size : IsSegmentSize t.k
  pub inode_count : IsInodeCount (length t.inodes)
  pub log_count : IsLogCount (length t.used)
  pub addresses : All (λ address. address < 2 ^ 32) t.inodes

-- tables in which nothing is yet: no inode, no used segment, all slots free
abbrev pub fresh : Layout → TableValues
fresh g = record { k = g.k; inodes = replicate g.inodes 4294967295; used = replicate g.log false; slots = slots.fresh g }

-- tables of one site: as many entries of each kind
pub record SameShape (old new : TableValues) : Type 0 where
  pub segment_size : new.k ≡ old.k
  pub inodes : length new.inodes ≡ length old.inodes
  pub used : length new.used ≡ length old.used
  pub volumes : new.slots.volumes ≡ old.slots.volumes
  pub slots : length new.slots.slots ≡ length old.slots.slots
  pub full : length new.slots.full ≡ length old.slots.full

-- tables of the site whose numbers have room in their entries
pub record AreTables (g : Layout) (t : TableValues) : Type 0 where
  pub shape : SameShape (fresh g) t
  pub addresses : All (λ address. address < 2 ^ 32) t.inodes
  pub room : All HasRoom t.slots.slots
