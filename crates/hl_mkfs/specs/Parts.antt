-- What a new site is made of.
use Rattle.std.specs.Prelude.{◌≡◌, ℕ, ◌+◌, true, false, List, [], ◌∷◌, replicate, slice_set}
use Rattle.hl_addr.specs.Layout.{Layout, IsWithinLimits}
use Rattle.hl_inode.specs.Inodes.{inode_bytes}
use Rattle.hl_inode.specs.declared.inode.Inode.{Inode}
use Rattle.hl_inode.specs.declared.inode.Kind.TheVariants.{Dir}
use Rattle.hl_super.specs.declared.record.Record.{Record}
use Rattle.hl_image.specs.declared.place.LogPlace.{LogPlace}
use Rattle.hl_tseg.specs.SlotTable as slots
use Rattle.hl_tables.specs.Values.{TableValues}
use Rattle.hl_log.specs.Loads.{bytes_of_tables}
use Rattle.hl_log.specs.Logs.{unit_of}
use Rattle.hl_log.specs.Units.{Brought}
use Rattle.hl_paths.specs.Nodes.{fresh_nodes}
use Rattle.hl_nodes.specs.Checkpoints.{checkpointed, contents_of_tables}
use Rattle.hl_nodes.specs.Contents.{Contents}
use Rattle.hl_nodes.specs.Live.{record_of}
use Rattle.hl_nodes.specs.Live.NodeBlock.{Own}
use Rattle.hl_mkfs.specs.declared.supplies.Supplies.{Supplies}

-- the inode of the root: a directory of no bytes that was never used
abbrev pub root_inode : Inode
root_inode = record {
  number = 1;
  kind = Dir;
  size = 0;
  used = 0;
  direct = replicate 12 4294967295;
  single = 4294967295;
}

-- its bytes
unfoldable pub root_bytes : List ℕ
root_bytes = inode_bytes root_inode

-- the first unit brings this block alone
abbrev pub root_unit : Brought
root_unit = record {
  closes = true;
  records = record_of 1 Own ∷ [];
  contents = root_bytes ∷ [];
  changes = [];
}

-- where the log starts, and where it goes on behind this unit
abbrev pub log_start : LogPlace
log_start = record { seg = 1; block = 0 }

abbrev pub root_end : LogPlace
root_end = record { seg = 1; block = 2 }

-- the address of the root's inode: the block behind the first part's summary
abbrev pub root_address : Layout → ℕ
root_address g = g.k + 1

-- the first tables: the root's inode, in the first segment of the log
unfoldable pub first_tables : Layout → TableValues
first_tables g = record {
  k = g.k;
  inodes = slice_set (replicate g.inodes 4294967295) 1 (root_address g);
  used = slice_set (replicate g.log false) 0 true;
  slots = slots.fresh g;
}

-- the contents behind the first record: no part of the log, these tables, and the root alone, a directory of no bytes
abbrev pub first_contents : Layout → Record → Contents
first_contents g rec = checkpointed rec (first_tables g) fresh_nodes

-- what the log is opened with: no record yet, and serials from 1 on
abbrev pub before_first : Layout → Record
before_first g = record {
  number = 0;
  serial = 1;
  seg = 1;
  block = 0;
  tseg_serial = 1;
  format = 1;
  volumes = g.volumes;
  tables = [];
}

-- what memory was taken for, on a site within the limits
pub record AreSupplies (g : Layout) (supplies : Supplies) : Type 0 where
  pub limits : IsWithinLimits g
  pub start : supplies.start ≡ before_first g
  pub next : supplies.next ≡ before_first g
  pub unit : unit_of supplies.unit ≡ root_unit
  pub tables : bytes_of_tables supplies.tables.items ≡ contents_of_tables g (first_tables g)
