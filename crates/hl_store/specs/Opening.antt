-- A store as a mount opens it.
use Rattle.std.specs.Prelude.{◌≡◌, ◌↔◌, ℕ, ◌<◌, ◌≤◌, ◌^◌, ◌==◌, not, Bool, Contains, List, [], length, replicate, slice_index, slice_index_or, true}
use Rattle.std.specs.List.{fold}
use Rattle.hl_media.specs.History.{MachineState}
use Rattle.hl_log.specs.Free.{AreClean, Once}
use Rattle.hl_log.specs.Logs.{LogValue}
use Rattle.hl_tables.specs.Values.{TableValues}
use Rattle.hl_paths.specs.Nodes.{flat_charge}
use Rattle.hl_nodes.specs.Contents.{Contents, Rests, next_tertiary}
use Rattle.hl_nodes.specs.Listing.{AreListed}
use Rattle.hl_nodes.specs.Live.{IsLive}
use Rattle.hl_nodes.specs.Sound.{IsSound, head_of}
use Rattle.hl_overlay.specs.Overlays.{IsEmpty, OverlayValue}
use Rattle.hl_tally.specs.Counting.{added}
use Rattle.hl_store.specs.Values.{Reserved, StoreValue}
use Rattle.hl_store.specs.declared.store.StoreParts.{StoreParts}

-- what a mount found is of the site of the log
pub record AreParts {M : Type 0} (log : LogValue M) (parts : StoreParts) : Type 0 where
  pub inodes : length parts.tables.inodes ≡ log.geometry.inodes
  pub used : length parts.tables.used ≡ log.geometry.log
  pub blocks : parts.tables.k ≡ log.geometry.k
  pub volumes : parts.tables.slots.volumes ≡ log.geometry.volumes
  pub uses : length parts.uses.items ≡ log.geometry.inodes
  pub live : length parts.live.items ≡ log.geometry.log
  pub lines : length parts.lines.states ≡ log.geometry.lines
  pub clean : AreClean log.geometry log.at.head.seg parts.clean.items
  pub few : length parts.clean.items < 2 ^ 32

-- the numbers from 1 up to one that the tables have an inode for are in use
pub record AreInUseTo (end : ℕ) (t : TableValues) (flags : List Bool) : Type 0 where
  pub count : length flags ≡ length t.inodes
  pub are : (ino : ℕ) → 1 ≤ ino → ino < end
      → slice_index_or flags ino true ≡ not (slice_index t.inodes ino == 4294967295)

-- the numbers from 1 on that the tables have an inode for are in use
abbrev pub AreInUse : TableValues → List Bool → Type 0
AreInUse t flags = AreInUseTo (length t.inodes) t flags

-- the store of these parts, with an overlay, numbers in use and its buffer, and with memory for so much
abbrev pub store_of : {M : Type 0} → LogValue M → StoreParts → OverlayValue → List Bool
    → Reserved → StoreValue M
store_of log parts overlay in_use reserved = record {
  log = log;
  tables = parts.tables;
  notes = [];
  overlay = overlay;
  uses = parts.uses.items;
  tally = record { in_use = in_use; charge = parts.charge; live = parts.live.items };
  lines = parts.lines;
  clean = parts.clean.items;
  tseg_serial = parts.tseg_serial;
  reserved = reserved;
  has_buffer = true;
}

-- a store of these parts, of which nothing is changed
pub record IsOpened {M : Type 0} (log : LogValue M) (parts : StoreParts)
    (v : StoreValue M) : Type 0 where
  pub same : v ≡ store_of log parts v.overlay v.tally.in_use v.reserved
  pub empty : IsEmpty log.geometry.inodes v.overlay
  pub in_use : AreInUse parts.tables v.tally.in_use

-- What a mount found tells of these contents: the log is at rest over them, and they are sound and listed; the tables are
-- theirs, and so are the charge, the live blocks of each segment and the serial of the next tertiary segment.
pub record AreOfContents {M : Type 0} (log : LogValue M) (parts : StoreParts) (c : Contents)
    (s : MachineState) : Type 0 where
  pub rests : Rests log.geometry log.at parts.clean.items c s
  pub sound : IsSound log.geometry s.content c
  pub listed : AreListed log.geometry s.content c (head_of c.rec c.parts)
  pub rec : log.rec ≡ c.rec
  pub tables : parts.tables ≡ c.tables
  pub serial : parts.tseg_serial ≡ next_tertiary c
  pub charge : parts.charge ≡ flat_charge c.nodes
  pub addresses : List ℕ
  pub each : (address : ℕ)
      → Contains addresses address ↔ IsLive log.geometry s.content c.rec c.tables address
  pub once : Once addresses
  pub live : parts.live.items ≡ fold (added log.geometry.k) (replicate log.geometry.log 0) addresses
