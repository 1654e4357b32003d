-- A store over what its machine holds.
use Rattle.std.specs.Prelude.{◌≡◌, ℕ}
use Rattle.std.specs.List.{fold}
use Rattle.std.specs.FinMap.{get}
use Rattle.hl_media.specs.History.{MachineState}
use Rattle.hl_tables.specs.Laying.{changed}
use Rattle.hl_placed.specs.Blocks.{Block}
use Rattle.hl_nodes.specs.Tables.{raised}
use Rattle.hl_nodes.specs.Contents.{Contents, Rests, next_tertiary}
use Rattle.hl_nodes.specs.Listing.{AreListed}
use Rattle.hl_nodes.specs.Sound.{AreSlots, IsSound, head_of}
use Rattle.hl_overlaid.specs.NodesNow.{old_block}
use Rattle.hl_overlaid.specs.Over.{IsOver}
use Rattle.hl_tally.specs.Tally.{IsTally}
use Rattle.hl_store.specs.Values.{StoreValue, layout, nodes_of, overlaid}

module _ {M : Type 0} where
  -- The store lies over these contents, which are those of the last unit: the log is at rest over them, and they are sound
  -- and listed; the tables are theirs with what was noted since, and their slots are possible; each draft is of what the
  -- contents have; and what is counted is so of the nodes that the store has now.
  pub record LiesOver (v : StoreValue M) (c : Contents) (s : MachineState) : Type 0 where
    pub rests : Rests (layout v) v.log.at v.clean c s
    pub sound : IsSound (layout v) s.content c
    pub listed : AreListed (layout v) s.content c (head_of c.rec c.parts)
    pub rec : v.log.rec ≡ c.rec
    pub inodes : v.tables.inodes ≡ c.tables.inodes
    pub slots : v.tables.slots ≡ (fold changed c.tables v.notes).slots
    pub serial : v.tseg_serial ≡ fold raised (next_tertiary c) v.notes
    pub possible : AreSlots (layout v) v.tables.slots v.tseg_serial
    pub over : IsOver (layout v) (overlaid v) s.content c
    pub tally : IsTally (layout v) (overlaid v) s.content c v.tally

  -- block i of the node that a number has now; a hole where it has none
  abbrev pub block_of_number : StoreValue M → Contents → ℕ → ℕ → Block
  block_of_number v c ino i = old_block (get (nodes_of v c) ino) i
