-- What a checkpoint makes of the contents of an image.
use Rattle.std.specs.Prelude.{◌≡◌, ℕ, List, [], length, map}
use Rattle.std.specs.List.{range_with_len}
use Rattle.hl_media.specs.History.{MachineState}
use Rattle.hl_addr.specs.Layout.{Layout, IsWithinLimits, table_blocks}
use Rattle.hl_super.specs.declared.record.Record.{Record}
use Rattle.hl_summary.specs.declared.parts.Summary.{Summary}
use Rattle.hl_log.specs.declared.position.Position.{Position}
use Rattle.hl_log.specs.Free.{IsFree}
use Rattle.hl_log.specs.Rest.{IsAtRest}
use Rattle.hl_log.specs.Checkpoints.{Given}
use Rattle.hl_tables.specs.Values.{TableValues, AreTables}
use Rattle.hl_tables.specs.TableBlocks.{table_block}
use Rattle.hl_paths.specs.Nodes.{Nodes}
use Rattle.hl_nodes.specs.Nodes.{HasNodes}
use Rattle.hl_nodes.specs.Live.{NodeBlock, IsNodeBlock}
use Rattle.hl_nodes.specs.Contents.{Contents, next_tertiary}

-- the blocks of the tables, in their order
abbrev pub contents_of_tables : Layout → TableValues → List (List ℕ)
contents_of_tables g t = map (table_block t) (range_with_len 0 (table_blocks g))

-- A checkpoint of contents writes these tables, which differ at most in which segments are used, and its record goes
-- on from the one before.
pub record IsCheckpointOf (c : Contents) (d : Given) (t : TableValues) : Type 0 where
  pub blocks : t.k ≡ c.tables.k
  pub inodes : t.inodes ≡ c.tables.inodes
  pub used : length t.used ≡ length c.tables.used
  pub slots : t.slots ≡ c.tables.slots
  pub number : d.number ≡ c.rec.number
  pub volumes : d.volumes ≡ c.rec.volumes
  pub serial : d.tseg_serial ≡ next_tertiary c

-- The log is at rest, and these tables name nodes of what reads give, none of whose blocks lies where it may write next.
-- A record need not name the tables yet: so it is before the first checkpoint of a disk.
pub record Carries (g : Layout) (p : Position) (clean : List ℕ) (parts : List Summary) (t : TableValues) (nodes : Nodes) (s : MachineState) : Type 0 where
  pub limits : IsWithinLimits g
  pub at_rest : IsAtRest g p clean parts s
  pub tables : AreTables g t
  pub nodes_are : HasNodes g s.content t nodes
  pub apart : (ino : ℕ) (block : NodeBlock) (address : ℕ) → IsNodeBlock g s.content t ino block address → IsFree g p.head clean address → ⊥

-- the contents behind a checkpoint that writes these tables
abbrev pub checkpointed : Record → TableValues → Nodes → Contents
checkpointed new t nodes = record { rec = new; parts = []; tables = t; nodes = nodes }

-- the contents behind a checkpoint
abbrev pub after_checkpoint : Contents → Record → TableValues → Contents
after_checkpoint c new t = checkpointed new t c.nodes
