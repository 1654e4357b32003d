-- A store as contracts see it.
use Rattle.std.specs.Prelude.{◌≡◌, ℕ, ◌+◌, Bool, List, [], length}
use Rattle.hl_addr.specs.Layout.{Layout}
use Rattle.hl_bytes.specs.declared.records.TableRecord.{TableRecord}
use Rattle.hl_lines.specs.LineTable.{Lines}
use Rattle.hl_log.specs.Logs.{LogValue}
use Rattle.hl_tables.specs.Values.{TableValues}
use Rattle.hl_paths.specs.Nodes.{Nodes}
use Rattle.hl_nodes.specs.Contents.{Contents}
use Rattle.hl_overlay.specs.DraftTables.{freed_of}
use Rattle.hl_overlay.specs.Overlays.{OverlayValue, unit_blocks}
use Rattle.hl_overlaid.specs.NodesNow.{Overlaid, nodes_now}
use Rattle.hl_tally.specs.Tally.{Tally}

-- for how many addresses of a unit, changes of its tables and notes there is memory
pub record Reserved : Type 0 where
  pub plan : ℕ
  pub changes : ℕ
  pub notes : ℕ

-- The log; the tables, with the changes of slots and volumes that were made in them and that the next unit is to have; the
-- drafts of nodes with their new blocks; the last use of each number; what is counted of the nodes; what each line of the
-- disk holds; the clean segments, in the order in which they are taken; the serial of the next tertiary segment; for how
-- much there is memory; and whether the unit buffer is there.
pub record StoreValue (M : Type 0) : Type 0 where
  pub log : LogValue M
  pub tables : TableValues
  pub notes : List TableRecord
  pub overlay : OverlayValue
  pub uses : List ℕ
  pub tally : Tally
  pub lines : Lines
  pub clean : List ℕ
  pub tseg_serial : ℕ
  pub reserved : Reserved
  pub has_buffer : Bool

module _ {M : Type 0} where
  -- the site
  abbrev pub layout : StoreValue M → Layout
  layout v = v.log.geometry

  -- what was changed since the last unit
  abbrev pub overlaid : StoreValue M → Overlaid
  overlaid v = record { overlay = v.overlay; uses = v.uses; slots = v.tables.slots }

  -- the nodes that the store has now, where these contents are those of the last unit
  abbrev pub nodes_of : StoreValue M → Contents → Nodes
  nodes_of v c = nodes_now (overlaid v) c.nodes

  -- how much is dirty: the blocks of the next unit, and the numbers that it frees
  abbrev pub dirty_of : StoreValue M → ℕ
  dirty_of v = unit_blocks v.overlay + length (freed_of v.overlay.drafts.items)

  -- the next unit would have nothing
  abbrev pub IsTidy : StoreValue M → Type 0
  IsTidy v = (dirty_of v ≡ 0) × (v.notes ≡ [])
