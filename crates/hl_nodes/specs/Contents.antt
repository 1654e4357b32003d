-- What an image holds, as a whole.
use Rattle.std.specs.Prelude.{◌≡◌, ℕ, List, Some}
use Rattle.hl_media.specs.History.{Image, MachineState}
use Rattle.hl_addr.specs.Layout.{Layout}
use Rattle.hl_super.specs.declared.record.Record.{Record}
use Rattle.hl_summary.specs.declared.parts.Summary.{Summary}
use Rattle.hl_image.specs.declared.place.LogPlace.{LogPlace}
use Rattle.hl_image.specs.Chain.{IsCutChain}
use Rattle.hl_image.specs.Newest.{IsNewest, start_of}
use Rattle.hl_log.specs.declared.position.Position.{Position}
use Rattle.hl_log.specs.Free.{IsFree}
use Rattle.hl_log.specs.Rest.{IsAtRest}
use Rattle.hl_tables.specs.Values.{TableValues}
use Rattle.hl_paths.specs.Nodes.{Nodes}
use Rattle.hl_nodes.specs.Tables.{HasLaidTables, parts_raised}
use Rattle.hl_nodes.specs.Nodes.{HasNodes}
use Rattle.hl_nodes.specs.Live.{IsLive}

-- the newest record, the parts of the cut chain, the tables that they leave, and the nodes that these name
pub record Contents : Type 0 where
  pub rec : Record
  pub parts : List Summary
  pub tables : TableValues
  pub nodes : Nodes

-- the serial that the next tertiary segment gets
abbrev pub next_tertiary : Contents → ℕ
next_tertiary c = parts_raised c.rec.tseg_serial c.parts

-- the image has these contents
pub record HasContents (g : Layout) (image : Image) (c : Contents) : Type 0 where
  pub newest : IsNewest g image (Some c.rec)
  pub volumes : c.rec.volumes ≡ g.volumes
  pub chain : IsCutChain g image (start_of c.rec) c.rec.serial c.parts
  pub tables : HasLaidTables g image c.rec c.parts c.tables
  pub nodes : HasNodes g image c.tables c.nodes

-- no live block of the image lies where the log may write next
abbrev pub IsApart : Layout → LogPlace → List ℕ → Image → Contents → Type 0
IsApart g head clean image c = (address : ℕ) → IsLive g image c.rec c.tables address → IsFree g head clean address → ⊥

-- The log is at rest over these contents: reads give them, it starts at their record, and no live block lies where it
-- may write next.
pub record Rests (g : Layout) (p : Position) (clean : List ℕ) (c : Contents) (s : MachineState) : Type 0 where
  pub at_rest : IsAtRest g p clean c.parts s
  pub start_is : p.start ≡ start_of c.rec
  pub first_is : p.first ≡ c.rec.serial
  pub has : HasContents g s.content c
  pub apart : IsApart g p.head clean s.content c
