-- Contents that a program found in an image.
use Rattle.std.specs.Prelude.{◌≡◌, ℕ, ◌+◌, ◌≤◌, List, map, length, All, Option, Some, MatchOption}
use Rattle.hl_media.specs.History.{Image}
use Rattle.hl_addr.specs.Layout.{Layout}
use Rattle.hl_super.specs.declared.record.Record.{Record}
use Rattle.hl_summary.specs.declared.parts.Summary.{Summary}
use Rattle.hl_image.specs.declared.chain.ChainPart.{ChainPart}
use Rattle.hl_image.specs.Chain.{IsCutChain, placed}
use Rattle.hl_image.specs.Newest.{IsNewest, start_of}
use Rattle.hl_tables.specs.Values.{TableValues}
use Rattle.hl_tables.specs.Laying.{HasInode, HasTarget, laid}
use Rattle.hl_nodes.specs.Found.{nodes_found}
use Rattle.hl_nodes.specs.Tables.{SpellTables, HasLaidTables}
use Rattle.hl_nodes.specs.Contents.{Contents, HasContents}
use Rattle.hl_found.specs.declared.contents.FoundContents.{FoundContents}

-- the parts without their places
abbrev pub parts_found : List ChainPart → List Summary
parts_found chain = map (λ p. p.summary) chain

abbrev pub contents_found : FoundContents → Contents
contents_found f = record { rec = f.rec; parts = parts_found f.chain.items; tables = f.tables; nodes = nodes_found f.nodes.items }

-- the record is the newest, and has the site's volumes
pub record IsOfSite (g : Layout) (image : Image) (rec : Record) : Type 0 where
  pub newest : IsNewest g image (Some rec)
  pub volumes : rec.volumes ≡ g.volumes

-- these are the parts of the chain behind the record, each with its place
pub record AreChainParts (g : Layout) (image : Image) (rec : Record) (chain : List ChainPart) : Type 0 where
  pub cut : IsCutChain g image (start_of rec) rec.serial (parts_found chain)
  pub places : placed (start_of rec) (parts_found chain) ≡ chain

-- tables with a part laid over them, where it stands
abbrev pub part_laid : TableValues → ChainPart → TableValues
part_laid t p = laid t p.seg (p.block + 1) p.summary.blocks p.summary.tables

-- what the part changes exists in the tables
pub record MayBeLaid (t : TableValues) (p : ChainPart) : Type 0 where
  pub seg : p.seg ≤ length t.used
  pub room : p.block + 1 + length p.summary.blocks ≤ t.k
  pub inodes : All (HasInode t) p.summary.blocks
  pub targets : All (HasTarget t) p.summary.tables

-- the tables that the blocks at these addresses were found to spell, or they spell none
abbrev pub FindsSpelled : Layout → Image → List ℕ → Option TableValues → Type 0
FindsSpelled g image addresses found = MatchOption found
    ((t : TableValues) → ¬ SpellTables g image addresses t)
    (λ t. SpellTables g image addresses t)

-- the tables that the image was found to have by a record and parts, or it has none
abbrev pub FindsTables : Layout → Image → Record → List Summary → Option TableValues → Type 0
FindsTables g image rec parts found = MatchOption found
    ((t : TableValues) → ¬ HasLaidTables g image rec parts t)
    (λ t. HasLaidTables g image rec parts t)

-- each part of the chain that was found has its place
abbrev pub HavePlaces : FoundContents → Type 0
HavePlaces f = placed (start_of f.rec) (parts_found f.chain.items) ≡ f.chain.items

-- the image has the contents that were found, and each part has its place
pub record AreFound (g : Layout) (image : Image) (f : FoundContents) : Type 0 where
  pub has : HasContents g image (contents_found f)
  pub places : HavePlaces f

-- the contents that the image was found to have, or it has none
abbrev pub FindsContents : Layout → Image → Option FoundContents → Type 0
FindsContents g image found = MatchOption found
    ((c : Contents) → ¬ HasContents g image c)
    (λ f. AreFound g image f)
