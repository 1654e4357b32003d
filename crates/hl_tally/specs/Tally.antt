-- What is counted of the nodes that a site has now.
use Rattle.std.specs.Prelude.{◌≡◌, ℕ, ◌-◌, ◌/◌, ◌<◌, ◌≤◌, true, false, Bool, List, length, slice_index, slice_index_or, is_some, Some}
use Rattle.std.specs.FinMap.{get}
use Rattle.hl_media.specs.History.{Image}
use Rattle.hl_addr.specs.Layout.{Layout}
use Rattle.hl_paths.specs.Nodes.{flat_charge}
use Rattle.hl_nodes.specs.Live.{IsLiveAt, LiveBlock, NodeBlock}
use Rattle.hl_nodes.specs.Live.LiveBlock.{OfNode, Table}
use Rattle.hl_nodes.specs.Live.NodeBlock.{Content, Own, Pointers}
use Rattle.hl_nodes.specs.LiveNumbers.{ListsOnce}
use Rattle.hl_nodes.specs.Contents.{Contents}
use Rattle.hl_overlay.specs.declared.pointers.Pointer.TheVariants.{Kept}
use Rattle.hl_overlay.specs.declared.draft.NodeDraft.{NodeDraft}
use Rattle.hl_overlay.specs.Pointing.{where_is}
use Rattle.hl_overlay.specs.DraftTables.{draft_of}
use Rattle.hl_overlay.specs.Overlays.{OverlayValue}
use Rattle.hl_overlaid.specs.NodesNow.{Overlaid, nodes_now}

-- which numbers are in use, what the nodes are charged, and how many live blocks each log segment has, from 1 on
pub record Tally : Type 0 where
  pub in_use : List Bool
  pub charge : ℕ
  pub live : List ℕ

-- the block at an address goes on being the block of a node that is drafted
abbrev pub StaysIn : NodeDraft → NodeBlock → ℕ → Type 0
StaysIn d Own address = d.changed ≡ false
StaysIn d Pointers address = d.single ≡ address
StaysIn d (Content i) address = where_is d.pointers i ≡ Kept address

abbrev pub StaysUnder : OverlayValue → LiveBlock → ℕ → Type 0
StaysUnder v (Table i) address = Unit {0}
StaysUnder v (OfNode ino b) address = (d : NodeDraft) → draft_of v.drafts ino ≡ Some d → StaysIn d b address

-- a block of the image lies in the log segment, and the next unit doesn't replace it
pub record StaysLive (g : Layout) (v : OverlayValue) (image : Image) (c : Contents) (segment : ℕ) (x : LiveBlock) : Type 0 where
  pub address : ℕ
  pub lies : IsLiveAt g image c.rec c.tables x address
  pub stays : StaysUnder v x address
  pub within : address / g.k ≡ segment

-- so many live blocks are such
pub record HasCount (P : LiveBlock → Type 0) (count : ℕ) : Type 0 where
  pub blocks : List LiveBlock
  pub lists : ListsOnce P blocks
  pub count_is : length blocks ≡ count

-- The numbers in use are those of the nodes now, which are charged so much; and each log segment has so many live blocks
-- that the next unit doesn't replace.
pub record IsTally (g : Layout) (o : Overlaid) (image : Image) (c : Contents) (n : Tally) : Type 0 where
  pub numbers : length n.in_use ≡ g.inodes
  pub segments : length n.live ≡ g.log
  pub in_use : (ino : ℕ) → 1 ≤ ino → ino < g.inodes → slice_index_or n.in_use ino true ≡ is_some (get (nodes_now o c.nodes) ino)
  pub charge : n.charge ≡ flat_charge (nodes_now o c.nodes)
  pub live : (segment : ℕ) → 1 ≤ segment → segment ≤ g.log → HasCount (StaysLive g o.overlay image c segment) (slice_index n.live (segment - 1))
