-- What changes of one node, units and checkpoints make of what is counted.
use Rattle.std.specs.Prelude.{◌≡◌, ◌↔◌, Contains, [], replicate, slice_index_or, ℕ, ◌+◌, ◌-◌, ◌/◌, ◌≤◌, ◌<◌, ◌^◌, true, ◌&&◌, nat_le, min, if◌then◌else◌, Bool, List, length, slice_index, slice_set, Option, Some, is_some}
use Rattle.std.specs.List.{fold}
use Rattle.std.specs.FinMap.{get}
use Rattle.hl_log.specs.Free.{Once}
use Rattle.hl_paths.specs.Nodes.{flat_charge}
use Rattle.hl_nodes.specs.Live.{IsLive}
use Rattle.hl_nodes.specs.Sound.{HasSound}
use Rattle.hl_addr.specs.Layout.{Layout}
use Rattle.hl_overlay.specs.declared.pointers.Pointer.{Pointer}
use Rattle.hl_overlay.specs.declared.pointers.Pointer.TheVariants.{Hole, Kept, Moved, New}
use Rattle.hl_overlay.specs.declared.draft.NodeDraft.{NodeDraft}
use Rattle.hl_overlay.specs.declared.draft.Shape.{Shape}
use Rattle.hl_overlay.specs.Pointing.{has_far, where_is}
use Rattle.hl_overlay.specs.DraftTables.{draft_of}
use Rattle.hl_overlay.specs.Overlays.{Holding}
use Rattle.hl_overlay.specs.Overlays.Holding.{Fresh, GoesAway, Remains, Zeros}
use Rattle.hl_media.specs.History.{Image}
use Rattle.hl_nodes.specs.Contents.{Contents}
use Rattle.hl_overlaid.specs.NodesNow.{Overlaid}
use Rattle.hl_overlaid.specs.Changes.{PutsNow}
use Rattle.hl_tally.specs.Tally.{Tally}

-- an address lies in a log segment, of which there are so many, of k blocks each
abbrev pub is_logged : ℕ → ℕ → ℕ → Bool
is_logged k segments address = nat_le 1 (address / k) && nat_le (address / k) segments

-- the live numbers with that of the log segment of an address changed; an address elsewhere changes none
abbrev pub in_segment : ℕ → List ℕ → ℕ → (ℕ → ℕ) → List ℕ
in_segment k live address f =
    if is_logged k (length live) address then slice_set live (address / k - 1) (f (slice_index live (address / k - 1))) else live

-- with one more live block, or one less; a number stays at 2^32 - 1
abbrev pub added : ℕ → List ℕ → ℕ → List ℕ
added k live address = in_segment k live address (λ n. min (n + 1) (2 ^ 32 - 1))

abbrev pub removed : ℕ → List ℕ → ℕ → List ℕ
removed k live address = in_segment k live address (λ n. n - 1)

-- what the first change of a draft lets go: the inode's block
abbrev pub without_own : ℕ → NodeDraft → List ℕ → List ℕ
without_own k d live = if d.changed then live else removed k live d.own

-- what a change of block i lets go besides: a pointer block that names the block
abbrev pub without_pointer_block : ℕ → NodeDraft → ℕ → List ℕ → List ℕ
without_pointer_block k d i live = if nat_le 12 i then removed k live d.single else live

-- and the block itself, where the disk has it
abbrev pub without_block : ℕ → Pointer → List ℕ → List ℕ
without_block k Hole live = live
without_block k (Kept addr) live = removed k live addr
without_block k (Moved addr serial position) live = live
without_block k (New n) live = live

-- what a block is charged that is there, and one that is to stand there
abbrev pub charge_at : Layout → Pointer → ℕ
charge_at g Hole = 0
charge_at g (Kept addr) = if is_logged g.k g.log addr then 1 else 0
charge_at g (Moved addr serial position) = 0
charge_at g (New n) = 1

abbrev pub charge_held : Holding → ℕ
charge_held Zeros = 0
charge_held (Remains addr) = 0
charge_held (GoesAway addr serial position) = 0
charge_held (Fresh bytes) = 1

-- what a draft is charged for its pointer block
abbrev pub far_charge : NodeDraft → ℕ
far_charge d = if has_far d.pointers then 1 else 0

-- Block i of a drafted node is put, cleared or sent away, and its draft is another. Each of the two has a pointer for every
-- block that a node may have.
pub record ChangesBlock (g : Layout) (image : Image) (c : Contents) (old new : Overlaid) (ino i : ℕ) (h : Holding) (d e : NodeDraft) : Type 0 where
  pub puts : PutsNow g image c old new ino i h
  pub elsewhere : (addr : ℕ) → h ≡ Remains addr → ⊥
  pub was : draft_of old.overlay.drafts ino ≡ Some d
  pub is : draft_of new.overlay.drafts ino ≡ Some e
  pub pointers_before : length d.pointers ≡ 1036
  pub pointers_now : length e.pointers ≡ 1036

-- what is counted behind such a change
abbrev pub block_counted : Layout → ℕ → Holding → NodeDraft → NodeDraft → Tally → Tally
block_counted g i h d e n = record {
  in_use = n.in_use;
  charge = (n.charge + (charge_held h + far_charge e)) - (charge_at g (where_is d.pointers i) + far_charge d);
  live = without_block g.k (where_is d.pointers i) (without_pointer_block g.k d i (without_own g.k d n.live));
}

-- what a number in use is charged besides its blocks
abbrev pub own_charge : Option Shape → ℕ
own_charge shape = if is_some shape then 1 else 0

-- what is counted once a drafted node is of another shape
abbrev pub shape_counted : Layout → ℕ → Option Shape → NodeDraft → Tally → Tally
shape_counted g ino shape d n = record {
  in_use = slice_set n.in_use ino (is_some shape);
  charge = (n.charge + own_charge shape) - own_charge d.shape;
  live = without_own g.k d n.live;
}

-- what is counted behind a unit whose blocks get these addresses
abbrev pub unit_counted : Layout → List ℕ → Tally → Tally
unit_counted g plan n = record n { live = fold (added g.k) n.live plan }

-- what is counted behind a checkpoint whose table blocks were at the first addresses and are at the others now
abbrev pub tables_counted : Layout → List ℕ → List ℕ → Tally → Tally
tables_counted g before now n = record n { live = fold (added g.k) (fold (removed g.k) n.live before) now }

-- Nothing is drafted over sound contents, and these are the addresses of their live blocks, each once: the live numbers
-- are counted from them, and the rest is that of the contents' nodes.
pub record CountsLive (g : Layout) (image : Image) (c : Contents) (o : Overlaid) (addresses : List ℕ) (n : Tally) : Type 0 where
  pub sound : HasSound g image c
  pub none : o.overlay.drafts.items ≡ []
  pub each : (address : ℕ) → Contains addresses address ↔ IsLive g image c.rec c.tables address
  pub once : Once addresses
  pub numbers : length n.in_use ≡ g.inodes
  pub in_use : (ino : ℕ) → 1 ≤ ino → ino < g.inodes → slice_index_or n.in_use ino true ≡ is_some (get c.nodes ino)
  pub charge : n.charge ≡ flat_charge c.nodes
  pub live : n.live ≡ fold (added g.k) (replicate g.log 0) addresses
