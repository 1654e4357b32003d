-- Another image with the same live blocks, and contents with the same nodes: an overlay over the one is over the other.
use Rattle.std.proofs.Common.{◌≡◌, ◌≢◌, inl, inr, ℕ, ◌<◌, ◌≤◌, ◌-◌, List, Option, Some, None, refl, sym, ◌∙◌, ap, subst}
use Rattle.std.specs.Prelude.{slice_index}
use Rattle.std.specs.FinMap.{get}
use Rattle.hl_media.specs.History.{Image}
use Rattle.hl_addr.specs.Layout.{Layout, IsWithinLimits}
use Rattle.hl_image.specs.Places.{log_end}
use Rattle.hl_inode.specs.declared.inode.Inode.{Inode}
use Rattle.hl_inode.specs.Inodes.{Spells}
use Rattle.hl_tseg.specs.SlotTable.{SlotTable}
use Rattle.hl_tables.specs.Values.{TableValues}
use Rattle.hl_paths.specs.Nodes.{FlatNode}
use Rattle.hl_overlay.specs.declared.draft.NodeDraft.{NodeDraft}
use Rattle.hl_overlay.specs.Pointing.{pointer_to}
use Rattle.hl_image.specs.Places.{InLog}
use Rattle.hl_nodes.specs.Pointers.{HasPointerBlock, pointer_of}
use Rattle.hl_nodes.specs.Nodes.{IsInodeAt, IsMapEntry}
use Rattle.hl_nodes.specs.Live.{HasAddress, IsLive, IsNodeBlock, LiesAt, NodeBlock, PointsAt}
use Rattle.hl_nodes.specs.Live.LiveBlock.{OfNode}
use Rattle.hl_nodes.specs.Live.NodeBlock.{Content, Own, Pointers}
use Rattle.hl_nodes.specs.Contents.{Contents, HasContents}
use Rattle.hl_nodes.specs.Fates.{KeepsSlots}
use Rattle.hl_nodes.proofs.Frame.{block_back, limits_of, one_inode}
use Rattle.hl_nodes.proofs.PointerLemmas.{in_log-high, in_log-some, pointer_in-same, pointer_of-same}
use Rattle.hl_nodes.proofs.UnitLaws.{live_in_log}
use Rattle.hl_overlaid.specs.NodesNow.{Overlaid, nodes_now}
use Rattle.hl_overlaid.specs.Over.{IsAsRead, IsDraftOf, IsOfKind, IsOver}

-- the inode of a number of the contents has a pointer block, or none
pub pointers_there : (g : Layout) (image : Image) (c : Contents) → HasContents g image c → (ino : ℕ) → 1 ≤ ino → ino < g.inodes → (v : Inode) → IsInodeAt g image ino (slice_index c.tables.inodes ino) v → HasPointerBlock g image v
pointers_there g image c has ino low high v there = by (get c.nodes ino) (has.nodes.entries ino low high)
  where
    by : (x : Option FlatNode) → IsMapEntry g c.tables.slots image ino (slice_index c.tables.inodes ino) x → HasPointerBlock g image v
    by None none = absurd (in_log-some g (limits_of g image c.rec has.newest has.volumes) (slice_index c.tables.inodes ino) there.in_log none)
    by (Some node) at = subst (HasPointerBlock g image) (one_inode (image (slice_index c.tables.inodes ino)) (image (slice_index c.tables.inodes ino)) at.inode v refl at.there.spelled there.spelled) at.is.pointers

-- which lies in the log
pub single_in_log : (g : Layout) (image : Image) (v : Inode) → HasPointerBlock g image v → v.single ≢ 4294967295 → InLog g v.single
single_in_log g image v (inl none) some = absurd (some none)
single_in_log g image v (inr is) some = is.in_log

module _ (g : Layout) (a b : Image) (c : Contents) (has : HasContents g a c) (same : (address : ℕ) → IsLive g a c.rec c.tables address → b address ≡ a address) where
  limits : IsWithinLimits g
  limits = limits_of g a c.rec has.newest has.volumes

  block_same : (ino : ℕ) (block : NodeBlock) (address : ℕ) → IsNodeBlock g a c.tables ino block address → b address ≡ a address
  block_same ino block address is = same address (record { block = OfNode ino block; lies = is })

  inode_there : (ino : ℕ) → 1 ≤ ino → ino < g.inodes → (v : Inode) → IsInodeAt g a ino (slice_index c.tables.inodes ino) v → IsInodeAt g b ino (slice_index c.tables.inodes ino) v
  inode_there ino low high v at = record {
    in_log = at.in_log;
    spelled = subst (λ (l : List ℕ). Spells l v) (sym (block_same ino Own (slice_index c.tables.inodes ino) (record { low = low; high = high; inode = v; there = at; lies = refl }))) at.spelled;
    number = at.number;
  }

  point_same : (ino : ℕ) → 1 ≤ ino → ino < g.inodes → (v : Inode) → IsInodeAt g a ino (slice_index c.tables.inodes ino) v → (i : ℕ) → pointer_of b v i ≡ pointer_of a v i
  point_same ino low high v there i = pointer_of-same a b v i (λ some. block_same ino Pointers v.single
      (record { low = low; high = high; inode = v; there = there; lies = (single_in_log g a v (pointers_there g a c has ino low high v there) some, refl) }))

  address_there : (ino i address : ℕ) → HasAddress g a c.tables ino (Content i) address → HasAddress g b c.tables ino (Content i) address
  address_there ino i address at = record {
    low = at.low;
    high = at.high;
    inode = at.inode;
    there = inode_there ino at.low at.high at.inode at.there;
    points = (at.points.0, at.points.1, point_same ino at.low at.high at.inode at.there i ∙ at.points.2);
  }

  single_there : (ino address : ℕ) → IsNodeBlock g a c.tables ino Pointers address → IsNodeBlock g b c.tables ino Pointers address
  single_there ino address at = record { low = at.low; high = at.high; inode = at.inode; there = inode_there ino at.low at.high at.inode at.there; lies = at.lies }

  of_there : (d : NodeDraft) → IsDraftOf g a c d → IsDraftOf g b c d
  of_there d of = record {
    own = of.own;
    kept = λ i addr small here. address_there d.ino i addr (of.kept i addr small here);
    kind = of.kind;
    single = λ some. single_there d.ino d.single (of.single some);
    names = λ some i low high. of.names some i low high ∙ ap pointer_to (sym (pointer_in-same a b d.single (i - 12) (λ ne. block_same d.ino Pointers d.single (of.single some))));
    as_read = of.as_read;
    pointers_read = λ unchanged address lies. of.pointers_read unchanged address (block_back g a b c.tables limits c.nodes block_same has.nodes d.ino Pointers address lies);
  }

  -- ANOTHER IMAGE with the same live blocks: the overlay is over the contents there
  pub over_there : (o : Overlaid) → IsOver g o a c → IsOver g o b c
  over_there o over = record { drafts = λ k d at. of_there d (over.drafts k d at); away = over.away; slots = over.slots }

-- so it is with the same log
pub over_log : (g : Layout) (a b : Image) (c : Contents) → HasContents g a c → ((k : ℕ) → k < log_end g → b k ≡ a k) → (o : Overlaid) → IsOver g o a c → IsOver g o b c
over_log g a b c has same o over = over_there g a b c has (λ address live. same address (in_log-high g (limits_of g a c.rec has.newest has.volumes) address (live_in_log g a c has address live))) o over

-- contents with the same inodes
module _ (g : Layout) (image : Image) (s t : TableValues) (same : t.inodes ≡ s.inodes) where
  address_by : (ino : ℕ) (block : NodeBlock) (address : ℕ) → HasAddress g image s ino block address → HasAddress g image t ino block address
  address_by ino block address at = record {
    low = at.low;
    high = at.high;
    inode = at.inode;
    there = subst (λ l. IsInodeAt g image ino (slice_index l ino) at.inode) (sym same) at.there;
    points = subst (λ l. PointsAt image (slice_index l ino) at.inode block address) (sym same) at.points;
  }

  block_by : (ino : ℕ) (block : NodeBlock) (address : ℕ) → IsNodeBlock g image s ino block address → IsNodeBlock g image t ino block address
  block_by ino block address at = record {
    low = at.low;
    high = at.high;
    inode = at.inode;
    there = subst (λ l. IsInodeAt g image ino (slice_index l ino) at.inode) (sym same) at.there;
    lies = subst (λ l. LiesAt g image (slice_index l ino) at.inode block address) (sym same) at.lies;
  }

-- CONTENTS WITH THE SAME NODES, inodes and slots: the overlay is over them
pub over_contents : (g : Layout) (image : Image) (c e : Contents) → e.nodes ≡ c.nodes → e.tables.inodes ≡ c.tables.inodes → e.tables.slots ≡ c.tables.slots → (o : Overlaid) → IsOver g o image c → IsOver g o image e
over_contents g image c e nodes inodes slots o over = record {
  drafts = λ k d at. of d (over.drafts k d at);
  away = over.away;
  slots = λ ino node is. subst (λ (x : SlotTable). KeepsSlots x o.slots node) (sym slots) (over.slots ino node (ap (λ ns. get (nodes_now o ns) ino) (sym nodes) ∙ is));
}
  where
    of : (d : NodeDraft) → IsDraftOf g image c d → IsDraftOf g image e d
    of d is = record {
      own = is.own ∙ ap (λ l. slice_index l d.ino) (sym inodes);
      kept = λ i addr small here. address_by g image c.tables e.tables inodes d.ino (Content i) addr (is.kept i addr small here);
      kind = λ i addr small here shape at. subst (λ ns. IsOfKind (get ns d.ino) shape.kind) (sym nodes) (is.kind i addr small here shape at);
      single = λ some. block_by g image c.tables e.tables inodes d.ino Pointers d.single (is.single some);
      names = is.names;
      as_read = λ unchanged. subst (λ ns. IsAsRead (get ns d.ino) d) (sym nodes) (is.as_read unchanged);
      pointers_read = λ unchanged address lies. is.pointers_read unchanged address (block_by g image e.tables c.tables (sym inodes) d.ino Pointers address lies);
    }
