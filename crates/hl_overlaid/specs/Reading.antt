-- Drafts of nodes as they are read of contents.
use Rattle.std.specs.Prelude.{◌≡◌, ◌≢◌, ◌⊎◌, ◌<◌, slice_index}
use Rattle.hl_media.specs.History.{Image}
use Rattle.hl_addr.specs.Layout.{Layout}
use Rattle.hl_inode.specs.declared.inode.Inode.{Inode}
use Rattle.hl_overlay.specs.declared.draft.NodeDraft.{NodeDraft}
use Rattle.hl_overlay.specs.Drafting.{IsDraft, IsFilled, IsReadDraft, IsUnusedDraft, KeepsDirect}
use Rattle.hl_nodes.specs.Nodes.{IsInodeAt}
use Rattle.hl_nodes.specs.Contents.{Contents}

-- the number isn't in use, and so it is drafted
pub record ReadsUnused (g : Layout) (c : Contents) (d : NodeDraft) : Type 0 where
  pub number : d.ino < g.inodes
  pub is : IsDraft d
  pub entry : slice_index c.tables.inodes d.ino ≡ 4294967295
  pub unused : IsUnusedDraft d.ino d

-- the draft has the pointers of the pointer block of its inode, and is else as it was without them
pub record ReadsPointers (image : Image) (v : Inode) (read d : NodeDraft) : Type 0 where
  pub some : v.single ≢ 4294967295
  pub filled : IsFilled (image v.single) d
  pub direct : KeepsDirect read d
  pub rest : d ≡ record read { pointers = d.pointers }

-- The number's inode is drafted, with the pointers of its pointer block if it has one.
pub record ReadsNode (g : Layout) (image : Image) (c : Contents) (d : NodeDraft) : Type 0 where
  pub number : d.ino < g.inodes
  pub is : IsDraft d
  pub inode : Inode
  pub there : IsInodeAt g image d.ino (slice_index c.tables.inodes d.ino) inode
  pub read : NodeDraft
  pub of_inode : IsReadDraft (slice_index c.tables.inodes d.ino) inode read
  pub pointers : ((inode.single ≡ 4294967295) × (d ≡ read)) ⊎ ReadsPointers image inode read d
