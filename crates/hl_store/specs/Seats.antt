-- Nodes that are read into drafts.
use Rattle.std.specs.Prelude.{◌≡◌, ℕ, ◌+◌, IsSome, List, Option}
use Rattle.hl_media.specs.History.{History, MachineState}
use Rattle.hl_media.specs.Moments.{Now}
use Rattle.hl_media.specs.Causes.{Rose}
use Rattle.hl_inode.specs.declared.inode.Inode.{Inode}
use Rattle.hl_image.specs.Places.{InLog}
use Rattle.hl_log.specs.Logs.{LogValue}
use Rattle.hl_tables.specs.Values.{TableValues}
use Rattle.hl_nodes.specs.Contents.{Contents, HasContents}
use Rattle.hl_nodes.specs.Nodes.{IsInodeAt}
use Rattle.hl_overlay.specs.declared.draft.NodeDraft.{NodeDraft}
use Rattle.hl_overlay.specs.DraftTables.{Trims, draft_of}
use Rattle.hl_overlaid.specs.NodesNow.{IsOverlaid}
use Rattle.hl_overlaid.specs.Over.{IsDraftOf}
use Rattle.hl_store.specs.declared.answers.Trouble.{Trouble}
use Rattle.hl_store.specs.declared.answers.Trouble.TheVariants as trouble
use Rattle.hl_store.specs.Values.{StoreValue, dirty_of, layout, nodes_of, overlaid}
use Rattle.hl_store.specs.Lying.{LiesOver}
use Rattle.hl_store.specs.Finding.{ReadsNodes}

module _ {M : Type 0} where
  -- a fault comes only where the count rose
  abbrev pub IsCaused : (M → ℕ) → M → M → Trouble → Type 0
  IsCaused faults before now trouble.DiskFault = Rose (faults before) (faults now)
  IsCaused faults before now trouble.Memory = Unit {0}

  -- the address is of the log, and these bytes stand there
  abbrev pub GivesLogBlock : (M → Option History) → LogValue M → ℕ → List ℕ → Type 0
  GivesLogBlock history log addr out =
      InLog log.geometry addr × Now (history log.machine) (λ s. s.content addr ≡ out)

  -- the inode of the number stands at the address
  abbrev pub GivesInode : (M → Option History) → LogValue M → ℕ → ℕ → Inode → Type 0
  GivesInode history log ino own inode =
      Now (history log.machine) (λ s. IsInodeAt log.geometry s.content ino own inode)

  -- the draft is of whatever contents reads give, where their inode map is this one
  abbrev pub GivesDraft : (M → Option History) → LogValue M → TableValues → ℕ → NodeDraft → Type 0
  GivesDraft history log tables ino d =
      Now (history log.machine) (λ s. (c : Contents) → HasContents log.geometry s.content c
      → tables.inodes ≡ c.tables.inodes → IsDraftOf log.geometry s.content c d)

  -- the number is drafted in a table of the site's numbers, with room for so many new blocks more
  pub record Seats (history : M → Option History) (old new : StoreValue M)
      (ino count : ℕ) : Type 0 where
    pub reads : ReadsNodes history old new
    pub drafted : IsSome (draft_of new.overlay.drafts ino)
    pub room : new.overlay.room ≡ old.overlay.room + count
    pub whole : IsOverlaid (layout new) (overlaid new)

  -- The room is given up, and drafts that aren't changed may be gone: the nodes are as they were, and as much is dirty.
  pub record Releases (old new : StoreValue M) : Type 0 where
    pub same : new ≡ record old { overlay = new.overlay }
    pub over : (c : Contents) (s : MachineState) → LiesOver old c s → LiesOver new c s
    pub nodes : (c : Contents) (s : MachineState) → LiesOver old c s
        → nodes_of new c ≡ nodes_of old c
    pub trims : Trims 64 old.overlay.drafts new.overlay.drafts
    pub dirty : dirty_of new ≡ dirty_of old
    pub blocks : new.overlay.blocks ≡ old.overlay.blocks
    pub room : new.overlay.room ≡ 0
