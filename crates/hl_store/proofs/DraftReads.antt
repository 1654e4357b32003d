-- A draft that was read is of whatever contents reads give.
use Rattle.std.proofs.Common.{◌≡◌, ◌≢◌, inl, inr, ℕ, ◌<◌, List, slice_get, Option, Some, refl, sym, ◌∙◌, ap, subst}
use Rattle.std.specs.Prelude.{slice_index}
use Rattle.std.proofs.lemmas.Option.{get_or_from_slice_get}
use Rattle.hl_media.specs.History.{History, state_now}
use Rattle.hl_media.specs.Moments.{Runs}
use Rattle.hl_log.specs.Logs.{LogValue}
use Rattle.hl_log.specs.Rest.{IsUnchanged}
use Rattle.hl_tables.specs.Values.{TableValues}
use Rattle.hl_inode.specs.declared.inode.Inode.{Inode}
use Rattle.hl_nodes.specs.Nodes.{IsInodeAt}
use Rattle.hl_nodes.specs.Contents.{Contents}
use Rattle.hl_overlay.specs.declared.draft.NodeDraft.{NodeDraft}
use Rattle.hl_overlay.specs.Drafting.{IsDraft, IsFilled, IsReadDraft, IsUnusedDraft, KeepsDirect}
use Rattle.hl_overlaid.proofs.ReadLemmas.{read_of, unused_of}
use Rattle.hl_store.specs.Seats.{GivesDraft, GivesInode, GivesLogBlock}
use Rattle.hl_store.proofs.ReadRuns.{now_before}

-- an entry that is there, by its number
pub entry_at : (xs : List ℕ) (i x : ℕ) → slice_get xs i ≡ Some x → slice_index xs i ≡ x
entry_at xs i x at = get_or_from_slice_get xs i x 0 at

module _ {M : Type 0} (history : M → Option History) (log : LogValue M) (tables : TableValues) (ino own : ℕ) (low : ino < log.geometry.inodes) (entry : slice_get tables.inodes ino ≡ Some own) where
  -- the entry of a number in the inode map of contents with these inodes
  entry_of : (c : Contents) → tables.inodes ≡ c.tables.inodes → (number : ℕ) → number ≡ ino → slice_index c.tables.inodes number ≡ own
  entry_of c same number is = ap (slice_index c.tables.inodes) is ∙ ap (λ (xs : List ℕ). slice_index xs ino) (sym same) ∙ entry_at tables.inodes ino own entry

  -- a number that isn't in use
  pub unused_given : (d : NodeDraft) → own ≡ 4294967295 → IsUnusedDraft ino d → IsDraft d → GivesDraft history log tables ino d
  unused_given d none unused is h told c has same = unused_of log.geometry (state_now h).content c has d (record {
    number = subst (λ n. n < log.geometry.inodes) (sym unused.number) low;
    is = is;
    entry = entry_of c same d.ino unused.number ∙ none;
    unused = subst (λ n. IsUnusedDraft n d) (sym unused.number) unused;
  })

  module _ (inode : Inode) (read : NodeDraft) (given : GivesInode history log ino own inode) (of : IsReadDraft own inode read) (own_number : inode.number ≡ ino) where
    -- the inode lies where contents have that of the draft's number
    inode_there : (h : History) → history log.machine ≡ Some h → (c : Contents) → tables.inodes ≡ c.tables.inodes → (number : ℕ) → number ≡ ino
        → IsInodeAt log.geometry (state_now h).content number (slice_index c.tables.inodes number) inode
    inode_there h told c same number is =
        subst (λ a. IsInodeAt log.geometry (state_now h).content number a inode) (sym (entry_of c same number is))
        (subst (λ n. IsInodeAt log.geometry (state_now h).content n own inode) (sym is) (given h told))

    -- and so is the draft that was made of it
    read_there : (c : Contents) → tables.inodes ≡ c.tables.inodes → (number : ℕ) → number ≡ ino → IsReadDraft (slice_index c.tables.inodes number) inode read
    read_there c same number is = subst (λ a. IsReadDraft a inode read) (sym (entry_of c same number is)) of

    -- a node without a pointer block
    pub near_given : IsDraft read → inode.single ≡ 4294967295 → GivesDraft history log tables ino read
    near_given is none h told c has same =
        let number : read.ino ≡ ino = of.number ∙ own_number in
        read_of log.geometry (state_now h).content c has read (record {
          number = subst (λ n. n < log.geometry.inodes) (sym number) low;
          is = is;
          inode = inode;
          there = inode_there h told c same read.ino number;
          read = read;
          of_inode = read_there c same read.ino number;
          pointers = inl (none, refl);
        })

    -- a node with its pointer block
    pub far_given : (middle : LogValue M) (d : NodeDraft) (out : List ℕ) → Runs (history log.machine) (history middle.machine) IsUnchanged → GivesLogBlock history middle inode.single out → inode.single ≢ 4294967295
        → IsFilled out d → KeepsDirect read d → d ≡ record read { pointers = d.pointers } → IsDraft d → GivesDraft history log tables ino d
    far_given middle d out run block some filled direct rest is h told c has same =
        let number : d.ino ≡ ino = ap (λ (x : NodeDraft). x.ino) rest ∙ of.number ∙ own_number in
        let bytes : (state_now h).content inode.single ≡ out = now_before (history log.machine) (history middle.machine) (λ s. s.content inode.single ≡ out) run block.1 h told in
        read_of log.geometry (state_now h).content c has d (record {
          number = subst (λ n. n < log.geometry.inodes) (sym number) low;
          is = is;
          inode = inode;
          there = inode_there h told c same d.ino number;
          read = read;
          of_inode = read_there c same d.ino number;
          pointers = inr (record { some = some; filled = subst (λ b. IsFilled b d) (sym bytes) filled; direct = direct; rest = rest });
        })
