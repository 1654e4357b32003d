-- What is prepared before an entry of a directory changes, and what the change makes of the tree.
use Rattle.std.specs.Prelude.{◌≡◌, ℕ, nat_eq, ◌+◌, ◌/◌, ◌≤◌, if◌then◌else◌, List, take, Option, Some, None, IsSome, length}
use Rattle.std.specs.FinMap.{get, insert}
use Rattle.hl_media.specs.Causes.{Rose}
use Rattle.hl_media.specs.History.{History}
use Rattle.hl_media.specs.Moments.{Now}
use Rattle.hl_log.specs.Logs.{with_machine}
use Rattle.hl_tree.specs.declared.call.Reply.TheVariants as replies
use Rattle.hl_tree.specs.declared.call.Refusal.{Refusal}
use Rattle.hl_tree.specs.declared.call.Refusal.TheVariants.{Eisdir, Enotdir, Enotempty}
use Rattle.hl_inode.specs.declared.inode.Kind.{Kind}
use Rattle.hl_inode.specs.declared.inode.Kind.TheVariants.{Dir, File}
use Rattle.hl_dir.specs.declared.entry.Entry.{Entry}
use Rattle.hl_dir.specs.Dirs.{dir_bytes}
use Rattle.hl_placed.specs.Blocks.{PlacedFile, blocks_of}
use Rattle.hl_paths.specs.Numbered.{Directory, Numbering}
use Rattle.hl_nodes.specs.Contents.{Contents}
use Rattle.hl_overlay.specs.DraftTables.{draft_of}
use Rattle.hl_store.specs.Values.{StoreValue}
use Rattle.hl_store.specs.Lying.{LiesOver}
use Rattle.hl_store.specs.Finding.{OverNow, ReadsNodes}
use Rattle.hl_walk.specs.Trees.{AreKnown}
use Rattle.hl_calls.specs.declared.step.FileStep.{FileStep}
use Rattle.hl_calls.specs.declared.step.FileStep.TheVariants as step
use Rattle.hl_links.specs.declared.changing.DirectoryChange.{DirectoryChange}

-- why a node of a kind and a size can't be taken away as one of another
abbrev pub why_kept : Kind → Kind → ℕ → Option Refusal
why_kept File File size = None
why_kept File Dir size = Some Eisdir
why_kept Dir File size = Some Enotdir
why_kept Dir Dir size = if nat_eq size 0 then None else Some Enotempty

-- A directory has other entries, which the bytes of the change spell; up to where they change they are those that it had.
pub record Relinks (change : DirectoryChange) (before after : Numbering PlacedFile) : Type 0 where
  pub had : List Entry
  pub there : get before change.number ≡ Some (Directory had)
  pub same : take change.from (dir_bytes had) ≡ take change.from change.bytes.items
  pub has : List Entry
  pub spelled : change.bytes.items ≡ dir_bytes has
  pub left : after ≡ insert before change.number (Directory has)

module _ {M : Type 0} where
  -- a number is drafted, with room for so many new blocks more
  pub record IsPrepared (old new : StoreValue M) (number count : ℕ) : Type 0 where
    pub drafted : IsSome (draft_of new.overlay.drafts number)
    pub room : new.overlay.room ≡ old.overlay.room + count

  -- there is room for the blocks of a directory that change, which keeps no more bytes than it has
  pub record IsReady (old new : StoreValue M) (change : DirectoryChange) : Type 0 where
    pub within : change.from ≤ length change.bytes.items
    pub size : length change.bytes.items ≤ 4243456
    pub room : new.overlay.room + change.from / 4096
        ≡ old.overlay.room + blocks_of (length change.bytes.items)

  -- a call stops before its first change: a read failed, where the count rose, or memory was wanting
  abbrev pub StopsBefore : (M → ℕ) → StoreValue M → StoreValue M → FileStep → Type 0
  StopsBefore faults old new (step.Done reply) = ⊥
  StopsBefore faults old new (step.Needs tseg) = ⊥
  StopsBefore faults old new step.NoSpace = ⊥
  StopsBefore faults old new step.DiskFault =
      Rose (faults old.log.machine) (faults new.log.machine)
  StopsBefore faults old new step.Memory = Unit {0}

  -- at most the machine, drafts, last uses and what is counted of nodes have changed
  abbrev pub KeepsLines : StoreValue M → StoreValue M → Type 0
  KeepsLines old new = new ≡ record old {
    log = with_machine old.log new.log.machine;
    overlay = new.overlay;
    uses = new.uses;
    tally = new.tally;
  }

  -- the store lies over these contents now, and these are the nodes that it knows
  pub record KnowsNow (history : M → Option History) (v : StoreValue M) (c : Contents)
      (numbered : Numbering PlacedFile) : Type 0 where
    pub over : Now (history v.log.machine) (λ s. LiesOver v c s)
    pub known : AreKnown v c numbered

  -- The nodes that are known are changed as told, whatever they are, and no line was used.
  pub record ChangesTree (history : M → Option History) (old new : StoreValue M)
      (Becomes : Numbering PlacedFile → Numbering PlacedFile → Type 0) : Type 0 where
    pub lines : KeepsLines old new
    pub tree : OverNow history old (λ s c. (before after : Numbering PlacedFile)
        → AreKnown old c before → Becomes before after → KnowsNow history new c after)

  -- How a change of the tree ends: it is done so, or stops before its first change.
  abbrev pub ChangesOrStops : (M → Option History) → (M → ℕ) → StoreValue M → StoreValue M
      → (Numbering PlacedFile → Numbering PlacedFile → Type 0) → FileStep → Type 0
  ChangesOrStops history faults old new Becomes (step.Done reply) =
      (reply ≡ replies.Ok) × ChangesTree history old new Becomes
  ChangesOrStops history faults old new Becomes (step.Needs tseg) = ⊥
  ChangesOrStops history faults old new Becomes step.NoSpace = ⊥
  ChangesOrStops history faults old new Becomes step.DiskFault = ReadsNodes history old new
      × Rose (faults old.log.machine) (faults new.log.machine)
  ChangesOrStops history faults old new Becomes step.Memory = ReadsNodes history old new
