-- A store through what is prepared, put and freed for a move.
use Rattle.std.proofs.Common.{arith, ◌≡◌, inl, inr, ℕ, ◌+◌, ◌/◌, ◌<◌, ◌≤◌, List, length, Option, Some, None, IsSome, option_map, refl, ap, ◌∙◌, sym, subst}
use Rattle.std.specs.Prelude.{slice_index}
use Rattle.std.specs.Option.{ForSome}
use Rattle.std.proofs.lemmas.Bool.Decides.{eqb_tells}
use Rattle.hl_media.specs.History.{History}
use Rattle.hl_media.specs.Moments.{Runs}
use Rattle.hl_media.proofs.Runs.{starts}
use Rattle.hl_addr.specs.Layout.{Layout}
use Rattle.hl_log.specs.Logs.{OnlyReads}
use Rattle.hl_log.specs.Rest.{IsUnchanged}
use Rattle.hl_placed.specs.Blocks.{PlacedFile, blocks_of}
use Rattle.hl_paths.specs.Numbered.{Numbering, without_number}
use Rattle.hl_paths.proofs.Nodes.{some_of}
use Rattle.hl_overlay.specs.declared.draft.NodeDraft.{NodeDraft}
use Rattle.hl_overlay.specs.DraftTables.{draft_of}
use Rattle.hl_store.specs.Values.{StoreValue, layout}
use Rattle.hl_store.specs.Lying.{LiesOver}
use Rattle.hl_store.specs.Shapes.{IsNumber}
use Rattle.hl_store.specs.Changes.{KeepsBeside}
use Rattle.hl_store.specs.Finding.{ReadsNodes}
use Rattle.hl_store.proofs.ReadRuns.{reads_none}
use Rattle.hl_ranges.specs.Directories.{IsDraftedDirectory, PutsDirectory, directory_shape}
use Rattle.hl_walk.specs.Trees.{AreKnown}
use Rattle.hl_walk.proofs.KeptTrees.{number_kept}
use Rattle.hl_calls.specs.declared.step.FileStep.{FileStep}
use Rattle.hl_calls.specs.declared.step.FileStep.TheVariants as step
use Rattle.hl_links.specs.declared.changing.DirectoryChange.{DirectoryChange}
use Rattle.hl_links.specs.Links.{ChangesTree, IsReady, Relinks, StopsBefore}
use Rattle.hl_links.proofs.LinkedTrees.{directory_still, drafted_some, tree_both, tree_changed, tree_freed, tree_put, tree_read, tree_so}
use Rattle.hl_rename.specs.Moves.{AreReady, CanFree, CanPut, FreesTarget, IsTargetReady, MovesOrStops, PutsOne, PutsTwo}

-- a place within some bytes is within their blocks
from_low : (from size : ℕ) → from ≤ size → from / 4096 ≤ blocks_of size
unfolding blocks_of
from_low from size le = omega arith

module _ {M : Type 0} where
  -- ROOM
  -- for two directories there is room for the first
  pub left_room : (v : StoreValue M) (left other : DirectoryChange) → CanPut v other → blocks_of (length left.bytes.items) + blocks_of (length other.bytes.items) ≤ v.overlay.room + left.from / 4096 + other.from / 4096
      → blocks_of (length left.bytes.items) ≤ v.overlay.room + left.from / 4096
  left_room v left other can room =
      let low = from_low other.from (length other.bytes.items) can.within in
      omega arith

  -- and then for the other
  pub other_room : (v w : StoreValue M) (left other : DirectoryChange) → w.overlay.room + blocks_of (length left.bytes.items) ≡ v.overlay.room + left.from / 4096
      → blocks_of (length left.bytes.items) + blocks_of (length other.bytes.items) ≤ v.overlay.room + left.from / 4096 + other.from / 4096
      → blocks_of (length other.bytes.items) ≤ w.overlay.room + other.from / 4096
  other_room v w left other is room = omega arith

  -- what was made ready for each is for both
  pub both_ready : (old mid next new : StoreValue M) (left other : DirectoryChange) (target : Option ℕ) → IsReady old mid left → IsReady mid next other → IsTargetReady next new target → AreReady new left other target
  both_ready old mid next new left other target one two last = record {
    left_within = one.within;
    left_size = one.size;
    joined_within = two.within;
    joined_size = two.size;
    room = (let first = one.room in let second = two.room in let third = last.room in omega arith);
    drafted = last.drafted;
  }

  -- THE REST stays
  pub beside_both : (old mid new : StoreValue M) → KeepsBeside old mid → KeepsBeside mid new → KeepsBeside old new
  beside_both old mid new one two = two ∙ ap (λ (v : StoreValue M). record v { overlay = new.overlay; uses = new.uses; tally = new.tally }) one

  pub beside_free : (old new : StoreValue M) (target : Option ℕ) → FreesTarget old new target → KeepsBeside old new
  beside_free old new None is = subst (λ (v : StoreValue M). v ≡ record old { overlay = v.overlay; uses = v.uses; tally = v.tally }) (sym is) refl
  beside_free old new (Some number) is = is.0.changes.beside

  number_beside : (old new : StoreValue M) → KeepsBeside old new → (q : ℕ) → IsNumber old q → IsNumber new q
  number_beside old new beside q is = record { low = is.low; high = subst (λ (g : Layout). q < g.inodes) (sym (ap (λ (v : StoreValue M). layout v) beside)) is.high }

  -- WHAT CAN BE PUT AND FREED
  module _ (old new : StoreValue M) (ino from : ℕ) (bytes : List ℕ) (puts : PutsDirectory old new ino from bytes) where
    drafted_put : (q : ℕ) → IsNumber old q → IsSome (draft_of old.overlay.drafts q) → IsSome (draft_of new.overlay.drafts q)
    drafted_put q is some = elim (eqb_tells q ino) [
      | inl t ↦ subst (λ (n : ℕ). IsSome (draft_of new.overlay.drafts n)) (sym t.1) (drafted_some new ino (Some (directory_shape (length bytes))) puts.own)
      | inr t ↦
          let d = some_of (draft_of old.overlay.drafts q) some in
          drafted_some new q d.0.shape (puts.shapes q is.high t.1 ∙ ap (option_map (λ (n : NodeDraft). n.shape)) d.1)
    ]

    directory_put : (q : ℕ) → IsNumber old q → IsDraftedDirectory old q → IsDraftedDirectory new q
    directory_put q is drafted = elim (eqb_tells q ino) [
      | inl t ↦ subst (λ (n : ℕ). IsDraftedDirectory new n) (sym t.1) (length bytes, puts.own)
      | inr t ↦ (drafted.0, puts.shapes q is.high t.1 ∙ drafted.1)
    ]

    -- another directory still can
    pub can_put_still : (change : DirectoryChange) → CanPut old change → CanPut new change
    can_put_still change can = record {
      number = number_beside old new puts.beside change.number can.number;
      drafted = directory_put change.number can.number can.drafted;
      within = can.within;
      size = can.size;
    }

    -- and so can the number that goes
    pub can_free_still : (target : Option ℕ) → CanFree old target → CanFree new target
    can_free_still target can = record {
      number = λ q is. number_beside old new puts.beside q (can.number q is);
      drafted = λ q is. drafted_put q (can.number q is) (can.drafted q is);
    }

  module _ (history : M → Option History) where
    -- MACHINES
    pub runs_beside : (old new : StoreValue M) → KeepsBeside old new → Runs (history old.log.machine) (history new.log.machine) IsUnchanged
    runs_beside old new beside = subst (λ (m : M). Runs (history old.log.machine) (history m) IsUnchanged) (sym (ap (λ (v : StoreValue M). v.log.machine) beside)) (starts (history old.log.machine) IsUnchanged (λ h e. refl))

    pub reads_beside : (blocks faults write_faults say_faults : M → ℕ) (old new : StoreValue M) → KeepsBeside old new → OnlyReads history blocks faults write_faults say_faults old.log.machine new.log.machine
    reads_beside blocks faults write_faults say_faults old new beside = subst (λ (m : M). OnlyReads history blocks faults write_faults say_faults old.log.machine m) (sym (ap (λ (v : StoreValue M). v.log.machine) beside)) reads_none

    -- ready through reads
    module _ (old new : StoreValue M) (reads : ReadsNodes history old new) where
      pub freed_kept : (target : Option ℕ) → ForSome target (IsNumber old) → ForSome target (IsNumber new)
      freed_kept target freed q is = number_kept history old new reads q (freed q is)

      pub can_put_ready : (change : DirectoryChange) → IsNumber old change.number → IsDraftedDirectory old change.number → change.from ≤ length change.bytes.items → length change.bytes.items ≤ 4243456 → CanPut new change
      can_put_ready change is drafted within size = record {
        number = number_kept history old new reads change.number is;
        drafted = directory_still history old new reads change.number is drafted;
        within = within;
        size = size;
      }

      pub can_free_ready : (target : Option ℕ) → ForSome target (IsNumber old) → ForSome target (λ number. IsSome (draft_of new.overlay.drafts number)) → CanFree new target
      can_free_ready target freed drafted = record { number = freed_kept target freed; drafted = drafted }

      -- A CHANGE BEHIND READS is one
      pub tree_behind : Runs (history old.log.machine) (history new.log.machine) IsUnchanged → (next : StoreValue M) (Becomes : Numbering PlacedFile → Numbering PlacedFile → Type 0) → ChangesTree history new next Becomes → ChangesTree history old next Becomes
      tree_behind run next Becomes change =
          tree_so history old next (λ before after. (between : Numbering PlacedFile) × (between ≡ before) × Becomes between after) Becomes (λ before after is. (before, refl, is))
          (tree_both history old new next (λ before after. after ≡ before) Becomes run (tree_read history old new run reads) change)

    -- TREES
    -- a number that goes is free
    pub tree_free : (old new : StoreValue M) (target : Option ℕ) → FreesTarget old new target → ChangesTree history old new (λ before after. after ≡ without_number target before)
    tree_free old new None is = tree_changed history old new (λ before after. after ≡ before) (beside_free old new None is)
        (λ c s lies. subst (λ (v : StoreValue M). LiesOver v c s) (sym is) lies)
        (λ c s lies before after known same. subst (λ (v : StoreValue M). AreKnown v c after) (sym is) (subst (λ (ns : Numbering PlacedFile). AreKnown old c ns) (sym same) known))
    tree_free old new (Some number) is = tree_freed history old new number (slice_index old.uses number) is.0 is.1

    -- a directory is put, and a number goes
    pub tree_one : (old mid new : StoreValue M) (change : DirectoryChange) (target : Option ℕ) → PutsDirectory old mid change.number change.from change.bytes.items → FreesTarget mid new target → ChangesTree history old new (PutsOne change target)
    tree_one old mid new change target puts frees =
        tree_so history old new (λ before after. (between : Numbering PlacedFile) × Relinks change before between × (after ≡ without_number target between)) (PutsOne change target) (λ before after is. (is.between, is.relinks, is.freed))
        (tree_both history old mid new (Relinks change) (λ before after. after ≡ without_number target before) (runs_beside old mid puts.beside) (tree_put history old mid change puts) (tree_free mid new target frees))

    -- two are, and a number goes
    pub tree_two : (old mid new : StoreValue M) (left other : DirectoryChange) (target : Option ℕ) → PutsDirectory old mid left.number left.from left.bytes.items → ChangesTree history mid new (PutsOne other target) → ChangesTree history old new (PutsTwo left other target)
    tree_two old mid new left other target puts rest =
        tree_so history old new (λ before after. (between : Numbering PlacedFile) × Relinks left before between × PutsOne other target between after) (PutsTwo left other target) (λ before after is. (is.between, is.relinks, is.rest))
        (tree_both history old mid new (Relinks left) (PutsOne other target) (runs_beside old mid puts.beside) (tree_put history old mid left puts) rest)

    -- A MOVE STOPS before its first change
    pub stops_moving : (faults : M → ℕ) (old new : StoreValue M) (Becomes : Numbering PlacedFile → Numbering PlacedFile → Type 0) → ReadsNodes history old new → (stop : FileStep) → StopsBefore faults old new stop → MovesOrStops history faults old new Becomes stop
    stops_moving faults old new Becomes reads (step.Done reply) is = absurd is
    stops_moving faults old new Becomes reads (step.Needs tseg) is = absurd is
    stops_moving faults old new Becomes reads step.NoSpace is = absurd is
    stops_moving faults old new Becomes reads step.DiskFault is = (reads, is)
    stops_moving faults old new Becomes reads step.Memory is = reads

    -- what a move makes may be said otherwise
    pub moves_so : (faults : M → ℕ) (old new : StoreValue M) (One Two : Numbering PlacedFile → Numbering PlacedFile → Type 0) → ((before after : Numbering PlacedFile) → Two before after → One before after)
        → (stop : FileStep) → MovesOrStops history faults old new One stop → MovesOrStops history faults old new Two stop
    moves_so faults old new One Two so (step.Done reply) is = (is.0, λ before after charge two. is.1 before after charge (so before after two), tree_so history old new One Two so is.2)
    moves_so faults old new One Two so (step.Needs tseg) is = absurd is
    moves_so faults old new One Two so step.NoSpace is = (is.0, λ before after charge two. is.1 before after charge (so before after two))
    moves_so faults old new One Two so step.DiskFault is = is
    moves_so faults old new One Two so step.Memory is = is
