-- How an entry moves, and what that makes of the tree and of its charge.
use Rattle.std.specs.Prelude.{◌≡◌, ℕ, ◌+◌, ◌/◌, ◌≤◌, Bool, true, false, List, length, slice_index, Option, Some, None, IsSome}
use Rattle.std.specs.Option.{ForSome}
use Rattle.std.specs.FinMap.{get}
use Rattle.hl_addr.specs.Layout.{quota}
use Rattle.hl_media.specs.Causes.{Rose}
use Rattle.hl_media.specs.History.{History}
use Rattle.hl_tree.specs.declared.call.Reply.TheVariants as replies
use Rattle.hl_dir.specs.declared.entry.Entry.{Entry}
use Rattle.hl_dir.specs.Dirs.{Spells, dir_bytes}
use Rattle.hl_placed.specs.Blocks.{PlacedFile, blocks_of}
use Rattle.hl_paths.specs.ByNumbers.{with_entries}
use Rattle.hl_paths.specs.Charges.{nodes_charge}
use Rattle.hl_paths.specs.Entries.{entry_number, with_entry, without_entry}
use Rattle.hl_paths.specs.Numbered.{Directory, Numbering, without_number}
use Rattle.hl_overlay.specs.DraftTables.{draft_of}
use Rattle.hl_store.specs.Values.{StoreValue, layout}
use Rattle.hl_store.specs.Shapes.{IsNumber}
use Rattle.hl_store.specs.Changes.{Reshapes}
use Rattle.hl_store.specs.Finding.{ReadsNodes}
use Rattle.hl_ranges.specs.Directories.{IsDraftedDirectory}
use Rattle.hl_calls.specs.declared.growth.Growth.{Growth}
use Rattle.hl_calls.specs.declared.step.FileStep.{FileStep}
use Rattle.hl_calls.specs.declared.step.FileStep.TheVariants as step
use Rattle.hl_calls.specs.Growths.{directory_charge, exceeds}
use Rattle.hl_links.specs.declared.changing.DirectoryChange.{DirectoryChange}
use Rattle.hl_links.specs.Links.{ChangesTree, Relinks}
use Rattle.hl_rename.specs.declared.finding.Source.{Source}
use Rattle.hl_rename.specs.declared.finding.Target.{Target}

-- An entry moves: its directory names the number no longer, the other names it in its place, and what had the name is gone.
pub record Moves (source : Source) (name : List ℕ) (target : Target) (to_name : List ℕ)
    (before after : Numbering PlacedFile) : Type 0 where
  pub entries : List Entry
  pub spelled : Spells source.parent.bytes.items entries
  pub there : get before source.parent.number ≡ Some (Directory entries)
  pub to_entries : List Entry
  pub to_spelled : Spells target.parent.bytes.items to_entries
  pub to_there : get before target.parent.number ≡ Some (Directory to_entries)
  pub at : entry_number to_entries to_name ≡ target.number
  pub left : after ≡ without_number target.number
      (with_entries target.parent.number (with_entry to_name source.number)
      (with_entries source.parent.number (without_entry name) before))

-- A directory has other entries, and a number, if one goes, is free.
pub record PutsOne (change : DirectoryChange) (target : Option ℕ)
    (before after : Numbering PlacedFile) : Type 0 where
  pub between : Numbering PlacedFile
  pub relinks : Relinks change before between
  pub freed : after ≡ without_number target between

-- Two directories have other entries, and a number, if one goes, is free.
pub record PutsTwo (left joined : DirectoryChange) (target : Option ℕ)
    (before after : Numbering PlacedFile) : Type 0 where
  pub between : Numbering PlacedFile
  pub relinks : Relinks left before between
  pub rest : PutsOne joined target between after

-- a directory had so many bytes, and has no more where a number goes
pub record HadSize (size : ℕ) (change : DirectoryChange) (target : Option ℕ)
    (had : List Entry) : Type 0 where
  pub is : length (dir_bytes had) ≡ size
  pub less : IsSome target → length change.bytes.items ≤ size

-- so it is of the directory that is put
pub record PutsSized (size : ℕ) (change : DirectoryChange) (target : Option ℕ)
    (before after : Numbering PlacedFile) : Type 0 where
  pub puts : PutsOne change target before after
  pub sized : HadSize size change target puts.relinks.had

-- and of both that are
pub record PutsBothSized (size : ℕ) (left : DirectoryChange) (to_size : ℕ)
    (joined : DirectoryChange) (target : Option ℕ)
    (before after : Numbering PlacedFile) : Type 0 where
  pub puts : PutsTwo left joined target before after
  pub sized : HadSize size left target puts.relinks.had
  pub to_sized : HadSize to_size joined target puts.rest.relinks.had

-- how a charge grows where a directory that had so many bytes has so many
abbrev pub put_growth : ℕ → ℕ → Growth
put_growth before after =
    record { added = directory_charge after; removed = directory_charge before }

-- how it grows by two
abbrev pub both_growth : Growth → Growth → Growth
both_growth one other =
    record { added = one.added + other.added; removed = one.removed + other.removed }

module _ {M : Type 0} where
  -- whether the charge is above the quota behind a change of the nodes that are charged so, and grows by it
  abbrev pub TellsQuota : StoreValue M → (Numbering PlacedFile → Numbering PlacedFile → Type 0)
      → Bool → Type 0
  TellsQuota v Becomes over = (before after : Numbering PlacedFile)
      → nodes_charge before ≡ v.tally.charge → Becomes before after
      → exceeds (quota (layout v)) (nodes_charge before) (nodes_charge after) ≡ over

  -- How a change of the tree ends: it is done so, within the quota, or there is no space, or it stops before its first
  -- change.
  abbrev pub MovesOrStops : (M → Option History) → (M → ℕ) → StoreValue M → StoreValue M
      → (Numbering PlacedFile → Numbering PlacedFile → Type 0) → FileStep → Type 0
  MovesOrStops history faults old new Becomes (step.Done reply) = (reply ≡ replies.Ok)
      × TellsQuota old Becomes false × ChangesTree history old new Becomes
  MovesOrStops history faults old new Becomes (step.Needs tseg) = ⊥
  MovesOrStops history faults old new Becomes step.NoSpace = ReadsNodes history old new
      × TellsQuota old Becomes true
  MovesOrStops history faults old new Becomes step.DiskFault = ReadsNodes history old new
      × Rose (faults old.log.machine) (faults new.log.machine)
  MovesOrStops history faults old new Becomes step.Memory = ReadsNodes history old new

  -- a directory can be put, if there is room
  pub record CanPut (v : StoreValue M) (change : DirectoryChange) : Type 0 where
    pub number : IsNumber v change.number
    pub drafted : IsDraftedDirectory v change.number
    pub within : change.from ≤ length change.bytes.items
    pub size : length change.bytes.items ≤ 4243456

  -- the number that goes, if one does, can be freed
  pub record CanFree (v : StoreValue M) (target : Option ℕ) : Type 0 where
    pub number : ForSome target (IsNumber v)
    pub drafted : ForSome target (λ number. IsSome (draft_of v.overlay.drafts number))

  -- the number that goes, if one does, is drafted, and there is as much room as there was
  pub record IsTargetReady (old new : StoreValue M) (target : Option ℕ) : Type 0 where
    pub drafted : ForSome target (λ number. IsSome (draft_of new.overlay.drafts number))
    pub room : new.overlay.room ≡ old.overlay.room

  -- two directories can be put, and the number that goes can be freed
  pub record AreReady (v : StoreValue M) (left joined : DirectoryChange)
      (target : Option ℕ) : Type 0 where
    pub left_within : left.from ≤ length left.bytes.items
    pub left_size : length left.bytes.items ≤ 4243456
    pub joined_within : joined.from ≤ length joined.bytes.items
    pub joined_size : length joined.bytes.items ≤ 4243456
    pub room : blocks_of (length left.bytes.items) + blocks_of (length joined.bytes.items)
        ≤ v.overlay.room + left.from / 4096 + joined.from / 4096
    pub drafted : ForSome target (λ number. IsSome (draft_of v.overlay.drafts number))

  -- the number that goes, if one does, is free
  abbrev pub FreesTarget : StoreValue M → StoreValue M → Option ℕ → Type 0
  FreesTarget old new None = new ≡ old
  FreesTarget old new (Some number) =
      Reshapes old new number (slice_index old.uses number) None × (new.uses ≡ old.uses)
