-- The bytes of a directory: found whole, and changed from one on.
use Rattle.std.specs.Prelude.{◌≡◌, ℕ, ◌+◌, ◌*◌, ◌/◌, ◌<◌, List, get_or, length, slice_index, take, Option, Some}
use Rattle.std.specs.FinMap.{get}
use Rattle.hl_media.specs.Causes.{Rose}
use Rattle.hl_media.specs.History.{History, MachineState}
use Rattle.hl_inode.specs.declared.inode.Kind.{Kind}
use Rattle.hl_inode.specs.declared.inode.Kind.TheVariants.{Dir, File}
use Rattle.hl_placed.specs.Blocks.{Here, blocks_of, listed, padded_block}
use Rattle.hl_paths.specs.Nodes.{FlatNode}
use Rattle.hl_nodes.specs.Contents.{Contents}
use Rattle.hl_overlay.specs.declared.draft.Shape.{Shape}
use Rattle.hl_overlaid.specs.Changes.{KeepsOtherUses}
use Rattle.hl_overlaid.specs.NodesNow.{with_node}
use Rattle.hl_store.specs.Values.{StoreValue, nodes_of}
use Rattle.hl_store.specs.Lying.{LiesOver, block_of_number}
use Rattle.hl_store.specs.Finding.{OverNow}
use Rattle.hl_store.specs.Changes.{KeepsBeside, KeepsOtherShapes, drafted_shape}
use Rattle.hl_ranges.specs.declared.ranges.RangeStep.{RangeStep}
use Rattle.hl_ranges.specs.declared.ranges.RangeStep.TheVariants as step
use Rattle.hl_ranges.specs.declared.directories.DirectoryFound.{DirectoryFound}
use Rattle.hl_ranges.specs.declared.directories.DirectoryFound.TheVariants as directory

-- a directory of so many bytes
abbrev pub directory_shape : ℕ → Shape
directory_shape size = record { kind = Dir; size = size }

-- the node of a directory that has these bytes: all of its blocks are resident, and it was never used
unfoldable pub directory_node : List ℕ → FlatNode
directory_node bytes = record {
  kind = Dir;
  content = record {
    size = length bytes;
    used = 0;
    blocks = listed (blocks_of (length bytes)) (λ i. Here (padded_block bytes i));
  };
}

module _ {M : Type 0} where
  -- a number is drafted as a directory of so many bytes
  abbrev pub HasDirectoryDraft : StoreValue M → ℕ → ℕ → Type 0
  HasDirectoryDraft v ino size = drafted_shape v ino ≡ Some (Some (directory_shape size))

  -- a number is drafted as a directory
  abbrev pub IsDraftedDirectory : StoreValue M → ℕ → Type 0
  IsDraftedDirectory v ino = (size : ℕ) × HasDirectoryDraft v ino size

  -- a number has a node of this kind
  pub record HasKind (v : StoreValue M) (c : Contents) (ino : ℕ) (kind : Kind) : Type 0 where
    pub n : FlatNode
    pub has : get (nodes_of v c) ino ≡ Some n
    pub is : n.kind ≡ kind

  -- a number is a directory, and these are its bytes
  pub record HasDirectory (v : StoreValue M) (c : Contents) (ino : ℕ)
      (bytes : List ℕ) : Type 0 where
    pub kind : HasKind v c ino Dir
    pub own : (others : List ℕ) → get (nodes_of v c) ino ≡ Some (directory_node others)
        → bytes ≡ others

  -- of the first so many blocks of a number, the bytes have each that is resident in its place
  abbrev pub HasInPlace : StoreValue M → Contents → ℕ → ℕ → List ℕ → Type 0
  HasInPlace v c ino count bytes = (i k : ℕ) (own : List ℕ) → i < count → k < 4096
      → block_of_number v c ino i ≡ Here own → get_or bytes (4096 * i + k) 0 ≡ get_or own k 0

  -- the first so many blocks of a number were read
  abbrev pub ReadsBlocks : (M → Option History) → (M → ℕ) → StoreValue M → StoreValue M → ℕ → ℕ
      → List ℕ → RangeStep → Type 0
  ReadsBlocks history faults old new ino count bytes step.Done =
      OverNow history old (λ s c. HasInPlace old c ino count bytes)
  ReadsBlocks history faults old new ino count bytes step.DiskFault =
      Rose (faults old.log.machine) (faults new.log.machine)
  ReadsBlocks history faults old new ino count bytes step.Memory = Unit {0}

  -- What a number was found to be: a directory of these bytes, which is drafted now, or a file. A fault comes only where the
  -- count rose.
  abbrev pub FindsDirectory : (M → Option History) → (M → ℕ) → StoreValue M → StoreValue M → ℕ
      → DirectoryFound → Type 0
  FindsDirectory history faults old new ino (directory.Bytes bytes) =
      HasDirectoryDraft new ino (length bytes.items)
      × OverNow history old (λ s c. HasDirectory old c ino bytes.items)
  FindsDirectory history faults old new ino directory.File =
      OverNow history old (λ s c. HasKind old c ino File)
  FindsDirectory history faults old new ino directory.DiskFault =
      Rose (faults old.log.machine) (faults new.log.machine)
  FindsDirectory history faults old new ino directory.Memory = Unit {0}

  -- A number that was a directory is one of other bytes, where both have the same bytes up to one, and its last use is 0. No
  -- other node changes, nor any other last use, and each block from there on took the room of a new one.
  pub record PutsDirectory (old new : StoreValue M) (ino from : ℕ) (bytes : List ℕ) : Type 0 where
    pub beside : KeepsBeside old new
    pub over : (c : Contents) (s : MachineState) → LiesOver old c s → LiesOver new c s
    pub nodes : (c : Contents) (s : MachineState) → LiesOver old c s → (was : List ℕ)
        → get (nodes_of old c) ino ≡ Some (directory_node was) → take from was ≡ take from bytes
        → nodes_of new c ≡ with_node (nodes_of old c) ino (Some (directory_node bytes))
    pub uses : KeepsOtherUses old.uses new.uses ino
    pub used : slice_index new.uses ino ≡ 0
    pub own : HasDirectoryDraft new ino (length bytes)
    pub shapes : KeepsOtherShapes old new ino
    pub room : new.overlay.room + blocks_of (length bytes) ≡ old.overlay.room + from / 4096
