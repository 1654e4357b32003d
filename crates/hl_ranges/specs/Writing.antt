-- What a write and a cut do on their way.
use Rattle.std.specs.Prelude.{◌≡◌, ℕ, ◌+◌, ◌-◌, ◌*◌, ◌/◌, ◌%◌, ◌<◌, ◌≤◌, ◌==◌, ◌&&◌, Bool, true, false, not, nat_le, nat_lt, if◌then◌else◌, List, length, take, drop, Option, Some}
use Rattle.hl_media.specs.Causes.{Rose}
use Rattle.hl_media.specs.History.{History}
use Rattle.hl_tree.specs.Contents.{resized, written}
use Rattle.hl_placed.specs.Blocks.{Here, PlacedFile, Shelf, blocks_of, file_block, is_hole, listed, padded_block, plain_bytes}
use Rattle.hl_placed.specs.Changes.{covers, cuts}
use Rattle.hl_paths.specs.Nodes.{FlatNode}
use Rattle.hl_overlay.specs.declared.draft.Shape.{Shape}
use Rattle.hl_overlay.specs.Making.{used_of}
use Rattle.hl_overlaid.specs.NodesNow.{old_block}
use Rattle.hl_store.specs.Values.{StoreValue}
use Rattle.hl_store.specs.Changes.{Always, ChangesNode, drafted_shape}
use Rattle.hl_ranges.specs.declared.ranges.RangeStep.{RangeStep}
use Rattle.hl_ranges.specs.declared.ranges.RangeStep.TheVariants as step
use Rattle.hl_ranges.specs.Files.{OfFile, file_shape}

-- block i that a write of bytes touches, as it leaves it: bytes that cover it, or what was made of the first or the last block
unfoldable pub new_block : ℕ → List ℕ → List ℕ → List ℕ → ℕ → List ℕ
new_block at bytes front back i = if covers at (at + length bytes) i then take 4096 (drop (4096 * i - at) bytes) else (if i == at / 4096 then front else back)

-- a block that holds block i of some bytes holds that of the bytes with others written into them
abbrev pub PutsPart : ℕ → ℕ → List ℕ → List ℕ → List ℕ → Type 0
PutsPart i at bytes before after = (old : List ℕ) → before ≡ padded_block old i → after ≡ padded_block (written old at bytes) i

-- A node of a shape, used at a moment, that has new blocks from one up to another. Its others are those that the number had.
unfoldable pub patched : Shape → ℕ → ℕ → ℕ → (ℕ → List ℕ) → Option FlatNode → FlatNode
patched shape now first end new was = record {
  kind = shape.kind;
  content = record {
    size = shape.size;
    used = used_of shape.kind now;
    blocks = listed (blocks_of shape.size)
        (λ j. if nat_le first j && nat_lt j end then Here (new j) else old_block was j);
  };
}

-- the bytes are those of block i of a file, which is no hole, or is one
pub record IsOldBlock (shelf : Shelf) (file : PlacedFile) (i : ℕ) (bytes : List ℕ) (is_own : Bool) : Type 0 where
  pub is : bytes ≡ padded_block (plain_bytes shelf file) i
  pub own : is_own ≡ not (is_hole (file_block file i))

-- where a block is cut, these are its bytes
pub record IsCutBlock (shelf : Shelf) (file : PlacedFile) (size : ℕ) (bytes : List ℕ) (is_cut : Bool) : Type 0 where
  pub cut : is_cut ≡ (cuts file size (size / 4096) && not (is_hole (file_block file (size / 4096))))
  pub is : is_cut ≡ true → bytes ≡ padded_block (resized (plain_bytes shelf file) size) (size / 4096)

-- a size that ends within a block, where that is cut
abbrev pub IsWithin : ℕ → Bool → Type 0
IsWithin size is_cut = is_cut ≡ true → 0 < size % 4096

module _ {M : Type 0} where
  -- why no more than reads was made: one failed, or memory was wanting
  abbrev pub Stops : (M → ℕ) → StoreValue M → StoreValue M → RangeStep → Type 0
  Stops faults old new step.Done = ⊥
  Stops faults old new step.DiskFault = Rose (faults old.log.machine) (faults new.log.machine)
  Stops faults old new step.Memory = Unit {0}

  -- a number is drafted as a file
  abbrev pub IsDraftedFile : StoreValue M → ℕ → Type 0
  IsDraftedFile v ino = (size : ℕ) × (drafted_shape v ino ≡ Some (Some (file_shape size)))

  -- a number is a file of this size
  pub record FindsSize (history : M → Option History) (old new : StoreValue M) (ino size : ℕ) : Type 0 where
    pub drafted : drafted_shape new ino ≡ Some (Some (file_shape size))
    pub most : size ≤ 4243456
    pub is : OfFile history old ino (λ c shelf file. size ≡ file.size)

  -- a block of a file was read
  abbrev pub ReadsEdge : (M → Option History) → StoreValue M → ℕ → ℕ → List ℕ → Bool → Type 0
  ReadsEdge history v ino i bytes is_own = OfFile history v ino (λ c shelf file. IsOldBlock shelf file i bytes is_own)

  -- these are the bytes that a block of a file has behind a write
  abbrev pub ReadsNew : (M → Option History) → StoreValue M → ℕ → ℕ → List ℕ → ℕ → List ℕ → Type 0
  ReadsNew history v ino at bytes i new = OfFile history v ino (λ c shelf file. new ≡ padded_block (written (plain_bytes shelf file) at bytes) i)

  -- so are these, unless the bytes cover the block
  abbrev pub ReadsSide : (M → Option History) → StoreValue M → ℕ → ℕ → List ℕ → ℕ → List ℕ → Type 0
  ReadsSide history v ino at bytes i new = OfFile history v ino (λ c shelf file. covers at (at + length bytes) i ≡ false
      → new ≡ padded_block (written (plain_bytes shelf file) at bytes) i)

  -- so are those of each block that the write touches
  abbrev pub ReadsEdges : (M → Option History) → StoreValue M → ℕ → ℕ → List ℕ → List ℕ → List ℕ → Type 0
  ReadsEdges history v ino at bytes front back = OfFile history v ino (λ c shelf file. (i : ℕ) → at < 4096 * i + 4096 → 4096 * i < at + length bytes
      → new_block at bytes front back i ≡ padded_block (written (plain_bytes shelf file) at bytes) i)

  -- whether a cut of a file of a size leaves another block behind, and which bytes that has
  abbrev pub CutsEdge : (M → Option History) → StoreValue M → ℕ → ℕ → ℕ → List ℕ → Bool → Type 0
  CutsEdge history v ino before size bytes is_cut = IsWithin size is_cut
      × OfFile history v ino (λ c shelf file. before ≡ file.size → IsCutBlock shelf file size bytes is_cut)

  -- a number is a file of a size, used at a moment, with the blocks that a write touches
  abbrev pub MakesWritten : StoreValue M → StoreValue M → ℕ → ℕ → ℕ → ℕ → List ℕ → List ℕ
      → List ℕ → Type 0
  MakesWritten old new ino size now at bytes front back = ChangesNode old new ino Always
      (λ was. Some (patched (file_shape size) now (at / 4096) ((at + length bytes + 4095) / 4096)
      (new_block at bytes front back) was))

  -- the same with the block that a cut changes
  abbrev pub MakesCut : StoreValue M → StoreValue M → ℕ → ℕ → ℕ → Bool → List ℕ → Type 0
  MakesCut old new ino size now is_cut edge = ChangesNode old new ino Always
      (λ was. Some (patched (file_shape size) now (size / 4096)
      (if is_cut then size / 4096 + 1 else size / 4096) (λ j. edge) was))
