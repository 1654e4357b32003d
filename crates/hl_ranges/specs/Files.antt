-- The files of a store, with the shelf that its lines show.
use Rattle.std.specs.Prelude.{◌≡◌, ℕ, ◌<◌, List, get_or, Option, Some}
use Rattle.std.specs.FinMap.{get}
use Rattle.hl_media.specs.History.{History, MachineState}
use Rattle.hl_inode.specs.declared.inode.Kind.TheVariants as kinds
use Rattle.hl_overlay.specs.declared.draft.Shape.{Shape}
use Rattle.hl_placed.specs.Blocks.{Away, IsPlacedFile, PlacedFile, Shelf, byte_of}
use Rattle.hl_paths.specs.Nodes.{FlatNode}
use Rattle.hl_nodes.specs.Contents.{Contents}
use Rattle.hl_store.specs.Values.{StoreValue, nodes_of}
use Rattle.hl_store.specs.Finding.{IsInLine, OverNow}

-- a file of so many bytes
abbrev pub file_shape : ℕ → Shape
file_shape size = record { kind = kinds.File; size = size }

-- the node of a file
abbrev pub file_node : PlacedFile → FlatNode
file_node file = record { kind = kinds.File; content = file }

module _ {M : Type 0} where
  -- a block that a line holds has the bytes that the shelf has of it
  abbrev pub LinesShow : StoreValue M → MachineState → Shelf → Type 0
  LinesShow v s shelf = (serial position : ℕ) (bytes : List ℕ) → IsInLine v s serial position bytes
      → (k : ℕ) → k < 4096 → get_or bytes k 0 ≡ byte_of shelf (Away serial position) k

  -- a number has this file, whose bytes past its size are zero by the shelf
  pub record HasFile (v : StoreValue M) (c : Contents) (shelf : Shelf) (ino : ℕ) (file : PlacedFile) : Type 0 where
    pub has : get (nodes_of v c) ino ≡ Some (file_node file)
    pub placed : IsPlacedFile shelf file

  -- at this moment, for whatever contents the store lies over and whatever shelf its lines show, P holds of the file that the
  -- number has
  abbrev pub OfFile : (M → Option History) → StoreValue M → ℕ → (Contents → Shelf → PlacedFile → Type 0) → Type 0
  OfFile history v ino P = OverNow history v
      (λ s c. (shelf : Shelf) (file : PlacedFile) → LinesShow v s shelf → HasFile v c shelf ino file → P c shelf file)
