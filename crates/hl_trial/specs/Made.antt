-- Nodes that a trial made in a store.
use Rattle.std.specs.Prelude.{◌≡◌, ℕ, ◌≤◌, Some, length}
use Rattle.hl_inode.specs.declared.inode.Kind.{Kind}
use Rattle.hl_placed.specs.Blocks.{blocks_of}
use Rattle.hl_overlay.specs.declared.draft.Shape.{Shape}
use Rattle.hl_store.specs.Values.{StoreValue}
use Rattle.hl_store.specs.Shapes.{IsNumber}
use Rattle.hl_store.specs.Changes.{drafted_shape}
use Rattle.hl_store.specs.declared.answers.Prepared.{Prepared}
use Rattle.hl_trial.specs.declared.stores.model.PlainNode.{PlainNode}
use Rattle.hl_store.specs.declared.answers.Prepared.TheVariants as prepared

-- a node has a size that it may have, and as many blocks as that takes
pub record Fits (node : PlainNode) : Type 0 where
  pub size : node.size ≤ 4243456
  pub few : length node.blocks.items ≤ 1036
  pub blocks : length node.blocks.items ≡ blocks_of node.size

module _ {M : Type 0} where
  -- the number is drafted as a node of the kind, whose size reaches so many blocks
  pub record IsMade (v : StoreValue M) (ino : ℕ) (kind : Kind) (count : ℕ) : Type 0 where
    pub number : IsNumber v ino
    pub shape : Shape
    pub drafted : drafted_shape v ino ≡ Some (Some shape)
    pub is : shape.kind ≡ kind
    pub reaches : count ≤ blocks_of shape.size

  -- where it was prepared it is
  abbrev pub Makes : StoreValue M → ℕ → Kind → Prepared → Type 0
  Makes v ino kind prepared.Ready = IsMade v ino kind 0
  Makes v ino kind prepared.DiskFault = Unit {0}
  Makes v ino kind prepared.Memory = Unit {0}
