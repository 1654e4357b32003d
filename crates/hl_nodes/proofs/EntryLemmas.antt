-- Entries of the inode map that name no node.
use Rattle.std.proofs.Common.{◌≡◌, ℕ, subst}
use Rattle.std.specs.Prelude.{Option, None}
use Rattle.hl_media.specs.History.{Image}
use Rattle.hl_addr.specs.Layout.{Layout}
use Rattle.hl_tseg.specs.SlotTable.{SlotTable}
use Rattle.hl_paths.specs.Nodes.{FlatNode}
use Rattle.hl_nodes.specs.declared.found.FoundNode.{FoundNode}
use Rattle.hl_nodes.specs.Nodes.{IsMapEntry}
use Rattle.hl_nodes.specs.Found.{FindsEntry}

pub no_entry : (g : Layout) (slots : SlotTable) (image : Image) (ino address : ℕ) (found : Option (Option FoundNode)) → found ≡ None → FindsEntry g slots image ino address found → (node : Option FlatNode) → IsMapEntry g slots image ino address node → ⊥
no_entry g slots image ino address found none is = subst (FindsEntry g slots image ino address) none is
