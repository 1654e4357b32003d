-- The addresses that an image names for its blocks.
use Rattle.std.specs.Prelude.{◌≡◌, ◌≢◌, ◌↔◌, ℕ, ◌<◌, ◌==◌, Bool, not, List, [], ◌∷◌, ◌++◌, map, filter, length, slice_index, AllPairs, Contains, Option, Some, None}
use Rattle.std.specs.List.{flat_map}
use Rattle.hl_media.specs.History.{Image}
use Rattle.hl_addr.specs.Layout.{Layout}
use Rattle.hl_super.specs.declared.record.Record.{Record}
use Rattle.hl_tables.specs.Values.{TableValues}
use Rattle.hl_image.specs.Places.{InLog}
use Rattle.hl_nodes.specs.Live.{LiveBlock, IsNamedAt}
use Rattle.hl_survey.specs.declared.found.FoundInode.{FoundInode}

-- a block, with the address that is named for it
pub record Naming : Type 0 where
  pub block : LiveBlock
  pub address : ℕ

-- The addresses of all blocks that tables and nodes name, in the log or in slots, one for each block: as often as it is
-- named an address stands there.
pub record AreNamed (g : Layout) (image : Image) (rec : Record) (t : TableValues) (addresses : List ℕ) : Type 0 where
  pub namings : List Naming
  pub each : (n : Naming) → Contains namings n ↔ IsNamedAt g image rec t n.block n.address
  pub once : AllPairs (λ (one other : Naming). one.block ≢ other.block) namings
  pub are : addresses ≡ map (λ (n : Naming). n.address) namings

-- each of the addresses lies in the log
abbrev pub LieInLog : Layout → List ℕ → Type 0
LieInLog g addresses = (i : ℕ) → i < length addresses → InLog g (slice_index addresses i)

-- not Nothing
abbrev pub is_address : ℕ → Bool
is_address pointer = not (pointer == 4294967295)

-- the addresses of an inode's blocks: its own, that of its pointer block, and those of its contents
abbrev pub inode_addresses : FoundInode → List ℕ
inode_addresses f = f.address ∷ filter is_address (f.inode.single ∷ f.pointers.items)

abbrev pub found_addresses : Option FoundInode → List ℕ
found_addresses None = []
found_addresses (Some f) = inode_addresses f

-- the addresses of table blocks, and those of the inodes' blocks
abbrev pub named_addresses : List ℕ → List (Option FoundInode) → List ℕ
named_addresses tables found = tables ++ flat_map found_addresses found
