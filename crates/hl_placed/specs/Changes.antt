-- What a write, a cut and a read do to a placed file.
use Rattle.std.specs.Prelude.{ℕ, ◌+◌, ◌*◌, Bool, ◌&&◌, nat_lt, nat_le, not, if◌then◌else◌, List, [], length}
use Rattle.hl_tree.specs.Contents.{resized, written}
use Rattle.hl_placed.specs.Blocks.{Here, PlacedFile, Shelf, listed, file_block, padded_block, blocks_of, is_hole, plain_bytes}

-- The file with other bytes: what is touched is here, what isn't stays as it lies, and a new block is a hole.
unfoldable pub rewritten : PlacedFile → List ℕ → (ℕ → Bool) → ℕ → PlacedFile
rewritten file bytes touched now = record {
  size = length bytes;
  used = now;
  blocks = listed (blocks_of (length bytes)) (λ i. if touched i then Here (padded_block bytes i) else file_block file i);
}

-- block i has a byte from from up to to
unfoldable pub meets : ℕ → ℕ → ℕ → Bool
meets from to i = nat_lt from to && (nat_lt (4096 * i) to && nat_lt from (4096 * i + 4096))

-- each byte of block i is one of these
unfoldable pub covers : ℕ → ℕ → ℕ → Bool
covers from to i = nat_le from (4096 * i) && nat_le (4096 * i + 4096) to

-- a file of this size ends within block i, before its end
unfoldable pub ends_within : ℕ → ℕ → Bool
ends_within size i = nat_lt (4096 * i) size && nat_lt size (4096 * i + 4096)

-- a write makes the blocks resident in which it puts a byte
unfoldable pub written_file : Shelf → PlacedFile → ℕ → List ℕ → ℕ → PlacedFile
written_file shelf file at bytes now = rewritten file (written (plain_bytes shelf file) at bytes) (meets at (at + length bytes)) now

-- a cut to this smaller size puts zeros into the rest of block i
abbrev pub cuts : PlacedFile → ℕ → ℕ → Bool
cuts file size i = nat_lt size file.size && ends_within size i

-- such a block becomes resident, unless it is a hole
unfoldable pub cut_file : Shelf → PlacedFile → ℕ → ℕ → PlacedFile
cut_file shelf file size now = rewritten file (resized (plain_bytes shelf file) size) (λ i. cuts file size i && not (is_hole (file_block file i))) now

abbrev pub new_file : ℕ → PlacedFile
new_file now = record { size = 0; used = now; blocks = [] }

-- the same file, last used now
abbrev pub used_at : ℕ → PlacedFile → PlacedFile
used_at now file = record { size = file.size; used = now; blocks = file.blocks }
