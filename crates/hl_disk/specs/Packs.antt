-- A dump as it is written.
use Rattle.std.specs.Prelude.{◌≡◌, ℕ, ◌*◌, ◌≤◌, List, length, take}
use Rattle.sha2.specs.Sha256.{sha256}
use Rattle.hl_tree.specs.Rules.{Files}
use Rattle.hl_dump.specs.Dumps.{IsDump}
use Rattle.hl_disk.specs.declared.record.DumpRecord.{DumpRecord}
use Rattle.hl_disk.specs.Disks.{blocks_of}

-- The record of this number has the length and the digest of the tree's dump, and the bytes are the dump and zeros
-- to whole blocks.
pub record IsPacked (number : ℕ) (tree : Files) (r : DumpRecord) (bytes : List ℕ) : Type 0 where
  pub number_is : r.number ≡ number
  pub dump : IsDump (take r.length bytes) tree
  pub fits : r.length ≤ length bytes
  pub digest : sha256 (take r.length bytes) ≡ r.digest
  pub size : length bytes ≡ 4096 * blocks_of r.length
