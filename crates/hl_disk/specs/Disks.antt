-- What a disk of two dumps stands for.
use Rattle.std.specs.Prelude.{◌≡◌, ℕ, ◌+◌, ◌-◌, ◌*◌, ◌/◌, ◌%◌, ◌≤◌, List, length, take}
use Rattle.sha2.specs.Sha256.{sha256}
use Rattle.hl_media.specs.History.{Image, area}
use Rattle.hl_super.specs.declared.label.Label.{Label}
use Rattle.hl_super.specs.Labels as labels
use Rattle.hl_tree.specs.Rules.{Files}
use Rattle.hl_dump.specs.Dumps.{IsDump}
use Rattle.hl_disk.specs.declared.record.DumpRecord.{DumpRecord}
use Rattle.hl_disk.specs.Records.{place_of, Spells}

-- the blocks that such a disk needs
abbrev pub disk_blocks : ℕ
disk_blocks = 2112

-- the first block of the dump of a number: odd ones take the first half, even ones the second
abbrev pub start_of : ℕ → ℕ
start_of number = 1088 - 1024 * (number % 2)

-- the blocks that so many bytes take
abbrev pub blocks_of : ℕ → ℕ
blocks_of size = (size + 4095) / 4096

-- the bytes of a record's dump
abbrev pub dump_at : Image → DumpRecord → List ℕ
dump_at image r = take r.length (area image (start_of r.number) (blocks_of r.length))

-- the block of its number has the record, with the digest of the record itself
abbrev pub Stands : Image → DumpRecord → Type 0
Stands image r = Spells (place_of r.number) (image (place_of r.number)) r

-- a record that stands there checks where its dump has its length and digest and is the dump of a tree
pub record Checks (image : Image) (r : DumpRecord) (tree : Files) : Type 0 where
  pub stands : Stands image r
  pub whole : length (dump_at image r) ≡ r.length
  pub digest : sha256 (dump_at image r) ≡ r.digest
  pub dump : IsDump (dump_at image r) tree

-- block 0 is a label, for a machine of so many blocks
abbrev pub HasLabel : ℕ → Image → Type 0
HasLabel blocks image = (v : Label) × labels.Spells blocks (image 0) v

-- The image stands for the tree of the newest record that checks, which has this number.
pub record StandsFor (blocks : ℕ) (image : Image) (number : ℕ) (tree : Files) : Type 0 where
  pub label : HasLabel blocks image
  pub newest : DumpRecord
  pub number_is : newest.number ≡ number
  pub checks : Checks image newest tree
  pub others : (s : DumpRecord) (t : Files) → Checks image s t → s.number ≤ number

-- and no record is newer, whether it has its dump or not
pub record Holds (blocks : ℕ) (image : Image) (number : ℕ) (tree : Files) : Type 0 where
  pub stands : StandsFor blocks image number tree
  pub last : (s : DumpRecord) → Stands image s → s.number ≤ number
