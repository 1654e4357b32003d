-- The blocks that a disk is made of.
use Rattle.std.specs.Prelude.{◌≡◌, ℕ, ◌<◌, List, [], length, get_or}
use Rattle.sha2.specs.Sha256.{sha256}
use Rattle.hl_bytes.specs.Buffers.{block_of}
use Rattle.hl_super.specs.declared.label.Label.{Label}
use Rattle.hl_super.specs.Labels as labels
use Rattle.hl_disk.specs.declared.record.DumpRecord.{DumpRecord}
use Rattle.hl_disk.specs.Records.{Spells}

-- the record of the empty dump
abbrev pub first_record : DumpRecord
first_record = record { number = 1; length = 0; digest = sha256 [] }

-- Three blocks that begin with a zero, a block with the record of the empty dump, and one with a label.
pub record AreParts (blocks : ℕ) (blank first label : List ℕ) : Type 0 where
  pub three : length blank ≡ 12288
  pub zero : (k : ℕ) → k < 3 → get_or (block_of blank k) 0 0 ≡ 0
  pub first_block : length first ≡ 4096
  pub first_is : Spells 1 first first_record
  pub label_block : length label ≡ 4096
  pub value : Label
  pub label_is : labels.Spells blocks label value
