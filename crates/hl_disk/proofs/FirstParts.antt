-- The blocks that a disk is made of, as they are written.
use Rattle.std.proofs.Common.{◌≡◌, ℕ, zero, suc, ◌*◌, ◌≤◌, List, [], length, drop, get_or, replicate, refl, ◌∙◌, ap, arith}
use Rattle.std.proofs.lemmas.List.{length-replicate}
use Rattle.sha2.specs.Sha256.{sha256}
use Rattle.hl_bytes.proofs.Seals.{length-sha256}
use Rattle.hl_bytes.specs.Buffers.{block_of}
use Rattle.hl_super.specs.declared.label.Label.{Label}
use Rattle.hl_super.specs.Labels.{label_bytes}
use Rattle.hl_disk.specs.declared.record.DumpRecord.{DumpRecord}
use Rattle.hl_disk.specs.Records.{record_bytes}
use Rattle.hl_disk.specs.Parts.{AreParts}
use Rattle.hl_disk.proofs.RecordLemmas.{first_of_take}

abbrev nothing : ℕ → List ℕ
nothing n = replicate n 0

-- zeros begin with a zero, from wherever on
first_zero : (n k : ℕ) → get_or (drop k (nothing n)) 0 0 ≡ 0
first_zero zero zero = refl
first_zero zero (suc k) = refl
first_zero (suc n) zero = refl
first_zero (suc n) (suc k) = first_zero n k

block_zero : (n k : ℕ) → get_or (block_of (nothing n) k) 0 0 ≡ 0
unfolding block_of
block_zero n k = first_of_take 4095 (drop (4096 * k) (nothing n)) ∙ first_zero n (4096 * k)

-- the label of a disk that is made
abbrev usual : Label
usual = record { k = 64; log = 16; lines = 16; inodes = 512 }

abbrev pub empty_record : List ℕ → DumpRecord
empty_record digest = record { number = 1; length = 0; digest = digest }

pub parts_of : (blocks n : ℕ) (Z first label digest : List ℕ) → 2112 ≤ blocks → n ≡ 12288 → Z ≡ nothing n → length first ≡ 4096 → length label ≡ 4096
    → digest ≡ sha256 [] → first ≡ record_bytes (empty_record digest) → label ≡ label_bytes usual → AreParts blocks Z first label
parts_of blocks n Z first label digest room size zeros first_size label_size digest_is first_is label_is = record {
  three = ap length zeros ∙ length-replicate n 0 ∙ size;
  zero = λ k lt. ap (λ (l : List ℕ). get_or (block_of l k) 0 0) zeros ∙ block_zero n k;
  first_block = first_size;
  first_is = record {
    value = record { number = omega arith; parity = refl; number_fits = omega arith; length_fits = omega arith; digest = length-sha256 [] };
    bytes = first_is ∙ ap (λ (d : List ℕ). record_bytes (empty_record d)) digest_is;
  };
  label_block = label_size;
  value = usual;
  label_is = record {
    value = record { segment_size = search arith; log_count = search arith; line_count = search arith; inode_count = search arith };
    room = room;
    bytes = label_is;
  };
}
