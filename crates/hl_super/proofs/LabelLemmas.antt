-- A label that was spelled is read.
use Rattle.std.proofs.Common.{◌≡◌, ℕ, List, ◌<◌, ◌^◌, take, refl, ap, ◌∙◌, arith, lit≤}
use Rattle.hl_addr.specs.Layout.{IsSegmentSize}
use Rattle.hl_bytes.specs.Fields.{le32}
use Rattle.hl_bytes.proofs.PageLemmas.{take-page}
use Rattle.hl_bytes.proofs.Decoding.{read32}
use Rattle.hl_super.specs.declared.label.Label.{Label}
use Rattle.hl_super.specs.Labels.{IsLabel, Spells, label_fields, label_bytes, label_in}

-- a number of blocks of a segment has room in its field
k_fits : (k : ℕ) → IsSegmentSize k → k < 2 ^ 32
k_fits k is = omega arith

-- a label that is spelled is read
again : (v : Label) → IsLabel v → label_in (label_bytes v) ≡ v
unfolding label_in label_bytes le32
again v ok =
    let front : take 24 (label_bytes v) ≡ label_fields v = take-page (label_bytes v) (label_fields v) 24 refl refl (lit≤ tt) in
    rw (
      read32 (label_bytes v) (label_fields v) 8 24 v.k front (lit≤ tt) (k_fits v.k ok.segment_size) refl,
      read32 (label_bytes v) (label_fields v) 12 24 v.log front (lit≤ tt) (omega (arith, ok.log_count)) refl,
      read32 (label_bytes v) (label_fields v) 16 24 v.lines front (lit≤ tt) (omega (arith, ok.line_count)) refl,
      read32 (label_bytes v) (label_fields v) 20 24 v.inodes front (lit≤ tt) (omega (arith, ok.inode_count)) refl,
    )
    refl

-- what a block spells is its candidate
pub only : (blocks : ℕ) (block : List ℕ) (x : Label) → x ≡ label_in block → (v : Label) → Spells blocks block v → x ≡ v
only blocks block x is v p = is ∙ ap label_in p.bytes ∙ again v p.value
