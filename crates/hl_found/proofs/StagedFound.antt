-- Lines of an image, and a buffer that is filled with one.
use Rattle.std.proofs.Common.{◌≡◌, ℕ, ◌+◌, ◌*◌, ◌/◌, List, [], ◌++◌, length, take, drop, sym, ap, ◌∙◌, subst, arith, append-nil}
use Rattle.std.proofs.lemmas.List.{drop_all, length-take-le, nil_from_length}
use Rattle.hl_bytes.specs.Buffers.{block_of, with_part}
use Rattle.hl_bytes.proofs.Parts.{with_part_is}
use Rattle.hl_tseg.specs.Segments.{SegmentHead, SpellsSegment}
use Rattle.hl_view.specs.Lines.{IsSegment}
use Rattle.hl_addr.specs.Layout.{Layout}
use Rattle.hl_image.proofs.PartLemmas.{area_bytes}
use Rattle.hl_nodes.specs.Lines.{line_start, line_bytes}

-- a part that is the whole of a buffer
pub whole_written : (bytes part : List ℕ) → length part ≡ length bytes → with_part bytes 0 part ≡ part
whole_written bytes part size =
    let front : take (4096 * 0) bytes ≡ [] = nil_from_length (take (4096 * 0) bytes) (length-take-le 0 bytes (omega arith)) in
    let back : drop (4096 * 0 + length part) bytes ≡ [] = drop_all (4096 * 0 + length part) bytes (omega arith) in
    with_part_is bytes part 0 (omega arith)
    ∙ ap (λ (l : List ℕ). l ++ (part ++ drop (4096 * 0 + length part) bytes)) front
    ∙ ap (λ (l : List ℕ). part ++ l) back ∙ append-nil part

-- a buffer that is a segment of k blocks
pub segment_whole : (bytes line : List ℕ) (k serial : ℕ) → bytes ≡ line → length bytes ≡ 4096 * k → (head : SegmentHead) × IsSegment bytes serial head → (head : SegmentHead) × SpellsSegment k line head × (head.serial ≡ serial)
segment_whole bytes line k serial same size (head, is) =
    let count : length bytes / 4096 ≡ k = omega arith in
    (head, subst (λ (l : List ℕ). SpellsSegment k l head) same (subst (λ (n : ℕ). SpellsSegment n bytes head) count is.spelled), is.serial_is)

pub whole_segment : (bytes line : List ℕ) (k serial : ℕ) → bytes ≡ line → length bytes ≡ 4096 * k → (head : SegmentHead) × SpellsSegment k line head × (head.serial ≡ serial) → (head : SegmentHead) × IsSegment bytes serial head
whole_segment bytes line k serial same size (head, spelled, own) =
    let count : length bytes / 4096 ≡ k = omega arith in
    (head, record { spelled = subst (λ (n : ℕ). SpellsSegment n bytes head) (sym count) (subst (λ (l : List ℕ). SpellsSegment k l head) (sym same) spelled); serial_is = own })

-- the bytes of a line, in those of the image
pub line_is : (g : Layout) (image : List ℕ) (line n : ℕ) → n ≡ 4096 * g.k → take n (drop (4096 * line_start g line) image) ≡ line_bytes g (block_of image) line
line_is g image line n e = ap (λ (m : ℕ). take m (drop (4096 * line_start g line) image)) e ∙ sym (area_bytes image (line_start g line) g.k)
