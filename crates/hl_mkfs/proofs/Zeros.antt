-- A block of zeros is no label and no record.
use Rattle.std.proofs.Common.{◌≡◌, ℕ, suc, ◌+◌, ◌-◌, ◌*◌, List, [], ◌∷◌, ◌++◌, length, take, get_or, refl, sym, ◌∙◌, ap, arith, lit≤, length-append}
use Rattle.hl_bytes.specs.Fields.{le32, le64, zeros}
use Rattle.hl_bytes.specs.Runs.{numbers32}
use Rattle.hl_bytes.proofs.PageLemmas.{take-page, length-zeros}
use Rattle.hl_bytes.proofs.RunLemmas.{length-numbers32}
use Rattle.hl_media.specs.History.{Image}
use Rattle.hl_super.specs.declared.label.Label.{Label}
use Rattle.hl_super.specs.declared.record.Record.{Record}
use Rattle.hl_super.specs.Labels as labels
use Rattle.hl_super.specs.Records.{HasRoom, Spells, record_bytes, record_head, record_middle, record_fields}
use Rattle.hl_super.proofs.RecordLemmas.{room_of}
use Rattle.hl_mkfs.specs.Sites.{HasNoLabel}

first_of_take : (n : ℕ) (l : List ℕ) → get_or (take (suc n) l) 0 0 ≡ get_or l 0 0
first_of_take n [] = refl
first_of_take n (x ∷ l) = refl

first_zero : get_or (zeros 4096) 0 0 ≡ 0
unfolding zeros
first_zero = refl

-- a label begins with an H
label_first : (blocks : ℕ) (block : List ℕ) (v : Label) → labels.Spells blocks block v → get_or block 0 0 ≡ 72
unfolding labels.label_bytes le32
label_first blocks block v p = sym (first_of_take 23 block) ∙ ap (λ (l : List ℕ). get_or l 0 0) (take-page block (labels.label_fields v) 24 p.bytes refl (lit≤ tt))

pub no_label : (blocks : ℕ) (image : Image) → image 0 ≡ zeros 4096 → HasNoLabel blocks image
no_label blocks image is v label =
    let e : get_or (image 0) 0 0 ≡ 72 = label_first blocks (image 0) v label in
    let f : get_or (image 0) 0 0 ≡ 0 = ap (λ (l : List ℕ). get_or l 0 0) is ∙ first_zero in
    omega arith

-- and so does a record
length-fields : (v : Record) → HasRoom v → length (record_fields v) ≡ 180 + 4 * length v.tables
unfolding le32 le64
length-fields v room =
    let X = numbers32 v.volumes in
    let Z = zeros (176 - (48 + 4 * length v.volumes)) in
    let L = le32 (length v.tables) in
    let volumes = room.volumes in
    let low : length ((record_head v ++ X) ++ Z) ≡ 176 =
    omega (arith, length-append (record_head v ++ X) Z, length-append (record_head v) X, length-numbers32 v.volumes, length-zeros (176 - (48 + 4 * length v.volumes))) in
    let middle : length (record_middle v) ≡ 180 = omega (arith, length-append ((record_head v ++ X) ++ Z) L, low) in
    omega (arith, length-append (record_middle v) (numbers32 v.tables), middle, length-numbers32 v.tables)

record_first : (at : ℕ) (label : Label) (block : List ℕ) (v : Record) → Spells at label block v → get_or block 0 0 ≡ 72
unfolding record_bytes le32 le64
record_first at label block v p =
    let room = room_of at label v p.value.ranges in
    let n = 180 + 4 * length v.tables in
    let e : n ≡ suc (179 + 4 * length v.tables) = omega arith in
    let front : take n block ≡ record_fields v = take-page block (record_fields v) n p.bytes (length-fields v room) (omega (arith, room.tables)) in
    sym (first_of_take (179 + 4 * length v.tables) block) ∙ ap (λ (k : ℕ). get_or (take k block) 0 0) (sym e) ∙ ap (λ (l : List ℕ). get_or l 0 0) front

pub no_record : (at : ℕ) (label : Label) (block : List ℕ) → block ≡ zeros 4096 → (v : Record) → ¬ Spells at label block v
no_record at label block is v spelled =
    let e : get_or block 0 0 ≡ 72 = record_first at label block v spelled in
    let f : get_or block 0 0 ≡ 0 = ap (λ (l : List ℕ). get_or l 0 0) is ∙ first_zero in
    omega arith
