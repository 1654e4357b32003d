-- A record that was spelled is read.
use Rattle.std.proofs.Common.{◌≡◌, ℕ, ◌+◌, ◌-◌, ◌*◌, ◌<◌, ◌≤◌, ◌^◌, min, List, ◌++◌, length, take, drop, refl, sym, subst, ap, ◌∙◌, arith, append_assoc, length-append}
use Rattle.std.specs.List.{AllByRecursion}
use Rattle.std.proofs.lemmas.List.{take_at, drop_at, take_all}
use Rattle.hl_bytes.specs.Fields.{le32, le64, u32_at, zeros}
use Rattle.hl_bytes.specs.Runs.{numbers32}
use Rattle.hl_bytes.proofs.Places.{IsBytes}
use Rattle.hl_bytes.proofs.PageLemmas.{take-page, length-zeros}
use Rattle.hl_bytes.proofs.Decoding.{read32, read64}
use Rattle.hl_bytes.proofs.RunLemmas.{length-numbers32, read_run, u32_fits, u64_fits, u32s_fit, length-u32s}
use Rattle.hl_super.specs.declared.label.Label.{Label}
use Rattle.hl_super.specs.declared.record.Record.{Record}
use Rattle.hl_super.specs.Records.{HasRoom, HasRanges, IsRecord, Spells, record_head, record_middle, record_bytes, record_in}

-- a record of a label has room in its block
pub room_of : (at : ℕ) (label : Label) (v : Record) → HasRanges at label v → HasRoom v
room_of at label v ok = record { volumes = ok.site.volume_count.1; tables = omega (arith, ok.tables, ok.site.tables_fit, ok.site.segment_size) }

-- a record that is spelled is read
again : (at : ℕ) (label : Label) (v : Record) → IsRecord at label v → record_in (record_bytes v) ≡ v
unfolding record_in record_bytes le32 le64
again at label v ok =
    let room : HasRoom v = room_of at label v ok.ranges in
    let b = record_bytes v in
    let fields = record_middle v ++ numbers32 v.tables in
    let X = numbers32 v.volumes in
    let Z = zeros (176 - (48 + 4 * length v.volumes)) in
    let L = le32 (length v.tables) in
    let T = numbers32 v.tables in
    let n = 180 + 4 * length v.tables in
    let hole : 48 + 4 * length v.volumes + (176 - (48 + 4 * length v.volumes)) ≡ 176 = omega (arith, room.volumes) in
    let low : length ((record_head v ++ X) ++ Z) ≡ 176 =
    omega (arith, length-append (record_head v ++ X) Z, length-append (record_head v) X, length-numbers32 v.volumes, length-zeros (176 - (48 + 4 * length v.volumes)), hole) in
    let middle : length (record_middle v) ≡ 180 = omega (arith, length-append ((record_head v ++ X) ++ Z) L, low) in
    let whole : length fields ≡ n = omega (arith, length-append (record_middle v) T, middle, length-numbers32 v.tables) in
    let front : take n b ≡ fields = take-page b fields n refl whole (omega (arith, room.tables)) in
    let volumes_fit : length v.volumes < 2 ^ 32 = omega (arith, room.volumes) in
    let tables_fit : length v.tables < 2 ^ 32 = omega (arith, room.tables) in
    let volumes_run : take (4 * length v.volumes) (drop 48 fields) ≡ X = ap (take (4 * length v.volumes)) (let e : ((X ++ Z) ++ L) ++ T ≡ X ++ (Z ++ (L ++ T)) = simp append_assoc in e) ∙ take_at X (Z ++ (L ++ T)) (4 * length v.volumes) (length-numbers32 v.volumes) in
    let count_at : take 4 (drop 176 fields) ≡ L = ap (λ (l : List ℕ). take 4 (drop 176 l)) (append_assoc ((record_head v ++ X) ++ Z) L T) ∙ ap (take 4) (drop_at ((record_head v ++ X) ++ Z) (L ++ T) 176 low) ∙ take_at L T 4 refl in
    let tables_run : take (4 * length v.tables) (drop 180 fields) ≡ T = ap (take (4 * length v.tables)) (drop_at (record_middle v) T 180 middle) ∙ take_all (4 * length v.tables) T (omega (arith, length-numbers32 v.tables)) in
    let volumes_count : u32_at 44 b ≡ length v.volumes = read32 b fields 44 n (length v.volumes) front (omega arith) volumes_fit refl in
    let tables_count : u32_at 176 b ≡ length v.tables = read32 b fields 176 n (length v.tables) front (omega arith) tables_fit count_at in
    let volumes_min : min (length v.volumes) 32 ≡ length v.volumes = omega (arith, room.volumes) in
    let tables_min : min (length v.tables) 256 ≡ length v.tables = omega (arith, room.tables) in
    let volumes_end : 48 + 4 * length v.volumes ≤ n = omega (arith, room.volumes) in
    let format_fits : v.format < 2 ^ 32 = omega (arith, ok.ranges.format) in
    rw (
      volumes_count,
      tables_count,
      volumes_min,
      tables_min,
      read64 b fields 8 n v.number front (omega arith) ok.number_fits refl,
      read64 b fields 16 n v.serial front (omega arith) ok.serial_fits refl,
      read32 b fields 24 n v.seg front (omega arith) ok.seg_fits refl,
      read32 b fields 28 n v.block front (omega arith) ok.block_fits refl,
      read64 b fields 32 n v.tseg_serial front (omega arith) ok.tseg_fits refl,
      read32 b fields 40 n v.format front (omega arith) format_fits refl,
      read_run b fields v.volumes 48 n front volumes_end ok.volumes_fit volumes_run,
      read_run b fields v.tables 180 n front (omega arith) ok.tables_fit tables_run,
    )
    refl

-- what a block spells is its candidate
pub only : (at : ℕ) (label : Label) (block : List ℕ) (x : Record) → x ≡ record_in block → (v : Record) → Spells at label block v → x ≡ v
only at label block x is v p = is ∙ ap record_in p.bytes ∙ again at label v p.value

-- what is read has room in the block and in its fields
pub has_room : (block : List ℕ) (x : Record) → x ≡ record_in block → HasRoom x
unfolding record_in
has_room block x is =
    let volumes : length x.volumes ≡ min (u32_at 44 block) 32 = ap (λ (v : Record). length v.volumes) is ∙ length-u32s 48 (min (u32_at 44 block) 32) block in
    let tables : length x.tables ≡ min (u32_at 176 block) 256 = ap (λ (v : Record). length v.tables) is ∙ length-u32s 180 (min (u32_at 176 block) 256) block in
    record { volumes = omega (arith, volumes); tables = omega (arith, tables) }

pub is_record : (at : ℕ) (label : Label) (block : List ℕ) (x : Record) → IsBytes block → x ≡ record_in block → HasRanges at label x → IsRecord at label x
unfolding record_in
is_record at label block x fits is ranges =
    record {
      ranges = ranges;
      number_fits = subst (λ (n : ℕ). n < 2 ^ 64) (sym (ap (λ (v : Record). v.number) is)) (u64_fits block 8 fits);
      serial_fits = subst (λ (n : ℕ). n < 2 ^ 64) (sym (ap (λ (v : Record). v.serial) is)) (u64_fits block 16 fits);
      seg_fits = subst (λ (n : ℕ). n < 2 ^ 32) (sym (ap (λ (v : Record). v.seg) is)) (u32_fits block 24 fits);
      block_fits = subst (λ (n : ℕ). n < 2 ^ 32) (sym (ap (λ (v : Record). v.block) is)) (u32_fits block 28 fits);
      tseg_fits = subst (λ (n : ℕ). n < 2 ^ 64) (sym (ap (λ (v : Record). v.tseg_serial) is)) (u64_fits block 32 fits);
      volumes_fit = subst (λ (l : List ℕ). AllByRecursion (λ n. n < 2 ^ 32) l) (sym (ap (λ (v : Record). v.volumes) is)) (u32s_fit block 48 (min (u32_at 44 block) 32) fits);
      tables_fit = subst (λ (l : List ℕ). AllByRecursion (λ n. n < 2 ^ 32) l) (sym (ap (λ (v : Record). v.tables) is)) (u32s_fit block 180 (min (u32_at 176 block) 256) fits);
    }
