-- A record that was spelled is read.
use Rattle.std.proofs.Common.{◌≡◌, ℕ, ◌<◌, ◌≤◌, ◌^◌, suc, List, [], ◌∷◌, length, take, drop, get_or, refl, sym, subst, ap, ◌∙◌, arith, lit≤, length-drop}
use Rattle.std.proofs.lemmas.List.{take_all, length-take-le}
use Rattle.hl_bytes.specs.Fields.{le32, le64}
use Rattle.hl_bytes.proofs.Places.{IsBytes}
use Rattle.hl_bytes.proofs.PageLemmas.{take-page}
use Rattle.hl_bytes.proofs.Decoding.{part_front, read32, read64}
use Rattle.hl_bytes.proofs.RunLemmas.{u32_fits, u64_fits}
use Rattle.hl_disk.specs.declared.record.DumpRecord.{DumpRecord}
use Rattle.hl_disk.specs.Records.{place_of, IsRecord, Spells, record_fields, record_bytes, record_in}

-- the fields take 52 bytes
size_of : (v : DumpRecord) → length v.digest ≡ 32 → length (record_fields v) ≡ 52
unfolding le32 le64
size_of v size = omega (arith, size)

-- they stand at the front of the block
front_of : (v : DumpRecord) → length v.digest ≡ 32 → take 52 (record_bytes v) ≡ record_fields v
unfolding record_bytes
front_of v size = take-page (record_bytes v) (record_fields v) 52 refl (size_of v size) (lit≤ tt)

digest_of : (v : DumpRecord) → length v.digest ≡ 32 → take 32 (drop 20 (record_bytes v)) ≡ v.digest
unfolding le32 le64
digest_of v size =
    let here : take 32 (drop 20 (record_fields v)) ≡ take 32 v.digest = refl in
    sym (part_front (record_bytes v) 20 32 52 (lit≤ tt)) ∙ ap (λ (l : List ℕ). take 32 (drop 20 l)) (front_of v size) ∙ here ∙ take_all 32 v.digest (omega (arith, size))

-- a record that is spelled is read
again : (at : ℕ) (v : DumpRecord) → IsRecord at v → record_in (record_bytes v) ≡ v
unfolding record_in le32 le64
again at v ok =
    let front = front_of v ok.digest in
    rw (
      read64 (record_bytes v) (record_fields v) 8 52 v.number front (lit≤ tt) ok.number_fits refl,
      read32 (record_bytes v) (record_fields v) 16 52 v.length front (lit≤ tt) ok.length_fits refl,
      digest_of v ok.digest,
    )
    refl

-- what a block spells is its candidate
pub only : (at : ℕ) (block : List ℕ) (x : DumpRecord) → x ≡ record_in block → (v : DumpRecord) → Spells at block v → x ≡ v
only at block x is v p = is ∙ ap record_in p.bytes ∙ again at v p.value

-- a block spells one record
pub once : (at : ℕ) (block : List ℕ) (v w : DumpRecord) → Spells at block v → Spells at block w → v ≡ w
once at block v w p q = sym (only at block (record_in block) refl v p) ∙ only at block (record_in block) refl w q

-- what is read has room in its fields
pub is_record : (at : ℕ) (block : List ℕ) (x : DumpRecord) → length block ≡ 4096 → IsBytes block → x ≡ record_in block → 1 ≤ x.number → place_of x.number ≡ at → IsRecord at x
unfolding record_in
is_record at block x size fits is low parity =
    let behind : 32 ≤ length (drop 20 block) = omega (arith, length-drop 20 block) in
    record {
      number = low;
      parity = parity;
      number_fits = subst (λ (n : ℕ). n < 2 ^ 64) (sym (ap (λ (v : DumpRecord). v.number) is)) (u64_fits block 8 fits);
      length_fits = subst (λ (n : ℕ). n < 2 ^ 32) (sym (ap (λ (v : DumpRecord). v.length) is)) (u32_fits block 16 fits);
      digest = ap (λ (v : DumpRecord). length v.digest) is ∙ length-take-le 32 (drop 20 block) behind;
    }

-- the first of some bytes
pub first_of_take : (n : ℕ) (l : List ℕ) → get_or (take (suc n) l) 0 0 ≡ get_or l 0 0
first_of_take n [] = refl
first_of_take n (x ∷ l) = refl

-- a block that spells a record begins with an H
pub first_is : (at : ℕ) (block : List ℕ) (v : DumpRecord) → Spells at block v → get_or block 0 0 ≡ 72
unfolding le32 le64
first_is at block v p = sym (first_of_take 51 block) ∙ ap (λ (l : List ℕ). get_or l 0 0) (ap (take 52) p.bytes ∙ front_of v p.value.digest)
