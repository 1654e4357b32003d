-- Which blocks decide on a part.
use Rattle.std.proofs.Common.{◌≡◌, inl, inr, ℕ, zero, suc, ◌+◌, ◌-◌, ◌*◌, ◌<◌, ◌≤◌, List, ◌∷◌, ◌++◌, length, take, drop, refl, sym, ◌∙◌, ap, subst, arith, append_assoc, length-drop}
use Rattle.std.proofs.lemmas.List.{take_at, take_all, take-take, drop-drop, length-take-le}
use Rattle.std.proofs.lemmas.Bool.{cases_lt}
use Rattle.std.proofs.Math.Seq.{take-add}
use Rattle.std.proofs.Math.Nat.{mul-le-mul_left}
use Rattle.hl_media.specs.History.{Image, area, HoldsAt}
use Rattle.hl_media.proofs.Images.{area_same, area_holds}
use Rattle.hl_addr.specs.Layout.{Layout}
use Rattle.hl_bytes.specs.Fields.{zeros}
use Rattle.hl_bytes.specs.Buffers.{part_of, block_of}
use Rattle.hl_summary.specs.declared.parts.Summary.{Summary}
use Rattle.hl_summary.specs.Parts.{HasRanges, Spells, summary_in, part_bytes, summary_fields}
use Rattle.hl_summary.proofs.SummaryLemmas.{only, whole_is, behind_is, length-fields}
use Rattle.hl_bytes.proofs.PageLemmas.{take-page_over}
use Rattle.hl_image.specs.declared.place.LogPlace.{LogPlace}
use Rattle.hl_image.specs.Places.{block_at}
use Rattle.hl_image.specs.Parts.{IsPartBytes, IsPart, NoPart}

pub part_ranges : (g : Layout) (image : Image) (at : LogPlace) (serial : ℕ) (s : Summary) → IsPart g image at serial s → HasRanges g at.seg at.block s
part_ranges g image at serial s is = is.spelled.value.ranges

pub part_serial : (g : Layout) (image : Image) (at : LogPlace) (serial : ℕ) (s : Summary) → IsPart g image at serial s → s.serial ≡ serial
part_serial g image at serial s is = is.spelled.serial_is

-- images with the same blocks of the part
pub part_local : (g : Layout) (a b : Image) (at : LogPlace) (serial : ℕ) (s : Summary) → IsPart g a at serial s
    → ((k : ℕ) → block_at g at ≤ k → k ≤ block_at g at + length s.blocks → b k ≡ a k) → IsPart g b at serial s
part_local g a b at serial s is same =
    let n = length s.blocks in
    let e : area a (block_at g at) (1 + n) ≡ area b (block_at g at) (1 + n) = area_same a b (block_at g at) (1 + n) (λ k le lt. sym (same k le (omega arith))) in
    subst (λ (l : List ℕ). IsPartBytes g at serial l s) e is

-- images with the same blocks from the place to its segment's end
pub no_part_same : (g : Layout) (a b : Image) (at : LogPlace) (serial : ℕ) → ((k : ℕ) → block_at g at ≤ k → k < g.k * at.seg + g.k → b k ≡ a k)
    → NoPart g a at serial → NoPart g b at serial
no_part_same g a b at serial same none s is =
    let r = part_ranges g b at serial s is in
    none s (part_local g b a at serial s is (λ k le le2. sym (same k le (omega (arith, r.within)))))

-- an image that has the bytes of a part there
pub part_there : (g : Layout) (image : Image) (at : LogPlace) (serial : ℕ) (bytes : List ℕ) (s : Summary) → IsPartBytes g at serial bytes s
    → HoldsAt image (block_at g at) bytes → IsPart g image at serial s
part_there g image at serial bytes s is holds =
    let e : area image (block_at g at) (1 + length s.blocks) ≡ bytes =
    area_holds image (block_at g at) (1 + length s.blocks) bytes is.whole (λ k lt. holds k (omega (arith, is.whole))) in
    subst (λ (l : List ℕ). IsPartBytes g at serial l s) (sym e) is

-- areas one behind the other
pub area-append : (image : Image) (start a b : ℕ) → area image start (a + b) ≡ area image start a ++ area image (start + a) b
area-append image start zero b =
    let e : 0 + b ≡ b = omega arith in
    let f : start ≡ start + 0 = omega arith in
    ap (area image start) e ∙ ap (λ (n : ℕ). area image n b) f
area-append image start (suc a) b =
    let e : suc a + b ≡ suc (a + b) = omega arith in
    let f : suc start + a ≡ start + suc a = omega arith in
    ap (area image start) e ∙ ap (λ (l : List ℕ). image start ++ l) (area-append image (suc start) a b ∙ ap (λ (n : ℕ). area image (suc start) a ++ area image n b) f)
    ∙ sym (append_assoc (image start) (area image (suc start) a) (area image (start + suc a) b))

-- the area of given bytes
pub area_bytes : (bytes : List ℕ) (start n : ℕ) → area (block_of bytes) start n ≡ take (4096 * n) (drop (4096 * start) bytes)
unfolding block_of
area_bytes bytes start zero = refl
area_bytes bytes start (suc n) =
    let e : 4096 * suc n ≡ 4096 + 4096 * n = omega arith in
    let f : 4096 * start + 4096 ≡ 4096 * suc start = omega arith in
    ap (λ (l : List ℕ). take 4096 (drop (4096 * start) bytes) ++ l)
    (area_bytes bytes (suc start) n ∙ ap (λ (m : ℕ). take (4096 * n) (drop m bytes)) (sym f) ∙ ap (take (4096 * n)) (sym (drop-drop 4096 (4096 * start) bytes)))
    ∙ sym (take-add 4096 (4096 * n) (drop (4096 * start) bytes)) ∙ ap (λ (m : ℕ). take m (drop (4096 * start) bytes)) (sym e)

-- bytes with the same blocks of a part in front
pub spells_front : (g : Layout) (seg block serial : ℕ) (x y : List ℕ) (s : Summary) → take (4096 * (1 + length s.blocks)) x ≡ take (4096 * (1 + length s.blocks)) y
    → Spells g seg block serial x s → Spells g seg block serial y s
spells_front g seg block serial x y s same is =
    let n = length s.blocks in
    let behind : part_of x 1 n ≡ part_of y 1 n = sym (behind_is x n) ∙ ap (drop 4096) same ∙ behind_is y n in
    record {
      value = is.value;
      serial_is = is.serial_is;
      bytes = whole_is y n ∙ sym same ∙ sym (whole_is x n) ∙ is.bytes ∙ ap (part_bytes s) behind;
    }

module _ (g : Layout) (image : Image) (at : LogPlace) (serial : ℕ) where
  -- a part in a longer area
  longer : (s : Summary) (m : ℕ) → length s.blocks ≤ m → IsPart g image at serial s → Spells g at.seg at.block serial (area image (block_at g at) (1 + m)) s
  longer s m le is =
      let n = length s.blocks in
      let own = area image (block_at g at) (1 + n) in
      let rest = area image (block_at g at + (1 + n)) (m - n) in
      let e : 1 + m ≡ (1 + n) + (m - n) = omega arith in
      let more : area image (block_at g at) (1 + m) ≡ own ++ rest = ap (area image (block_at g at)) e ∙ area-append image (block_at g at) (1 + n) (m - n) in
      let same : take (4096 * (1 + n)) own ≡ take (4096 * (1 + n)) (own ++ rest) = take_all (4096 * (1 + n)) own (omega (arith, is.whole)) ∙ sym (take_at own rest (4096 * (1 + n)) is.whole) in
      subst (λ (l : List ℕ). Spells g at.seg at.block serial l s) (sym more) (spells_front g at.seg at.block serial own (own ++ rest) s same is.spelled)

  both : (s t : Summary) → length s.blocks ≤ length t.blocks → IsPart g image at serial s → IsPart g image at serial t → s ≡ t
  both s t le is it =
      let l = area image (block_at g at) (1 + length t.blocks) in
      sym (only g at.seg at.block serial l (summary_in l) refl s (longer s (length t.blocks) le is)) ∙ only g at.seg at.block serial l (summary_in l) refl t it.spelled

  -- one part alone has the serial at the place
  pub one_part : (s t : Summary) → IsPart g image at serial s → IsPart g image at serial t → s ≡ t
  one_part s t is it = elim (cases_lt (length s.blocks) (length t.blocks)) [
    | inl lt ↦ both s t (omega arith) is it
    | inr le ↦ sym (both t s le it is)
  ]

-- zeros begin no part
fields_begin : (s : Summary) → summary_fields s ≡ 72 ∷ drop 1 (summary_fields s)
unfolding summary_fields
fields_begin s = refl

differ : (n m : ℕ) (l fields : List ℕ) → take (suc n) (take (suc m) (0 ∷ l)) ≡ 72 ∷ fields → ⊥
differ n m l fields e = cc

zeros_begin : zeros 4096 ≡ 0 ∷ zeros 4095
unfolding zeros
zeros_begin = refl

pub no_part_zeros : (g : Layout) (image : Image) (at : LogPlace) (serial : ℕ) → image (block_at g at) ≡ zeros 4096 → NoPart g image at serial
no_part_zeros g image at serial is s part =
    let n = length s.blocks in
    let own = area image (block_at g at) (1 + n) in
    let size : 1 + n ≡ suc n = omega arith in
    let first : own ≡ 0 ∷ (zeros 4095 ++ area image (suc (block_at g at)) n) =
    ap (area image (block_at g at)) size ∙ ap (λ (l : List ℕ). l ++ area image (suc (block_at g at)) n) (is ∙ zeros_begin) in
    let end = 1960 + 24 * length s.tables in
    let room = part.spelled.value.ranges.room in
    let head : take end (take (4096 * (1 + n)) own) ≡ summary_fields s =
    take-page_over (take (4096 * (1 + n)) own) (summary_fields s) (part_of own 1 n) end (sym (whole_is own n) ∙ part.spelled.bytes) (length-fields s room) (omega (arith, room.tables)) in
    let e : end ≡ suc (1959 + 24 * length s.tables) = omega arith in
    let f : 4096 * (1 + n) ≡ suc (4095 + 4096 * n) = omega arith in
    let begins : take (suc (1959 + 24 * length s.tables)) (take (suc (4095 + 4096 * n)) (0 ∷ (zeros 4095 ++ area image (suc (block_at g at)) n))) ≡ 72 ∷ drop 1 (summary_fields s) =
    ap (λ (k : ℕ). take k (take (suc (4095 + 4096 * n)) (0 ∷ (zeros 4095 ++ area image (suc (block_at g at)) n)))) (sym e)
    ∙ ap (λ (k : ℕ). take end (take k (0 ∷ (zeros 4095 ++ area image (suc (block_at g at)) n)))) (sym f)
    ∙ ap (λ (l : List ℕ). take end (take (4096 * (1 + n)) l)) (sym first) ∙ head ∙ fields_begin s in
    differ (1959 + 24 * length s.tables) (4095 + 4096 * n) (zeros 4095 ++ area image (suc (block_at g at)) n) (drop 1 (summary_fields s)) begins

-- the bytes of an image from a place to its segment's end
module _ (g : Layout) (image : List ℕ) (at : LogPlace) (serial : ℕ) (part : List ℕ) (small : 4096 * (g.k * g.log + g.k) ≤ length image) (high : at.seg ≤ g.log) (start : ℕ) (start_is : start ≡ 4096 * block_at g at)
    (is : part ≡ take (4096 * (g.k - at.block)) (drop start image)) where
  same_front : (s : Summary) → at.block + length s.blocks + 1 ≤ g.k → take (4096 * (1 + length s.blocks)) part ≡ area (block_of image) (block_at g at) (1 + length s.blocks)
  same_front s within =
      ap (take (4096 * (1 + length s.blocks))) is ∙ take-take (4096 * (1 + length s.blocks)) (4096 * (g.k - at.block)) (drop start image) (omega arith)
      ∙ ap (λ (n : ℕ). take (4096 * (1 + length s.blocks)) (drop n image)) start_is ∙ sym (area_bytes image (block_at g at) (1 + length s.blocks))

  in_image : (s : Summary) → at.block + length s.blocks + 1 ≤ g.k → length (area (block_of image) (block_at g at) (1 + length s.blocks)) ≡ 4096 * (1 + length s.blocks)
  in_image s within =
      let n = length s.blocks in
      let m : g.k * at.seg ≤ g.k * g.log = mul-le-mul_left g.k high in
      ap length (area_bytes image (block_at g at) (1 + n)) ∙ length-take-le (4096 * (1 + n)) (drop (4096 * block_at g at) image) (omega (arith, length-drop (4096 * block_at g at) image))

  pub part_of_bytes : (s : Summary) → Spells g at.seg at.block serial part s → IsPart g (block_of image) at serial s
  part_of_bytes s spelled =
      let w = spelled.value.ranges.within in
      let whole = in_image s w in
      record {
        whole = whole;
        spelled = spells_front g at.seg at.block serial part (area (block_of image) (block_at g at) (1 + length s.blocks)) s (same_front s w ∙ sym (take_all (4096 * (1 + length s.blocks)) (area (block_of image) (block_at g at) (1 + length s.blocks)) (omega arith))) spelled;
      }

  pub bytes_of_part : (s : Summary) → IsPart g (block_of image) at serial s → Spells g at.seg at.block serial part s
  bytes_of_part s there =
      let w = there.spelled.value.ranges.within in
      spells_front g at.seg at.block serial (area (block_of image) (block_at g at) (1 + length s.blocks)) part s
      (take_all (4096 * (1 + length s.blocks)) (area (block_of image) (block_at g at) (1 + length s.blocks)) (omega (arith, there.whole)) ∙ sym (same_front s w)) there.spelled
