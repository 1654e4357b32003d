-- A block that is fields, zeros and a digest.
use Rattle.std.proofs.Common.{◌≡◌, ℕ, ◌-◌, ◌≤◌, List, ◌++◌, length, take, drop, sym, ap, ◌∙◌, arith, append_assoc, length-append}
use Rattle.std.proofs.lemmas.List.{take_at, drop_at, take-take, take_all, length-replicate, length-take-le}
use Rattle.sha2.specs.Sha256.{sha256}
use Rattle.hl_bytes.proofs.Places.{drop-written}
use Rattle.hl_bytes.proofs.Seals.{length-sha256}
use Rattle.hl_bytes.specs.Fields.{zeros, written}
use Rattle.hl_bytes.specs.Sealing.{sealed, sealed_over}
use Rattle.hl_bytes.specs.Pages.{padded, page, page_over, plain_page}

pub length-zeros : (n : ℕ) → length (zeros n) ≡ n
unfolding zeros
length-zeros n = length-replicate n 0

-- the bytes that were sealed
pub take-sealed : (body : List ℕ) (n : ℕ) → length body ≡ n → take n (sealed body) ≡ body
unfolding sealed
take-sealed body n size = take_at body (sha256 body) n size

-- what is filled up to a size has that size, and begins with what it was
pub length-padded : (size : ℕ) (fields : List ℕ) → length fields ≤ size → length (padded size fields) ≡ size
unfolding padded
length-padded size fields le = omega (arith, length-append fields (zeros (size - length fields)), length-zeros (size - length fields))

pub take-padded : (size : ℕ) (fields : List ℕ) (n : ℕ) → length fields ≡ n → take n (padded size fields) ≡ fields
unfolding padded
take-padded size fields n count = take_at fields (zeros (size - length fields)) n count

-- the front of a block with zeros behind it
pub front_padded : (block : List ℕ) (end size : ℕ) → end ≤ length block → take size block ≡ take end block ++ zeros (size - end) → take size block ≡ padded size (take end block)
unfolding padded
front_padded block end size le is = let e : length (take end block) ≡ end = length-take-le end block le in is ∙ ap (λ (n : ℕ). take end block ++ zeros (size - n)) (sym e)

pub padded_front : (block : List ℕ) (end size : ℕ) → end ≤ length block → take size block ≡ padded size (take end block) → take size block ≡ take end block ++ zeros (size - end)
unfolding padded
padded_front block end size le is = let e : length (take end block) ≡ end = length-take-le end block le in is ∙ ap (λ (n : ℕ). take end block ++ zeros (size - n)) e

-- the fields of a block that spells them
pub take-page : (block fields : List ℕ) (n : ℕ) → block ≡ page fields → length fields ≡ n → n ≤ 4064 → take n block ≡ fields
unfolding page
take-page block fields n is count le =
    let small : length fields ≤ 4064 = omega arith in
    let body : take 4064 block ≡ padded 4064 fields = ap (take 4064) is ∙ take-sealed (padded 4064 fields) 4064 (length-padded 4064 fields small) in
    sym (take-take n 4064 block le) ∙ ap (take n) body ∙ take-padded 4064 fields n count

pub take-plain_page : (block fields : List ℕ) (n : ℕ) → block ≡ plain_page fields → length fields ≡ n → take n block ≡ fields
unfolding plain_page
take-plain_page block fields n is count = ap (take n) is ∙ take-padded 4096 fields n count

-- zeros and a digest behind fields make a page, and the other way
pub ended : (out zeroed new : List ℕ) (end : ℕ) → end ≤ length out → take 4064 zeroed ≡ take end out ++ zeros (4064 - end) → new ≡ sealed (take 4064 zeroed) → new ≡ page (take end out)
unfolding page padded
ended out zeroed new end le zero is =
    let e : length (take end out) ≡ end = length-take-le end out le in
    is ∙ ap sealed (zero ∙ ap (λ (n : ℕ). take end out ++ zeros (4064 - n)) (sym e))

-- the same of a block without a digest
pub ended_plain : (out new : List ℕ) (end : ℕ) → end ≤ length out → length new ≤ 4096 → take 4096 new ≡ take end out ++ zeros (4096 - end) → new ≡ plain_page (take end out)
unfolding plain_page padded
ended_plain out new end le size zero =
    let e : length (take end out) ≡ end = length-take-le end out le in
    sym (take_all 4096 new size) ∙ zero ∙ ap (λ (n : ℕ). take end out ++ zeros (4096 - n)) (sym e)

-- the front of what is sealed
pub take-sealed_over : (front behind : List ℕ) (n : ℕ) → length front ≡ n → take n (sealed_over front behind) ≡ front
unfolding sealed_over
take-sealed_over front behind n size = ap (take n) (append_assoc front (sha256 (front ++ behind)) behind) ∙ take_at front (sha256 (front ++ behind) ++ behind) n size

-- the same of a block whose digest is also of the blocks behind
pub ended_over : (old zeroed new : List ℕ) (end : ℕ) → end ≤ 4064 → 4096 ≤ length old → take 4064 zeroed ≡ take end old ++ zeros (4064 - end) → zeroed ≡ written old end (zeros (4064 - end)) → new ≡ sealed_over (take 4064 zeroed) (drop 4096 zeroed)
    → new ≡ page_over (take end old) (drop 4096 old)
unfolding page_over padded
ended_over old zeroed new end le big zero whole is =
    let low : end ≤ length old = omega arith in
    let e : length (take end old) ≡ end = length-take-le end old low in
    let rest : drop 4096 zeroed ≡ drop 4096 old = ap (drop 4096) whole ∙ drop-written old (zeros (4064 - end)) end 4096 low (omega (arith, length-zeros (4064 - end))) in
    is ∙ ap (λ (l : List ℕ). sealed_over (take 4064 zeroed) l) rest ∙ ap (λ (l : List ℕ). sealed_over l (drop 4096 old)) (zero ∙ ap (λ (n : ℕ). take end old ++ zeros (4064 - n)) (sym e))

pub is_page_over_by : (bytes : List ℕ) (end : ℕ) → end ≤ length bytes → take 4064 bytes ≡ take end bytes ++ zeros (4064 - end) → bytes ≡ sealed_over (take 4064 bytes) (drop 4096 bytes) → bytes ≡ page_over (take end bytes) (drop 4096 bytes)
unfolding page_over
is_page_over_by bytes end le zero is = is ∙ ap (λ (l : List ℕ). sealed_over l (drop 4096 bytes)) (front_padded bytes end 4064 le zero)

pub page_over_zero : (bytes : List ℕ) (end : ℕ) → end ≤ length bytes → end ≤ 4064 → bytes ≡ page_over (take end bytes) (drop 4096 bytes) → (take 4064 bytes ≡ take end bytes ++ zeros (4064 - end)) × (bytes ≡ sealed_over (take 4064 bytes) (drop 4096 bytes))
unfolding page_over
page_over_zero bytes end le small is =
    let short : length (take end bytes) ≤ 4064 = omega (arith, length-take-le end bytes le) in
    let F = padded 4064 (take end bytes) in
    let body : take 4064 bytes ≡ F = ap (take 4064) is ∙ take-sealed_over F (drop 4096 bytes) 4064 (length-padded 4064 (take end bytes) short) in
    (padded_front bytes end 4064 le body, is ∙ ap (λ (l : List ℕ). sealed_over l (drop 4096 bytes)) (sym body))

-- the fields of a first block that spells them
pub take-page_over : (bytes fields behind : List ℕ) (n : ℕ) → bytes ≡ page_over fields behind → length fields ≡ n → n ≤ 4064 → take n bytes ≡ fields
unfolding page_over
take-page_over bytes fields behind n is count le =
    let small : length fields ≤ 4064 = omega arith in
    let body : take 4064 bytes ≡ padded 4064 fields = ap (take 4064) is ∙ take-sealed_over (padded 4064 fields) behind 4064 (length-padded 4064 fields small) in
    sym (take-take n 4064 bytes le) ∙ ap (take n) body ∙ take-padded 4064 fields n count

-- the blocks behind a first block that spells them
pub drop-page_over : (bytes fields behind : List ℕ) → bytes ≡ page_over fields behind → length fields ≤ 4064 → drop 4096 bytes ≡ behind
unfolding page_over sealed_over
drop-page_over bytes fields behind is le =
    let F = padded 4064 fields in
    let H = sha256 (F ++ behind) in
    let size : length (F ++ H) ≡ 4096 = omega (arith, length-append F H, length-padded 4064 fields le, length-sha256 (F ++ behind)) in
    ap (drop 4096) is ∙ drop_at (F ++ H) behind 4096 size
