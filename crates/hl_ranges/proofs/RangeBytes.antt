-- The bytes of a range of a file.
use Rattle.std.proofs.Common.{◌≡◌, ℕ, ◌+◌, ◌-◌, ◌*◌, ◌/◌, ◌%◌, ◌<◌, ◌≤◌, List, [], ◌++◌, length, get_or, map, take, drop, min, Option, refl, sym, ◌∙◌, ap, arith, length-drop, subst}
use Rattle.std.specs.List.{range_with_len}
use Rattle.std.proofs.lemmas.Grind.{same_number_lists}
use Rattle.std.proofs.lemmas.List.{get_or-drop, get_or-replicate, get_or-take, length-take, length-take-le, map-append}
use Rattle.std.proofs.lemmas.List.FromFn.{get_or-map-range_with_len, length-map-range_with_len}
use Rattle.hl_media.specs.History.{History, MachineState, state_now}
use Rattle.hl_bytes.specs.Fields.{zeros}
use Rattle.hl_tree.specs.Contents.{read_at}
use Rattle.hl_placed.specs.Blocks.{Away, Block, Here, Hole, PlacedFile, Shelf, byte_of, file_block, plain_bytes}
use Rattle.hl_placed.proofs.Changes.{length-plain_bytes, within-plain_bytes}
use Rattle.hl_paths.specs.Nodes.{FlatNode}
use Rattle.hl_overlaid.specs.NodesNow.{old_block}
use Rattle.hl_store.specs.Values.{StoreValue}
use Rattle.hl_store.specs.Finding.{BlockNow, HasBytes}
use Rattle.hl_ranges.specs.Files.{LinesShow, OfFile}
use Rattle.hl_ranges.specs.Reading.{bytes_between, file_byte}
use Rattle.hl_ranges.proofs.ReadSteps.{of_block}
use Rattle.hl_ranges.proofs.SerialLists.{range-plus}

-- each of the zeros
zeros_at : (n k : ℕ) → k < n → get_or (zeros n) k 0 ≡ 0
unfolding zeros
zeros_at n k less = get_or-replicate n k 0 0 less

-- the bytes of a hole are zeros
pub hole_found : {M : Type 0} (history : M → Option History) (v : StoreValue M) (ino i : ℕ) (out : List ℕ) → out ≡ zeros 4096 → BlockNow history v ino i (λ s block. block ≡ Hole)
    → OfFile history v ino (λ c shelf file. (k : ℕ) → k < 4096 → get_or out k 0 ≡ byte_of shelf (file_block file i) k)
hole_found history v ino i out are found = λ h e c lies shelf file lines has k less.
    ap (λ (xs : List ℕ). get_or xs k 0) are ∙ zeros_at 4096 k less
    ∙ sym (ap (λ (block : Block). byte_of shelf block k) (of_block history v ino i (λ block. block ≡ Hole) found h e c lies shelf file lines has))

-- the bytes that were found of a block are those that the shelf has of it
shown : {M : Type 0} (v : StoreValue M) (s : MachineState) (shelf : Shelf) (bytes : List ℕ) → LinesShow v s shelf → (block : Block) → HasBytes v s block bytes
    → (k : ℕ) → k < 4096 → get_or bytes k 0 ≡ byte_of shelf block k
shown v s shelf bytes lines Hole has k less = absurd has
shown v s shelf bytes lines (Here own) has k less = ap (λ (xs : List ℕ). get_or xs k 0) (sym has)
shown v s shelf bytes lines (Away serial position) has k less = lines serial position bytes has k less

-- and so of the file's
pub bytes_found : {M : Type 0} (history : M → Option History) (v : StoreValue M) (ino i : ℕ) (out : List ℕ) → BlockNow history v ino i (λ s block. HasBytes v s block out)
    → OfFile history v ino (λ c shelf file. (k : ℕ) → k < 4096 → get_or out k 0 ≡ byte_of shelf (file_block file i) k)
bytes_found history v ino i out found = λ h e c lies shelf file lines has.
    shown v (state_now h) shelf out lines (file_block file i)
    (subst (λ (o : Option FlatNode). HasBytes v (state_now h) (old_block o i) out) has.has (found h e c lies))

module _ (shelf : Shelf) (file : PlacedFile) where
  -- how many bytes a range has
  pub length-between : (from to : ℕ) → length (bytes_between shelf file from to) ≡ to - from
  unfolding bytes_between
  length-between from to = length-map-range_with_len (file_byte shelf file) from (to - from)

  -- byte k of a range
  pub get_or-between : (from to k : ℕ) → from + k < to → get_or (bytes_between shelf file from to) k 0 ≡ file_byte shelf file (from + k)
  unfolding bytes_between
  get_or-between from to k less = get_or-map-range_with_len (file_byte shelf file) from (to - from) k (from + k) 0 (omega arith) refl

  -- none from one up to an earlier one
  pub between-none : (from to : ℕ) → to ≤ from → bytes_between shelf file from to ≡ []
  unfolding bytes_between
  between-none from to le = let e : to - from ≡ 0 = omega arith in rw e refl

  -- a range is its beginning, and the range behind
  pub between-more : (from mid to : ℕ) → from ≤ mid → mid ≤ to → bytes_between shelf file from mid ++ bytes_between shelf file mid to ≡ bytes_between shelf file from to
  unfolding bytes_between
  between-more from mid to le more =
      let whole : to - from ≡ (mid - from) + (to - mid) = omega arith in
      let start : from + (mid - from) ≡ mid = omega arith in
      sym (ap (λ (n : ℕ). map (file_byte shelf file) (range_with_len from n)) whole
      ∙ ap (map (file_byte shelf file)) (range-plus from (mid - from) (to - mid))
      ∙ map-append (file_byte shelf file) (range_with_len from (mid - from)) (range_with_len (from + (mid - from)) (to - mid))
      ∙ ap (λ (n : ℕ). map (file_byte shelf file) (range_with_len from (mid - from)) ++ map (file_byte shelf file) (range_with_len n (to - mid))) start)

  -- a part of a block that was read is that part of the file
  pub part_of_block : (block : List ℕ) (from to : ℕ) → length block ≡ 4096 → from < to → to ≤ 4096 * (from / 4096) + 4096
      → ((k : ℕ) → k < 4096 → get_or block k 0 ≡ byte_of shelf (file_block file (from / 4096)) k)
      → take (to - from) (drop (from % 4096) block) ≡ bytes_between shelf file from to
  part_of_block block from to long less high are =
      let rest : length (drop (from % 4096) block) ≡ 4096 - from % 4096 = length-drop (from % 4096) block ∙ ap (λ (n : ℕ). n - from % 4096) long in
      let size : length (take (to - from) (drop (from % 4096) block)) ≡ to - from = length-take-le (to - from) (drop (from % 4096) block) (omega arith) in
      same_number_lists (take (to - from) (drop (from % 4096) block)) (bytes_between shelf file from to) (size ∙ sym (length-between from to)) (λ k inside.
      let here : k < to - from = omega arith in
      let in_block : from % 4096 + k < 4096 = omega arith in
      get_or-take (to - from) (drop (from % 4096) block) k 0 here
      ∙ get_or-drop (from % 4096) block k 0
      ∙ are (from % 4096 + k) in_block
      ∙ place from k in_block
      ∙ sym (get_or-between from to k (omega arith)))
    where
      -- where byte k of the part stands in the file
      place : (from k : ℕ) → from % 4096 + k < 4096 → byte_of shelf (file_block file (from / 4096)) (from % 4096 + k) ≡ file_byte shelf file (from + k)
      place from k less =
          let one : from / 4096 ≡ (from + k) / 4096 = omega arith in
          let two : from % 4096 + k ≡ (from + k) % 4096 = omega arith in
          rw (one, two) refl

  -- the bytes up to the end of a read are what the read gives
  pub between-read_at : (at len : ℕ) → bytes_between shelf file at (min (at + min len 32768) file.size) ≡ read_at (plain_bytes shelf file) at len
  unfolding read_at
  between-read_at at len =
      let long = length-plain_bytes shelf file in
      let rest : length (drop at (plain_bytes shelf file)) ≡ file.size - at = length-drop at (plain_bytes shelf file) ∙ ap (λ (n : ℕ). n - at) long in
      let one = length-between at (min (at + min len 32768) file.size) in
      let two = length-take (min len 32768) (drop at (plain_bytes shelf file)) in
      same_number_lists (bytes_between shelf file at (min (at + min len 32768) file.size)) (take (min len 32768) (drop at (plain_bytes shelf file))) (omega arith) (λ k inside.
      let low : at + k < min (at + min len 32768) file.size = omega arith in
      let few : k < min len 32768 = omega arith in
      get_or-between at (min (at + min len 32768) file.size) k low
      ∙ sym (get_or-take (min len 32768) (drop at (plain_bytes shelf file)) k 0 few
      ∙ get_or-drop at (plain_bytes shelf file) k 0
      ∙ within-plain_bytes shelf file (at + k) (omega arith)))
