-- Bytes of blocks, one behind the other.
use Rattle.std.proofs.Common.{◌≡◌, ⊎_elim, ℕ, ◌+◌, ◌-◌, ◌*◌, ◌<◌, ◌≤◌, List, ◌++◌, length, get_or, take, sym, ◌∙◌, ap, arith, length-append}
use Rattle.std.specs.Prelude.{slice_index}
use Rattle.std.proofs.lemmas.Bool.{cases_lt}
use Rattle.std.proofs.lemmas.Grind.{same_number_lists}
use Rattle.std.proofs.lemmas.List.{get_or_append_left, get_or_past, get_or-replicate, take_all}
use Rattle.std.proofs.Math.Seq.{get_or-append_right}
use Rattle.hl_media.specs.History.{Image}
use Rattle.hl_bytes.specs.Fields.{zeros}
use Rattle.hl_bytes.proofs.PageLemmas.{length-zeros}
use Rattle.hl_placed.specs.Blocks.{padded_block}
use Rattle.hl_placed.proofs.Blocks.{get_or-padded_block, length-padded_block}

-- blocks are one where their bytes are
same_padded : (a b : List ℕ) (i j : ℕ) → ((k : ℕ) → k < 4096 → get_or a (4096 * i + k) 0 ≡ get_or b (4096 * j + k) 0) → padded_block a i ≡ padded_block b j
same_padded a b i j same =
    let one = length-padded_block a i in
    let two = length-padded_block b j in
    same_number_lists (padded_block a i) (padded_block b j) (one ∙ sym two) (λ k h.
    let few : k < 4096 = omega arith in
    get_or-padded_block a i k few ∙ same k few ∙ sym (get_or-padded_block b j k few))

module _ (bytes out : List ℕ) (n : ℕ) (size : length bytes ≡ 4096 * n) where
  -- a block before stays
  front_block : (j : ℕ) → j < n → padded_block bytes j ≡ padded_block (bytes ++ out) j
  front_block j lt = same_padded bytes (bytes ++ out) j j (λ k few.
      let within : 4096 * j + k < length bytes = omega arith in
      sym (get_or_append_left bytes out 0 (4096 * j + k) within))

  -- and the last is the one put behind
  last_block : length out ≡ 4096 → out ≡ padded_block (bytes ++ out) n
  last_block whole =
      let two = length-padded_block (bytes ++ out) n in
      same_number_lists out (padded_block (bytes ++ out) n) (whole ∙ sym two) (λ k h.
      let few : k < 4096 = omega arith in
      let past : length bytes ≤ 4096 * n + k = omega arith in
      let place : 4096 * n + k - length bytes ≡ k = omega arith in
      sym (get_or-padded_block (bytes ++ out) n k few ∙ get_or-append_right bytes out (4096 * n + k) 0 past ∙ ap (λ (m : ℕ). get_or out m 0) place))

  pub blocks_size : length out ≡ 4096 → (new : List ℕ) → new ≡ bytes ++ out → length new ≡ 4096 * (n + 1)
  blocks_size whole new is =
      let e = ap length is in
      let both = length-append bytes out in
      omega arith

  -- ONE BLOCK MORE
  pub blocks_more : (image : Image) (pointers : List ℕ) → length out ≡ 4096 → (new : List ℕ) → new ≡ bytes ++ out → ((j : ℕ) → j < n → image (slice_index pointers j) ≡ padded_block bytes j)
      → image (slice_index pointers n) ≡ out → (j : ℕ) → j < n + 1 → image (slice_index pointers j) ≡ padded_block new j
  blocks_more image pointers whole new is before here j lt = ⊎_elim
      (λ low. before j low ∙ front_block j low ∙ ap (λ (l : List ℕ). padded_block l j) (sym is))
      (λ high. (let same : j ≡ n = omega arith in
      ap (λ (m : ℕ). image (slice_index pointers m)) same ∙ here ∙ last_block whole ∙ ap (padded_block (bytes ++ out)) (sym same) ∙ ap (λ (l : List ℕ). padded_block l j) (sym is)))
      (cases_lt j n)

-- zeros are zero at each place
zero_at : (m i : ℕ) → get_or (zeros m) i 0 ≡ 0
unfolding zeros
zero_at m i = ⊎_elim (λ lt. get_or-replicate m i 0 0 lt) (λ ge. get_or_past (zeros m) i 0 (past ge)) (cases_lt i m)
  where
    past : m ≤ i → length (zeros m) ≤ i
    past ge = (let long = length-zeros m in omega arith)

-- bytes that zeros follow are the same at each place
pub zeros_behind : (front : List ℕ) (m i : ℕ) → get_or (front ++ zeros m) i 0 ≡ get_or front i 0
zeros_behind front m i = ⊎_elim
    (λ lt. get_or_append_left front (zeros m) 0 i lt)
    (λ ge. get_or-append_right front (zeros m) i 0 ge ∙ zero_at m (i - length front) ∙ sym (get_or_past front i 0 ge))
    (cases_lt i (length front))

-- the blocks of bytes that zeros follow are those of the bytes alone
pub cut_block : (bytes front : List ℕ) (m : ℕ) → take (length bytes) bytes ≡ front ++ zeros m → (i : ℕ) → padded_block bytes i ≡ padded_block front i
cut_block bytes front m is i =
    let whole : bytes ≡ front ++ zeros m = sym (take_all (length bytes) bytes (omega arith)) ∙ is in
    same_padded bytes front i i (λ k few. ap (λ (l : List ℕ). get_or l (4096 * i + k) 0) whole ∙ zeros_behind front m (4096 * i + k))
