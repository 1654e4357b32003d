-- What a write leaves in bytes that show a disk.
use Rattle.std.proofs.Common.{◌≡◌, ◌⊎◌, inl, inr, ℕ, ◌+◌, ◌-◌, ◌*◌, ◌/◌, ◌<◌, ◌≤◌, List, ◌++◌, length, take, drop, sym, ◌∙◌, ap, arith, length-append, length-drop}
use Rattle.std.proofs.lemmas.List.{length-take-le}
use Rattle.std.proofs.lemmas.Bool.{cases_lt}
use Rattle.hl_bytes.specs.Buffers.{block_of}
use Rattle.hl_media.specs.History.{Image, MachineState, MayLeave, begun, ended, overwritten}
use Rattle.hl_media.specs.History.DeviceCall.{Write}
use Rattle.hl_media.proofs.Images.{overwritten_in, overwritten_out}
use Rattle.hl_mem.proofs.Parts.{put, slice_block, below, inside, above}
use Rattle.hl_mem.specs.declared.tear.Tear.{Tear}
use Rattle.hl_mem.specs.Tears.{IsTorn}
use Rattle.hl_mem.specs.Kept.{Shows, SameOutside}

pub length_put : (xs ys : List ℕ) (at m : ℕ) → length ys ≡ m → 4096 * at + m ≤ length xs → length (put xs ys at m) ≡ length xs
length_put xs ys at m size fits = omega (
  arith,
  length-append (take (4096 * at) xs) (ys ++ drop m (drop (4096 * at) xs)),
  length-append ys (drop m (drop (4096 * at) xs)),
  length-drop m (drop (4096 * at) xs),
  length-drop (4096 * at) xs,
  length-take-le (4096 * at) xs (omega arith),
)

module _ (xs ys : List ℕ) (at m count : ℕ) (size : length ys ≡ m) (whole : m ≡ 4096 * count) (fits : 4096 * at + m ≤ length xs) where
  -- bytes in a part leave the blocks outside it
  pub put_outside : (k : ℕ) → (k < at) ⊎ (at + count ≤ k) → block_of (put xs ys at m) k ≡ block_of xs k
  put_outside k (inl lt) = below xs ys at m size fits k lt
  put_outside k (inr le) =
      let j = k - at in
      let e : at + j ≡ k = omega arith in
      ap (block_of (put xs ys at m)) (sym e) ∙ above xs ys at m size fits j (omega arith) ∙ ap (block_of xs) e

  -- a write of them leaves what they show
  pub put_shows : (image : Image) → ((k : ℕ) → image k ≡ block_of xs k) → (k : ℕ) → overwritten image at count ys k ≡ block_of (put xs ys at m) k
  put_shows image is k = elim (cases_lt k at) [
    | inl lt ↦ overwritten_out image at count ys k (inl lt) ∙ is k ∙ sym (put_outside k (inl lt))
    | inr le ↦ elim (cases_lt k (at + count)) [
      | inl lt ↦
          (let j = k - at in
          let e : at + j ≡ k = omega arith in
          overwritten_in image at count ys k le lt ∙ sym (inside xs ys at m size fits j (omega arith)) ∙ ap (block_of (put xs ys at m)) e)
      | inr past ↦ overwritten_out image at count ys k (inr past) ∙ is k ∙ sym (put_outside k (inr past))
    ]
  ]

-- a write of what is there leaves it
pub same_shows : (xs : List ℕ) (at m count : ℕ) → m ≡ 4096 * count → (image : Image) → ((k : ℕ) → image k ≡ block_of xs k) → (k : ℕ) → overwritten image at count (take m (drop (4096 * at) xs)) k ≡ block_of xs k
same_shows xs at m count whole image is k = elim (cases_lt k at) [
  | inl lt ↦ overwritten_out image at count _ k (inl lt) ∙ is k
  | inr le ↦ elim (cases_lt k (at + count)) [
    | inl lt ↦
        (let j = k - at in
        let e : at + j ≡ k = omega arith in
        overwritten_in image at count _ k le lt ∙ slice_block xs at m j (omega arith) ∙ ap (block_of xs) e)
    | inr past ↦ overwritten_out image at count _ k (inr past) ∙ is k
  ]
]

-- while a write is under way, any bytes stand in its blocks
pub write_begun : (s : MachineState) (at : ℕ) (bytes after left torn : List ℕ) → SameOutside at bytes left torn → MayLeave s (block_of left) → MayLeave (begun s (Write at bytes after)) (block_of torn)
write_begun s at bytes after left torn same may k free = same k free.0 ∙ may k free.1

-- and after it
pub write_shows : (tear : Tear) (s : MachineState) (at : ℕ) (bytes after now left over : List ℕ) → SameOutside at bytes left over → IsTorn tear (ended s (Write at bytes after)) over → Shows tear s now left
    → (next : List ℕ) → ((k : ℕ) → overwritten s.content at (length bytes / 4096) after k ≡ block_of next k) → Shows tear (ended s (Write at bytes after)) next over
write_shows tear s at bytes after now left over same is shows next content = record {
  content = content;
  image = λ k free. same k free.0 ∙ shows.image k free.1 ∙ sym (overwritten_out s.content at (length bytes / 4096) after k free.0);
  torn = is;
}
