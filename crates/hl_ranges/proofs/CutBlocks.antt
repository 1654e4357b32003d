-- The block in which a cut ends.
use Rattle.std.proofs.Common.{◌≡◌, ◌-◌, ◌/◌, ◌%◌, ◌<◌, ◌≤◌, ◌⊎◌, inl, inr, ℕ, Bool, false, true≢false, List, length, get_or, take, drop, replicate, Option, ◌∙◌, ap, sym, arith}
use Rattle.std.proofs.lemmas.List.{get_or-replicate, length-drop, length-replicate, length-take}
use Rattle.hl_media.specs.History.{History}
use Rattle.hl_placed.specs.Blocks.{plain_bytes}
use Rattle.hl_store.specs.Values.{StoreValue}
use Rattle.hl_ranges.specs.Writing.{CutsEdge, ReadsEdge}
use Rattle.hl_ranges.proofs.WrittenBlocks.{cut_is}
use Rattle.hl_ranges.proofs.PatchedNodes.{none_cut, some_cut}
use borrow.Rule.Slice.PartMut.{put_mid}

module _ {M : Type 0} (history : M → Option History) (v : StoreValue M) (ino before size : ℕ) where
  -- nothing is cut
  pub cuts_none : (edge : List ℕ) → (before ≤ size) ⊎ (size % 4096 ≡ 0) → CutsEdge history v ino before size edge false
  cuts_none edge why = (
    λ e. absurd (true≢false (sym e)),
    λ h told c lies shelf file shows has before_is. none_cut shelf file size edge (elim why as (λ _. (file.size ≤ size) ⊎ (size % 4096 ≡ 0)) [
      | inl le ↦ inl (omega arith)
      | inr even ↦ inr even
    ]),
  )

  -- the rest of a block becomes zeros
  pub cuts_edge : (out zeroed : List ℕ) (is_own : Bool) → size < before → 0 < size % 4096 → length out ≡ 4096 → zeroed ≡ replicate (length (take (length out - size % 4096) (drop (size % 4096) out))) 0
      → ReadsEdge history v ino (size / 4096) out is_own → CutsEdge history v ino before size (put_mid (size % 4096) (length out - size % 4096) out zeroed) is_own
  cuts_edge out zeroed is_own short within long zeroed_is read = (
    λ e. within,
    λ h told c lies shelf file shows has before_is. (
        let old = read h told c lies shelf file shows has in
        let shrinks : size < file.size = omega arith in
        let count : length (take (length out - size % 4096) (drop (size % 4096) out)) ≡ length out - size % 4096 = simp (length-take, length-drop) (omega arith) in
        let zeros_are : zeroed ≡ replicate (length out - size % 4096) 0 = zeroed_is ∙ ap (λ n. replicate n 0) count in
        some_cut shelf file size (put_mid (size % 4096) (length out - size % 4096) out zeroed) is_own shrinks within old.own
        (cut_is size out zeroed (plain_bytes shelf file) long (ap length zeros_are ∙ length-replicate (length out - size % 4096) 0) (λ k lt. ap (λ bs. get_or bs k 0) zeros_are ∙ get_or-replicate (length out - size % 4096) k 0 0 lt) old.is)),
  )
