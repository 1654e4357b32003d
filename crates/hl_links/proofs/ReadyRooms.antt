-- The room for the blocks of a directory that change.
use Rattle.std.proofs.Common.{arith, ◌≡◌, ℕ, ◌+◌, ◌-◌, ◌/◌, ◌≤◌, length, ap, ◌∙◌, subst}
use Rattle.std.specs.Int.{div_ceil}
use Rattle.hl_placed.specs.Blocks.{blocks_of}
use Rattle.hl_store.specs.Values.{StoreValue}
use Rattle.hl_links.specs.declared.changing.DirectoryChange.{DirectoryChange}
use Rattle.hl_links.specs.Links.{IsPrepared, IsReady}

-- a first block that changes comes before the end
pub first_low : (from size first end : ℕ) → from ≤ size → first ≡ from / 4096 → end ≡ div_ceil size 4096 → first ≤ end
first_low from size first end le first_is end_is = omega arith

-- and a directory has so many blocks at most
pub end_low : (size end : ℕ) → size ≤ 4243456 → end ≡ div_ceil size 4096 → end ≤ 1036
end_low size end most end_is = omega arith

-- room for the blocks from one up to the end
room_between : (from size first end old new : ℕ) → from ≤ size → first ≡ from / 4096 → end ≡ div_ceil size 4096 → new ≡ old + (end - first) → new + from / 4096 ≡ old + blocks_of size
unfolding blocks_of
room_between from size first end old new le first_is end_is new_is = omega arith

-- A DIRECTORY IS READY to be changed
pub directory_ready : {M : Type 0} (old new : StoreValue M) (change : DirectoryChange) (size first end : ℕ) → size ≡ length change.bytes.items → size ≤ 4243456 → change.from ≤ size
    → first ≡ change.from / 4096 → end ≡ div_ceil size 4096 → IsPrepared old new change.number (end - first) → IsReady old new change
directory_ready old new change size first end size_is most le first_is end_is prepared = record {
  within = subst (λ n. change.from ≤ n) size_is le;
  size = subst (λ n. n ≤ 4243456) size_is most;
  room = room_between change.from size first end old.overlay.room new.overlay.room le first_is end_is prepared.room ∙ ap (λ n. old.overlay.room + blocks_of n) size_is;
}
