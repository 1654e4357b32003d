-- The charge is no matter of bytes, nor of the shelf.
use Rattle.std.proofs.Common.{◌≡◌, ℕ, zero, suc, ◌+◌, ◌-◌, Bool, true, false, ◌||◌, cond, not, List, [], ◌∷◌, map, length, drop, Option, Some, None, nat_eq, refl, ap, ◌∙◌, sym, if◌then◌else◌}
use Rattle.std.proofs.lemmas.List.Sums.{sum_by-cons}
use Rattle.std.specs.List.{list_any, count_by, sum_by, range_with_len}
use Rattle.std.specs.FinMap.{get, entries, insert}
use Rattle.hl_tree.specs.declared.call.Call.{Call}
use Rattle.hl_tree.specs.declared.call.Call.TheVariants as calls
use Rattle.hl_tree.specs.declared.call.Limits.{Limits}
use Rattle.hl_tree.specs.declared.node.Node.{Node}
use Rattle.hl_tree.specs.declared.node.Node.TheVariants.{Dir, File}
use Rattle.hl_tree.specs.Contents.{written, resized}
use Rattle.hl_tree.specs.OtherContents.{node_map, mapped, map_contents, changed_at, put_changed}
use Rattle.hl_tree.proofs.Contents.{length-resized}
use Rattle.hl_tree_laws.proofs.Contents.{length-written}
use Rattle.hl_tree.proofs.Moved.{Names}
use Rattle.hl_tree_laws.proofs.OtherContents.{entries-map_contents, names_in-map_contents, map_contents-insert}
use Rattle.hl_placed.specs.Blocks.{Block, Hole, Here, Away, PlacedFile, Shelf, no_shelf, file_block, plain_bytes, blocks_of, padded_block, is_hole, is_here}
use Rattle.hl_placed.specs.Changes.{rewritten, meets, written_file, cut_file}
use Rattle.hl_placed.specs.Placed.{PlacedTree}
use Rattle.hl_placed.specs.Calls.{accepted, accepts, placed_after}
use Rattle.hl_placed.specs.Charges.{parts_charge, blocks_charge, names_charge, node_charge, charge, charge_after}
use Rattle.hl_placed.proofs.Changes.{length-plain_bytes}

-- a block without its bytes
abbrev bare : Block → Block
bare Hole = Hole
bare (Here bytes) = Here []
bare (Away serial position) = Away serial position

abbrev bare_file : PlacedFile → PlacedFile
bare_file file = record { size = file.size; used = file.used; blocks = map bare file.blocks }

hole-bare : (block : Block) → is_hole (bare block) ≡ is_hole block
hole-bare Hole = refl
hole-bare (Here bytes) = refl
hole-bare (Away serial position) = refl

here-bare : (block : Block) → is_here (bare block) ≡ is_here block
here-bare Hole = refl
here-bare (Here bytes) = refl
here-bare (Away serial position) = refl

any-bare : (blocks : List Block) (k : ℕ) → list_any (λ block. not (is_hole block)) (drop k (map bare blocks)) ≡ list_any (λ block. not (is_hole block)) (drop k blocks)
any-bare [] zero = refl
any-bare [] (suc k) = refl
any-bare (b ∷ blocks) zero = λ i. not (hole-bare b i) || any-bare blocks zero i
any-bare (b ∷ blocks) (suc k) = any-bare blocks k

count-bare : (blocks : List Block) → count_by is_here (map bare blocks) ≡ count_by is_here blocks
count-bare [] = refl
count-bare (b ∷ blocks) =
    sum_by-cons (λ block. cond (is_here block) 1 0) (bare b) (map bare blocks)
    ∙ (λ i. cond (here-bare b i) 1 0 + count-bare blocks i)
    ∙ sym (sum_by-cons (λ block. cond (is_here block) 1 0) b blocks)

blocks_charge-bare : (blocks : List Block) → blocks_charge (map bare blocks) ≡ blocks_charge blocks
blocks_charge-bare blocks = λ i. parts_charge (any-bare blocks 12 i) (count-bare blocks i)

module _ (placed : PlacedTree) where
  node_charge-bare : (path : Names) (node : Node PlacedFile) → node_charge (map_contents bare_file placed) path (node_map bare_file node) ≡ node_charge placed path node
  node_charge-bare path Dir = ap names_charge (names_in-map_contents bare_file placed path)
  node_charge-bare path (File file) = blocks_charge-bare file.blocks

  sum-bare : (es : List (Names × Node PlacedFile)) → sum_by (λ e. node_charge (map_contents bare_file placed) e.0 e.1) (mapped bare_file es) ≡ sum_by (λ e. node_charge placed e.0 e.1) es
  sum-bare [] = refl
  sum-bare (e ∷ es) =
      sum_by-cons (λ e. node_charge (map_contents bare_file placed) e.0 e.1) (e.0, node_map bare_file e.1) (mapped bare_file es)
      ∙ (λ i. node_charge-bare e.0 e.1 i + sum-bare es i)
      ∙ sym (sum_by-cons (λ e. node_charge placed e.0 e.1) e es)

  -- the charge without any bytes
  charge-bare : charge (map_contents bare_file placed) ≡ charge placed
  unfolding charge
  charge-bare = ap (sum_by (λ e. node_charge (map_contents bare_file placed) e.0 e.1)) (entries-map_contents bare_file placed) ∙ sum-bare (entries placed)

-- files that differ in bytes alone
module _ (file : PlacedFile) (touched : ℕ → Bool) (now : ℕ) (one other : List ℕ) (same : length one ≡ length other) where
  bare_either : (i : ℕ) (b : Bool) → bare (if b then Here (padded_block one i) else file_block file i) ≡ bare (if b then Here (padded_block other i) else file_block file i)
  bare_either i true = refl
  bare_either i false = refl

  bare_blocks : (is : List ℕ) → map bare (map (λ i. if touched i then Here (padded_block one i) else file_block file i) is) ≡ map bare (map (λ i. if touched i then Here (padded_block other i) else file_block file i) is)
  bare_blocks [] = refl
  bare_blocks (i ∷ is) = λ j. bare_either i (touched i) j ∷ bare_blocks is j

  bare-rewritten : bare_file (rewritten file one touched now) ≡ bare_file (rewritten file other touched now)
  unfolding rewritten
  bare-rewritten = λ j. record {
    size = same j;
    used = now;
    blocks = (bare_blocks (range_with_len 0 (blocks_of (length one))) ∙ ap (λ n. map bare (map (λ i. if touched i then Here (padded_block other i) else file_block file i) (range_with_len 0 (blocks_of n)))) same) j;
  }

module _ (one other : Shelf) (placed : PlacedTree) where
  bare-written : (file : PlacedFile) (at : ℕ) (bytes : List ℕ) (now : ℕ) → bare_file (written_file one file at bytes now) ≡ bare_file (written_file other file at bytes now)
  unfolding written_file
  bare-written file at bytes now = bare-rewritten file (meets at (at + length bytes)) now (written (plain_bytes one file) at bytes) (written (plain_bytes other file) at bytes)
      (length-written (plain_bytes one file) at bytes ∙ ap (λ n. at + length bytes + (n - (at + length bytes))) (length-plain_bytes one file ∙ sym (length-plain_bytes other file)) ∙ sym (length-written (plain_bytes other file) at bytes))

  bare-cut : (file : PlacedFile) (size now : ℕ) → bare_file (cut_file one file size now) ≡ bare_file (cut_file other file size now)
  unfolding cut_file
  bare-cut file size now = bare-rewritten file _ now (resized (plain_bytes one file) size) (resized (plain_bytes other file) size)
      (length-resized (plain_bytes one file) size ∙ sym (length-resized (plain_bytes other file) size))

  bare-put : (path : Names) (f g : PlacedFile → PlacedFile) → ((file : PlacedFile) → bare_file (f file) ≡ bare_file (g file)) → (o : Option (Node PlacedFile)) → map_contents bare_file (put_changed placed path f o) ≡ map_contents bare_file (put_changed placed path g o)
  bare-put path f g same None = refl
  bare-put path f g same (Some Dir) = refl
  bare-put path f g same (Some (File file)) = map_contents-insert bare_file placed path (File (f file)) ∙ ap (λ x. insert (map_contents bare_file placed) path (File x)) (same file) ∙ sym (map_contents-insert bare_file placed path (File (g file)))

  bare-changed_at : (path : Names) (f g : PlacedFile → PlacedFile) → ((file : PlacedFile) → bare_file (f file) ≡ bare_file (g file)) → map_contents bare_file (changed_at placed path f) ≡ map_contents bare_file (changed_at placed path g)
  unfolding changed_at
  bare-changed_at path f g same = bare-put path f g same (get placed path)

  bare-write : (none : Bool) (path : Names) (at : ℕ) (bytes : List ℕ) (now : ℕ) → map_contents bare_file (if none then placed else changed_at placed path (λ file. written_file one file at bytes now)) ≡ map_contents bare_file (if none then placed else changed_at placed path (λ file. written_file other file at bytes now))
  bare-write true path at bytes now = refl
  bare-write false path at bytes now = bare-changed_at path _ _ (λ file. bare-written file at bytes now)

  bare-accepted : (now : ℕ) (call : Call) → map_contents bare_file (accepted one placed now call) ≡ map_contents bare_file (accepted other placed now call)
  bare-accepted now (calls.Write path at bytes) = bare-write (nat_eq (length bytes) 0) path at bytes now
  bare-accepted now (calls.Cut path size) = bare-changed_at path _ _ (λ file. bare-cut file size now)
  bare-accepted now call = refl

  bare-either : (now : ℕ) (call : Call) (b : Bool) → map_contents bare_file (if b then accepted one placed now call else placed) ≡ map_contents bare_file (if b then accepted other placed now call else placed)
  bare-either now call true = bare-accepted now call
  bare-either now call false = refl

  charge-shelves : (limits : Limits) (now : ℕ) (call : Call) → charge (placed_after limits one placed now call) ≡ charge (placed_after limits other placed now call)
  unfolding placed_after
  charge-shelves limits now call = sym (charge-bare (if accepts limits placed call then accepted one placed now call else placed)) ∙ ap charge (bare-either now call (accepts limits placed call)) ∙ charge-bare (if accepts limits placed call then accepted other placed now call else placed)

-- what a call leaves is charged alike, whichever the shelf
pub charge-placed_after : (limits : Limits) (shelf : Shelf) (placed : PlacedTree) (now : ℕ) (call : Call) → charge (placed_after limits shelf placed now call) ≡ charge_after limits placed now call
unfolding charge_after
charge-placed_after limits shelf placed now call = charge-shelves shelf no_shelf placed limits now call
