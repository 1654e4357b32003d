-- Worked examples of charges, needs and the order of migration, computed.
use Rattle.std.proofs.Common.{arith, ◌≡◌, ℕ, ◌+◌, List, [], ◌∷◌, ◌++◌, true, replicate, length, map, Ok, refl, ap, ◌∙◌}
use Rattle.std.specs.List.{range_with_len}
use Rattle.std.specs.FinMap.{insert, entries, entries-insert, get-entries}
use Rattle.hl_tree.specs.declared.call.Call.TheVariants as calls
use Rattle.hl_tree.specs.declared.call.Limits.{Limits}
use Rattle.hl_tree.specs.declared.call.Reply.TheVariants as replies
use Rattle.hl_tree.specs.declared.node.Node.TheVariants.{Dir, File}
use Rattle.hl_tree.specs.Contents.{written, read_at}
use Rattle.hl_tree.specs.OtherContents.{changed_at}
use Rattle.hl_tree.specs.Tree.{content_at, walk, walk_to_parent, names_in}
use Rattle.hl_tree.specs.Rules.{read, write, outcome, reply}
use Rattle.hl_tree_laws.proofs.Contents.{length-written}
use Rattle.hl_tree.proofs.Maps.{path_total}
use Rattle.hl_placed.specs.Blocks.{no_shelf, PlacedFile, Block, Hole, Here, Away, plain_bytes, blocks_of, padded_block, listed}
use Rattle.hl_placed.specs.Changes.{rewritten, meets, covers, ends_within, written_file, new_file}
use Rattle.hl_placed.specs.Placed.{PlacedTree, plain}
use Rattle.hl_placed.specs.Calls.{placed_after, need}
use Rattle.hl_placed.specs.Charges.{charge, charge_after, is_over}
use Rattle.hl_placed.specs.Ranking.{ranked}
use Rattle.hl_placed.proofs.Changes.{length-plain_bytes}
use Rattle.hl_placed.proofs.Plain.{get-plain}

abbrev a : List (List ℕ)
a = (97 ∷ []) ∷ []

-- a site with 511 nodes at most
abbrev limits : Limits
limits = record { nodes = 511; bytes = 4243456 }

-- a file of 60 resident blocks
abbrev sixty : List ℕ → PlacedFile
sixty x = record { size = 245760; used = 0; blocks = replicate 60 (Here x) }

module _ (x y : List ℕ) (t : PlacedTree) (h : entries t ≡ ([], Dir) ∷ (a, File (sixty x)) ∷ []) where
  -- the root 2, the inode 1, the pointer block 1, data 60
  pub sixty_blocks_are_charged_64 : charge t ≡ 64
  unfolding charge names_in blocks_of
  sixty_blocks_are_charged_64 = simp h refl

  abbrev w : List ℕ
  w = written (plain_bytes no_shelf (sixty x)) 245760 y

  abbrev more : PlacedFile
  more = record { size = 249856; used = 0; blocks = replicate 60 (Here x) ++ Here (padded_block w 60) ∷ [] }

  changed_sixty : (bytes : List ℕ) → length bytes ≡ 249856 → rewritten (sixty x) bytes (meets 245760 249856) 0 ≡ record { size = 249856; used = 0; blocks = replicate 60 (Here x) ++ Here (padded_block bytes 60) ∷ [] }
  unfolding rewritten blocks_of meets
  changed_sixty bytes long = simp long refl

  length-w : length y ≡ 4096 → length w ≡ 249856
  length-w long = length-written (plain_bytes no_shelf (sixty x)) 245760 y ∙ (let one = length-plain_bytes no_shelf (sixty x) in omega arith)

  written_sixty : length y ≡ 4096 → written_file no_shelf (sixty x) 245760 y 0 ≡ more
  unfolding written_file
  written_sixty long = ap (λ n. rewritten (sixty x) w (meets 245760 (245760 + n)) 0) long ∙ changed_sixty w (length-w long)

  charge_more : charge (insert t a (File more)) ≡ 65
  unfolding charge names_in blocks_of
  charge_more = simp (entries-insert, path_total, h) refl

  accepts_more : length y ≡ 4096 → outcome limits (plain no_shelf t) (calls.Write a 245760 y) ≡ Ok (replies.Ok, insert (plain no_shelf t) a (File w))
  unfolding write content_at walk walk_to_parent
  accepts_more long = simp (long, get-plain, get-entries, h) refl

  after_more : length y ≡ 4096 → charge_after limits t 0 (calls.Write a 245760 y) ≡ 65
  unfolding charge_after placed_after changed_at
  after_more long = rw (accepts_more long) (simp (long, get-entries, h, written_sixty long) charge_more)

  -- the 61st block is too many for a quota of 64
  pub one_block_more_is_over : length y ≡ 4096 → is_over 64 limits t 0 (calls.Write a 245760 y) ≡ true
  one_block_more_is_over long = rw (accepts_more long) (simp (after_more long, sixty_blocks_are_charged_64) refl)

-- the same file once it is staged
abbrev away_blocks : List Block
away_blocks = map (λ i. Away 1 (i + 1)) (range_with_len 0 60)

abbrev away : PlacedFile
away = record { size = 245760; used = 0; blocks = away_blocks }

module _ (y : List ℕ) (t : PlacedTree) (h : entries t ≡ ([], Dir) ∷ (a, File away) ∷ []) where
  pub away_blocks_are_free : charge t ≡ 4
  unfolding charge names_in blocks_of
  away_blocks_are_free = simp h refl

  pub ten_blocks_behind_them_are_charged_ten : (bytes : List ℕ) → charge (insert t a (File (record { size = 286720; used = 0; blocks = away_blocks ++ map (λ i. Here (padded_block bytes (60 + i))) (range_with_len 0 10) }))) ≡ 14
  unfolding charge names_in blocks_of
  ten_blocks_behind_them_are_charged_ten bytes = simp (entries-insert, path_total, h) refl

  pub a_read_needs_its_segment : need t (calls.Read a 0 4) ≡ 1 ∷ []
  unfolding meets
  a_read_needs_its_segment = simp (get-entries, h) refl

  pub a_read_past_the_end_needs_nothing : need t (calls.Read a 245760 1) ≡ []
  unfolding meets
  a_read_past_the_end_needs_nothing = simp (get-entries, h) refl

  pub a_write_of_a_whole_block_needs_nothing : length y ≡ 4096 → need t (calls.Write a 0 y) ≡ []
  unfolding meets covers
  a_write_of_a_whole_block_needs_nothing long = simp (get-entries, h, long) refl

  pub a_write_of_one_byte_needs_its_block : need t (calls.Write a 0 (255 ∷ [])) ≡ 1 ∷ []
  unfolding meets covers
  a_write_of_one_byte_needs_its_block = simp (get-entries, h) refl

  pub a_write_across_a_border_needs_both_blocks : length y ≡ 4096 → need t (calls.Write a 100 y) ≡ 1 ∷ 1 ∷ []
  unfolding meets covers
  a_write_across_a_border_needs_both_blocks long = simp (get-entries, h, long) refl

  pub a_cut_within_a_block_needs_it : need t (calls.Cut a 5000) ≡ 1 ∷ []
  unfolding ends_within
  a_cut_within_a_block_needs_it = simp (get-entries, h) refl

  pub a_cut_between_blocks_needs_nothing : need t (calls.Cut a 8192) ≡ []
  unfolding ends_within
  a_cut_between_blocks_needs_nothing = simp (get-entries, h) refl

-- HOLES

-- a write behind the end leaves holes before it
pub a_gap_is_holes : (bytes : List ℕ) → length bytes ≡ 12289 → rewritten (record { size = 0; used = 0; blocks = [] }) bytes (meets 12288 12289) 7 ≡ record { size = 12289; used = 7; blocks = Hole ∷ Hole ∷ Hole ∷ Here (padded_block bytes 3) ∷ [] }
unfolding rewritten blocks_of meets
a_gap_is_holes bytes long = simp long refl

-- so do bytes past it, and a read of the gap gives zeros
module _ (x : List ℕ) (t : PlacedTree) (h : entries t ≡ ([], Dir) ∷ (a, File (record { size = 4097; used = 0; blocks = Hole ∷ Here (7 ∷ x) ∷ [] })) ∷ []) where
  pub a_gap_reads_as_zeros : reply limits (plain no_shelf t) (calls.Read a 4093 9) ≡ replies.Data (0 ∷ 0 ∷ 0 ∷ 7 ∷ [])
  unfolding read read_at content_at walk walk_to_parent plain_bytes
  a_gap_reads_as_zeros = simp (get-plain, get-entries, h) refl

-- a byte at the last place of the greatest file: the root 2, the inode 1, the pointer block 1, data 1
module _ (t : PlacedTree) (h : entries t ≡ ([], Dir) ∷ (a, File (new_file 0)) ∷ []) where
  abbrev far : List ℕ
  far = written (plain_bytes no_shelf (new_file 0)) 4243455 (1 ∷ [])

  abbrev far_file : List ℕ → PlacedFile
  far_file bytes = record { size = 4243456; used = 0; blocks = listed 1035 (λ i. Hole) ++ Here (padded_block bytes 1035) ∷ [] }

  rewritten_far : (bytes : List ℕ) → length bytes ≡ 4243456 → rewritten (new_file 0) bytes (meets 4243455 4243456) 0 ≡ far_file bytes
  unfolding rewritten blocks_of meets
  rewritten_far bytes long = simp long refl

  length-far : length far ≡ 4243456
  length-far = length-written (plain_bytes no_shelf (new_file 0)) 4243455 (1 ∷ []) ∙ (let one = length-plain_bytes no_shelf (new_file 0) in omega arith)

  written_far : written_file no_shelf (new_file 0) 4243455 (1 ∷ []) 0 ≡ far_file far
  unfolding written_file
  written_far = rewritten_far far length-far

  charge_far : charge (insert t a (File (far_file far))) ≡ 5
  unfolding charge names_in blocks_of
  charge_far = simp (entries-insert, path_total, h) refl

  accepts_far : outcome limits (plain no_shelf t) (calls.Write a 4243455 (1 ∷ [])) ≡ Ok (replies.Ok, insert (plain no_shelf t) a (File far))
  unfolding write content_at walk walk_to_parent
  accepts_far = simp (get-plain, get-entries, h) refl

  pub the_last_byte_is_charged_5 : charge_after limits t 0 (calls.Write a 4243455 (1 ∷ [])) ≡ 5
  unfolding charge_after placed_after changed_at
  the_last_byte_is_charged_5 = rw accepts_far (simp (get-entries, h, written_far) charge_far)

-- ORDER OF MIGRATION

-- the products are 30 and 20
module _ (x : List ℕ) (t : PlacedTree) (h : entries t ≡ ([], Dir) ∷ (a, File (record { size = 1; used = 10; blocks = Here x ∷ [] })) ∷ ((98 ∷ []) ∷ [], File (record { size = 12288; used = 20; blocks = Here x ∷ Here x ∷ Here x ∷ [] })) ∷ []) where
  pub the_greater_product_comes_first : ranked 30 t ≡ ((98 ∷ []) ∷ []) ∷ a ∷ []
  unfolding ranked
  the_greater_product_comes_first = simp h refl

  -- where now is earlier each difference is 0, and the paths decide
  pub paths_decide_among_equals : ranked 5 t ≡ a ∷ ((98 ∷ []) ∷ []) ∷ []
  unfolding ranked
  paths_decide_among_equals = simp h refl
