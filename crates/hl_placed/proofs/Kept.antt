-- Each call leaves placed files.
use Rattle.std.proofs.Common.{arith, ◌≡◌, ℕ, ◌+◌, ◌*◌, ◌/◌, ◌%◌, ◌<◌, ◌≤◌, Bool, true, false, ◌&&◌, not, List, length, drop, Option, Some, None, is_some, Ok, Err, nat_eq, ◌++◌, cond, refl, ap, ◌∙◌, sym, subst, if◌then◌else◌, inl, inr, nat_lt}
use Rattle.std.proofs.lemmas.Bool.{cases_lt}
use Rattle.std.proofs.lemmas.Bool.Decides.{nat_tests}
use Rattle.std.proofs.lemmas.List.{get_or_past}
use Rattle.std.proofs.lemmas.List.FromFn.{length-map-range_with_len}
use Rattle.std.specs.FinMap.{get, insert, remove, get-insert, get-remove}
use Rattle.std.specs.Ordering.{eq_by_cmp}
use Rattle.hl_tree.specs.declared.call.Limits.{Limits}
use Rattle.hl_tree.specs.declared.call.Call.{Call}
use Rattle.hl_tree.specs.declared.call.Call.TheVariants as calls
use Rattle.hl_tree.specs.declared.node.Node.{Node}
use Rattle.hl_tree.specs.declared.node.Node.TheVariants.{Dir, File}
use Rattle.hl_tree.specs.Contents.{resized, written}
use Rattle.hl_tree.specs.Names.{path_cmp, below}
use Rattle.hl_tree.specs.OtherContents.{changed_at, put_changed}
use Rattle.hl_tree.specs.Tree.{IsTree, moved, walk, walk_to_parent}
use Rattle.hl_tree.proofs.Maps.{path_total}
use Rattle.hl_tree.proofs.Moved.{Names, same}
use Rattle.hl_tree_laws.proofs.Moved.{get-moved, moved_get}
use Rattle.hl_tree_laws.proofs.MovedTree.{apart_paths}
use Rattle.hl_tree_laws.proofs.After.{rename_from_to, rename_to_from}
use Rattle.hl_tree.proofs.Contents.{length-resized}
use Rattle.hl_tree_laws.proofs.Contents.{length-written}
use Rattle.hl_tree.specs.Rules.{Files, Outcome, outcome, rename, replaced, is_directory}
use Rattle.hl_tree.specs.declared.call.Reply.{Reply}
use Rattle.hl_placed.specs.Blocks.{Block, Hole, Here, Away, PlacedFile, AwaysAre, SerialsAre, IsPlacedFile, Shelf, byte_of, file_block, plain_bytes, is_hole, blocks_of, padded_block}
use Rattle.hl_placed.specs.Changes.{rewritten, meets, ends_within, written_file, cut_file, cuts, new_file, used_at}
use Rattle.hl_placed.specs.Placed.{PlacedTree, EachFile, ArePlaced, plain}
use Rattle.hl_placed.specs.Calls.{accepted, is_accepted, placed_after}
use Rattle.hl_placed.proofs.Accepted.{accepts-plain}
use Rattle.hl_placed.proofs.Changes.{length-plain_bytes, size-rewritten, file_block-rewritten, byte_of-block}

module _ (shelf : Shelf) (file : PlacedFile) where
  length-rewritten : (bytes : List ℕ) (touched : ℕ → Bool) (now : ℕ) → length (rewritten file bytes touched now).blocks ≡ blocks_of (length bytes)
  unfolding rewritten
  length-rewritten bytes touched now = length-map-range_with_len _ 0 (blocks_of (length bytes))

  count-rewritten : (bytes : List ℕ) (touched : ℕ → Bool) (now : ℕ) → length (rewritten file bytes touched now).blocks ≡ blocks_of (rewritten file bytes touched now).size
  unfolding rewritten
  count-rewritten bytes touched now = length-map-range_with_len _ 0 (blocks_of (length bytes))

  length-padded_block : (bytes : List ℕ) (i : ℕ) → length (padded_block bytes i) ≡ 4096
  unfolding padded_block
  length-padded_block bytes i = length-resized (drop (4096 * i) bytes) 4096

  module _ (bytes : List ℕ) (touched : ℕ → Bool) (now : ℕ) where
    past : (i : ℕ) → blocks_of (length bytes) ≤ i → file_block (rewritten file bytes touched now) i ≡ Hole
    past i h = get_or_past (rewritten file bytes touched now).blocks i Hole (let e = length-rewritten bytes touched now in omega arith)

    full_either : IsPlacedFile shelf file → (i : ℕ) (b : Bool) (block : List ℕ) → (if b then Here (padded_block bytes i) else file_block file i) ≡ Here block → length block ≡ 4096
    full_either is i true block e = let same : padded_block bytes i ≡ block = cc in ap length (sym same) ∙ length-padded_block bytes i
    full_either is i false block e = is.full i block e

    zero_either : (j : ℕ) → length bytes ≤ j → (touched (j / 4096) ≡ false → byte_of shelf (file_block file (j / 4096)) (j % 4096) ≡ 0) → (b : Bool) → touched (j / 4096) ≡ b → byte_of shelf (if b then Here (padded_block bytes (j / 4096)) else file_block file (j / 4096)) (j % 4096) ≡ 0
    zero_either j h zero true e = byte_of-block shelf file bytes j ∙ get_or_past bytes j 0 h
    zero_either j h zero false e = zero e

    pub IsPlacedFile-rewritten : IsPlacedFile shelf file
        → ((j : ℕ) → length bytes ≤ j → j / 4096 < blocks_of (length bytes) → touched (j / 4096) ≡ false → byte_of shelf (file_block file (j / 4096)) (j % 4096) ≡ 0)
        → IsPlacedFile shelf (rewritten file bytes touched now)
    IsPlacedFile-rewritten is zero = record {
      count = count-rewritten bytes touched now;
      full = λ i block e. elim (cases_lt i (blocks_of (length bytes))) as (λ _. length block ≡ 4096) [
        | inl h ↦ full_either is i (touched i) block (sym (file_block-rewritten shelf file bytes touched now i h) ∙ e)
        | inr h ↦ let no : Hole ≡ Here block = sym (past i h) ∙ e in cc
      ];
      zeros = λ j h. elim (cases_lt (j / 4096) (blocks_of (length bytes))) as (λ _. byte_of shelf (file_block (rewritten file bytes touched now) (j / 4096)) (j % 4096) ≡ 0) [
        | inl k ↦ ap (λ block. byte_of shelf block (j % 4096)) (file_block-rewritten shelf file bytes touched now (j / 4096) k) ∙ zero_either j (long j h) (zero j (long j h) k) (touched (j / 4096)) refl
        | inr k ↦ ap (λ block. byte_of shelf block (j % 4096)) (past (j / 4096) k)
      ];
    }
      where
        long : (j : ℕ) → (rewritten file bytes touched now).size ≤ j → length bytes ≤ j
        long j h = subst (λ n. n ≤ j) (size-rewritten shelf file bytes touched now) h

  pub IsPlacedFile-written : IsPlacedFile shelf file → (at : ℕ) (bytes : List ℕ) (now : ℕ) → IsPlacedFile shelf (written_file shelf file at bytes now)
  unfolding written_file
  IsPlacedFile-written is at bytes now = IsPlacedFile-rewritten (written (plain_bytes shelf file) at bytes) (meets at (at + length bytes)) now is
      (λ j h k free. is.zeros j (let e = length-written (plain_bytes shelf file) at bytes in let f = length-plain_bytes shelf file in omega arith))

  within : (size i j : ℕ) → i < blocks_of size → size ≤ j → i ≡ j / 4096 → ends_within size i ≡ true
  unfolding blocks_of ends_within
  within size i j h k e = grind (arith, nat_tests)

  hole_byte : (block : Block) (k : ℕ) → is_hole block ≡ true → byte_of shelf block k ≡ 0
  hole_byte Hole k e = refl
  hole_byte (Here bytes) k e = cc
  hole_byte (Away serial position) k e = cc

  pub IsPlacedFile-cut : IsPlacedFile shelf file → (size now : ℕ) → IsPlacedFile shelf (cut_file shelf file size now)
  unfolding cut_file
  IsPlacedFile-cut is size now = IsPlacedFile-rewritten (resized (plain_bytes shelf file) size) (λ i. cuts file size i && not (is_hole (file_block file i))) now is (λ j h k free.
      let long = length-resized (plain_bytes shelf file) size in
      elim (cases_lt size file.size) as (λ _. byte_of shelf (file_block file (j / 4096)) (j % 4096) ≡ 0) [
        | inl less ↦ hole_byte (file_block file (j / 4096)) (j % 4096) (hole (nat_lt size file.size) (ends_within size (j / 4096)) (is_hole (file_block file (j / 4096)))
            (grind (arith, nat_tests)) (within size (j / 4096) j (subst (λ n. j / 4096 < blocks_of n) long k) (omega arith) refl) free)
        | inr more ↦ is.zeros j (omega arith)
      ])
    where
      hole : (b c d : Bool) → b ≡ true → c ≡ true → ((b && c) && not d) ≡ false → d ≡ true
      hole b c d e f g = grind arith

  pub IsPlacedFile-used_at : IsPlacedFile shelf file → (now : ℕ) → IsPlacedFile shelf (used_at now file)
  IsPlacedFile-used_at is now = record { count = is.count; full = is.full; zeros = is.zeros }

  pub IsPlacedFile-new : (now : ℕ) → IsPlacedFile shelf (new_file now)
  unfolding blocks_of
  IsPlacedFile-new now = record { count = refl; full = λ i bytes e. cc; zeros = λ j h. refl }

-- a Rename that moves has paths of which neither is at or below the other
pub rename_apart : (limits : Limits) (t : Files) → IsTree t → (from to : Names) (r : Reply) (new : Files) → rename limits t from to ≡ Ok (r, new) → eq_by_cmp path_cmp from to ≡ false → (rest : Names) → below to (from ++ rest) ≡ None
unfolding rename walk
rename_apart limits t is from to r new ok z =
    elim (get t from) as (λ o. get t from ≡ o → (rest : Names) → below to (from ++ rest) ≡ None) [
      | None ↦ λ e. let no : ⊥ = grind arith in absurd no
      | Some node ↦ λ e.
          let way : walk_to_parent t to ≡ Ok tt = grind arith in
          let not_into : (is_directory limits t node && is_some (below from to)) ≡ false = grind arith in
          let target : replaced limits t node to (get t to) ≡ Ok tt = grind arith in
          apart_paths from to
          (rename_from_to limits t is from to node e z way not_into target)
          (rename_to_from limits t is from to node e z way not_into target)
    ] refl

-- The tree's files stay placed files.
module _ (P : PlacedFile → Type 0) (placed : PlacedTree) (are : EachFile P placed) where
  file_after : (path : Names) (node : Node PlacedFile) → ((file : PlacedFile) → node ≡ File file → P file) → EachFile P (insert placed path node)
  file_after path node is q file there = elim (same q path) as (λ b. cond b (Some node) (get placed q) ≡ Some (File file) → P file) [
    | true ↦ λ e. is file cc
    | false ↦ λ e. are q file e
  ] (sym (get-insert path_total placed path node q) ∙ there)

  none_after : (path : Names) → EachFile P (remove placed path)
  none_after path q file there = elim (same q path) as (λ b. cond b None (get placed q) ≡ Some (File file) → P file) [
    | true ↦ λ e. cc
    | false ↦ λ e. are q file e
  ] (sym (get-remove path_total placed path q) ∙ there)

  put_after : (path : Names) (change : PlacedFile → PlacedFile) → ((file : PlacedFile) → get placed path ≡ Some (File file) → P file → P (change file)) → (o : Option (Node PlacedFile)) → get placed path ≡ o → EachFile P (put_changed placed path change o)
  put_after path change does None there = are
  put_after path change does (Some Dir) there = file_after path Dir (λ file e. cc)
  put_after path change does (Some (File file)) there = file_after path (File (change file)) (λ new e. let same : change file ≡ new = cc in subst P same (does file there (are path file there)))

  pub changed_at_after : (path : Names) (change : PlacedFile → PlacedFile) → ((file : PlacedFile) → get placed path ≡ Some (File file) → P file → P (change file)) → EachFile P (changed_at placed path change)
  unfolding changed_at
  changed_at_after path change does = put_after path change does (get placed path) refl

  either_after : (b : Bool) (one other : PlacedTree) → EachFile P one → EachFile P other → EachFile P (if b then one else other)
  either_after true one other is are = is
  either_after false one other is are = are

  moved_file : (from q : Names) (file : PlacedFile) (o : Option Names) → moved_get placed from q o ≡ Some (File file) → P file
  moved_file from q file (Some rest) there = are (from ++ rest) file there
  moved_file from q file None there = elim (is_some (below from q)) as (λ b. cond b None (get placed q) ≡ Some (File file) → P file) [
    | true ↦ λ e. cc
    | false ↦ λ e. are q file e
  ] there

  moved_after : (from to : Names) → ((rest : Names) → below to (from ++ rest) ≡ None) → EachFile P (moved placed from to)
  moved_after from to apart q file there = moved_file from q file (below to q) (sym (get-moved placed from to q apart) ∙ there)

  -- what a call may do to a file keeps P
  module _ (limits : Limits) (shelf : Shelf) (placed_files : ArePlaced shelf placed) (is : IsTree (plain shelf placed))
      (new : (now : ℕ) → P (new_file now)) (writes : (file : PlacedFile) → P file → (at : ℕ) (bytes : List ℕ) (now : ℕ) → P (written_file shelf file at bytes now))
      (cuts_it : (file : PlacedFile) → P file → (size now : ℕ) → P (cut_file shelf file size now)) (uses : (file : PlacedFile) → P file → (now : ℕ) → P (used_at now file)) where
    rename_after : (from to : Names) (r : Reply) (after : Files) → rename limits (plain shelf placed) from to ≡ Ok (r, after) → (b : Bool) → eq_by_cmp path_cmp from to ≡ b → EachFile P (if b then placed else moved placed from to)
    rename_after from to r after ok true e = are
    rename_after from to r after ok false e = moved_after from to (rename_apart limits (plain shelf placed) is from to r after ok e)

    accepted_after : (now : ℕ) (call : Call) (r : Reply) (after : Files) → outcome limits (plain shelf placed) call ≡ Ok (r, after) → EachFile P (accepted shelf placed now call)
    accepted_after now (calls.Mkdir path) r after ok = file_after path Dir (λ file e. cc)
    accepted_after now (calls.Create path) r after ok = file_after path (File (new_file now)) (λ file e. let same : new_file now ≡ file = cc in subst P same (new now))
    accepted_after now (calls.Write path at bytes) r after ok = either_after (nat_eq (length bytes) 0) placed _ are (changed_at_after path (λ file. written_file shelf file at bytes now) (λ file there f. writes file f at bytes now))
    accepted_after now (calls.Cut path size) r after ok = changed_at_after path (λ file. cut_file shelf file size now) (λ file there f. cuts_it file f size now)
    accepted_after now (calls.Read path at len) r after ok = changed_at_after path (used_at now) (λ file there f. uses file f now)
    accepted_after now (calls.Stat path) r after ok = are
    accepted_after now (calls.List path) r after ok = are
    accepted_after now (calls.Unlink path) r after ok = none_after path
    accepted_after now (calls.Rmdir path) r after ok = none_after path
    accepted_after now (calls.Rename from to) r after ok = rename_after from to r after ok (eq_by_cmp path_cmp from to) refl
    accepted_after now calls.Sync r after ok = are

    by_outcome : (now : ℕ) (call : Call) (o : Outcome) → outcome limits (plain shelf placed) call ≡ o → EachFile P (if is_accepted o then accepted shelf placed now call else placed)
    by_outcome now call (Ok done) ok = accepted_after now call done.0 done.1 ok
    by_outcome now call (Err why) ok = are

    pub each-placed_after : (now : ℕ) (call : Call) → EachFile P (placed_after limits shelf placed now call)
    unfolding placed_after
    each-placed_after now call = subst (λ b. EachFile P (if b then accepted shelf placed now call else placed)) (accepts-plain limits shelf placed call) (by_outcome now call (outcome limits (plain shelf placed) call) refl)

module _ (limits : Limits) (shelf : Shelf) (placed : PlacedTree) (are : ArePlaced shelf placed) (is : IsTree (plain shelf placed)) where
  -- each call leaves placed files
  pub ArePlaced-placed_after : (now : ℕ) (call : Call) → ArePlaced shelf (placed_after limits shelf placed now call)
  ArePlaced-placed_after = each-placed_after (IsPlacedFile shelf) placed are limits shelf are is
      (λ now. IsPlacedFile-new shelf (new_file now) now) (λ file f at bytes now. IsPlacedFile-written shelf file f at bytes now) (λ file f size now. IsPlacedFile-cut shelf file f size now) (λ file f now. IsPlacedFile-used_at shelf file f now)

-- a change puts no block away
module _ (shelf : Shelf) (S : ℕ → ℕ → Type 0) (file : PlacedFile) (below : AwaysAre S file) where
  either_below : (bytes : List ℕ) (i : ℕ) (b : Bool) (serial position : ℕ) → (if b then Here (padded_block bytes i) else file_block file i) ≡ Away serial position → S serial position
  either_below bytes i true serial position e = let no_away : ⊥ = cc in absurd no_away
  either_below bytes i false serial position e = below i serial position e

  AwaysAre-rewritten : (bytes : List ℕ) (touched : ℕ → Bool) (now : ℕ) → AwaysAre S (rewritten file bytes touched now)
  AwaysAre-rewritten bytes touched now i serial position e = elim (cases_lt i (blocks_of (length bytes))) as (λ _. S serial position) [
    | inl h ↦ either_below bytes i (touched i) serial position (sym (file_block-rewritten shelf file bytes touched now i h) ∙ e)
    | inr h ↦ let no_away : Hole ≡ Away serial position = sym (past shelf file bytes touched now i h) ∙ e in cc
  ]

  AwaysAre-written : (at : ℕ) (bytes : List ℕ) (now : ℕ) → AwaysAre S (written_file shelf file at bytes now)
  unfolding written_file
  AwaysAre-written at bytes now = AwaysAre-rewritten _ _ now

  AwaysAre-cut : (size now : ℕ) → AwaysAre S (cut_file shelf file size now)
  unfolding cut_file
  AwaysAre-cut size now = AwaysAre-rewritten _ _ now

module _ (limits : Limits) (shelf : Shelf) (placed : PlacedTree) (are : ArePlaced shelf placed) (is : IsTree (plain shelf placed)) (S : ℕ → ℕ → Type 0) (below : EachFile (AwaysAre S) placed) where
  -- no call puts a block away
  pub aways-placed_after : (now : ℕ) (call : Call) → EachFile (AwaysAre S) (placed_after limits shelf placed now call)
  aways-placed_after = each-placed_after (AwaysAre S) placed below limits shelf are is
      (λ now i serial position e. cc) (λ file f at bytes now. AwaysAre-written shelf S file f at bytes now) (λ file f size now. AwaysAre-cut shelf S file f size now) (λ file f now. f)

-- nor brings a serial
pub serials-placed_after : (limits : Limits) (shelf : Shelf) (placed : PlacedTree) → ArePlaced shelf placed → IsTree (plain shelf placed) → (S : ℕ → Type 0) → EachFile (SerialsAre S) placed → (now : ℕ) (call : Call) → EachFile (SerialsAre S) (placed_after limits shelf placed now call)
serials-placed_after limits shelf placed are is S below now call = aways-placed_after limits shelf placed are is (λ serial position. S serial) below now call
