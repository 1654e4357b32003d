-- The bytes of a directory, read block by block.
use Rattle.std.proofs.Common.{arith, ◌≡◌, ℕ, ◌+◌, ◌-◌, ◌*◌, ◌/◌, ◌%◌, ◌<◌, ◌≤◌, ◌⊎◌, List, ◌++◌, length, get_or, take, drop, inl, inr, Option, Some, refl, ◌∙◌, ap, sym, subst}
use Rattle.std.specs.FinMap.{get}
use Rattle.std.specs.Int.{div_ceil}
use Rattle.std.proofs.lemmas.Bool.{cases_lt}
use Rattle.std.proofs.lemmas.Grind.{same_number_lists}
use Rattle.std.proofs.lemmas.List.{get_or-take, length-take-le, take-append-le, take_all}
use Rattle.std.proofs.lemmas.List.FromFn.{get_or-map-range_with_len}
use Rattle.hl_media.specs.History.{History, MachineState, state_now}
use Rattle.hl_bytes.specs.Fields.{zeros}
use Rattle.hl_log.specs.Logs.{OnlyReads}
use Rattle.hl_inode.specs.declared.inode.Kind.{Kind}
use Rattle.hl_inode.specs.declared.inode.Kind.TheVariants.{Dir}
use Rattle.hl_placed.specs.Blocks.{Block, Here, Hole, blocks_of, padded_block}
use Rattle.hl_placed.proofs.Blocks.{get_or-padded_block}
use Rattle.hl_paths.specs.Nodes.{FlatNode}
use Rattle.hl_nodes.specs.Contents.{Contents}
use Rattle.hl_overlaid.specs.NodesNow.{old_block}
use Rattle.hl_overlaid.proofs.NowLemmas.{one}
use Rattle.hl_store.specs.declared.answers.Node.{Node}
use Rattle.hl_store.specs.Values.{StoreValue}
use Rattle.hl_store.specs.Lying.{LiesOver, block_of_number}
use Rattle.hl_store.specs.declared.answers.Found.{Found}
use Rattle.hl_store.specs.declared.answers.Found.TheVariants as found
use Rattle.hl_store.specs.Finding.{BlockNow, FindsBlock, HasBytes, HasNodeFound, OverNow, ReadsNodes}
use Rattle.hl_store.specs.Shapes.{IsNumber}
use Rattle.hl_store.specs.Changes.{IsDraftedAs}
use Rattle.hl_store.proofs.ReadRuns.{now_before, reads_none, reads_then}
use Rattle.hl_ranges.specs.Directories.{HasDirectory, HasDirectoryDraft, HasInPlace, HasKind, directory_node, directory_shape}
use Rattle.hl_ranges.proofs.FoundFiles.{drafted_still}
use Rattle.hl_ranges.proofs.ReadSteps.{reads_nodes_none, reads_nodes_then}
use Rattle.hl_ranges.proofs.WrittenBlocks.{before_part, in_part}
use borrow.Rule.Slice.PartMut.{put_mid}

-- a block that is resident has these bytes
abbrev pub IsOwn : Block → List ℕ → Type 0
IsOwn block out = (own : List ℕ) → block ≡ Here own → out ≡ own

-- no hole is resident
pub hole_own : (block : Block) (out : List ℕ) → block ≡ Hole → IsOwn block out
hole_own block out hole own here = absurd (let e : Hole ≡ Here own = sym hole ∙ here in none e)
  where
    none : {own : List ℕ} → Hole ≡ Here own → ⊥
    none e = cc

-- what was found of a resident block are its bytes
pub bytes_own : {M : Type 0} (v : StoreValue M) (s : MachineState) (block : Block) (out : List ℕ) → HasBytes v s block out → IsOwn block out
bytes_own v s block out has own here = sym (let held : HasBytes v s (Here own) out = subst (λ b. HasBytes v s b out) here has in held)

-- so it is of a block whose bytes were found, or that was found to be a hole
pub block_own : {M : Type 0} (history : M → Option History) (faults : M → ℕ) (old new : StoreValue M) (ino i : ℕ) (out : List ℕ) (result : Found) → (result ≡ found.Bytes) ⊎ (result ≡ found.Hole)
    → FindsBlock history faults old new ino i out result → BlockNow history old ino i (λ s block. IsOwn block out)
block_own history faults old new ino i out result (inl is) finds h told c lies =
    let has : BlockNow history old ino i (λ s block. HasBytes old s block out) = subst (FindsBlock history faults old new ino i out) is finds in
    bytes_own old (state_now h) (block_of_number old c ino i) out (has h told c lies)
block_own history faults old new ino i out result (inr is) finds h told c lies =
    let hole : (out ≡ zeros 4096) × BlockNow history old ino i (λ s block. block ≡ Hole) = subst (FindsBlock history faults old new ino i out) is finds in
    hole_own (block_of_number old c ino i) out (hole.1 h told c lies)

-- a block put in its place, behind those before it
placed_more : (bytes out : List ℕ) (i j k start end : ℕ) → start ≡ 4096 * i → end ≡ start + 4096 → length out ≡ 4096 → end ≤ length bytes → j < i + 1 → k < 4096 → (own : List ℕ)
    → (j < i → get_or bytes (4096 * j + k) 0 ≡ get_or own k 0) → (j ≡ i → out ≡ own) → get_or (put_mid start (end - start) bytes out) (4096 * j + k) 0 ≡ get_or own k 0
placed_more bytes out i j k start end start_is end_is long fits lt few own before is = elim (cases_lt j i) as (λ _. get_or (put_mid start (end - start) bytes out) (4096 * j + k) 0 ≡ get_or own k 0) [
  | inl low ↦
      let inside : start ≤ length bytes = omega arith in
      let under : 4096 * j + k < start = omega arith in
      before_part start (end - start) bytes out inside (4096 * j + k) under ∙ before low
  | inr high ↦
      let inside : start ≤ length bytes = omega arith in
      let same : j ≡ i = omega arith in
      let from : start ≤ 4096 * j + k = omega arith in
      let to : 4096 * j + k < start + length out = omega arith in
      let place : 4096 * j + k - start ≡ k = omega arith in
      in_part start (end - start) bytes out inside (4096 * j + k) from to ∙ ap (λ n. get_or out n 0) place ∙ ap (λ (b : List ℕ). get_or b k 0) (is same)
]

-- THE BYTES OF A DIRECTORY are those of its blocks, up to its size
directory_bytes : (others bytes : List ℕ) (count size : ℕ) → size ≡ length others → count ≡ div_ceil size 4096 → length bytes ≡ 4096 * count
    → ((i k : ℕ) → i < count → k < 4096 → get_or bytes (4096 * i + k) 0 ≡ get_or (padded_block others i) k 0) → take size bytes ≡ others
directory_bytes others bytes count size size_is count_is long are =
    let fits : size ≤ length bytes = omega arith in
    let whole : length (take size bytes) ≡ size = length-take-le size bytes fits in
    same_number_lists (take size bytes) others (whole ∙ size_is) (λ j h.
    let low : j < size = omega arith in
    let here : j / 4096 < count = omega arith in
    let few : j % 4096 < 4096 = omega arith in
    let place : 4096 * (j / 4096) + j % 4096 ≡ j = omega arith in
    get_or-take size bytes j 0 low
    ∙ ap (λ n. get_or bytes n 0) (sym place)
    ∙ are (j / 4096) (j % 4096) here few
    ∙ get_or-padded_block others (j / 4096) (j % 4096) few
    ∙ ap (λ n. get_or others n 0) place)

-- bytes that were lent whole are what came back
pub whole_again : (own before : List ℕ) (n : ℕ) → n ≡ length own → take n (own ++ drop (length own) before) ≡ own
whole_again own before n is = ap (λ k. take k (own ++ drop (length own) before)) is ∙ take-append-le (length own) own (drop (length own) before) (omega arith) ∙ take_all (length own) own (omega arith)

-- block i of a directory of these bytes
pub directory_block : (bytes : List ℕ) (i : ℕ) → i < blocks_of (length bytes) → old_block (Some (directory_node bytes)) i ≡ Here (padded_block bytes i)
unfolding directory_node
directory_block bytes i within = get_or-map-range_with_len (λ j. Here (padded_block bytes j)) 0 (blocks_of (length bytes)) i i Hole within (omega arith)

-- and its size
directory_size : (bytes : List ℕ) → (directory_node bytes).content.size ≡ length bytes
unfolding directory_node
directory_size bytes = refl

-- a count of blocks reaches no further than the size
counted : (size i count : ℕ) → count ≡ div_ceil size 4096 → i < count → i < blocks_of size
unfolding blocks_of
counted size i count is lt = subst (λ n. i < n) is lt

module _ {M : Type 0} (history : M → Option History) (blocks faults write_faults say_faults : M → ℕ) (old : StoreValue M) (ino : ℕ) where
  -- only reads were made since, and the bytes have each block before this one in its place
  pub record BlocksSoFar (mid : StoreValue M) (i : ℕ) (bytes : List ℕ) : Type 0 where
    pub reads : ReadsNodes history old mid
    pub machine : OnlyReads history blocks faults write_faults say_faults old.log.machine mid.log.machine
    pub place : OverNow history old (λ s c. HasInPlace old c ino i bytes)

  -- no block is read yet
  pub blocks_none : (bytes : List ℕ) → BlocksSoFar old 0 bytes
  blocks_none bytes = record {
    reads = reads_nodes_none;
    machine = reads_none;
    place = λ h told c lies j k own lt few here. absurd (omega arith);
  }

  -- ONE BLOCK MORE
  pub blocks_more : (mid new : StoreValue M) (i start end : ℕ) (bytes out : List ℕ) → BlocksSoFar mid i bytes → start ≡ 4096 * i → end ≡ start + 4096 → length out ≡ 4096 → end ≤ length bytes
      → BlockNow history mid ino i (λ s block. IsOwn block out) → ReadsNodes history mid new → OnlyReads history blocks faults write_faults say_faults mid.log.machine new.log.machine
      → BlocksSoFar new (i + 1) (put_mid start (end - start) bytes out)
  blocks_more mid new i start end bytes out run start_is end_is long fits found reads machine = record {
    reads = reads_nodes_then run.machine run.reads reads;
    machine = reads_then run.machine machine;
    place = λ h told c lies j k own lt few here.
        let keeps = run.reads.keeps h told c lies in
        let found_then = now_before (history old.log.machine) (history mid.log.machine) (λ s. (c : Contents) → LiesOver mid c s → IsOwn (block_of_number mid c ino i) out) run.machine.unchanged found h told c keeps.over in
        placed_more bytes out i j k start end start_is end_is long fits lt few own
        (λ low. run.place h told c lies j k own low few here)
        (λ same. found_then own (ap (λ ns. old_block (get ns ino) i) keeps.nodes ∙ ap (λ n. block_of_number old c ino n) (sym same) ∙ here));
  }

  -- A DIRECTORY IS READ
  module _ (mid : StoreValue M) (node : Node) (reads : ReadsNodes history old mid) (machine : OnlyReads history blocks faults write_faults say_faults old.log.machine mid.log.machine)
      (found : OverNow history old (HasNodeFound old ino node)) where
    -- of what kind the number is
    pub kind_found : (kind : Kind) → node.kind ≡ kind → OverNow history old (λ s c. HasKind old c ino kind)
    kind_found kind is h told c lies =
        let n = found h told c lies in
        record { n = n.n; has = n.has; is = sym n.is.kind ∙ is }

    pub directory_found : (count : ℕ) (bytes : List ℕ) → node.kind ≡ Dir → count ≡ div_ceil node.size 4096 → length bytes ≡ 4096 * count → OverNow history mid (λ s c. HasInPlace mid c ino count bytes)
        → OverNow history old (λ s c. HasDirectory old c ino (take node.size bytes))
    directory_found count bytes kind count_is long place h told c lies = record {
      kind = kind_found Dir kind h told c lies;
      own = λ others at.
          let keeps = reads.keeps h told c lies in
          let place_then = now_before (history old.log.machine) (history mid.log.machine) (λ s. (c : Contents) → LiesOver mid c s → HasInPlace mid c ino count bytes) machine.unchanged place h told c keeps.over in
          let n = found h told c lies in
          let size_is : node.size ≡ length others = n.is.size ∙ ap (λ (x : FlatNode). x.content.size) (one n.has at) ∙ directory_size others in
          directory_bytes others bytes count node.size size_is count_is long (λ i k lt few.
          place_then i k (padded_block others i) lt few
          (ap (λ ns. old_block (get ns ino) i) keeps.nodes ∙ ap (λ x. old_block x i) at ∙ directory_block others i (subst (λ m. i < blocks_of m) size_is (counted node.size i count count_is lt))));
    }

-- IT IS DRAFTED STILL behind the reads
pub directory_drafted : {M : Type 0} (history : M → Option History) (mid new : StoreValue M) (ino : ℕ) (node : Node) (count : ℕ) (bytes : List ℕ) → ReadsNodes history mid new → IsNumber mid ino → IsDraftedAs mid ino node
    → node.kind ≡ Dir → count ≡ div_ceil node.size 4096 → length bytes ≡ 4096 * count → HasDirectoryDraft new ino (length (take node.size bytes))
directory_drafted history mid new ino node count bytes reads number drafted kind count_is long =
    let fits : node.size ≤ length bytes = omega arith in
    drafted_still history mid new reads ino (Some (directory_shape (length (take node.size bytes)))) number.high
    (drafted.shape
    ∙ ap (λ k. Some (Some (record { kind = k; size = node.size }))) kind
    ∙ ap (λ n. Some (Some (directory_shape n))) (sym (length-take-le node.size bytes fits)))
