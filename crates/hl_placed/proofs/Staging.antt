-- A staging leaves the plain tree.
use Rattle.std.proofs.Common.{arith, ◌≡◌, ℕ, ◌+◌, ◌*◌, ◌/◌, ◌%◌, ◌<◌, true, false, List, [], ◌∷◌, length, get_or, set, length-set, get_or-set_other, Option, Some, None, cond, refl, ap, ◌∙◌, sym, subst, ◌⊎◌, inl, inr, unwrap_or, T}
use Rattle.std.proofs.lemmas.Bool.{cases_lt}
use Rattle.std.proofs.lemmas.List.{get_or-set_same, get_or_past}
use Rattle.std.proofs.lemmas.Grind.{same_number_lists}
use Rattle.std.specs.Option.{option_map}
use Rattle.std.specs.Ordering.{nat_cmp, eq_by_cmp, is_eq}
use Rattle.std.specs.Cmp.{tied_itself, nat_cmp_total}
use Rattle.std.specs.FinMap.{get, insert, get-insert, nat_cmp-IsAntisymmetric}
use Rattle.hl_tree.specs.declared.node.Node.{Node}
use Rattle.hl_tree.specs.declared.node.Node.TheVariants.{Dir, File}
use Rattle.hl_tree.specs.OtherContents.{node_map}
use Rattle.hl_tree.specs.OtherContents.{changed_at}
use Rattle.hl_tree_laws.proofs.Lookups.{same_tree}
use Rattle.hl_tree.proofs.Moved.{Names}
use Rattle.hl_tree.proofs.NamesBelow.{equal}
use Rattle.hl_placed.specs.Blocks.{Block, Hole, Here, Away, PlacedFile, IsPlacedFile, AwaysAre, SerialsAre, Shelf, byte_of, file_block, plain_bytes}
use Rattle.hl_placed.specs.Placed.{PlacedTree, EachFile, ArePlaced, plain}
use Rattle.hl_placed.specs.Staging.{Spot, with_file_block, put_away, HoldsBlocks, IsNewSerial}
use Rattle.hl_placed.proofs.Changes.{length-plain_bytes, get_or-plain_bytes, within-plain_bytes}
use Rattle.hl_placed.proofs.Kept.{changed_at_after}
use Rattle.hl_placed.proofs.Plain.{get-plain, plain-changed_at_alike}

-- a file of the same size whose blocks have the same bytes
pub plain_bytes-alike : (s1 s2 : Shelf) (f1 f2 : PlacedFile) → f1.size ≡ f2.size
    → ((j : ℕ) → j < f1.size → byte_of s1 (file_block f1 (j / 4096)) (j % 4096) ≡ byte_of s2 (file_block f2 (j / 4096)) (j % 4096))
    → plain_bytes s1 f1 ≡ plain_bytes s2 f2
plain_bytes-alike s1 s2 f1 f2 size same =
    let one = length-plain_bytes s1 f1 in
    let two = length-plain_bytes s2 f2 in
    same_number_lists _ _ (one ∙ size ∙ sym two) (λ j h. within-plain_bytes s1 f1 j (omega arith) ∙ same j (omega arith) ∙ sym (within-plain_bytes s2 f2 j (omega arith)))

module _ (shelf : Shelf) where
  -- a block that is set stands at its index, and nothing else changes
  block_set : (file : PlacedFile) (i : ℕ) (block : Block) (q : ℕ) → ((q ≡ i) × (get_or (set file.blocks i block) q Hole ≡ block)) ⊎ (get_or (set file.blocks i block) q Hole ≡ file_block file q)
  block_set file i block q = elim (cases_lt q i) as (λ _. ((q ≡ i) × (get_or (set file.blocks i block) q Hole ≡ block)) ⊎ (get_or (set file.blocks i block) q Hole ≡ file_block file q)) [
    | inl h ↦ inr (get_or-set_other file.blocks i q block Hole (λ e. omega arith))
    | inr h ↦ elim (cases_lt i q) as (λ _. ((q ≡ i) × (get_or (set file.blocks i block) q Hole ≡ block)) ⊎ (get_or (set file.blocks i block) q Hole ≡ file_block file q)) [
      | inl g ↦ inr (get_or-set_other file.blocks i q block Hole (λ e. omega arith))
      | inr g ↦ let e : q ≡ i = omega arith in elim (cases_lt q (length file.blocks)) as (λ _. ((q ≡ i) × (get_or (set file.blocks i block) q Hole ≡ block)) ⊎ (get_or (set file.blocks i block) q Hole ≡ file_block file q)) [
        | inl short ↦ inl (e, ap (λ n. get_or (set file.blocks i block) n Hole) e ∙ get_or-set_same file.blocks i block Hole (omega arith))
        | inr long ↦ inr (get_or_past (set file.blocks i block) q Hole (let f = length-set file.blocks i block in omega arith) ∙ sym (get_or_past file.blocks q Hole long))
      ]
    ]
  ]

  byte_set : (file : PlacedFile) (i : ℕ) (block : Block) (q k : ℕ) → (q ≡ i → byte_of shelf block k ≡ byte_of shelf (file_block file i) k) → byte_of shelf (get_or (set file.blocks i block) q Hole) k ≡ byte_of shelf (file_block file q) k
  byte_set file i block q k same = elim (block_set file i block q) as (λ _. byte_of shelf (get_or (set file.blocks i block) q Hole) k ≡ byte_of shelf (file_block file q) k) [
    | inl h ↦ ap (λ b. byte_of shelf b k) h.1 ∙ same h.0 ∙ ap (λ n. byte_of shelf (file_block file n) k) (sym h.0)
    | inr h ↦ ap (λ b. byte_of shelf b k) h
  ]

  pub plain_bytes-with_file_block : (file : PlacedFile) (i : ℕ) (block : Block) → ((k : ℕ) → k < 4096 → byte_of shelf block k ≡ byte_of shelf (file_block file i) k) → plain_bytes shelf (with_file_block i block file) ≡ plain_bytes shelf file
  plain_bytes-with_file_block file i block same = plain_bytes-alike shelf shelf (with_file_block i block file) file refl (λ j h. byte_set file i block (j / 4096) (j % 4096) (λ e. same (j % 4096) (omega arith)))

  IsPlacedFile-with_file_block : (file : PlacedFile) (i serial position : ℕ) → IsPlacedFile shelf file → ((k : ℕ) → k < 4096 → byte_of shelf (Away serial position) k ≡ byte_of shelf (file_block file i) k) → IsPlacedFile shelf (with_file_block i (Away serial position) file)
  IsPlacedFile-with_file_block file i serial position is same = record {
    count = length-set file.blocks i (Away serial position) ∙ is.count;
    full = λ q bytes e. elim (block_set file i (Away serial position) q) as (λ _. length bytes ≡ 4096) [
      | inl h ↦ let no : Away serial position ≡ Here bytes = sym h.1 ∙ e in cc
      | inr h ↦ is.full q bytes (sym h ∙ e)
    ];
    zeros = λ j h. byte_set file i (Away serial position) (j / 4096) (j % 4096) (λ e. same (j % 4096) (omega arith)) ∙ is.zeros j h;
  }

module _ (shelf : Shelf) (serial : ℕ) (segment : List ℕ) (stands : get shelf serial ≡ Some segment) where
  -- the block of the segment has the bytes of the block of the file
  held_byte : (file : PlacedFile) (i position : ℕ) → IsPlacedFile shelf file
      → ((k : ℕ) → k < 4096 → get_or segment (4096 * position + k) 0 ≡ get_or (plain_bytes shelf file) (4096 * i + k) 0)
      → (k : ℕ) → k < 4096 → byte_of shelf (Away serial position) k ≡ byte_of shelf (file_block file i) k
  held_byte file i position is holds k h =
      ap (λ o. get_or (unwrap_or o []) (4096 * position + k) 0) stands
      ∙ holds k h
      ∙ get_or-plain_bytes shelf file is (4096 * i + k)
      ∙ (λ n. byte_of shelf (file_block file (quotient n)) (rest n))
    where
      quotient : (4096 * i + k) / 4096 ≡ i
      quotient = omega arith

      rest : (4096 * i + k) % 4096 ≡ k
      rest = omega arith

  module _ (placed : PlacedTree) (are : ArePlaced shelf placed) where
    held_file : (path : Names) (i position : ℕ) → ((bytes : List ℕ) → get (plain shelf placed) path ≡ Some (File bytes) → (k : ℕ) → k < 4096 → get_or segment (4096 * position + k) 0 ≡ get_or bytes (4096 * i + k) 0)
        → (file : PlacedFile) → get placed path ≡ Some (File file) → (k : ℕ) → k < 4096 → byte_of shelf (Away serial position) k ≡ byte_of shelf (file_block file i) k
    held_file path i position holds file there = held_byte file i position (are path file there)
        (holds (plain_bytes shelf file) (get-plain shelf placed path ∙ ap (option_map (node_map (plain_bytes shelf))) there))

    plain-put_one : (path : Names) (i position : ℕ) → ((bytes : List ℕ) → get (plain shelf placed) path ≡ Some (File bytes) → (k : ℕ) → k < 4096 → get_or segment (4096 * position + k) 0 ≡ get_or bytes (4096 * i + k) 0)
        → plain shelf (changed_at placed path (with_file_block i (Away serial position))) ≡ plain shelf placed
    plain-put_one path i position holds = plain-changed_at_alike shelf placed path (with_file_block i (Away serial position))
        (λ file there. plain_bytes-with_file_block shelf file i (Away serial position) (held_file path i position holds file there))

    put_one-after : (path : Names) (i position : ℕ) → ((bytes : List ℕ) → get (plain shelf placed) path ≡ Some (File bytes) → (k : ℕ) → k < 4096 → get_or segment (4096 * position + k) 0 ≡ get_or bytes (4096 * i + k) 0)
        → ArePlaced shelf (changed_at placed path (with_file_block i (Away serial position)))
    put_one-after path i position holds = changed_at_after (IsPlacedFile shelf) placed are path (with_file_block i (Away serial position))
        (λ file there is. IsPlacedFile-with_file_block shelf file i serial position is (held_file path i position holds file there))

  -- blocks that the segment holds may be away in it
  pub plain-put_away : (spots : List Spot) (position : ℕ) (placed : PlacedTree) → ArePlaced shelf placed → HoldsBlocks (plain shelf placed) segment position spots
      → (plain shelf (put_away serial position spots placed) ≡ plain shelf placed) × ArePlaced shelf (put_away serial position spots placed)
  plain-put_away [] position placed are holds = (refl, are)
  plain-put_away (spot ∷ spots) position placed are holds =
      let one = plain-put_one placed are spot.0 spot.1 position holds.0 in
      let more = plain-put_away spots (position + 1) (changed_at placed spot.0 (with_file_block spot.1 (Away serial position))) (put_one-after placed are spot.0 spot.1 position holds.0)
      (subst (λ t. HoldsBlocks t segment (position + 1) spots) (sym one) holds.1) in
      (more.0 ∙ one, more.1)

-- a serial that no block has may come to the shelf
module _ (shelf : Shelf) (serial : ℕ) (segment : List ℕ) where
  new_byte : (block : Block) (k : ℕ) → ((position : ℕ) → block ≡ Away serial position → ⊥) → byte_of (insert shelf serial segment) block k ≡ byte_of shelf block k
  new_byte Hole k fresh = refl
  new_byte (Here bytes) k fresh = refl
  new_byte (Away other position) k fresh = ap (λ o. get_or (unwrap_or o []) (4096 * position + k) 0) (
      get-insert nat_cmp_total shelf serial segment other
      ∙ elim (eq_by_cmp nat_cmp other serial) as (λ b. eq_by_cmp nat_cmp other serial ≡ b → cond b (Some segment) (get shelf other) ≡ get shelf other) [
        | true ↦ λ e. absurd (fresh position (ap (λ s. Away s position) (same_serial other e)))
        | false ↦ λ e. refl
      ] refl)
    where
      same_serial : (other : ℕ) → eq_by_cmp nat_cmp other serial ≡ true → other ≡ serial
      same_serial other e = nat_cmp-IsAntisymmetric other serial (equal (nat_cmp other serial) (subst T (sym e) tt))

  module _ (placed : PlacedTree) (fresh : IsNewSerial serial placed) where
    new_bytes : (path : Names) (file : PlacedFile) → get placed path ≡ Some (File file) → plain_bytes (insert shelf serial segment) file ≡ plain_bytes shelf file
    new_bytes path file there = plain_bytes-alike (insert shelf serial segment) shelf file file refl (λ j h. new_byte (file_block file (j / 4096)) (j % 4096) (λ position e. fresh path file (j / 4096) position there e))

    pub plain-new_serial : plain (insert shelf serial segment) placed ≡ plain shelf placed
    plain-new_serial = same_tree _ _ (λ path. get-plain (insert shelf serial segment) placed path ∙ alike path (get placed path) refl ∙ sym (get-plain shelf placed path))
      where
        alike : (path : Names) (o : Option (Node PlacedFile)) → get placed path ≡ o → option_map (node_map (plain_bytes (insert shelf serial segment))) o ≡ option_map (node_map (plain_bytes shelf)) o
        alike path None there = refl
        alike path (Some Dir) there = refl
        alike path (Some (File file)) there = ap (λ bytes. Some (File bytes)) (new_bytes path file there)

    pub ArePlaced-new_serial : ArePlaced shelf placed → ArePlaced (insert shelf serial segment) placed
    ArePlaced-new_serial are path file there = record {
      count = (are path file there).count;
      full = (are path file there).full;
      zeros = λ j h. new_byte (file_block file (j / 4096)) (j % 4096) (λ position e. fresh path file (j / 4096) position there e) ∙ (are path file there).zeros j h;
    }

-- A staging with a new serial leaves the plain tree.
pub plain-staged : (shelf : Shelf) (serial : ℕ) (segment : List ℕ) (placed : PlacedTree) (spots : List Spot) → ArePlaced shelf placed → IsNewSerial serial placed → HoldsBlocks (plain shelf placed) segment 1 spots
    → plain (insert shelf serial segment) (put_away serial 1 spots placed) ≡ plain shelf placed
plain-staged shelf serial segment placed spots are fresh holds =
    (plain-put_away (insert shelf serial segment) serial segment (get-insert nat_cmp_total shelf serial segment serial ∙ ap (λ b. cond b (Some segment) (get shelf serial)) (ap is_eq (tied_itself nat_cmp_total serial)))
    spots 1 placed (ArePlaced-new_serial shelf serial segment placed fresh are) (subst (λ t. HoldsBlocks t segment 1 spots) (sym (plain-new_serial shelf serial segment placed fresh)) holds)).0
    ∙ plain-new_serial shelf serial segment placed fresh

pub ArePlaced-staged : (shelf : Shelf) (serial : ℕ) (segment : List ℕ) (placed : PlacedTree) (spots : List Spot) → ArePlaced shelf placed → IsNewSerial serial placed → HoldsBlocks (plain shelf placed) segment 1 spots
    → ArePlaced (insert shelf serial segment) (put_away serial 1 spots placed)
ArePlaced-staged shelf serial segment placed spots are fresh holds =
    (plain-put_away (insert shelf serial segment) serial segment (get-insert nat_cmp_total shelf serial segment serial ∙ ap (λ b. cond b (Some segment) (get shelf serial)) (ap is_eq (tied_itself nat_cmp_total serial)))
    spots 1 placed (ArePlaced-new_serial shelf serial segment placed fresh are) (subst (λ t. HoldsBlocks t segment 1 spots) (sym (plain-new_serial shelf serial segment placed fresh)) holds)).1

-- where the blocks of a staging are away
module _ (shelf : Shelf) (S : ℕ → ℕ → Type 0) (serial : ℕ) (is : (position : ℕ) → S serial position) where
  aways_with_block : (file : PlacedFile) (i position : ℕ) → AwaysAre S file → AwaysAre S (with_file_block i (Away serial position) file)
  aways_with_block file i position below q other p e = elim (block_set shelf file i (Away serial position) q) as (λ _. S other p) [
    | inl h ↦ let one : Away serial position ≡ Away other p = sym h.1 ∙ e in let two : serial ≡ other = cc in subst (λ n. S n p) two (is p)
    | inr h ↦ below q other p (sym h ∙ e)
  ]

  pub aways-put_away : (spots : List Spot) (position : ℕ) (placed : PlacedTree) → EachFile (AwaysAre S) placed → EachFile (AwaysAre S) (put_away serial position spots placed)
  aways-put_away [] position placed below = below
  aways-put_away (spot ∷ spots) position placed below = aways-put_away spots (position + 1) (changed_at placed spot.0 (with_file_block spot.1 (Away serial position)))
      (changed_at_after (AwaysAre S) placed below spot.0 (with_file_block spot.1 (Away serial position)) (λ file there f. aways_with_block file spot.1 position f))

-- the serials of a staging
pub serials-put_away : (shelf : Shelf) (S : ℕ → Type 0) (serial : ℕ) → S serial → (spots : List Spot) (position : ℕ) (placed : PlacedTree) → EachFile (SerialsAre S) placed → EachFile (SerialsAre S) (put_away serial position spots placed)
serials-put_away shelf S serial is spots position placed below = aways-put_away shelf (λ serial position. S serial) serial (λ position. is) spots position placed below
