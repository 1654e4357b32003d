-- The blocks of a claim are those that are away in its segments, with the shelf's bytes.
use Rattle.std.proofs.Common.{arith, ◌≡◌, ℕ, zero, suc, ◌+◌, ◌*◌, ◌<◌, ◌≤◌, Bool, true, false, ◌&&◌, cond, nat_eq, List, [], ◌∷◌, get_or, unwrap_or, length, Option, Some, None, refl, ap, ◌∙◌, sym, subst, inl, inr, T}
use Rattle.std.proofs.lemmas.Bool.Decides.{nat_tests}
use Rattle.std.proofs.lemmas.Bool.{cases_lt}
use Rattle.std.proofs.lemmas.List.Elements.{Contains-append_left, Contains-append_right, Contains-append_cases}
use Rattle.std.specs.Prelude.{Contains, filter_map, flat_map}
use Rattle.std.specs.List.{range_with_len, cons_option}
use Rattle.std.specs.Option.{option_map}
use Rattle.std.specs.FinMap.{entries, entries_sorted, get, get-entries}
use Rattle.std.specs.FinMap.Entries.{below_all, find, is_sorted}
use Rattle.std.specs.Ordering.{is_eq, is_lt}
use Rattle.std.specs.Cmp.{tied_itself}
use Rattle.hl_tree.proofs.Maps.{path_total}
use Rattle.hl_tree.proofs.Moved.{Names, same, same_is}
use Rattle.hl_tree.specs.Names.{path_cmp}
use Rattle.hl_tree.specs.OtherContents.{node_map}
use Rattle.hl_tree.specs.declared.node.Node.{Node}
use Rattle.hl_tree.specs.declared.node.Node.TheVariants.{Dir, File}
use Rattle.hl_placed.specs.Blocks.{Block, Hole, Here, Away, PlacedFile, Shelf, byte_of, file_block, listed, padded_block, plain_bytes}
use Rattle.hl_placed.specs.Laws.{HasAway}
use Rattle.hl_placed.specs.Placed.{ArePlaced, PlacedTree, plain}
use Rattle.hl_placed.proofs.Blocks.{padded_block-plain_bytes}
use Rattle.hl_placed.proofs.Plain.{get-plain}
use Rattle.hl_model.specs.Claims.{ClaimedBlock, SegmentWithin, block_if, bytes_in, claimed_block, claimed_in, segment_claimed}
use Rattle.hl_model.proofs.Sets.{is_there}

-- WHAT LISTS CONTAIN

pub in_head : {A : Type 0} (x : A) (xs : List A) → Contains (x ∷ xs) x
in_head x xs = (0, (let low : 0 < suc (length xs) = omega arith in low), refl)

pub in_tail : {A : Type 0} (x y : A) (xs : List A) → Contains xs x → Contains (y ∷ xs) x
in_tail x y xs listed = (suc listed.0, (let low = listed.1 in omega arith), listed.2)

pub in_none : {A P : Type 0} (x : A) → Contains [] x → P
in_none x listed = let low = listed.1 in absurd (omega arith)

pub in_cons : {A P : Type 0} (x y : A) (xs : List A) → Contains (y ∷ xs) x → (y ≡ x → P) → (Contains xs x → P) → P
in_cons {A = A} {P = P} x y xs (zero, low, is) here there = here is
in_cons {A = A} {P = P} x y xs (suc k, low, is) here there = there (k, (omega arith), is)

module _ {B : Type 0} where
  option_head : (o : Option B) (y : B) (ys : List B) → o ≡ Some y → Contains (cons_option o ys) y
  option_head None y ys e = let wrong : None ≡ Some y = e in cc
  option_head (Some x) y ys e = let is : x ≡ y = cc in subst (λ z. Contains (z ∷ ys) y) (sym is) (in_head y ys)

  option_tail : (o : Option B) (y : B) (ys : List B) → Contains ys y → Contains (cons_option o ys) y
  option_tail None y ys listed = listed
  option_tail (Some x) y ys listed = in_tail y x ys listed

  option_cases : {P : Type 0} (o : Option B) (y : B) (ys : List B) → Contains (cons_option o ys) y → (o ≡ Some y → P) → (Contains ys y → P) → P
  option_cases {P = P} None y ys listed here there = there listed
  option_cases {P = P} (Some x) y ys listed here there = in_cons y x ys listed (λ is. here (ap Some is)) there

module _ {A B : Type 0} (h : A → Option B) where
  pub in_filter_map : (xs : List A) (x : A) (y : B) → Contains xs x → h x ≡ Some y → Contains (filter_map h xs) y
  in_filter_map [] x y listed e = in_none x listed
  in_filter_map (z ∷ xs) x y listed e = in_cons x z xs listed
      (λ is. option_head (h z) y (filter_map h xs) (ap h is ∙ e))
      (λ there. option_tail (h z) y (filter_map h xs) (in_filter_map xs x y there e))

  pub out_filter_map : (xs : List A) (y : B) → Contains (filter_map h xs) y → (x : A) × Contains xs x × (h x ≡ Some y)
  out_filter_map [] y listed = in_none y listed
  out_filter_map (z ∷ xs) y listed = option_cases (h z) y (filter_map h xs) listed
      (λ is. (z, in_head z xs, is))
      (λ there. let rest = out_filter_map xs y there in (rest.0, in_tail rest.0 z xs rest.1, rest.2))

module _ {A B : Type 0} (f : A → List B) where
  in_flat_map : (xs : List A) (x : A) (y : B) → Contains xs x → Contains (f x) y → Contains (flat_map f xs) y
  in_flat_map [] x y listed e = in_none x listed
  in_flat_map (z ∷ xs) x y listed e = in_cons x z xs listed
      (λ is. Contains-append_left (f z) (flat_map f xs) y (subst (λ w. Contains (f w) y) (sym is) e))
      (λ there. Contains-append_right (f z) (flat_map f xs) y (in_flat_map xs x y there e))

  out_flat_map : (xs : List A) (y : B) → Contains (flat_map f xs) y → (x : A) × Contains xs x × Contains (f x) y
  out_flat_map [] y listed = in_none y listed
  out_flat_map (z ∷ xs) y listed = elim (Contains-append_cases (f z) (flat_map f xs) y listed) as (λ _. (x : A) × Contains (z ∷ xs) x × Contains (f x) y) [
    | inl here ↦ (z, in_head z xs, here)
    | inr there ↦ let rest = out_flat_map xs y there in (rest.0, in_tail rest.0 z xs rest.1, rest.2)
  ]

pub in_range : (a n k : ℕ) → a ≤ k → k < a + n → Contains (range_with_len a n) k
in_range a zero k low high = absurd (omega arith)
in_range a (suc n) k low high = elim (cases_lt a k) as (λ _. Contains (range_with_len a (suc n)) k) [
  | inl less ↦ in_tail k a (range_with_len (a + 1) n) (in_range (a + 1) n k (omega arith) (omega arith))
  | inr more ↦ let is : k ≡ a = omega arith in subst (λ m. Contains (range_with_len a (suc n)) m) (sym is) (in_head a (range_with_len (a + 1) n))
]

-- THE ROWS OF A TREE

left : (a b : Bool) → T (a && b) → T a
left true b p = tt
left false b p = p

right : (a b : Bool) → T (a && b) → T b
right true b p = p
right false b p = absurd p

itself : (path : Names) → same path path ≡ true
itself path = ap is_eq (tied_itself path_total path)

not_same : (one other : Names) → T (is_lt (path_cmp one other)) → same other one ≡ false
not_same one other less = elim (same other one) as (λ b. same other one ≡ b → b ≡ false) [
  | true ↦ λ is. let key : other ≡ one = same_is other one is in absurd (no_less (subst (λ p. T (is_lt (path_cmp one p))) key less))
  | false ↦ λ is. refl
] refl
  where
    no_less : T (is_lt (path_cmp one one)) → ⊥
    no_less less = subst (λ o. T (is_lt o)) (tied_itself path_total one) less

module _ {X : Type 0} where
  in_rows : (es : List (Names × X)) (path : Names) (x : X) → find path_cmp path es ≡ Some x → Contains es (path, x)
  in_rows [] path x e = let wrong : None ≡ Some x = e in cc
  in_rows (row ∷ es) path x e = elim (same path row.0) as (λ b. same path row.0 ≡ b → cond b (Some row.1) (find path_cmp path es) ≡ Some x → Contains (row ∷ es) (path, x)) [
    | true ↦ λ is f.
        let key : path ≡ row.0 = same_is path row.0 is in
        let value : row.1 ≡ x = cc in
        subst (λ (p : Names × X). Contains (row ∷ es) p) (λ j. (sym key j, value j)) (in_head row es)
    | false ↦ λ is f. in_tail (path, x) row es (in_rows es path x f)
  ] refl e

  -- rows that follow have other keys
  later_key : (path : Names) (es : List (Names × X)) → T (below_all path_cmp path es) → (row : Names × X) → Contains es row → T (is_lt (path_cmp path row.0))
  later_key path [] below row listed = in_none row listed
  later_key path (e ∷ es) below row listed = in_cons row e es listed
      (λ is. subst (λ (p : Names × X). T (is_lt (path_cmp path p.0))) is (left (is_lt (path_cmp path e.0)) _ below))
      (λ there. later_key path es (right (is_lt (path_cmp path e.0)) _ below) row there)

  found_row : (es : List (Names × X)) → T (is_sorted path_cmp es) → (row : Names × X) → Contains es row → find path_cmp row.0 es ≡ Some row.1
  found_row [] sorted row listed = in_none row listed
  found_row (e ∷ es) sorted row listed = in_cons row e es listed
      (λ is. ap (λ b. cond b (Some e.1) (find path_cmp row.0 es)) (ap (λ (p : Names × X). same row.0 p.0) is ∙ itself row.0) ∙ ap (λ (p : Names × X). Some p.1) is)
      (λ there. ap (λ b. cond b (Some e.1) (find path_cmp row.0 es)) (not_same e.0 row.0 (later_key e.0 es (left (below_all path_cmp e.0 es) _ sorted) row there))
      ∙ found_row es (right (below_all path_cmp e.0 es) _ sorted) row there)

-- THE BLOCKS OF A CLAIM

-- what a block that is away in the segment with this serial, at this position, has on a shelf
abbrev pub away_bytes : Shelf → ℕ → ℕ → List ℕ
away_bytes shelf serial position = listed 4096 (byte_of shelf (Away serial position))

out_block : (serial : ℕ) (bytes : List ℕ) (i : ℕ) (block : Block) (b : ClaimedBlock) → claimed_block serial bytes i block ≡ Some b → (block ≡ Away serial b.position) × (b.bytes ≡ padded_block bytes i)
out_block serial bytes i Hole b e = cc
out_block serial bytes i (Here here) b e = cc
out_block serial bytes i (Away other position) b e = elim (nat_eq other serial) as (λ t. nat_eq other serial ≡ t → block_if t position i bytes ≡ Some b → (Away other position ≡ Away serial b.position) × (b.bytes ≡ padded_block bytes i)) [
  | true ↦ λ is f.
      let one : other ≡ serial = grind (arith, nat_tests) in
      let same_block : record { position = position; bytes = padded_block bytes i } ≡ b = cc in
      ((λ j. Away (one j) (same_block j).position), sym (ap (λ (c : ClaimedBlock). c.bytes) same_block))
  | false ↦ λ is f. cc
] refl e

in_block : (serial : ℕ) (bytes : List ℕ) (i position : ℕ) → claimed_block serial bytes i (Away serial position) ≡ Some (record { position = position; bytes = padded_block bytes i })
in_block serial bytes i position = let same_number : nat_eq serial serial ≡ true = grind (arith, nat_tests) in ap (λ t. block_if t position i bytes) same_number

module _ (shelf : Shelf) (placed : PlacedTree) (are : ArePlaced shelf placed) where
  bytes_of : (path : Names) (file : PlacedFile) → get placed path ≡ Some (File file) → bytes_in (get (plain shelf placed) path) ≡ plain_bytes shelf file
  bytes_of path file there = ap bytes_in (get-plain shelf placed path) ∙ ap (λ o. bytes_in (option_map (node_map (plain_bytes shelf)) o)) there

  away_at : (path : Names) (file : PlacedFile) (i serial position : ℕ) → get placed path ≡ Some (File file) → file_block file i ≡ Away serial position → padded_block (bytes_in (get (plain shelf placed) path)) i ≡ away_bytes shelf serial position
  away_at path file i serial position there is = ap (λ bytes. padded_block bytes i) (bytes_of path file there) ∙ padded_block-plain_bytes shelf file i (are path file there) ∙ ap (λ block. listed 4096 (byte_of shelf block)) is

  -- each block of a claim is away there, and has the shelf's bytes
  pub out_claimed : (serial : ℕ) (b : ClaimedBlock) → Contains (segment_claimed placed (plain shelf placed) serial).blocks b → HasAway placed serial b.position × (b.bytes ≡ away_bytes shelf serial b.position)
  out_claimed serial b listed_b =
      let row = out_flat_map (λ e. claimed_in serial (plain shelf placed) e.0 e.1) (entries placed) b listed_b in
      by_node row.0.0 row.0.1 (get-entries placed row.0.0 ∙ found_row (entries placed) (entries_sorted placed) row.0 row.1) row.2
    where
      by_node : (path : Names) (node : Node PlacedFile) → get placed path ≡ Some node → Contains (claimed_in serial (plain shelf placed) path node) b → HasAway placed serial b.position × (b.bytes ≡ away_bytes shelf serial b.position)
      by_node path Dir there listed_b = in_none b listed_b
      by_node path (File file) there listed_b =
          let found = out_filter_map (λ i. claimed_block serial (bytes_in (get (plain shelf placed) path)) i (file_block file i)) (range_with_len 0 (length file.blocks)) b listed_b in
          let both = out_block serial (bytes_in (get (plain shelf placed) path)) found.0 (file_block file found.0) b found.2 in
          ((path, file, found.0, there, both.0), both.1 ∙ away_at path file found.0 serial b.position there both.0)

  -- each block that is away there is one of the claim
  pub in_claimed : (serial position : ℕ) → HasAway placed serial position → Contains (segment_claimed placed (plain shelf placed) serial).blocks (record { position = position; bytes = away_bytes shelf serial position })
  in_claimed serial position (path, file, i, there, is) = in_flat_map (λ e. claimed_in serial (plain shelf placed) e.0 e.1) (entries placed) (path, File file) _
      (in_rows (entries placed) path (File file) (sym (get-entries placed path) ∙ there))
      (in_filter_map (λ i. claimed_block serial (bytes_in (get (plain shelf placed) path)) i (file_block file i)) (range_with_len 0 (length file.blocks)) i _
      (in_range 0 (length file.blocks) i (let low : 0 ≤ i = omega arith in low) (let within = is_there_block in omega arith))
      (ap (claimed_block serial (bytes_in (get (plain shelf placed) path)) i) is ∙ in_block serial (bytes_in (get (plain shelf placed) path)) i position
      ∙ ap (λ bytes. Some (record { position = position; bytes = bytes })) (away_at path file i serial position there is)))
    where
      is_away : Block → Bool
      is_away Hole = false
      is_away (Here bytes) = false
      is_away (Away serial position) = true

      is_there_block : i < length file.blocks
      is_there_block = is_there is_away file.blocks i Hole (λ e. let wrong : true ≡ false = sym (ap is_away is) ∙ e in cc)

-- The claimed segment of a tree has no more than that of another where no block is away there that wasn't, and the shelf's
-- segment is the same.
pub segment-within : (one other : Shelf) (new old : PlacedTree) → ArePlaced one new → ArePlaced other old → (serial : ℕ) → ((position : ℕ) → HasAway new serial position → HasAway old serial position) → get one serial ≡ get other serial
    → SegmentWithin (segment_claimed new (plain one new) serial) (segment_claimed old (plain other old) serial)
segment-within one other new old are_new are_old serial aways same_segment = record {
  serial = refl;
  blocks = λ b listed_b.
      let out = out_claimed one new are_new serial b listed_b in
      let there = in_claimed other old are_old serial b.position (aways b.position out.0) in
      subst (λ (c : ClaimedBlock). Contains (segment_claimed old (plain other old) serial).blocks c) (sym (block_is b (out.1 ∙ bytes_same b.position))) there;
}
  where
    bytes_same : (position : ℕ) → away_bytes one serial position ≡ away_bytes other serial position
    bytes_same position = ap (λ o. listed 4096 (λ k. get_or (unwrap_or o []) (4096 * position + k) 0)) same_segment

    block_is : (b : ClaimedBlock) → b.bytes ≡ away_bytes other serial b.position → b ≡ record { position = b.position; bytes = away_bytes other serial b.position }
    block_is b e = λ j. record { position = b.position; bytes = e j }
