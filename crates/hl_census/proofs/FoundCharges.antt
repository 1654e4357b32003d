-- What inodes that were found are charged is the charge of the image's nodes.
use Rattle.std.specs.FinMap.{empty, entries, get, get-empty, len-empty, len-entries}
use Rattle.std.proofs.Common.{◌≡◌, inl, inr, ℕ, zero, suc, ◌+◌, ◌*◌, ◌-◌, ◌^◌, ◌<◌, ◌≤◌, min, Bool, true, false, not, ◌||◌, cond, List, [], ◌∷◌, length, drop, take, get_or, refl, sym, ◌∙◌, ap, subst, arith, length-drop}
use Rattle.std.specs.Prelude.{count_by, slice_index, sum_by, Option, Some, None}
use Rattle.std.specs.List.{list_any, slice_index_or}
use Rattle.std.specs.Ordering.{nat_cmp}
use Rattle.std.proofs.lemmas.Bool.{cases_eq, eq-eqb, false_from_ne_true}
use Rattle.std.proofs.lemmas.List.{get_or-drop, take_all}
use Rattle.std.proofs.lemmas.List.Elements.{All-from_get_or}
use Rattle.std.proofs.lemmas.List.Folds.{list_any_at, list_any_none}
use Rattle.std.proofs.lemmas.List.Sums.{count_by-le-length, sum_by-cons, sum_by-le, sum_by_more}
use Rattle.hl_media.specs.History.{Image}
use Rattle.hl_addr.specs.Layout.{IsWithinLimits, Layout}
use Rattle.hl_tables.specs.Values.{TableValues}
use Rattle.hl_inode.specs.declared.inode.Kind.{Kind}
use Rattle.hl_inode.specs.declared.inode.Inode.{Inode}
use Rattle.hl_placed.specs.Blocks.{Away, Block, Here, Hole, blocks_of, is_here, is_hole}
use Rattle.hl_placed.specs.Charges.{blocks_charge, parts_charge}
use Rattle.hl_paths.specs.Nodes.{FlatNode, Nodes, flat_charge}
use Rattle.hl_nodes.specs.Blocks.{StandsFor}
use Rattle.hl_nodes.specs.Nodes.{HasNodes, IsMapEntry, IsNodeAt, IsNodeOf}
use Rattle.hl_nodes.proofs.Determined.{far_some}
use Rattle.hl_nodes.proofs.Frame.{one_inode}
use Rattle.hl_nodes.proofs.NodesMade.{most_blocks}
use Rattle.hl_nodes.proofs.PointerLemmas.{in_log-near, in_log-some}
use Rattle.hl_overlaid.specs.NodesNow.{with_node}
use Rattle.hl_overlaid.proofs.NowLemmas.{same_nodes, with_node-other, with_node-same}
use Rattle.hl_tally.specs.Counting.{is_logged}
use Rattle.hl_tally.proofs.NodeCharges.{charge_replaced, charged}
use Rattle.hl_tally.proofs.Segments.{in_logged, logged_in}
use Rattle.hl_survey.specs.declared.found.FoundInode.{FoundInode}
use Rattle.hl_survey.specs.Surveys.{AreSurveyed, IsFound, IsFoundInode}
use Rattle.hl_census.specs.Charging.{found_charge, pointers_charge}
use Rattle.hl_census.specs.Naming.{is_address}
use Rattle.hl_census.proofs.NamedBlocks.{address_some}

-- NUMBERS ONE AFTER THE OTHER
no_items : {A : Type 0} (es : List A) → length es ≡ 0 → es ≡ []
no_items [] e = refl
no_items (x ∷ es) e = absurd (omega arith)

abbrev entry_charge : ℕ × FlatNode → ℕ
entry_charge e = blocks_charge e.1.content.blocks

none_charged : flat_charge empty ≡ 0
unfolding flat_charge
none_charged = ap (sum_by entry_charge) (no_items (entries (empty {X = FlatNode} {R = nat_cmp})) (sym (len-entries empty) ∙ len-empty nat_cmp FlatNode))

reckoned : (whole before own now gone sum more : ℕ) → whole + gone ≡ before + now → gone ≡ 0 → now ≡ own → before ≡ sum → more ≡ sum + own → whole ≡ more
reckoned whole before own now gone sum more step none is so_far next = omega arith

module _ (g : Layout) (found : List (Option FoundInode)) (nodes : Nodes) (each : (ino : ℕ) → ino < length found → found_charge g.k g.log (slice_index_or found ino None) ≡ charged (get nodes ino)) where
  up_to : (n : ℕ) → n ≤ length found → (m : Nodes) → ((ino : ℕ) → ino < n → get m ino ≡ get nodes ino) → ((ino : ℕ) → n ≤ ino → get m ino ≡ None) → flat_charge m ≡ sum_by (found_charge g.k g.log) (take n found)
  up_to zero le m same past = ap flat_charge (same_nodes m empty (λ q. past q (omega arith) ∙ sym (get-empty nat_cmp q))) ∙ none_charged
  up_to (suc n) le m same past =
      let lt : n < length found = omega arith in
      let next : suc n ≡ n + 1 = omega arith in
      reckoned (flat_charge m) (flat_charge (with_node m n None)) (found_charge g.k g.log (slice_index_or found n None)) (charged (get m n)) (charged (get (with_node m n None) n))
      (sum_by (found_charge g.k g.log) (take n found)) (sum_by (found_charge g.k g.log) (take (suc n) found))
      (charge_replaced (with_node m n None) m n (λ q ne. sym (with_node-other m n None q ne)))
      (ap charged (with_node-same m n None))
      (ap charged (same n (omega arith)) ∙ sym (each n lt))
      (up_to n (omega arith) (with_node m n None)
      (λ ino low. with_node-other m n None ino (λ e. (let never : ⊥ = omega arith in never)) ∙ same ino (omega arith))
      (λ ino high. elim (cases_eq ino n) [
        | inl e ↦ ap (get (with_node m n None)) e ∙ with_node-same m n None
        | inr ne ↦ with_node-other m n None ino ne ∙ past ino (omega arith)
      ]))
      (ap (λ (k : ℕ). sum_by (found_charge g.k g.log) (take k found)) next ∙ sum_by_more (found_charge g.k g.log) found n None lt)

  all_charged : ((ino : ℕ) → length found ≤ ino → get nodes ino ≡ None) → flat_charge nodes ≡ sum_by (found_charge g.k g.log) found
  all_charged past = up_to (length found) (omega arith) nodes (λ ino lt. refl) past ∙ ap (sum_by (found_charge g.k g.log)) (take_all (length found) found (omega arith))

-- TESTS THAT AGREE at each place
same_count : (p : ℕ → Bool) (q : Block → Bool) (row : List ℕ) (bs : List Block) → length bs ≡ length row → ((i : ℕ) → i < length row → p (slice_index row i) ≡ q (get_or bs i Hole)) → count_by p row ≡ count_by q bs
same_count p q [] [] size each = refl
same_count p q [] (b ∷ bs) size each = absurd (omega arith)
same_count p q (a ∷ row) [] size each = absurd (omega arith)
same_count p q (a ∷ row) (b ∷ bs) size each =
    sum_by-cons (λ (x : ℕ). cond (p x) 1 0) a row
    ∙ ap (λ (t : Bool). cond t 1 0 + count_by p row) (each 0 (omega arith))
    ∙ ap (λ (n : ℕ). cond (q b) 1 0 + n) (same_count p q row bs (omega arith) (λ i lt. each (suc i) (omega arith)))
    ∙ sym (sum_by-cons (λ (x : Block). cond (q x) 1 0) b bs)

same_any : (p : ℕ → Bool) (q : Block → Bool) (row : List ℕ) (bs : List Block) → length bs ≡ length row → ((i : ℕ) → i < length row → p (slice_index row i) ≡ q (get_or bs i Hole)) → list_any p row ≡ list_any q bs
same_any p q [] [] size each = refl
same_any p q [] (b ∷ bs) size each = absurd (omega arith)
same_any p q (a ∷ row) [] size each = absurd (omega arith)
same_any p q (a ∷ row) (b ∷ bs) size each =
    ap (λ (t : Bool). t || list_any p row) (each 0 (omega arith))
    ∙ ap (λ (t : Bool). q b || t) (same_any p q row bs (omega arith) (λ i lt. each (suc i) (omega arith)))

same_any_from : (p : ℕ → Bool) (q : Block → Bool) (k : ℕ) (row : List ℕ) (bs : List Block) → length bs ≡ length row → ((i : ℕ) → i < length row → p (slice_index row i) ≡ q (get_or bs i Hole)) → list_any p (drop k row) ≡ list_any q (drop k bs)
same_any_from p q zero row bs size each = same_any p q row bs size each
same_any_from p q (suc k) [] [] size each = refl
same_any_from p q (suc k) [] (b ∷ bs) size each = absurd (omega arith)
same_any_from p q (suc k) (a ∷ row) [] size each = absurd (omega arith)
same_any_from p q (suc k) (a ∷ row) (b ∷ bs) size each = same_any_from p q k row bs (omega arith) (λ i lt. each (suc i) (omega arith))

-- SOME ONE PASSES a test from a place on, or none does
pub any_from : (p : ℕ → Bool) (k : ℕ) (xs : List ℕ) (i : ℕ) → k ≤ i → i < length xs → p (slice_index xs i) ≡ true → list_any p (drop k xs) ≡ true
any_from p k xs i low lt e =
    let place : k + (i - k) ≡ i = omega arith in
    list_any_at p (drop k xs) (i - k) 0 (omega (arith, length-drop k xs)) (ap p (get_or-drop k xs (i - k) 0 ∙ ap (slice_index xs) place) ∙ e)

pub none_from : (p : ℕ → Bool) (k : ℕ) (xs : List ℕ) → ((i : ℕ) → k ≤ i → i < length xs → p (slice_index xs i) ≡ false) → list_any p (drop k xs) ≡ false
none_from p k xs none = list_any_none p (drop k xs) (All-from_get_or (λ (x : ℕ). p x ≡ false) (drop k xs) 0 (λ i lt. ap p (get_or-drop k xs i 0) ∙ none (k + i) (omega arith) (omega (arith, length-drop k xs))))

module _ (g : Layout) (limits : IsWithinLimits g) (image : Image) (t : TableValues) where
  -- A POINTER is in the log where its block is here, and Nothing where it is a hole
  here_is : (kind : Kind) (p : ℕ) (b : Block) → StandsFor g t.slots image kind p b → is_logged g.k g.log p ≡ is_here b
  here_is kind p Hole none = false_from_ne_true (is_logged g.k g.log p) (λ logged. in_log-some g limits p (logged_in g p logged) none)
  here_is kind p (Here bytes) at = in_logged g p at.0
  here_is kind p (Away serial position) far = false_from_ne_true (is_logged g.k g.log p) (λ logged. in_log-near g limits p far.1.volume far.1.slot position (logged_in g p logged) far.1.place)

  hole_is : (kind : Kind) (p : ℕ) (b : Block) → StandsFor g t.slots image kind p b → is_address p ≡ not (is_hole b)
  hole_is kind p Hole none = ap not (eq-eqb p 4294967295 none)
  hole_is kind p (Here bytes) at = address_some p (in_log-some g limits p at.0)
  hole_is kind p (Away serial position) far = address_some p (far_some g limits t.slots p serial position far.1)

  module _ (kind : Kind) (pointers : List ℕ) (blocks : List Block) (size : length blocks ≡ length pointers)
      (stand : (i : ℕ) → i < length pointers → StandsFor g t.slots image kind (slice_index pointers i) (get_or blocks i Hole)) where
    pointers_charged : pointers_charge g.k g.log pointers ≡ blocks_charge blocks
    pointers_charged =
        ap (λ (b : Bool). parts_charge b (count_by (is_logged g.k g.log) pointers))
        (same_any_from is_address (λ (b : Block). not (is_hole b)) 12 pointers blocks size (λ i lt. hole_is kind (slice_index pointers i) (get_or blocks i Hole) (stand i lt)))
        ∙ ap (λ (n : ℕ). parts_charge (list_any (λ (b : Block). not (is_hole b)) (drop 12 blocks)) n)
        (same_count (is_logged g.k g.log) is_here pointers blocks size (λ i lt. here_is kind (slice_index pointers i) (get_or blocks i Hole) (stand i lt)))

  -- AN INODE that was found is charged row its node
  inode_charged : (ino : ℕ) (f : FoundInode) (node : FlatNode) → IsFoundInode g image t ino f → IsNodeAt g t.slots image ino (slice_index t.inodes ino) node → pointers_charge g.k g.log f.pointers.items ≡ blocks_charge node.content.blocks
  inode_charged ino f node is at = pointers_charged f.inode.kind f.pointers.items node.content.blocks (node_is.count ∙ sym is.pointers.count)
      (λ i lt.
      let size = is.pointers.count in
      let low : i < blocks_of f.inode.size = omega arith in
      subst (λ (p : ℕ). StandsFor g t.slots image f.inode.kind p (get_or node.content.blocks i Hole)) (sym (is.pointers.are i low)) (node_is.blocks i low))
    where
      same : at.inode ≡ f.inode
      same = one_inode (image (slice_index t.inodes ino)) (image f.address) at.inode f.inode (ap image (sym is.there.2)) at.there.spelled is.there.3.spelled

      node_is : IsNodeOf g t.slots image f.inode node
      node_is = subst (λ (v : Inode). IsNodeOf g t.slots image v node) same at.is

  entry_charged : (ino : ℕ) (x : Option FoundInode) (y : Option FlatNode) → IsFound g image t ino x → IsMapEntry g t.slots image ino (slice_index t.inodes ino) y → found_charge g.k g.log x ≡ charged y
  entry_charged ino None None is at = refl
  entry_charged ino None (Some node) is at = absurd (in_log-some g limits (slice_index t.inodes ino) at.there.in_log is.0)
  entry_charged ino (Some f) None is none = absurd (in_log-some g limits f.address is.there.3.in_log (sym is.there.2 ∙ none))
  entry_charged ino (Some f) (Some node) is at = inode_charged ino f node is at

  -- what is charged at most
  parts_most : (b : Bool) (n : ℕ) → n ≤ 1036 → parts_charge b n ≤ 1038
  parts_most true n le = omega arith
  parts_most false n le = omega arith

  charged_most : (ino : ℕ) (x : Option FoundInode) → IsFound g image t ino x → found_charge g.k g.log x ≤ 1038
  charged_most ino None is = omega arith
  charged_most ino (Some f) is =
      let few = count_by-le-length (is_logged g.k g.log) f.pointers.items in
      let size = is.pointers.count in
      let most = most_blocks f.inode.size is.there.3.spelled.value.ranges.size in
      parts_most (list_any is_address (drop 12 f.pointers.items)) (count_by (is_logged g.k g.log) f.pointers.items) (omega arith)

  module _ (found : List (Option FoundInode)) (are : AreSurveyed g image t found) (nodes : Nodes) (has : HasNodes g image t nodes) where
    number_charged : (ino : ℕ) → ino < length found → found_charge g.k g.log (slice_index_or found ino None) ≡ charged (get nodes ino)
    number_charged zero lt = ap (found_charge g.k g.log) are.zero ∙ sym (ap charged has.zero)
    number_charged (suc i) lt =
        let count = are.count in
        let high : suc i < g.inodes = omega arith in
        entry_charged (suc i) (slice_index_or found (suc i) None) (get nodes (suc i)) (are.each (suc i) high) (has.entries (suc i) (omega arith) high)

    few : sum_by (found_charge g.k g.log) found < 2 ^ 32 - 1
    few =
        let most : sum_by (found_charge g.k g.log) found ≤ length found * 1038 = sum_by-le (found_charge g.k g.log) 1038 found (All-from_get_or (λ (x : Option FoundInode). found_charge g.k g.log x ≤ 1038) found None (λ ino lt.
        (let count = are.count in charged_most ino (get_or found ino None) (are.each ino (omega arith))))) in
        let count = are.count in
        let numbers = limits.inode_count.1 in
        omega arith

    -- what all that was found is charged is the charge of the nodes
    pub charge_is : (charge : ℕ) → charge ≡ min (sum_by (found_charge g.k g.log) found) (2 ^ 32 - 1) → charge ≡ flat_charge nodes
    charge_is charge is =
        let all = all_charged g found nodes number_charged (λ ino ge. has.past ino (let count = are.count in omega arith)) in
        let small = few in
        omega arith
