-- Quotas and charges: of the nodes that a store knows, of numbered nodes once one of them changes, and of directories.
use Rattle.std.proofs.Common.{◌≡◌, ◌≢◌, ℕ, ◌+◌, Bool, true, false, ◌&&◌, nat_lt, List, [], ◌∷◌, length, Option, Some, None, refl, ap, ◌∙◌, sym, subst, arith}
use Rattle.std.specs.Prelude.{slice_index}
use Rattle.std.specs.List.{sum_by}
use Rattle.std.specs.Option.{option_map}
use Rattle.std.specs.FinMap.{entries, get, insert, remove}
use Rattle.std.proofs.lemmas.List.Sums.{sum_by-cons}
use Rattle.hl_media.specs.History.{MachineState}
use Rattle.hl_dir.specs.declared.entry.Entry.{Entry}
use Rattle.hl_dir.specs.Dirs.{dir_bytes}
use Rattle.hl_placed.specs.Blocks.{PlacedFile, blocks_of}
use Rattle.hl_placed.specs.Charges.{blocks_charge, names_charge, parts_charge}
use Rattle.hl_paths.specs.ByNumbers.{NumberedDone, numbered_left}
use Rattle.hl_paths.specs.Charges.{nodes_charge, numbered_charge}
use Rattle.hl_paths.specs.Entries.{entry_names}
use Rattle.hl_paths.specs.Files.{is_over_quota, is_taken}
use Rattle.hl_paths.specs.Nodes.{FlatNode, Nodes, Spell, flat_charge, flat_node}
use Rattle.hl_paths.specs.Numbered.{Directory, Leaf, NumberedNode, Numbering}
use Rattle.hl_paths.proofs.DirectoryContent.{blocks_charge-directory, length-dir_bytes}
use Rattle.hl_paths.proofs.Spelled.{Spell-insert, Spell-remove, charge-spelled}
use Rattle.hl_nodes.specs.Contents.{Contents}
use Rattle.hl_overlaid.specs.Changes.{node_used}
use Rattle.hl_overlaid.specs.NodesNow.{with_node}
use Rattle.hl_overlaid.proofs.NowLemmas.{with_node-other, with_node-same}
use Rattle.hl_tally.proofs.NodeCharges.{charge_replaced, charged}
use Rattle.hl_store.specs.Values.{StoreValue, layout, nodes_of}
use Rattle.hl_store.specs.Lying.{LiesOver}
use Rattle.hl_walk.specs.Trees.{AreKnown, KnowsTree}
use Rattle.hl_calls.specs.Growths.{directory_charge, exceeds}
use Rattle.hl_calls.proofs.MappedRows.{entries-mapped, get-mapped, mapped, rows}

-- THE QUOTA

-- a call that the rules accept is over the quota where its charge exceeds it
pub is_over_quota-taken : (quota : ℕ) (numbered : Numbering PlacedFile) (done : NumberedDone PlacedFile) → is_taken done ≡ true
    → is_over_quota quota numbered done ≡ exceeds quota (nodes_charge numbered) (nodes_charge (numbered_left numbered done))
is_over_quota-taken quota numbered done is = ap (λ b. b && exceeds quota (nodes_charge numbered) (nodes_charge (numbered_left numbered done))) is

-- one that they refuse never is
pub is_over_quota-refused : (quota : ℕ) (numbered : Numbering PlacedFile) (done : NumberedDone PlacedFile) → is_taken done ≡ false → is_over_quota quota numbered done ≡ false
is_over_quota-refused quota numbered done is = ap (λ b. b && exceeds quota (nodes_charge numbered) (nodes_charge (numbered_left numbered done))) is

never : (before : ℕ) → nat_lt before before ≡ false
never before = grind arith

none : (b c : Bool) → c ≡ false → (b && c) ≡ false
none true c e = e
none false c e = refl

-- a charge that stays exceeds nothing
pub exceeds-same : (quota charge : ℕ) → exceeds quota charge charge ≡ false
exceeds-same quota charge = none (nat_lt quota charge) (nat_lt charge charge) (never charge)

-- so a call that leaves the charge as it is isn't over the quota
pub is_over_quota-same : (quota : ℕ) (numbered : Numbering PlacedFile) (done : NumberedDone PlacedFile) → nodes_charge (numbered_left numbered done) ≡ nodes_charge numbered → is_over_quota quota numbered done ≡ false
is_over_quota-same quota numbered done same =
    none (is_taken done) (exceeds quota (nodes_charge numbered) (nodes_charge (numbered_left numbered done)))
    (ap (λ n. exceeds quota (nodes_charge numbered) n) same ∙ exceeds-same quota (nodes_charge numbered))

-- NODES AND THEIR LAST USES

module _ (used : ℕ → ℕ) where
  -- a node of a number, used at another moment
  abbrev use_known : ℕ → FlatNode → FlatNode
  use_known number n = node_used (used number) n

  sum-used : (es : List (ℕ × FlatNode)) → sum_by (λ e. blocks_charge e.1.content.blocks) (rows use_known es) ≡ sum_by (λ e. blocks_charge e.1.content.blocks) es
  sum-used [] = refl
  sum-used (e ∷ es) =
      sum_by-cons (λ e. blocks_charge e.1.content.blocks) (e.0, use_known e.0 e.1) (rows use_known es)
      ∙ ap (λ n. blocks_charge e.1.content.blocks + n) (sum-used es)
      ∙ sym (sum_by-cons (λ e. blocks_charge e.1.content.blocks) e es)

  -- last uses are charged nothing
  charge-used : (nodes : Nodes) → flat_charge (mapped use_known nodes) ≡ flat_charge nodes
  unfolding flat_charge
  charge-used nodes = ap (sum_by (λ e. blocks_charge e.1.content.blocks)) (entries-mapped use_known nodes) ∙ sum-used (entries nodes)

  -- nodes that spell numbered ones but for their last uses are charged alike
  pub charge-known : (nodes : Nodes) (numbered : Numbering PlacedFile)
      → ((number : ℕ) → option_map (use_known number) (get nodes number) ≡ option_map flat_node (get numbered number)) → flat_charge nodes ≡ nodes_charge numbered
  charge-known nodes numbered known =
      sym (charge-used nodes) ∙ charge-spelled (mapped use_known nodes) numbered (λ number. get-mapped use_known nodes number ∙ known number)

module _ {M : Type 0} (v : StoreValue M) (c : Contents) (s : MachineState) (lies : LiesOver v c s) (numbered : Numbering PlacedFile) where
  -- THE CHARGE that a store counts is that of the nodes that it knows
  pub tally_charge-known : AreKnown v c numbered → v.tally.charge ≡ nodes_charge numbered
  tally_charge-known known = lies.tally.charge ∙ charge-known (λ number. slice_index v.uses number) (nodes_of v c) numbered known

  pub tally_charge-tree : KnowsTree v c numbered → v.tally.charge ≡ nodes_charge numbered
  tally_charge-tree knows = tally_charge-known knows.known

-- ONE NODE CHANGES

-- what a number is charged
abbrev pub number_charge : Option (NumberedNode PlacedFile) → ℕ
number_charge None = 0
number_charge (Some node) = numbered_charge node

-- a node as it lies is charged as the numbered one
flat_charged : (o : Option (NumberedNode PlacedFile)) → charged (option_map flat_node o) ≡ number_charge o
flat_charged None = refl
flat_charged (Some (Directory es)) = blocks_charge-directory es
flat_charged (Some (Leaf file)) = refl

module _ (nodes : Numbering PlacedFile) (number : ℕ) where
  -- the nodes as they lie
  laid : Nodes
  laid = mapped (λ n node. flat_node node) nodes

  laid-spell : Spell laid nodes
  unfolding laid
  laid-spell n = get-mapped (λ n node. flat_node node) nodes n

  laid_charged : charged (get laid number) ≡ number_charge (get nodes number)
  laid_charged = ap charged (laid-spell number) ∙ flat_charged (get nodes number)

  reckon : (new old was is flat_new flat_old flat_was flat_is : ℕ) → flat_new + flat_was ≡ flat_old + flat_is → flat_new ≡ new → flat_old ≡ old → flat_was ≡ was → flat_is ≡ is → new + was ≡ old + is
  reckon new old was is flat_new flat_old flat_was flat_is e a b c d = omega arith

  -- a node is put: it is charged in place of what the number had
  pub nodes_charge-insert : (node : NumberedNode PlacedFile) → nodes_charge (insert nodes number node) + number_charge (get nodes number) ≡ nodes_charge nodes + numbered_charge node
  nodes_charge-insert node =
      let put = with_node laid number (Some (flat_node node)) in
      reckon (nodes_charge (insert nodes number node)) (nodes_charge nodes) (number_charge (get nodes number)) (numbered_charge node)
      (flat_charge put) (flat_charge laid) (charged (get laid number)) (charged (get put number))
      (charge_replaced laid put number (λ q ne. with_node-other laid number (Some (flat_node node)) q ne))
      (charge-spelled put (insert nodes number node) (Spell-insert laid nodes laid-spell number node))
      (charge-spelled laid nodes laid-spell)
      laid_charged
      (ap charged (with_node-same laid number (Some (flat_node node))) ∙ flat_charged (Some node))

  -- a new node is charged beside the others
  pub nodes_charge-new : (node : NumberedNode PlacedFile) → get nodes number ≡ None → nodes_charge (insert nodes number node) ≡ nodes_charge nodes + numbered_charge node
  nodes_charge-new node free =
      let put = nodes_charge-insert node in
      let nothing : number_charge (get nodes number) ≡ 0 = ap number_charge free in
      omega (arith, put, nothing)

  -- another node in place of one
  pub nodes_charge-replaced : (old new : NumberedNode PlacedFile) → get nodes number ≡ Some old → nodes_charge (insert nodes number new) + numbered_charge old ≡ nodes_charge nodes + numbered_charge new
  nodes_charge-replaced old new has = ap (λ o. nodes_charge (insert nodes number new) + number_charge o) (sym has) ∙ nodes_charge-insert new

  -- a number is freed: what it had is no longer charged
  pub nodes_charge-remove : nodes_charge (remove nodes number) + number_charge (get nodes number) ≡ nodes_charge nodes
  nodes_charge-remove =
      let less = with_node laid number None in
      let e = reckon (nodes_charge (remove nodes number)) (nodes_charge nodes) (number_charge (get nodes number)) 0
      (flat_charge less) (flat_charge laid) (charged (get laid number)) (charged (get less number))
      (charge_replaced laid less number (λ q ne. with_node-other laid number None q ne))
      (charge-spelled less (remove nodes number) (Spell-remove laid nodes laid-spell number))
      (charge-spelled laid nodes laid-spell)
      laid_charged
      (ap charged (with_node-same laid number None)) in
      omega (arith, e)

-- DIRECTORIES

-- a directory is charged by its bytes
pub names_charge-bytes : (es : List Entry) → names_charge (entry_names es) ≡ directory_charge (length (dir_bytes es))
unfolding directory_charge
names_charge-bytes es = ap (λ n. parts_charge (nat_lt 12 (blocks_of n)) (blocks_of n)) (sym (length-dir_bytes es))

-- so it is by numbers
pub numbered_charge-directory : (es : List Entry) → numbered_charge (Directory es) ≡ directory_charge (length (dir_bytes es))
numbered_charge-directory es = names_charge-bytes es
