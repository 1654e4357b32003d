-- The first tables name the root alone.
use Rattle.std.proofs.Common.{◌≡◌, ◌≢◌, inl, ⊎_elim, ℕ, ◌+◌, ◌-◌, ◌*◌, ◌<◌, ◌≤◌, Bool, true, false, cond, nat_eq, List, [], refl, sym, ◌∙◌, ap, subst, arith}
use Rattle.std.specs.Prelude.{Some, None, slice_index}
use Rattle.std.specs.FinMap.{get, empty, entries, get-empty, get-insert, entries-insert, len-entries, len-empty}
use Rattle.std.specs.FinMap.Entries.{put}
use Rattle.std.specs.Ordering.{nat_cmp}
use Rattle.std.specs.Cmp.{unsigned_tied}
use Rattle.std.specs.List.{sum_by}
use Rattle.std.proofs.lemmas.Cmp.{nat_cmp_total}
use Rattle.std.proofs.lemmas.Bool.{cases_eq}
use Rattle.std.proofs.lemmas.Bool.Decides.{nat_tests}
use Rattle.std.proofs.lemmas.List.{nil_from_length}
use Rattle.std.proofs.Math.Nat.{mul-le-mul}
use Rattle.hl_media.specs.History.{Image}
use Rattle.hl_addr.specs.Layout.{Layout, IsWithinLimits, quota}
use Rattle.hl_addr.specs.Place.{IsIn}
use Rattle.hl_addr.proofs.SegmentLemmas.{is_in}
use Rattle.hl_dir.specs.Dirs.{dir_bytes}
use Rattle.hl_inode.specs.Inodes.{Spells}
use Rattle.hl_inode.specs.declared.inode.Inode.{Inode}
use Rattle.hl_tseg.specs.SlotTable.{SlotTable}
use Rattle.hl_image.specs.Places.{InLog}
use Rattle.hl_log.proofs.Sites.{large_segments}
use Rattle.hl_tables.specs.Values.{TableValues}
use Rattle.hl_placed.specs.Blocks.{blocks_of}
use Rattle.hl_placed.specs.Charges.{blocks_charge}
use Rattle.hl_paths.specs.Numbered.{Directory}
use Rattle.hl_paths.specs.Nodes.{FlatNode, directory_content, flat_node, flat_charge, fresh_nodes}
use Rattle.hl_nodes.specs.Nodes.{IsInodeAt, IsNodeOf, IsNodeAt, IsMapEntry, HasNodes}
use Rattle.hl_nodes.specs.Live.{NodeBlock, LiesAt, IsNodeBlock}
use Rattle.hl_nodes.specs.Live.NodeBlock.{Own, Pointers, Content}
use Rattle.hl_nodes.proofs.Frame.{one_inode}
use Rattle.hl_nodes.proofs.PointerLemmas.{in_log-some}
use Rattle.hl_mkfs.specs.Parts.{first_tables, root_address, root_bytes, root_inode}
use Rattle.hl_mkfs.proofs.FirstTables.{entry_root, entry_none, root_spelled}

-- the root's node
abbrev pub root_node : FlatNode
root_node = flat_node (Directory [])

-- what is under a number
at_number : (ino : ℕ) (b : Bool) → nat_eq ino 1 ≡ b → get fresh_nodes ino ≡ cond b (Some root_node) None
at_number ino b e =
    get-insert nat_cmp_total empty 1 root_node ino
    ∙ ap (λ (x : Bool). cond x (Some root_node) (get (empty {X = FlatNode} {R = nat_cmp}) ino)) (unsigned_tied ino 1 ∙ e)
    ∙ ap (cond b (Some root_node)) (get-empty nat_cmp ino)

pub get_root : get fresh_nodes 1 ≡ Some root_node
get_root = at_number 1 true refl

pub get_none : (ino : ℕ) → ino ≢ 1 → get fresh_nodes ino ≡ None
get_none ino other = at_number ino false (not_one ino other)
  where
    not_one : (n : ℕ) → n ≢ 1 → nat_eq n 1 ≡ false
    not_one n other = grind (arith, nat_tests)

-- what it is charged
fresh_entries : entries fresh_nodes ≡ put nat_cmp 1 root_node []
fresh_entries = entries-insert nat_cmp_total empty 1 root_node
    ∙ ap (put nat_cmp 1 root_node) (nil_from_length (entries (empty {X = FlatNode} {R = nat_cmp})) (sym (len-entries (empty {X = FlatNode} {R = nat_cmp})) ∙ len-empty nat_cmp FlatNode))

fresh_charge : flat_charge fresh_nodes ≡ 1
unfolding flat_charge directory_content dir_bytes blocks_of
fresh_charge = ap (sum_by (λ e. blocks_charge e.1.content.blocks)) fresh_entries

pub charge_within : (g : Layout) → IsWithinLimits g → flat_charge fresh_nodes ≤ quota g
charge_within g is =
    let k = large_segments g is in
    let log = is.log_count.0 in
    let four : 4 ≤ g.log - 12 = omega arith in
    let many : 4 * 64 ≤ (g.log - 12) * g.k = mul-le-mul four k in
    let e = fresh_charge in
    omega arith

module _ (g : Layout) (is : IsWithinLimits g) where
  pub root_in_log : InLog g (root_address g)
  root_in_log =
      let k = large_segments g is in
      let log = is.log_count.0 in
      let here : 1 * g.k + 1 ≡ root_address g = omega arith in
      record { segment = 1; block = 1; place = (omega arith, omega arith, subst (λ (a : ℕ). IsIn g a 1 1) here (is_in g 1 1 (omega arith))) }

  abbrev table : TableValues
  table = first_tables g

  module _ (image : Image) (root : image (root_address g) ≡ root_bytes) where
    spelled : Spells (image (root_address g)) root_inode
    spelled = subst (λ (l : List ℕ). Spells l root_inode) (sym root) root_spelled

    root_there : IsInodeAt g image 1 (root_address g) root_inode
    root_there = record { in_log = root_in_log; spelled = spelled; number = refl }

    root_is : (slots : SlotTable) → IsNodeOf g slots image root_inode root_node
    unfolding directory_content dir_bytes blocks_of
    root_is slots = record {
      kind_is = refl;
      size_is = refl;
      used_is = refl;
      count = refl;
      pointers = inl refl;
      blocks = λ i lt. absurd (omega arith);
    }

    entry_is : (ino : ℕ) → ino < g.inodes → IsMapEntry g table.slots image ino (slice_index table.inodes ino) (get fresh_nodes ino)
    entry_is ino lt = ⊎_elim
        (λ one. subst (λ (n : ℕ). IsMapEntry g table.slots image n (slice_index table.inodes n) (get fresh_nodes n)) (sym one)
        (subst (IsMapEntry g table.slots image 1 (slice_index table.inodes 1)) (sym get_root)
        (subst (λ (a : ℕ). IsNodeAt g table.slots image 1 a root_node) (sym (entry_root g is.inode_count.0))
        (record { inode = root_inode; there = root_there; is = root_is table.slots }))))
        (λ other. subst (IsMapEntry g table.slots image ino (slice_index table.inodes ino)) (sym (get_none ino other)) (entry_none g ino lt other))
        (cases_eq ino 1)

    -- THE NODES OF THE FIRST TABLES
    pub root_nodes : HasNodes g image table fresh_nodes
    root_nodes = record {
      entries = λ ino low high. entry_is ino high;
      zero = get_none 0 (omega arith);
      past = λ ino le. get_none ino (let two = is.inode_count.0 in omega arith);
    }

    -- no block but that of the root's inode
    pub record IsRootBlock (ino : ℕ) (block : NodeBlock) (address : ℕ) : Type 0 where
      pub ino_is : ino ≡ 1
      pub block_is : block ≡ Own
      pub address_is : address ≡ root_address g

    of_root : (block : NodeBlock) (address : ℕ) → LiesAt g image (root_address g) root_inode block address → IsRootBlock 1 block address
    unfolding blocks_of
    of_root Own address lies = record { ino_is = refl; block_is = refl; address_is = sym lies }
    of_root Pointers address lies = absurd (in_log-some g is 4294967295 (subst (InLog g) (sym lies.1) lies.0) refl)
    of_root (Content i) address lies = absurd (let lt = lies.0 in omega arith)

    pub only_root : (ino : ℕ) (block : NodeBlock) (address : ℕ) → IsNodeBlock g image table ino block address → IsRootBlock ino block address
    only_root ino block address at = ⊎_elim
        (λ one.
        let entry : slice_index table.inodes ino ≡ root_address g = ap (λ (n : ℕ). slice_index table.inodes n) one ∙ entry_root g is.inode_count.0 in
        let there : IsInodeAt g image ino (root_address g) at.inode = subst (λ (a : ℕ). IsInodeAt g image ino a at.inode) entry at.there in
        let same : root_inode ≡ at.inode = one_inode (image (root_address g)) (image (root_address g)) root_inode at.inode refl spelled there.spelled in
        let lies : LiesAt g image (root_address g) at.inode block address = subst (λ (a : ℕ). LiesAt g image a at.inode block address) entry at.lies in
        let own = of_root block address (subst (λ (v : Inode). LiesAt g image (root_address g) v block address) (sym same) lies) in
        record { ino_is = one; block_is = own.block_is; address_is = own.address_is })
        (λ other. absurd (in_log-some g is (slice_index table.inodes ino) at.there.in_log (entry_none g ino at.high other)))
        (cases_eq ino 1)
