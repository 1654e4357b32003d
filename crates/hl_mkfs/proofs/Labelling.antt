-- The label makes the site.
use Rattle.std.specs.FinMap.{get, empty, get-empty, get-insert, same_entries_map}
use Rattle.std.specs.Ordering.{eq_by_cmp}
use Rattle.std.proofs.Common.{◌≡◌, ◌⊎◌, inl, inr, ℕ, ◌+◌, ◌*◌, ◌/◌, ◌≤◌, Bool, true, false, cond, List, [], length, Option, Some, Result, refl, sym, ◌∙◌, ap, subst, arith}
use Rattle.std.specs.Prelude.{OnOk, slice_index}
use Rattle.std.proofs.Math.Nat.{mul-le-mul_left}
use Rattle.hl_media.specs.declared.failed.Failed.{Failed}
use Rattle.hl_media.specs.History.{Image, History, IsUntouched, MachineState, PendingWrite, overwritten}
use Rattle.hl_media.specs.Moments.{Ends, Runs}
use Rattle.hl_media.specs.Synced.{AddsSyncedWrite}
use Rattle.hl_media.proofs.Images.{overwritten_out}
use Rattle.hl_tree.specs.declared.node.Node.{Node}
use Rattle.hl_tree.specs.declared.node.Node.TheVariants.{Dir, File}
use Rattle.hl_tree.specs.Names.{path_cmp}
use Rattle.hl_tree.specs.OtherContents.{mapped}
use Rattle.hl_tree.specs.Tree.{root_alone}
use Rattle.hl_tree.proofs.Maps.{path_total}
use Rattle.hl_tree.proofs.Sorted.{entries-root_alone}
use Rattle.hl_tree_laws.proofs.OtherContents.{entries-map_contents}
use Rattle.hl_addr.specs.Layout.{Layout, IsWithinLimits}
use Rattle.hl_inode.specs.declared.inode.Inode.{Inode}
use Rattle.hl_inode.specs.declared.inode.Kind.TheVariants as kinds
use Rattle.hl_super.specs.Labels.{Spells}
use Rattle.hl_super.specs.declared.label.Label.{Label}
use Rattle.hl_super.specs.declared.record.Record.{Record}
use Rattle.hl_summary.specs.declared.parts.Summary.{Summary}
use Rattle.hl_image.specs.Places.{IsLogPlace}
use Rattle.hl_image.specs.Chain.{IsCutChain, end_of}
use Rattle.hl_image.specs.Newest.{label_of, start_of}
use Rattle.hl_image.proofs.ChainLemmas.{covers_from, end_place, walk_covered}
use Rattle.hl_image.proofs.PartLemmas.{no_part_same}
use Rattle.hl_log.proofs.Records.{newest_same}
use Rattle.hl_log.proofs.Sites.{large_segments}
use Rattle.hl_log.proofs.Steps.{one_there, torn_after, torn_during}
use Rattle.hl_log.proofs.Wraps.{pair_ends, pair_runs}
use Rattle.hl_placed.specs.Blocks.{PlacedFile, Shelf, plain_bytes}
use Rattle.hl_placed.specs.Placed.{plain}
use Rattle.hl_paths.proofs.Links.{none_some}
use Rattle.hl_paths.proofs.Spelled.{HasTree-fresh}
use Rattle.hl_nodes.specs.Contents.{HasContents}
use Rattle.hl_nodes.specs.Directories.{IsInodeIn}
use Rattle.hl_nodes.specs.Files.{shelf_with}
use Rattle.hl_nodes.specs.Listing.{AreListed, PartRow}
use Rattle.hl_nodes.specs.Live.{IsLive, IsNodeBlock}
use Rattle.hl_nodes.specs.Live.NodeBlock.{Own}
use Rattle.hl_nodes.specs.Nodes.{IsInodeAt}
use Rattle.hl_nodes.specs.Order.{IsInOrder}
use Rattle.hl_nodes.proofs.Frame.{contents_same, limits_of, live_at_back, one_inode}
use Rattle.hl_nodes.proofs.OrderKeeps.{order_none}
use Rattle.hl_nodes.proofs.PointerLemmas.{in_log-low}
use Rattle.hl_nodes.proofs.Rows.{row_lies, row_same}
use Rattle.hl_nodes.proofs.SoundUnits.{sound_same}
use Rattle.hl_nodes.proofs.UnitLaws.{live_in_log}
use Rattle.hl_mkfs.specs.Parts.{first_contents, first_tables, root_address, root_bytes, root_inode}
use Rattle.hl_mkfs.specs.Sites.{HoldsRoot, IsNewSite, IsNoneOrNew}
use Rattle.hl_mkfs.specs.Stages.{IsFounded, Leads, StandsBehind}
use Rattle.hl_mkfs.specs.Stops.{IsMade, StopLeaves}
use Rattle.hl_mkfs.proofs.FirstTables.{root_spelled}
use Rattle.hl_mkfs.proofs.RootNodes.{charge_within, only_root}
use Rattle.hl_mkfs.proofs.Founding.{not_staged}
use Rattle.hl_mkfs.proofs.Zeros.{no_label}

-- THE TREE OF THE ROOT ALONE has no file
no_file : (path : List (List ℕ)) (file : PlacedFile) → get root_alone path ≡ Some (File file) → ⊥
no_file path file there = by (eq_by_cmp path_cmp path []) (sym (get-insert path_total (empty {X = Node PlacedFile} {R = path_cmp}) [] Dir path) ∙ there)
  where
    by : (b : Bool) → cond b (Some Dir) (get (empty {X = Node PlacedFile} {R = path_cmp}) path) ≡ Some (File file) → ⊥
    by true e = cc
    by false e = none_some (sym (get-empty path_cmp path) ∙ e)

plain_root : (shelf : Shelf) → plain shelf root_alone ≡ root_alone
unfolding plain
plain_root shelf = same_entries_map (plain shelf root_alone) root_alone
    (entries-map_contents (plain_bytes shelf) root_alone ∙ ap (mapped (plain_bytes shelf)) (sym entries-root_alone) ∙ entries-root_alone)

-- BLOCKS FROM THE FIRST RECORD ON
module _ (g : Layout) (a b : Image) (same : (k : ℕ) → 1 ≤ k → b k ≡ a k) (new : Record) (stands : StandsBehind g new a) where
  limits : IsWithinLimits g
  limits = limits_of g a new stands.has.newest stands.has.volumes

  many : 64 ≤ g.k
  many = large_segments g limits

  agree : (address : ℕ) → IsLive g a new (first_tables g) address → b address ≡ a address
  agree address live = same address (let low = in_log-low g limits address (live_in_log g a (first_contents g new) stands.has address live) in omega arith)

  start_place : IsLogPlace g (start_of new)
  start_place = (let ranges = stands.has.newest.here.value.ranges in record { low = ranges.seg_low; high = ranges.seg_high; room = ranges.block })

  chain_kept : (parts : List Summary) → IsCutChain g a (start_of new) new.serial parts → IsCutChain g b (start_of new) new.serial parts
  chain_kept parts chain =
      let walk = chain.chain.walk in
      let end = end_place g a (start_of new) new.serial chain.all start_place walk in
      record {
        all = chain.all;
        chain = record {
          walk = walk_covered g a b (start_of new) new.serial chain.all (λ k c. same k (let low = covers_from g a (start_of new) new.serial chain.all start_place walk k c in omega arith)) walk;
          last = no_part_same g a b (end_of (start_of new) chain.all) (new.serial + length chain.all)
              (λ k le lt. same k (let m : g.k * 1 ≤ g.k * (end_of (start_of new) chain.all).seg = mul-le-mul_left g.k end.low in omega arith)) chain.chain.last;
        };
        is = chain.is;
      }

  has_kept : HasContents g b (first_contents g new)
  has_kept = contents_same g a b (first_contents g new) agree (newest_same g a b (Some new) (same 1 (omega arith)) (same 2 (omega arith)) stands.has.newest) (chain_kept [] stands.has.chain) stands.has

  row_kept : (seg : ℕ) (parts : List Summary) → PartRow g a seg 0 parts → PartRow g b seg 0 parts
  row_kept seg parts row = row_same g a b seg 0 parts (λ k from upto. same k (
      let lies = row_lies g a seg 0 parts row k from upto in
      let m : g.k * 1 ≤ g.k * seg = mul-le-mul_left g.k lies.low in
      let low = lies.from in
      omega arith)) row

  listed_kept : AreListed g b (first_contents g new) (start_of new)
  listed_kept = record {
    ahead = record { parts = stands.listed.ahead.parts; row = row_kept new.seg stands.listed.ahead.parts stands.listed.ahead.row; reach = stands.listed.ahead.reach };
    blocks = λ block address at.
        let l = stands.listed.blocks block address (live_at_back g a b (first_contents g new) agree stands.has block address at) in
        record { segment = l.segment; parts = l.parts; row = row_kept l.segment l.parts l.row; lists = l.lists; reach = l.reach };
  }

  stands_same : StandsBehind g new b
  stands_same = record {
    number_is = stands.number_is;
    serial_is = stands.serial_is;
    root = same (root_address g) (omega arith) ∙ stands.root;
    has = has_kept;
    sound = sound_same g a b (first_contents g new) agree stands.has stands.sound;
    listed = listed_kept;
  }

dir_file : kinds.Dir ≡ kinds.File → ⊥
dir_file e = cc

-- WHAT STANDS BEHIND RECORD 1 IS IN ORDER
module _ (g : Layout) (image : Image) (new : Record) (stands : StandsBehind g new image) where
  is : IsWithinLimits g
  is = limits_of g image new stands.has.newest stands.has.volumes

  -- each inode is the root's
  no_file_inode : (ino own : ℕ) (v : Inode) → IsInodeIn g image (first_tables g) ino v own → v.kind ≡ kinds.File → ⊥
  no_file_inode ino own v at file =
      let there : IsInodeAt g image ino (slice_index (first_tables g).inodes ino) v = subst (λ (a : ℕ). IsInodeAt g image ino a v) (sym at.2) at.3 in
      let block : IsNodeBlock g image (first_tables g) ino Own (slice_index (first_tables g).inodes ino) = record { low = at.0; high = at.1; inode = v; there = there; lies = refl } in
      let root = only_root g is image stands.root ino Own (slice_index (first_tables g).inodes ino) block in
      let bytes : image (slice_index (first_tables g).inodes ino) ≡ root_bytes = ap image root.address_is ∙ stands.root in
      let same : root_inode ≡ v = one_inode root_bytes (image (slice_index (first_tables g).inodes ino)) root_inode v bytes root_spelled there.spelled in
      dir_file (ap (λ (x : Inode). x.kind) same ∙ file)

  in_order : IsInOrder g image (first_contents g new) root_alone
  in_order = record {
    has = stands.has;
    sound = stands.sound;
    tree = HasTree-fresh;
    lines = λ n line serial staged. absurd (not_staged g n line serial staged);
    ends = λ ino own address v at file part lies. absurd (no_file_inode ino own v at file);
    charge = charge_within g is;
  }

  holds_root : HoldsRoot g image
  holds_root = record { first = new; number_is = stands.number_is; serial_is = stands.serial_is; in_order = in_order; listed = stands.listed }

  pub new_site : (blocks : ℕ) → Spells blocks (image 0) (label_of g) → IsNewSite blocks g image
  new_site blocks label = record {
    label = label;
    holds = holds_root;
    files = λ shelf. record {
      label = label;
      contents = first_contents g new;
      has = stands.has;
      keeps_rules = order_none g image (first_contents g new) root_alone in_order;
      placed = root_alone;
      tree = HasTree-fresh;
      serves = record {
        segments = λ path file there. absurd (no_file path file there);
        zeros = λ path file there. absurd (no_file path file there);
      };
      are = plain_root (shelf_with g image shelf (first_contents g new));
    };
  }

-- THE WRITE OF THE LABEL
module _ (g : Layout) (blocks : ℕ) (bytes : List ℕ) (size : length bytes ≡ 4096) (spelled : Spells blocks bytes (label_of g))
    (before now : Option History) (r : Result (Unit {0}) Failed) (adds : AddsSyncedWrite before now 0 bytes r) where
  untouched : (s : MachineState) → IsFounded g s → (k : ℕ) → IsUntouched s.pending k
  untouched s founded k = subst (λ (ws : List PendingWrite). IsUntouched ws k) (sym founded.synced) tt

  labelled : (s : MachineState) → IsFounded g s → (image : Image) → ((k : ℕ) → 1 ≤ k → image k ≡ s.content k) → image 0 ≡ bytes → IsNewSite blocks g image
  labelled s founded image same whole = new_site g image founded.new (stands_same g s.content image same founded.new founded.stands) blocks (subst (λ (l : List ℕ). Spells blocks l (label_of g)) (sym whole) spelled)

  either : (s : MachineState) → IsFounded g s → (image : Image) → ((k : ℕ) → 1 ≤ k → image k ≡ s.content k) → (image 0 ≡ bytes) ⊎ ((v : Label) → ¬ Spells blocks (image 0) v) → IsNoneOrNew blocks g image
  either s founded image same (inl whole) = inr (labelled s founded image same whole)
  either s founded image same (inr none) = inl none

  behind : (k : ℕ) → 1 ≤ k → 0 + length bytes / 4096 ≤ k
  behind k low = omega arith

  last_same : (s : MachineState) (k : ℕ) → 1 ≤ k → overwritten s.content 0 (length bytes / 4096) bytes k ≡ s.content k
  last_same s k low = overwritten_out s.content 0 (length bytes / 4096) bytes k (inr (behind k low))

  abbrev P : MachineState → MachineState → Type 0
  P first s = IsFounded g first → StopLeaves blocks g (IsNoneOrNew blocks g) s

  pub label_runs : Runs before now P
  label_runs = pair_runs before now 0 bytes r adds P
      (λ s founded image may chance label. inl (no_label blocks image (may 0 (untouched s founded 0) ∙ founded.label)))
      (λ s founded image may chance label. either s founded image (λ k low. torn_during s 0 bytes [] image may k (inr (behind k low)) (untouched s founded k)) (label.0 (label_of g) refl spelled))
      (λ s after founded image may chance label. either s founded image (λ k low. torn_after s 0 bytes after image may k (inr (behind k low)) (untouched s founded k)) (label.0 (label_of g) refl spelled))
      (λ s founded image may chance label. inr (labelled s founded image (λ k low. may k tt ∙ last_same s k low) (may 0 tt ∙ one_there s.content 0 bytes size)))

  pub label_ends : OnOk r (Ends before now (Leads (IsFounded g) (IsMade blocks g)))
  label_ends = pair_ends before now 0 bytes r adds (Leads (IsFounded g) (IsMade blocks g)) (λ s founded. record {
    synced = refl;
    site = labelled s founded (overwritten s.content 0 (length bytes / 4096) bytes) (λ k low. last_same s k low) (one_there s.content 0 bytes size);
  })
