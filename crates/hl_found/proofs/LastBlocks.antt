-- Where a shelf serves the files of an image, their last blocks on the disk are zero past the size.
use Rattle.std.specs.FinMap.{get}
use Rattle.std.proofs.Common.{◌≡◌, ◌≢◌, ◌⊎◌, inl, inr, ℕ, zero, suc, ◌+◌, ◌*◌, ◌/◌, ◌%◌, ◌<◌, ◌≤◌, true, false, List, [], ◌∷◌, length, drop, get_or, refl, sym, ap, ◌∙◌, subst, arith}
use Rattle.std.specs.Prelude.{Option, Some, unwrap_or}
use Rattle.std.proofs.lemmas.Nat.{mod_below}
use Rattle.std.proofs.lemmas.Bool.{cases_lt, cases_eq}
use Rattle.std.proofs.lemmas.Bool.Decides.{nat_tests}
use Rattle.std.proofs.lemmas.List.{get_or_past, get_or-drop, get_or-take, length-take}
use Rattle.hl_bytes.specs.Buffers.{block_of}
use Rattle.hl_media.specs.History.{Image, area}
use Rattle.hl_addr.specs.Layout.{Layout, IsWithinLimits}
use Rattle.hl_addr.specs.Place.{IsAt}
use Rattle.hl_addr.specs.Slots.{slot_number}
use Rattle.hl_addr.specs.declared.place.Place.TheVariants.{Tertiary, Nothing}
use Rattle.hl_addr.proofs.PlaceLemmas.{place_only, has_blocks}
use Rattle.hl_tseg.specs.declared.slot.Slot.{Slot}
use Rattle.hl_tseg.specs.declared.slot.Slot.TheVariants.{Free, Staged, Home, Spoilt}
use Rattle.hl_tseg.specs.SlotTable.{SlotTable, slot_at}
use Rattle.hl_tables.specs.Values.{TableValues}
use Rattle.hl_image.proofs.PartLemmas.{area_bytes}
use Rattle.hl_inode.specs.declared.inode.Kind.{Kind}
use Rattle.hl_inode.specs.declared.inode.Kind.TheVariants.{File}
use Rattle.hl_placed.specs.Blocks.{Away, Block, Here, Hole, Shelf, blocks_of, byte_of, file_block}
use Rattle.hl_placed.specs.Placed.{PlacedTree}
use Rattle.hl_placed.proofs.Blocks.{quotient, rest}
use Rattle.hl_paths.specs.Nodes.{FlatNode, HasTree, Nodes}
use Rattle.hl_tree.specs.declared.node.Node.TheVariants as nodes_of
use Rattle.hl_tseg.specs.Slots.{serial_of}
use Rattle.hl_nodes.specs.Pointers.{pointer_of}
use Rattle.hl_nodes.specs.Blocks.{StandsFor}
use Rattle.hl_nodes.specs.Nodes.{HasNodes, IsNodeOf}
use Rattle.hl_nodes.specs.Lines.{line_start, line_bytes, with_staged, InStagedLine, OnDisk}
use Rattle.hl_nodes.specs.Order.{EndsFiles}
use Rattle.hl_nodes.specs.Sound.{AreSlots}
use Rattle.hl_nodes.specs.Files.{Serves}
use Rattle.hl_nodes.proofs.Determined.{one_block}
use Rattle.hl_nodes.proofs.ImageLinks.{inode_node}
use Rattle.hl_nodes.proofs.PointerLemmas.{in_log-near}
use Rattle.hl_found.proofs.ShelvesFound.{at_serial}
use Rattle.hl_found.proofs.TreeServed.{number_file}

-- a staged segment is what its line has, where no other slot has its serial
pub staged_there : (g : Layout) (image : Image) (shelf : Shelf) (slots : List Slot) (n line serial : ℕ) → get_or slots n Free ≡ Staged line serial
    → ((m other : ℕ) → get_or slots m Free ≡ Staged other serial → other ≡ line) → get (with_staged g image shelf slots) serial ≡ Some (line_bytes g image line)
staged_there g image shelf [] n line serial e one = absurd (let never : Free ≡ Staged line serial = e in cc)
staged_there g image shelf (Staged l own ∷ slots) n line serial e one = by n e (λ k f. staged_there g image shelf slots k line serial f (λ m. one (suc m))) (cases_eq serial own)
  where
    by : (n : ℕ) → get_or (Staged l own ∷ slots) n Free ≡ Staged line serial → ((k : ℕ) → get_or slots k Free ≡ Staged line serial → get (with_staged g image shelf slots) serial ≡ Some (line_bytes g image line))
        → (serial ≡ own) ⊎ (serial ≡ own → ⊥) → get (with_staged g image shelf (Staged l own ∷ slots)) serial ≡ Some (line_bytes g image line)
    by n f later (inl same) =
        let its : l ≡ line = one 0 l (ap (Staged l) (sym same)) in
        at_serial (with_staged g image shelf slots) own serial (line_bytes g image l) true (grind (arith, nat_tests)) ∙ ap (λ (k : ℕ). Some (line_bytes g image k)) its
    by zero f later (inr differ) = absurd (differ (cc))
    by (suc k) f later (inr differ) = at_serial (with_staged g image shelf slots) own serial (line_bytes g image l) false (grind (arith, nat_tests)) ∙ later k f
staged_there g image shelf (Home own ∷ slots) zero line serial e one = absurd (let never : Home own ≡ Staged line serial = e in cc)
staged_there g image shelf (Home own ∷ slots) (suc k) line serial e one = staged_there g image shelf slots k line serial e (λ m. one (suc m))
staged_there g image shelf (Free ∷ slots) zero line serial e one = absurd (let never : Free ≡ Staged line serial = e in cc)
staged_there g image shelf (Free ∷ slots) (suc k) line serial e one = staged_there g image shelf slots k line serial e (λ m. one (suc m))
staged_there g image shelf (Spoilt ∷ slots) zero line serial e one = absurd (let never : Spoilt ≡ Staged line serial = e in cc)
staged_there g image shelf (Spoilt ∷ slots) (suc k) line serial e one = staged_there g image shelf slots k line serial e (λ m. one (suc m))

-- a byte of a block, and of a block of an area
byte_in : (bytes : List ℕ) (a k : ℕ) → k < 4096 → get_or (block_of bytes a) k 0 ≡ get_or bytes (4096 * a + k) 0
unfolding block_of
byte_in bytes a k lt = get_or-take 4096 (drop (4096 * a) bytes) k 0 lt ∙ get_or-drop (4096 * a) bytes k 0

byte_of_area : (bytes : List ℕ) (start n position k : ℕ) → position < n → k < 4096 → get_or (area (block_of bytes) start n) (4096 * position + k) 0 ≡ get_or (block_of bytes (start + position)) k 0
byte_of_area bytes start n position k low lt =
    let place : 4096 * start + (4096 * position + k) ≡ 4096 * (start + position) + k = omega arith in
    ap (λ (l : List ℕ). get_or l (4096 * position + k) 0) (area_bytes bytes start n)
    ∙ get_or-take (4096 * n) (drop (4096 * start) bytes) (4096 * position + k) 0 (omega arith)
    ∙ get_or-drop (4096 * start) bytes (4096 * position + k) 0
    ∙ ap (λ (j : ℕ). get_or bytes j 0) place ∙ sym (byte_in bytes (start + position) k lt)

begun : (size : ℕ) → size % 4096 ≢ 0 → size / 4096 < blocks_of size
unfolding blocks_of
begun size part = omega (arith, part)

block_short : (bytes : List ℕ) (a : ℕ) → length (block_of bytes a) ≤ 4096
unfolding block_of
block_short bytes a = omega (arith, length-take 4096 (drop (4096 * a) bytes))

rest_below : (a k : ℕ) → 0 < k → a % k < k
rest_below a k some = mod_below a k some

module _ (g : Layout) (limits : IsWithinLimits g) (bytes : List ℕ) (shelf : Shelf) (slots : SlotTable) (next : ℕ) (are : AreSlots g slots next) where
  abbrev image : Image
  image = block_of bytes

  abbrev own : Shelf
  own = with_staged g image shelf slots.slots

  below_k : (pointer volume slot position : ℕ) → IsAt g pointer (Tertiary volume slot position) → position < g.k
  below_k pointer volume slot position at = let some = has_blocks g.k limits.segment_size in subst (λ (n : ℕ). n < g.k) at.1.block_is (rest_below pointer g.k some)

  -- what lies in a line has the bytes of the block that the pointer stands for
  in_line : (b : Block) (pointer address k : ℕ) → k < 4096 → StandsFor g slots image File pointer b → InStagedLine g slots pointer address → get_or (image address) k 0 ≡ byte_of own b k
  in_line Hole pointer address k lt stands line = absurd (let e = place_only g limits pointer (Tertiary line.volume line.slot line.position) Nothing line.place stands in cc)
  in_line (Here xs) pointer address k lt stands line = absurd (in_log-near g limits pointer line.volume line.slot line.position stands.0 line.place)
  in_line (Away serial position) pointer address k lt stands line =
      let away = stands.1 in
      let e = place_only g limits pointer (Tertiary away.volume away.slot position) (Tertiary line.volume line.slot line.position) away.place line.place in
      let v : away.volume ≡ line.volume = cc in
      let s : away.slot ≡ line.slot = cc in
      let p : position ≡ line.position = cc in
      let n : slot_number g.volumes away.volume away.slot ≡ slot_number g.volumes line.volume line.slot = cc in
      let held : slot_at slots (slot_number g.volumes away.volume away.slot) ≡ Staged line.line line.serial = ap (slot_at slots) n ∙ line.staged in
      let both : Some line.serial ≡ Some serial = sym (ap serial_of held) ∙ away.holds in
      let same : line.serial ≡ serial = cc in
      let there = staged_there g image shelf slots.slots (slot_number g.volumes line.volume line.slot) line.line line.serial line.staged
      (λ m other f. (let one = are.one_slot m (slot_number g.volumes line.volume line.slot) line.serial (ap serial_of f) (ap serial_of line.staged) in
      let two : Staged other line.serial ≡ Staged line.line line.serial = sym f ∙ ap (slot_at slots) one ∙ line.staged in cc)) in
      let low : line.position < g.k = below_k pointer line.volume line.slot line.position line.place in
      ap (λ (a : ℕ). get_or (image a) k 0) line.block_is
      ∙ sym (byte_of_area bytes (line_start g line.line) g.k line.position k low lt)
      ∙ ap (λ (o : Option (List ℕ)). get_or (unwrap_or o []) (4096 * line.position + k) 0) (sym there)
      ∙ ap (λ (q : ℕ). get_or (unwrap_or (get own line.serial) []) (4096 * q + k) 0) (sym p)
      ∙ ap (λ (q : ℕ). get_or (unwrap_or (get own q) []) (4096 * position + k) 0) same

  on_disk : (b : Block) (pointer address k : ℕ) → k < 4096 → StandsFor g slots image File pointer b → OnDisk g slots pointer address → get_or (image address) k 0 ≡ byte_of own b k
  on_disk b pointer address k lt stands (inl (logged, same)) =
      let is : b ≡ Here (image pointer) = one_block g limits slots image File pointer b (Here (image pointer)) stands (logged, refl) in
      ap (λ (a : ℕ). get_or (image a) k 0) same ∙ ap (λ (x : Block). byte_of own x k) (sym is)
  on_disk b pointer address k lt stands (inr line) = in_line b pointer address k lt stands line

-- a file's last block on the disk is zero past the size, where a shelf serves the tree
module _ (g : Layout) (limits : IsWithinLimits g) (bytes : List ℕ) (shelf : Shelf) (t : TableValues) (next : ℕ) (are : AreSlots g t.slots next)
    (nodes : Nodes) (has : HasNodes g (block_of bytes) t nodes) (placed : PlacedTree) (tree : HasTree nodes placed) (serves : Serves (with_staged g (block_of bytes) shelf t.slots.slots) placed) where
  pub ends_files : EndsFiles g (block_of bytes) t
  ends_files ino own address v there file part lies k le = by (cases_lt k 4096)
    where
      at : (node : FlatNode) × (get nodes ino ≡ Some node) × IsNodeOf g t.slots (block_of bytes) v node
      at = inode_node g limits (block_of bytes) t nodes has ino own v there

      within : (v.size / 4096) < blocks_of v.size
      within = begun v.size part

      stands : StandsFor g t.slots (block_of bytes) File (pointer_of (block_of bytes) v (v.size / 4096)) (file_block at.0.content (v.size / 4096))
      stands = subst (λ (kind : Kind). StandsFor g t.slots (block_of bytes) kind (pointer_of (block_of bytes) v (v.size / 4096)) (file_block at.0.content (v.size / 4096))) file (at.2.blocks (v.size / 4096) within)

      path : (path : List (List ℕ)) × (get placed path ≡ Some (nodes_of.File at.0.content))
      path = number_file nodes placed tree ino at.0 at.1 (at.2.kind_is ∙ file)

      past : at.0.content.size ≤ 4096 * (v.size / 4096) + k
      past = let same = at.2.size_is in omega arith

      by : (k < 4096) ⊎ (4096 ≤ k) → get_or (block_of bytes address) k 0 ≡ 0
      by (inl lt) =
          on_disk g limits bytes shelf t.slots next are (file_block at.0.content (v.size / 4096)) (pointer_of (block_of bytes) v (v.size / 4096)) address k lt stands lies
          ∙ ap (λ (n : ℕ). byte_of (with_staged g (block_of bytes) shelf t.slots.slots) (file_block at.0.content n) k) (sym (quotient (v.size / 4096) k lt))
          ∙ ap (λ (n : ℕ). byte_of (with_staged g (block_of bytes) shelf t.slots.slots) (file_block at.0.content ((4096 * (v.size / 4096) + k) / 4096)) n) (sym (rest (v.size / 4096) k lt))
          ∙ serves.zeros path.0 at.0.content path.1 (4096 * (v.size / 4096) + k) past
      by (inr ge) = get_or_past (block_of bytes address) k 0 (omega (arith, block_short bytes address))
