-- An image has one newest record, one chain, one value of its tables and one map of nodes.
use Rattle.std.proofs.Common.{◌≡◌, ◌≢◌, ◌⊎◌, inl, inr, ⊎_elim, ℕ, ◌+◌, ◌<◌, ◌≤◌, List, refl, sym, ◌∙◌, ap, subst, arith}
use Rattle.std.specs.Prelude.{slice_index, Option, Some, None}
use Rattle.std.specs.FinMap.{get, same_map, nat_cmp-IsAntisymmetric}
use Rattle.std.proofs.lemmas.Cmp.{nat_cmp_total}
use Rattle.std.proofs.lemmas.Bool.{cases_lt}
use Rattle.std.proofs.lemmas.List.{same_lists, get_or_default}
use Rattle.hl_media.specs.History.{Image}
use Rattle.hl_addr.specs.Layout.{Layout, IsWithinLimits}
use Rattle.hl_addr.specs.Slots.{slot_number}
use Rattle.hl_addr.specs.declared.place.Place.TheVariants.{Tertiary, Nothing}
use Rattle.hl_addr.proofs.PlaceLemmas.{place_only}
use Rattle.hl_super.specs.declared.record.Record.{Record}
use Rattle.hl_super.specs.Records.{record_in}
use Rattle.hl_super.proofs.RecordLemmas as records
use Rattle.hl_summary.specs.declared.parts.Summary.{Summary}
use Rattle.hl_image.specs.Newest.{IsNewestRecord, IsRecordAt, label_of, home_of, start_of}
use Rattle.hl_image.specs.Chain.{IsCutChain}
use Rattle.hl_image.proofs.ChainLemmas.{one_cut_chain}
use Rattle.hl_log.proofs.Records.{homes}
use Rattle.hl_tseg.specs.SlotTable.{SlotTable, slot_at}
use Rattle.hl_tseg.specs.declared.slot.Slot.{Slot}
use Rattle.hl_tables.specs.Values.{TableValues}
use Rattle.hl_inode.specs.declared.inode.Kind.{Kind}
use Rattle.hl_inode.specs.declared.inode.Inode.{Inode}
use Rattle.hl_paths.specs.Nodes.{FlatNode, Nodes}
use Rattle.hl_placed.specs.Blocks.{Away, Block, Here, Hole, file_block, blocks_of}
use Rattle.hl_nodes.specs.Tables.{parts_laid, SpellTables, HasLaidTables}
use Rattle.hl_nodes.specs.Pointers.{pointer_of}
use Rattle.hl_nodes.specs.Blocks.{LiesAway, StandsFor}
use Rattle.hl_tseg.specs.Slots.{HoldsSerial}
use Rattle.hl_nodes.specs.Nodes.{IsNodeOf, IsMapEntry, HasNodes}
use Rattle.hl_nodes.specs.Contents.{Contents, HasContents}
use Rattle.hl_nodes.proofs.PointerLemmas.{in_log-some, in_log-near}
use Rattle.hl_nodes.proofs.Frame.{limits_of, one_inode}
use Rattle.hl_tables.proofs.TableSpelling.{tables_decide}

-- a block is one record
record_once : (g : Layout) (image : Image) (at : ℕ) (r s : Record) → IsRecordAt g image at r → IsRecordAt g image at s → r ≡ s
record_once g image at r s x y = sym (records.only at (label_of g) (image at) (record_in (image at)) refl r x) ∙ records.only at (label_of g) (image at) (record_in (image at)) refl s y

same_or_other : (m n : ℕ) → (home_of n ≡ home_of m) ⊎ ((home_of n ≡ home_of (m + 1)) × (home_of m ≡ home_of (n + 1)))
same_or_other m n = by_homes (homes m) (homes n)
  where
    by_homes : ((home_of m ≡ 1) × (home_of (m + 1) ≡ 2)) ⊎ ((home_of m ≡ 2) × (home_of (m + 1) ≡ 1)) → ((home_of n ≡ 1) × (home_of (n + 1) ≡ 2)) ⊎ ((home_of n ≡ 2) × (home_of (n + 1) ≡ 1))
        → (home_of n ≡ home_of m) ⊎ ((home_of n ≡ home_of (m + 1)) × (home_of m ≡ home_of (n + 1)))
    by_homes (inl a) (inl b) = inl (b.0 ∙ sym a.0)
    by_homes (inl a) (inr b) = inr (b.0 ∙ sym a.1, a.0 ∙ sym b.1)
    by_homes (inr a) (inl b) = inr (b.0 ∙ sym a.1, a.0 ∙ sym b.1)
    by_homes (inr a) (inr b) = inl (b.0 ∙ sym a.0)

-- one record is the newest
pub one_newest : (g : Layout) (image : Image) (r s : Record) → IsNewestRecord g image r → IsNewestRecord g image s → r ≡ s
one_newest g image r s x y = ⊎_elim
    (λ e. record_once g image (home_of r.number) r s x.here (subst (λ (n : ℕ). IsRecordAt g image n s) e y.here))
    (λ e. absurd (
    let a : s.number < r.number = x.other s (subst (λ (n : ℕ). IsRecordAt g image n s) e.0 y.here) in
    let b : r.number < s.number = y.other r (subst (λ (n : ℕ). IsRecordAt g image n r) e.1 x.here) in
    omega arith))
    (same_or_other r.number s.number)

-- the table blocks of an image spell one value
pub one_spelling : (g : Layout) → IsWithinLimits g → (image : Image) (addresses : List ℕ) (v w : TableValues) → SpellTables g image addresses v → SpellTables g image addresses w → v ≡ w
one_spelling g limits image addresses v w x y = tables_decide g limits v w x.values y.values (λ i lt. sym (x.blocks i lt) ∙ y.blocks i lt)

pub one_tables : (g : Layout) → IsWithinLimits g → (image : Image) (rec : Record) (parts : List Summary) (s t : TableValues) → HasLaidTables g image rec parts s → HasLaidTables g image rec parts t → s ≡ t
one_tables g limits image rec parts s t x y =
    sym x.laid_over ∙ ap (λ (v : TableValues). parts_laid v (start_of rec) parts) (one_spelling g limits image rec.tables x.before y.before x.spelled y.spelled) ∙ y.laid_over

-- a slot holds one serial
one_serial : (slot : Slot) (m n : ℕ) → HoldsSerial slot m → HoldsSerial slot n → m ≡ n
one_serial slot m n x y = let e = sym x ∙ y in cc

module _ (g : Layout) (limits : IsWithinLimits g) (slots : SlotTable) where
  pub away_once : (p : ℕ) (m n i j : ℕ) → LiesAway g slots p m i → LiesAway g slots p n j → Away m i ≡ Away n j
  away_once p m n i j x y =
      let e : Tertiary x.volume x.slot i ≡ Tertiary y.volume y.slot j = place_only g limits p (Tertiary x.volume x.slot i) (Tertiary y.volume y.slot j) x.place y.place in
      let volume : x.volume ≡ y.volume = cc in
      let slot : x.slot ≡ y.slot = cc in
      let position : i ≡ j = cc in
      let number : slot_number g.volumes x.volume x.slot ≡ slot_number g.volumes y.volume y.slot = ap (λ (v : ℕ). slot_number g.volumes v x.slot) volume ∙ ap (slot_number g.volumes y.volume) slot in
      let serial : m ≡ n = one_serial (slot_at slots (slot_number g.volumes y.volume y.slot)) m n (subst (λ (k : ℕ). HoldsSerial (slot_at slots k) m) number x.holds) y.holds in
      ap (λ (k : ℕ). Away k i) serial ∙ ap (Away n) position

  pub far_some : (p serial position : ℕ) → LiesAway g slots p serial position → p ≢ 4294967295
  far_some p serial position x none = let e = place_only g limits p (Tertiary x.volume x.slot position) Nothing x.place none in cc

  -- a pointer stands for one block
  pub one_block : (image : Image) (kind : Kind) (p : ℕ) (x y : Block) → StandsFor g slots image kind p x → StandsFor g slots image kind p y → x ≡ y
  one_block image kind p Hole Hole a b = refl
  one_block image kind p Hole (Here ys) a b = absurd (in_log-some g limits p b.0 a)
  one_block image kind p Hole (Away n j) a b = absurd (far_some p n j b.1 a)
  one_block image kind p (Here xs) Hole a b = absurd (in_log-some g limits p a.0 b)
  one_block image kind p (Here xs) (Here ys) a b = ap Here (sym a.1 ∙ b.1)
  one_block image kind p (Here xs) (Away n j) a b = absurd (in_log-near g limits p b.1.volume b.1.slot j a.0 b.1.place)
  one_block image kind p (Away m i) Hole a b = absurd (far_some p m i a.1 b)
  one_block image kind p (Away m i) (Here ys) a b = absurd (in_log-near g limits p a.1.volume a.1.slot i b.0 a.1.place)
  one_block image kind p (Away m i) (Away n j) a b = away_once p m n i j a.1 b.1

  same_node : (x y : FlatNode) → x.kind ≡ y.kind → x.content.size ≡ y.content.size → x.content.used ≡ y.content.used → x.content.blocks ≡ y.content.blocks → x ≡ y
  same_node x y kind size used blocks =
      ap (λ (k : Kind). record { kind = k; content = x.content }) kind
      ∙ ap (λ (n : ℕ). record { kind = y.kind; content = record { size = n; used = x.content.used; blocks = x.content.blocks } }) size
      ∙ ap (λ (n : ℕ). record { kind = y.kind; content = record { size = y.content.size; used = n; blocks = x.content.blocks } }) used
      ∙ ap (λ (l : List Block). record { kind = y.kind; content = record { size = y.content.size; used = y.content.used; blocks = l } }) blocks

  -- an inode is one node
  node_once : (image : Image) (v : Inode) (x y : FlatNode) → IsNodeOf g slots image v x → IsNodeOf g slots image v y → x ≡ y
  node_once image v x y a b = same_node x y (a.kind_is ∙ sym b.kind_is) (a.size_is ∙ sym b.size_is) (a.used_is ∙ sym b.used_is)
      (same_lists x.content.blocks y.content.blocks (a.count ∙ sym b.count)
      (λ k d lt.
      let low : k < blocks_of v.size = omega (arith, a.count) in
      get_or_default x.content.blocks k d Hole lt ∙ one_block image v.kind (pointer_of image v k) (file_block x.content k) (file_block y.content k) (a.blocks k low) (b.blocks k low) ∙ get_or_default y.content.blocks k Hole d (omega (arith, b.count))))

  -- an entry of the inode map is one node, or none
  one_entry : (image : Image) (ino address : ℕ) (x y : Option FlatNode) → IsMapEntry g slots image ino address x → IsMapEntry g slots image ino address y → x ≡ y
  one_entry image ino address None None a b = refl
  one_entry image ino address None (Some y) a b = absurd (in_log-some g limits address b.there.in_log a)
  one_entry image ino address (Some x) None a b = absurd (in_log-some g limits address a.there.in_log b)
  one_entry image ino address (Some x) (Some y) a b =
      let same : a.inode ≡ b.inode = one_inode (image address) (image address) a.inode b.inode refl a.there.spelled b.there.spelled in
      ap Some (node_once image b.inode x y (subst (λ (v : Inode). IsNodeOf g slots image v x) same a.is) b.is)

-- tables name one map of nodes
pub one_nodes : (g : Layout) → IsWithinLimits g → (image : Image) (t : TableValues) (m n : Nodes) → HasNodes g image t m → HasNodes g image t n → m ≡ n
one_nodes g limits image t m n x y = same_map nat_cmp_total nat_cmp-IsAntisymmetric m n by_range
  where
    within : (ino : ℕ) → 1 ≤ ino → ino < g.inodes → get m ino ≡ get n ino
    within ino low high = one_entry g limits t.slots image ino (slice_index t.inodes ino) (get m ino) (get n ino) (x.entries ino low high) (y.entries ino low high)

    from_one : (ino : ℕ) → 1 ≤ ino → (ino < g.inodes) ⊎ (g.inodes ≤ ino) → get m ino ≡ get n ino
    from_one ino low (inl high) = within ino low high
    from_one ino low (inr past) = x.past ino past ∙ sym (y.past ino past)

    by_range : (ino : ℕ) → get m ino ≡ get n ino
    by_range ino = ⊎_elim (λ zero. (let e : ino ≡ 0 = omega arith in ap (get m) e ∙ x.zero ∙ sym y.zero ∙ ap (get n) (sym e))) (λ low. from_one ino low (cases_lt ino g.inodes)) (cases_lt ino 1)

-- AN IMAGE HAS ONE CONTENTS
pub one_contents : (g : Layout) (image : Image) (c d : Contents) → HasContents g image c → HasContents g image d → c ≡ d
one_contents g image c d x y =
    let limits = limits_of g image c.rec x.newest x.volumes in
    let rec : c.rec ≡ d.rec = one_newest g image c.rec d.rec x.newest y.newest in
    let parts : c.parts ≡ d.parts = one_cut_chain g image (start_of d.rec) d.rec.serial c.parts d.parts
    (subst (λ (r : Record). IsCutChain g image (start_of r) r.serial c.parts) rec x.chain) y.chain in
    let tables : c.tables ≡ d.tables = one_tables g limits image d.rec d.parts c.tables d.tables
    (subst (λ (l : List Summary). HasLaidTables g image d.rec l c.tables) parts (subst (λ (r : Record). HasLaidTables g image r c.parts c.tables) rec x.tables)) y.tables in
    let nodes : c.nodes ≡ d.nodes = one_nodes g limits image d.tables c.nodes d.nodes (subst (λ (t : TableValues). HasNodes g image t c.nodes) tables x.nodes) y.nodes in
    ap (λ (r : Record). record { rec = r; parts = c.parts; tables = c.tables; nodes = c.nodes }) rec
    ∙ ap (λ (l : List Summary). record { rec = d.rec; parts = l; tables = c.tables; nodes = c.nodes }) parts
    ∙ ap (λ (t : TableValues). record { rec = d.rec; parts = d.parts; tables = t; nodes = c.nodes }) tables
    ∙ ap (λ (n : Nodes). record { rec = d.rec; parts = d.parts; tables = d.tables; nodes = n }) nodes
