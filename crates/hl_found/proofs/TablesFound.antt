-- Tables that are read from their blocks one after the other, and parts that are laid over them.
use Rattle.std.proofs.Common.{◌≡◌, ◌⊎◌, inl, inr, ⊎_elim, ℕ, ◌+◌, ◌*◌, ◌<◌, ◌≤◌, List, [], ◌∷◌, ◌++◌, false, length, sum, refl, sym, ap, ◌∙◌, subst, arith, length-append}
use Rattle.std.specs.Prelude.{slice_index, All}
use Rattle.std.specs.List.{fold}
use Rattle.std.specs.Int.{div_ceil}
use Rattle.std.proofs.lemmas.Bool.{cases_lt, cases_eq}
use Rattle.std.proofs.lemmas.List.{take_all, length-replicate}
use Rattle.std.proofs.lemmas.List.Elements.{All-nil, All-cons, All-weaker}
use Rattle.hl_media.specs.History.{Image}
use Rattle.hl_addr.specs.Layout.{Layout, IsWithinLimits, table_blocks, table_blocks_of}
use Rattle.hl_bytes.specs.declared.records.BlockRecord.{BlockRecord}
use Rattle.hl_bytes.specs.declared.records.TableRecord.{TableRecord}
use Rattle.hl_bytes.specs.Fields.{written}
use Rattle.hl_bytes.specs.Buffers.{block_of, with_part}
use Rattle.hl_bytes.specs.Runs.{run_bytes}
use Rattle.hl_bytes.proofs.Parts.{with_part_is, written-inside, written-below, written-above}
use Rattle.hl_bytes.proofs.RunLemmas.{length-run_bytes}
use Rattle.hl_summary.specs.declared.parts.Summary.{Summary}
use Rattle.hl_summary.specs.Ranges.{IsBlockOf, IsChangeOf}
use Rattle.hl_super.specs.declared.record.Record.{Record}
use Rattle.hl_image.specs.declared.place.LogPlace.{LogPlace}
use Rattle.hl_image.specs.declared.chain.ChainPart.{ChainPart}
use Rattle.hl_image.specs.Places.{IsLogPlace, InLog}
use Rattle.hl_image.specs.Parts.{next_of}
use Rattle.hl_image.specs.Chain.{Walk, IsCutChain, placed}
use Rattle.hl_image.specs.Newest.{start_of}
use Rattle.hl_image.proofs.ChainLemmas.{next_place, splits}
use Rattle.hl_tseg.specs.declared.slot.Slot.TheVariants.{Free}
use Rattle.hl_tables.specs.Values.{TableValues, SameShape, fresh}
use Rattle.hl_tables.specs.Laying.{HasInode, HasTarget}
use Rattle.hl_tables.specs.Entries.{flag_bytes}
use Rattle.hl_tables.specs.TableBlocks.{IsTableBlock, tables_bytes, table_block, inode_part, used_part, slot_part, full_part, inode_blocks, used_blocks, slot_blocks}
use Rattle.hl_tables.proofs.BlockPlaces.{length-three}
use Rattle.hl_tables.proofs.EntryBlocks.{length-in_blocks}
use Rattle.hl_tables.proofs.EntryLemmas.{length-flag_bytes}
use Rattle.hl_nodes.specs.Tables.{parts_laid, SpellTables, HasLaidTables}
use Rattle.hl_found.specs.Found.{AreChainParts, IsOfSite, MayBeLaid, part_laid, parts_found}

-- THE BLOCKS OF THE TABLES

module _ (g : Layout) (limits : IsWithinLimits g) (t : TableValues) (shape : SameShape (fresh g) t) where
  pub inodes_are : length t.inodes ≡ g.inodes
  inodes_are = shape.inodes ∙ length-replicate g.inodes 4294967295

  pub used_are : length t.used ≡ g.log
  used_are = shape.used ∙ length-replicate g.log false

  pub slots_are : length t.slots.slots ≡ sum g.volumes
  slots_are = shape.slots ∙ length-replicate (sum g.volumes) Free

  full_are : length t.slots.full ≡ length g.volumes
  full_are = shape.full ∙ length-replicate (length g.volumes) false

  -- the tables fill as many blocks as the site's
  pub tables_size : length (tables_bytes t) ≡ 4096 * table_blocks g
  unfolding tables_bytes table_blocks_of
  tables_size =
      let a : inode_blocks t ≡ div_ceil (4 * g.inodes) 4096 = ap (λ (n : ℕ). div_ceil (4 * n) 4096) inodes_are in
      let b : used_blocks t ≡ div_ceil (4 * g.log) 4096 = ap (λ (n : ℕ). div_ceil (4 * n) 4096) used_are in
      let d : slot_blocks t ≡ div_ceil (16 * sum g.volumes) 4096 = ap (λ (n : ℕ). div_ceil (16 * n) 4096) slots_are in
      let low = limits.volume_count.0 in
      let high = limits.volume_count.1 in
      let one : div_ceil (4 * length t.slots.full) 4096 ≡ 1 = omega (arith, full_are) in
      let last : length (full_part t) ≡ 4096 * div_ceil (4 * length t.slots.full) 4096 = length-in_blocks (run_bytes flag_bytes t.slots.full) (4 * length t.slots.full) (length-run_bytes flag_bytes 4 length-flag_bytes t.slots.full) in
      omega (arith, length-three t, length-append (inode_part t ++ used_part t ++ slot_part t) (full_part t), last, one, a, b, d)

-- a block that is written over others is there, and the others stay
module _ (old new bytes : List ℕ) (i : ℕ) (size : length bytes ≡ 4096) (within : 4096 * i + 4096 ≤ length old) (is : new ≡ written old (4096 * i) bytes) where
  with_is : new ≡ with_part old i bytes
  with_is = is ∙ sym (with_part_is old bytes i (omega arith))

  block_there : block_of new i ≡ bytes
  unfolding block_of
  block_there =
      let e : i + 0 ≡ i = omega arith in
      ap (λ (l : List ℕ). block_of l i) with_is ∙ ap (block_of (with_part old i bytes)) (sym e)
      ∙ written-inside old bytes i 0 (omega arith) (omega arith)
      ∙ take_all 4096 bytes (omega arith)

  block_stays : (j : ℕ) → (j ≡ i → ⊥) → block_of new j ≡ block_of old j
  block_stays j other = ap (λ (l : List ℕ). block_of l j) with_is ∙ ⊎_elim
      (λ lt. written-below old bytes i j (omega arith) lt)
      (λ ge. written-above old bytes i j (omega arith) (by ge (cases_eq j i)))
      (cases_lt j i)
    where
      by : i ≤ j → (j ≡ i) ⊎ (j ≡ i → ⊥) → 4096 * i + length bytes ≤ 4096 * j
      by ge (inl same) = absurd (other same)
      by ge (inr differ) = omega arith

module _ (g : Layout) (limits : IsWithinLimits g) (old new : TableValues) (shape : SameShape (fresh g) old) (bytes : List ℕ) (i : ℕ) (lt : i < table_blocks g) (size : length bytes ≡ 4096)
    (is : tables_bytes new ≡ written (tables_bytes old) (4096 * i) bytes) where
  pub table_there : table_block new i ≡ bytes
  unfolding table_block
  table_there = block_there (tables_bytes old) (tables_bytes new) bytes i size (omega (arith, tables_size g limits old shape)) is

  pub table_stays : (j : ℕ) → (j ≡ i → ⊥) → table_block new j ≡ table_block old j
  unfolding table_block
  table_stays j other = block_stays (tables_bytes old) (tables_bytes new) bytes i size (omega (arith, tables_size g limits old shape)) is j other

pub own_shape : (t : TableValues) → SameShape t t
own_shape t = record { segment_size = refl; inodes = refl; used = refl; volumes = refl; slots = refl; full = refl }

-- tables of the site's shape count the site's blocks
pub blocks_are : (g : Layout) (t : TableValues) → t ≡ fresh g → table_blocks_of (length t.used) (length t.inodes) (sum t.slots.volumes) ≡ table_blocks g
blocks_are g t is =
    let a : length t.used ≡ g.log = ap (λ (u : TableValues). length u.used) is ∙ length-replicate g.log false in
    let b : length t.inodes ≡ g.inodes = ap (λ (u : TableValues). length u.inodes) is ∙ length-replicate g.inodes 4294967295 in
    let d : sum t.slots.volumes ≡ sum g.volumes = ap (λ (u : TableValues). sum u.slots.volumes) is in
    rw (a, b, d) refl

-- what is read of the table blocks before some block, and with that block
pub read_more : (g : Layout) → IsWithinLimits g → (image : Image) (addresses : List ℕ) (old new : TableValues) (i : ℕ) (bytes : List ℕ) → SameShape (fresh g) old → i < table_blocks g → length bytes ≡ 4096
    → bytes ≡ image (slice_index addresses i) → InLog g (slice_index addresses i) → tables_bytes new ≡ written (tables_bytes old) (4096 * i) bytes
    → ((j : ℕ) → j < i → InLog g (slice_index addresses j) × (table_block old j ≡ image (slice_index addresses j)))
    → (j : ℕ) → j < i + 1 → InLog g (slice_index addresses j) × (table_block new j ≡ image (slice_index addresses j))
read_more g limits image addresses old new i bytes shape lt size is log wrote before j low = by (cases_eq j i)
  where
    by : (j ≡ i) ⊎ (j ≡ i → ⊥) → InLog g (slice_index addresses j) × (table_block new j ≡ image (slice_index addresses j))
    by (inl same) = subst (λ (k : ℕ). InLog g (slice_index addresses k) × (table_block new k ≡ image (slice_index addresses k))) (sym same)
        (log, table_there g limits old new shape bytes i lt size wrote ∙ is)
    by (inr differ) = let x = before j (omega arith) in (x.0, table_stays g limits old new shape bytes i lt size wrote j differ ∙ x.1)

-- tables of one shape have the same shape as other tables
pub shape_between : (s t u : TableValues) → SameShape s t → SameShape s u → SameShape t u
shape_between s t u a b = record {
  segment_size = b.segment_size ∙ sym a.segment_size;
  inodes = b.inodes ∙ sym a.inodes;
  used = b.used ∙ sym a.used;
  volumes = b.volumes ∙ sym a.volumes;
  slots = b.slots ∙ sym a.slots;
  full = b.full ∙ sym a.full;
}

-- a block that isn't one of such tables is spelled by none
pub none_spelled : (g : Layout) (image : Image) (addresses : List ℕ) (t u : TableValues) (i : ℕ) → SameShape (fresh g) t → i < table_blocks g → (IsTableBlock t i (image (slice_index addresses i)) → ⊥) → SpellTables g image addresses u → ⊥
none_spelled g image addresses t u i shape lt never is = never (record { values = u; shape = shape_between (fresh g) t u shape is.values.shape; block = sym (is.blocks i lt) })

-- THE PARTS

-- parts are found without their places
pub parts_placed : (at : LogPlace) (parts : List Summary) → parts_found (placed at parts) ≡ parts
parts_placed at [] = refl
parts_placed at (s ∷ parts) = ap (λ (l : List Summary). s ∷ l) (parts_placed (next_of s) parts)

pub chain_found : (g : Layout) (image : Image) (rec : Record) (chain : List ChainPart) (parts : List Summary) → IsCutChain g image (start_of rec) rec.serial parts → chain ≡ placed (start_of rec) parts → AreChainParts g image rec chain
chain_found g image rec chain parts cut is =
    let same : parts_found chain ≡ parts = ap parts_found is ∙ parts_placed (start_of rec) parts in
    record {
      cut = subst (λ (l : List Summary). IsCutChain g image (start_of rec) rec.serial l) (sym same) cut;
      places = ap (placed (start_of rec)) same ∙ sym is;
    }

pub fold_placed : (t : TableValues) (at : LogPlace) (parts : List Summary) → fold part_laid t (placed at parts) ≡ parts_laid t at parts
fold_placed t at [] = refl
fold_placed t at (s ∷ parts) = fold_placed (part_laid t (record { seg = at.seg; block = at.block; summary = s })) (next_of s) parts

-- what may be laid over tables may be laid over others of their shape
pub laid_alike : (t u : TableValues) (p : ChainPart) → SameShape t u → MayBeLaid t p → MayBeLaid u p
laid_alike t u p same may = record {
  seg = subst (λ (n : ℕ). p.seg ≤ n) (sym same.used) may.seg;
  room = subst (λ (n : ℕ). p.block + 1 + length p.summary.blocks ≤ n) (sym same.segment_size) may.room;
  inodes = All-weaker (HasInode t) (HasInode u) (λ r f own. subst (λ (n : ℕ). r.ino < n) (sym same.inodes) (f own)) p.summary.blocks may.inodes;
  targets = All-weaker (HasTarget t) (HasTarget u) (λ r f. record {
    inode = λ is. subst (λ (n : ℕ). r.a < n) (sym same.inodes) (f.inode is);
    slot = λ low high. subst (λ (n : ℕ). r.a < n) (sym same.slots) (f.slot low high);
    volume = λ is. subst (λ (l : List ℕ). r.a < length l) (sym same.volumes) (f.volume is);
  }) p.summary.tables may.targets;
}

module _ (g : Layout) (image : Image) (t : TableValues) (shape : SameShape (fresh g) t) (limits : IsWithinLimits g) where
  has_inode : (r : BlockRecord) → IsBlockOf g.inodes (table_blocks g) r → HasInode t r
  has_inode r (inl table) own = absurd (let e = sym own ∙ table.0 in let no : ⊥ = omega arith in no)
  has_inode r (inr is) own = subst (λ (n : ℕ). r.ino < n) (sym (inodes_are g limits t shape)) is.1.1

  has_target : (r : TableRecord) → IsChangeOf g.inodes (sum g.volumes) (length g.volumes) r → HasTarget t r
  has_target r is = record {
    inode = λ one. subst (λ (n : ℕ). r.a < n) (sym (inodes_are g limits t shape)) (by_inode one is);
    slot = λ low high. subst (λ (n : ℕ). r.a < n) (sym (slots_are g limits t shape)) (by_slot low high is);
    volume = λ five. subst (λ (l : List ℕ). r.a < length l) (sym shape.volumes) (by_volume five is);
  }
    where
      by_inode : r.kind ≡ 1 → IsChangeOf g.inodes (sum g.volumes) (length g.volumes) r → r.a < g.inodes
      by_inode one (inl a) = a.1.1
      by_inode one (inr (inl a)) = absurd (let k = a.0 in omega arith)
      by_inode one (inr (inr (inl a))) = absurd (let k = a.0 in omega arith)
      by_inode one (inr (inr (inr (inl a)))) = absurd (let k = a.0 in omega arith)
      by_inode one (inr (inr (inr (inr a)))) = absurd (let k = a.0 in omega arith)

      by_slot : 2 ≤ r.kind → r.kind ≤ 4 → IsChangeOf g.inodes (sum g.volumes) (length g.volumes) r → r.a < sum g.volumes
      by_slot low high (inl a) = absurd (let k = a.0 in omega arith)
      by_slot low high (inr (inl a)) = a.1
      by_slot low high (inr (inr (inl a))) = a.1
      by_slot low high (inr (inr (inr (inl a)))) = a.1
      by_slot low high (inr (inr (inr (inr a)))) = absurd (let k = a.0 in omega arith)

      by_volume : r.kind ≡ 5 → IsChangeOf g.inodes (sum g.volumes) (length g.volumes) r → r.a < length g.volumes
      by_volume five (inl a) = absurd (let k = a.0 in omega arith)
      by_volume five (inr (inl a)) = absurd (let k = a.0 in omega arith)
      by_volume five (inr (inr (inl a))) = absurd (let k = a.0 in omega arith)
      by_volume five (inr (inr (inr (inl a)))) = absurd (let k = a.0 in omega arith)
      by_volume five (inr (inr (inr (inr a)))) = a.1

  walk_laid : (at : LogPlace) (serial : ℕ) (ps qs : List Summary) → IsLogPlace g at → Walk g image at serial (ps ++ qs) → All (MayBeLaid t) (placed at ps)
  walk_laid at serial [] qs place walk = All-nil (MayBeLaid t)
  walk_laid at serial (s ∷ ps) qs place walk =
      let ranges = walk.0.spelled.value.ranges in
      let within = ranges.within in
      All-cons (MayBeLaid t) (record { seg = at.seg; block = at.block; summary = s }) (placed (next_of s) ps)
      (record {
        seg = subst (λ (n : ℕ). at.seg ≤ n) (sym (used_are g limits t shape)) place.high;
        room = subst (λ (n : ℕ). at.block + 1 + length s.blocks ≤ n) (sym shape.segment_size) (omega arith);
        inodes = All-weaker (IsBlockOf g.inodes (table_blocks g)) (HasInode t) has_inode s.blocks ranges.blocks;
        targets = All-weaker (IsChangeOf g.inodes (sum g.volumes) (length g.volumes)) (HasTarget t) has_target s.tables ranges.tables;
      })
      (walk_laid (next_of s) (serial + 1) ps qs (next_place g at s place ranges) walk.1)

  -- the parts of an image's chain may be laid over tables of the site
  pub chain_may_be_laid : (rec : Record) (chain : List ChainPart) → IsOfSite g image rec → AreChainParts g image rec chain → All (MayBeLaid t) chain
  chain_may_be_laid rec chain of is =
      let all = splits is.cut.all in
      let whole : is.cut.all ≡ parts_found chain ++ all.beyond = all.is ∙ ap (λ (l : List Summary). l ++ all.beyond) (sym all.cut_is ∙ is.cut.is) in
      let ranges = of.newest.here.value.ranges in
      let place : IsLogPlace g (start_of rec) = record { low = ranges.seg_low; high = ranges.seg_high; room = ranges.block } in
      let walk : Walk g image (start_of rec) rec.serial (parts_found chain ++ all.beyond) = subst (λ (l : List Summary). Walk g image (start_of rec) rec.serial l) whole is.cut.chain.walk in
      subst (All (MayBeLaid t)) is.places (walk_laid (start_of rec) rec.serial (parts_found chain) all.beyond place walk)

-- tables that the table blocks spell, with the parts laid over them, are those of the image
pub laid_found : (g : Layout) (image : Image) (rec : Record) (chain : List ChainPart) (before t : TableValues) → AreChainParts g image rec chain → SpellTables g image rec.tables before → t ≡ fold part_laid before chain → HasLaidTables g image rec (parts_found chain) t
laid_found g image rec chain before t is spelled laid = record {
  before = before;
  spelled = spelled;
  laid_over = sym (fold_placed before (start_of rec) (parts_found chain)) ∙ ap (fold part_laid before) is.places ∙ sym laid;
}
