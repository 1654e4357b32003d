-- The tables of an image are tables of the site: laying parts over them keeps their shape and the room in their entries.
use Rattle.std.proofs.Common.{◌≡◌, ℕ, ◌+◌, ◌*◌, ◌<◌, ◌^◌, Bool, true, false, List, [], ◌∷◌, ◌++◌, length, sym, ◌∙◌, ap, subst, arith, lit<}
use Rattle.std.specs.Prelude.{◌==◌, if◌then◌else◌, Some}
use Rattle.std.specs.List.{fold, AllByRecursion}
use Rattle.std.proofs.lemmas.List.{length-set}
use Rattle.std.proofs.lemmas.List.Elements.{All-set}
use Rattle.hl_media.specs.History.{Image}
use Rattle.hl_addr.specs.Layout.{Layout, IsWithinLimits}
use Rattle.hl_bytes.specs.declared.records.BlockRecord.{BlockRecord}
use Rattle.hl_bytes.specs.declared.records.TableRecord.{TableRecord}
use Rattle.hl_bytes.specs.Records.{IsTableRecord}
use Rattle.hl_summary.specs.declared.parts.Summary.{Summary}
use Rattle.hl_image.specs.declared.place.LogPlace.{LogPlace}
use Rattle.hl_image.specs.Places.{IsLogPlace}
use Rattle.hl_image.specs.Parts.{next_of}
use Rattle.hl_image.specs.Chain.{Walk, IsCutChain}
use Rattle.hl_image.specs.Newest.{IsNewest, start_of}
use Rattle.hl_super.specs.declared.record.Record.{Record}
use Rattle.hl_image.proofs.ChainLemmas.{next_place, splits}
use Rattle.hl_log.proofs.Sites.{small_places}
use Rattle.hl_tseg.specs.declared.slot.Slot.{Slot}
use Rattle.hl_tseg.specs.declared.slot.Slot.TheVariants.{Staged, Home, Spoilt}
use Rattle.hl_tables.specs.Values.{TableValues, AreTables}
use Rattle.hl_tseg.specs.Slots.{HasRoom}
use Rattle.hl_tables.specs.Laying.{with_inode, with_slot, with_full, block_laid, blocks_laid, changed, laid}
use Rattle.hl_nodes.specs.Tables.{parts_laid}
use Rattle.hl_nodes.specs.Contents.{Contents, HasContents}
use Rattle.hl_nodes.proofs.Frame.{limits_of}
use Rattle.hl_nodes.proofs.Laying.{by_kind}

module _ (g : Layout) where
  inode-set : (t : TableValues) (ino a : ℕ) → a < 2 ^ 32 → AreTables g t → AreTables g (with_inode t ino a)
  inode-set t ino a fits is = record {
    shape = record {
      segment_size = is.shape.segment_size;
      inodes = length-set t.inodes ino a ∙ is.shape.inodes;
      used = is.shape.used;
      volumes = is.shape.volumes;
      slots = is.shape.slots;
      full = is.shape.full;
    };
    addresses = All-set (λ (address : ℕ). address < 2 ^ 32) t.inodes ino a fits is.addresses;
    room = is.room;
  }

  slot-set : (t : TableValues) (n : ℕ) (slot : Slot) → HasRoom slot → AreTables g t → AreTables g (with_slot t n slot)
  slot-set t n slot room is = record {
    shape = record {
      segment_size = is.shape.segment_size;
      inodes = is.shape.inodes;
      used = is.shape.used;
      volumes = is.shape.volumes;
      slots = length-set t.slots.slots n slot ∙ is.shape.slots;
      full = is.shape.full;
    };
    addresses = is.addresses;
    room = All-set HasRoom t.slots.slots n slot room is.room;
  }

  full-set : (t : TableValues) (n : ℕ) → AreTables g t → AreTables g (with_full t n)
  full-set t n is = record {
    shape = record {
      segment_size = is.shape.segment_size;
      inodes = is.shape.inodes;
      used = is.shape.used;
      volumes = is.shape.volumes;
      slots = is.shape.slots;
      full = length-set t.slots.full n true ∙ is.shape.full;
    };
    addresses = is.addresses;
    room = is.room;
  }

  by_kind-tables : (t : TableValues) (c : TableRecord) (one two three four five : Bool) → IsTableRecord c → AreTables g t → AreTables g (by_kind t c one two three four five)
  by_kind-tables t c true two three four five fits is = inode-set t c.a 4294967295 (lit< tt) is
  by_kind-tables t c false true three four five fits is = slot-set t c.a (Staged c.b c.serial) (fits.b, fits.serial) is
  by_kind-tables t c false false true four five fits is = slot-set t c.a (Home c.serial) fits.serial is
  by_kind-tables t c false false false true five fits is = slot-set t c.a Spoilt tt is
  by_kind-tables t c false false false false true fits is = full-set t c.a is
  by_kind-tables t c false false false false false fits is = is

  changes-tables : (t : TableValues) (cs : List TableRecord) → AllByRecursion IsTableRecord cs → AreTables g t → AreTables g (fold changed t cs)
  changes-tables t [] fits is = is
  changes-tables t (c ∷ cs) fits is = changes-tables (changed t c) cs fits.1 (by_kind-tables t c (c.kind == 1) (c.kind == 2) (c.kind == 3) (c.kind == 4) (c.kind == 5) fits.0 is)

  block-tables : (t : TableValues) (a : ℕ) (r : BlockRecord) (own : Bool) → a < 2 ^ 32 → AreTables g t → AreTables g (if own then with_inode t r.ino a else t)
  block-tables t a r true fits is = inode-set t r.ino a fits is
  block-tables t a r false fits is = is

  blocks-tables : (t : TableValues) (a : ℕ) (rs : List BlockRecord) → a + length rs < 2 ^ 32 → AreTables g t → AreTables g (blocks_laid t a rs)
  blocks-tables t a [] fits is = is
  blocks-tables t a (r ∷ rs) fits is = blocks-tables (block_laid t a r) (a + 1) rs (omega arith) (block-tables t a r (r.index == 4294967295) (omega arith) is)

  parts-tables : IsWithinLimits g → (image : Image) (t : TableValues) (at : LogPlace) (serial : ℕ) (ps qs : List Summary) → IsLogPlace g at → Walk g image at serial (ps ++ qs) → AreTables g t → AreTables g (parts_laid t at ps)
  parts-tables limits image t at serial [] qs place walk is = is
  parts-tables limits image t at serial (s ∷ ps) qs place walk is =
      let part = walk.0.spelled.value in
      let e : at.seg * t.k ≡ g.k * at.seg = ap (λ (k : ℕ). at.seg * k) is.shape.segment_size ∙ (omega arith) in
      let small = small_places g at.seg (at.block + 1 + length s.blocks) limits place.high (omega (arith, part.ranges.within)) in
      let next = laid t at.seg (at.block + 1) s.blocks s.tables in
      let moved : AreTables g next = changes-tables (blocks_laid t (at.seg * t.k + (at.block + 1)) s.blocks) s.tables part.tables_fit (blocks-tables t (at.seg * t.k + (at.block + 1)) s.blocks (omega arith) is) in
      parts-tables limits image next (next_of s) (serial + 1) ps qs (next_place g at s place part.ranges) walk.1 moved

-- a chain that is laid over tables of the site leaves such tables
pub chain_laid : (g : Layout) (image : Image) (rec : Record) (parts : List Summary) → IsNewest g image (Some rec) → rec.volumes ≡ g.volumes → IsCutChain g image (start_of rec) rec.serial parts → (t : TableValues) → AreTables g t
    → AreTables g (parts_laid t (start_of rec) parts)
chain_laid g image rec parts newest volumes chain t are =
    let limits = limits_of g image rec newest volumes in
    let all = splits chain.all in
    let whole : chain.all ≡ parts ++ all.beyond = all.is ∙ ap (λ (l : List Summary). l ++ all.beyond) (sym all.cut_is ∙ chain.is) in
    let ranges = newest.here.value.ranges in
    let place : IsLogPlace g (start_of rec) = record { low = ranges.seg_low; high = ranges.seg_high; room = ranges.block } in
    let walk : Walk g image (start_of rec) rec.serial (parts ++ all.beyond) = subst (λ (l : List Summary). Walk g image (start_of rec) rec.serial l) whole chain.chain.walk in
    parts-tables g limits image t (start_of rec) rec.serial parts all.beyond place walk are

-- the tables that an image has are tables of the site
pub laid_are_tables : (g : Layout) (image : Image) (c : Contents) → HasContents g image c → AreTables g c.tables
laid_are_tables g image c has = subst (AreTables g) has.tables.laid_over (chain_laid g image c.rec c.parts has.newest has.volumes has.chain has.tables.before has.tables.spelled.values)
