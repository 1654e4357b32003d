-- An image that breaks none of the rules 1 to 15, with its tables.
use Rattle.std.proofs.Common.{◌≡◌, inl, inr, ℕ, ◌+◌, ◌*◌, ◌/◌, ◌<◌, ◌≤◌, false, List, length, sum, refl, sym, ◌∙◌, ap, subst, arith}
use Rattle.std.specs.Prelude.{slice_index, Some}
use Rattle.std.specs.Int.{div_ceil}
use Rattle.std.proofs.lemmas.List.{length-replicate}
use Rattle.hl_media.specs.History.{Image}
use Rattle.hl_addr.specs.Layout.{Layout, IsWithinLimits, table_blocks, table_blocks_of}
use Rattle.hl_super.specs.declared.record.Record.{Record}
use Rattle.hl_summary.specs.declared.parts.Summary.{Summary}
use Rattle.hl_image.specs.Chain.{IsCutChain}
use Rattle.hl_image.specs.Newest.{IsNewest, start_of}
use Rattle.hl_tseg.specs.declared.slot.Slot.TheVariants.{Free}
use Rattle.hl_tables.specs.Values.{TableValues, fresh, AreTables}
use Rattle.hl_tables.specs.TableBlocks.{IsTableBlock, inode_blocks, used_blocks}
use Rattle.hl_nodes.specs.declared.rule.Rule.{Rule}
use Rattle.hl_nodes.specs.declared.rule.Rule.TheVariants.{TablePlace, TableBytes}
use Rattle.hl_nodes.specs.Tables.{SpellTables, HasLaidTables, parts_laid}
use Rattle.hl_image.specs.Places.{InLog}
use Rattle.hl_nodes.specs.Breaks.{Breaks, IsTableAt}
use Rattle.hl_nodes.specs.Verdicts.{rule_number, KeepsRules}
use Rattle.hl_nodes.proofs.Deciding.{certain, is_equal}
use Rattle.hl_nodes.proofs.PlaceDecided.{in_log}
use Rattle.hl_nodes.proofs.TableReading.{table_or_not, spelled_tables}
use Rattle.hl_nodes.proofs.LaidTables.{chain_laid}
use Rattle.hl_nodes.proofs.Frame.{limits_of, table_count}

-- the image has these tables, and breaks no rule with them
pub record IsUnbroken (g : Layout) (image : Image) (rec : Record) (parts : List Summary) (t : TableValues) : Type 0 where
  pub newest : IsNewest g image (Some rec)
  pub volumes : rec.volumes ≡ g.volumes
  pub chain : IsCutChain g image (start_of rec) rec.serial parts
  pub has : HasLaidTables g image rec parts t
  pub are : AreTables g t
  pub none : (rule : Rule) → rule_number rule < 16 → (address : ℕ) → Breaks g image rec parts t rule address → ⊥

module _ (g : Layout) (image : Image) (is : KeepsRules g image) where
  limits : IsWithinLimits g
  limits = limits_of g image is.rec is.newest is.volumes

  count : length is.rec.tables ≡ table_blocks g
  count = table_count g image is.rec is.newest is.volumes

  none_early : (rule : Rule) → rule_number rule ≤ 2 → (address : ℕ) → Breaks g image is.rec is.parts (fresh g) rule address → ⊥
  none_early rule low address b = is.none rule (omega arith) address (record { tables = fresh g; are = inl low; breaks = b })

  in_log_at : (i : ℕ) → i < length is.rec.tables → InLog g (slice_index is.rec.tables i)
  in_log_at i lt = certain (in_log g (slice_index is.rec.tables i)) (λ out. none_early TablePlace (omega arith) (slice_index is.rec.tables i) (i, (lt, refl), inl out))

  block_at : (i : ℕ) → i < table_blocks g → IsTableBlock (fresh g) i (image (slice_index is.rec.tables i))
  block_at i lt = certain (table_or_not g limits i (image (slice_index is.rec.tables i)) lt)
      (λ off. none_early TableBytes (omega arith) (slice_index is.rec.tables i) (i, (subst (λ (n : ℕ). i < n) (sym count) lt, refl), off))

  before : (t : TableValues) × SpellTables g image is.rec.tables t
  before = spelled_tables g limits image is.rec.tables in_log_at block_at

  tables : TableValues
  tables = parts_laid before.0 (start_of is.rec) is.parts

  has_tables : HasLaidTables g image is.rec is.parts tables
  unfolding tables
  has_tables = record { before = before.0; spelled = before.1; laid_over = refl }

  are_tables : AreTables g tables
  unfolding tables
  are_tables = chain_laid g image is.rec is.parts is.newest is.volumes is.chain before.0 before.1.values

  -- such an image has tables
  pub unbroken : (t : TableValues) × IsUnbroken g image is.rec is.parts t
  unbroken = (
    tables,
    record {
      newest = is.newest;
      volumes = is.volumes;
      chain = is.chain;
      has = has_tables;
      are = are_tables;
      none = λ rule lt address b. is.none rule lt address (record { tables = tables; are = inr has_tables; breaks = b });
    },
  )

module _ (g : Layout) (image : Image) (rec : Record) (parts : List Summary) (t : TableValues) (un : IsUnbroken g image rec parts t) where
  pub limits_un : IsWithinLimits g
  limits_un = limits_of g image rec un.newest un.volumes

  -- a block of the inode map is there
  pub map_block : (ino : ℕ) → ino < g.inodes → IsTableAt rec (ino / 1024) (slice_index rec.tables (ino / 1024))
  unfolding table_blocks_of
  map_block ino lt = (let count = table_count g image rec un.newest un.volumes in omega arith, refl)

  -- a block of the slots is there
  pub slot_block : (n : ℕ) → n < sum g.volumes → IsTableAt rec (inode_blocks t + used_blocks t + n / 256) (slice_index rec.tables (inode_blocks t + used_blocks t + n / 256))
  unfolding table_blocks_of
  slot_block n lt =
      let count = table_count g image rec un.newest un.volumes in
      let inodes : inode_blocks t ≡ div_ceil (4 * g.inodes) 4096 = ap (λ (k : ℕ). div_ceil (4 * k) 4096) (un.are.shape.inodes ∙ length-replicate g.inodes 4294967295) in
      let used : used_blocks t ≡ div_ceil (4 * g.log) 4096 = ap (λ (k : ℕ). div_ceil (4 * k) 4096) (un.are.shape.used ∙ length-replicate g.log false) in
      (omega arith, refl)

  pub slots_are : length t.slots.slots ≡ sum g.volumes
  slots_are = un.are.shape.slots ∙ length-replicate (sum g.volumes) Free

  -- no table block lies where another does
  pub tables_once : (i j : ℕ) → i < length rec.tables → j < length rec.tables → slice_index rec.tables i ≡ slice_index rec.tables j → i ≡ j
  tables_once i j lt lt' same = certain (is_equal i j) (λ differ. un.none TablePlace (omega arith) (slice_index rec.tables i) (i, (lt, refl), inr (j, (λ e. differ (sym e)), (lt', sym same))))
