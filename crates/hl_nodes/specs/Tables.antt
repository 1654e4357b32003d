-- The tables of an image: what its table blocks spell, with the parts of its chain laid over it.
use Rattle.std.specs.Prelude.{◌≡◌, ℕ, ◌+◌, ◌-◌, ◌<◌, ◌^◌, ◌==◌, if◌then◌else◌, min, max, List, [], ◌∷◌, length, slice_index}
use Rattle.std.specs.List.{fold}
use Rattle.hl_media.specs.History.{Image}
use Rattle.hl_addr.specs.Layout.{Layout, table_blocks}
use Rattle.hl_bytes.specs.declared.records.TableRecord.{TableRecord}
use Rattle.hl_super.specs.declared.record.Record.{Record}
use Rattle.hl_summary.specs.declared.parts.Summary.{Summary}
use Rattle.hl_image.specs.declared.place.LogPlace.{LogPlace}
use Rattle.hl_image.specs.Parts.{next_of}
use Rattle.hl_image.specs.Newest.{start_of}
use Rattle.hl_tables.specs.Values.{TableValues, AreTables}
use Rattle.hl_tables.specs.Laying.{laid}
use Rattle.hl_tables.specs.TableBlocks.{table_block}
use Rattle.hl_image.specs.Places.{InLog}

-- parts that stand one after another, laid over tables in their order
abbrev pub parts_laid : TableValues → LogPlace → List Summary → TableValues
parts_laid t at [] = t
parts_laid t at (s ∷ parts) = parts_laid (laid t at.seg (at.block + 1) s.blocks s.tables) (next_of s) parts

-- the next tertiary serial behind changes of the tables: a staged slot raises it above its own serial
abbrev pub raised : ℕ → TableRecord → ℕ
raised next r = if r.kind == 2 then max next (min (r.serial + 1) (2 ^ 64 - 1)) else next

abbrev pub parts_raised : ℕ → List Summary → ℕ
parts_raised next [] = next
parts_raised next (s ∷ parts) = parts_raised (fold raised next s.tables) parts

-- the table blocks at these addresses, which lie in the log, spell the tables
pub record SpellTables (g : Layout) (image : Image) (addresses : List ℕ) (t : TableValues) : Type 0 where
  pub values : AreTables g t
  pub in_log : (i : ℕ) → i < length addresses → InLog g (slice_index addresses i)
  pub blocks : (i : ℕ) → i < table_blocks g → image (slice_index addresses i) ≡ table_block t i

-- the tables of the image, by its newest record and the parts of its chain
pub record HasLaidTables (g : Layout) (image : Image) (rec : Record) (parts : List Summary) (t : TableValues) : Type 0 where
  pub before : TableValues
  pub spelled : SpellTables g image rec.tables before
  pub laid_over : parts_laid before (start_of rec) parts ≡ t
