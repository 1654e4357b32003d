-- The sizes of what a store holds.
use Rattle.std.specs.Prelude.{◌≡◌, ℕ, ◌<◌, ◌≤◌, ◌^◌, All, length, sum}
use Rattle.hl_addr.specs.Layout.{IsWithinLimits, Layout}
use Rattle.hl_bytes.specs.declared.records.TableRecord.{TableRecord}
use Rattle.hl_summary.specs.Ranges.{IsChangeOf}
use Rattle.hl_log.specs.Free.{AreClean}
use Rattle.hl_overlaid.specs.Units.{IsOfSlots}
use Rattle.hl_store.specs.Values.{StoreValue, layout}

-- a change of a slot or a volume of the site
abbrev pub IsNoteOf : Layout → TableRecord → Type 0
IsNoteOf g r = IsOfSlots r × IsChangeOf g.inodes (sum g.volumes) (length g.volumes) r

-- a number that a node may have
pub record IsNumber {M : Type 0} (v : StoreValue M) (ino : ℕ) : Type 0 where
  pub low : 1 ≤ ino
  pub high : ino < (layout v).inodes

-- each list has an entry for each number, segment, line or volume of the site, and the clean segments are segments of the log
pub record IsShaped {M : Type 0} (v : StoreValue M) : Type 0 where
  pub limits : IsWithinLimits (layout v)
  pub drafts : length v.overlay.drafts.places ≡ (layout v).inodes
  pub uses : length v.uses ≡ (layout v).inodes
  pub inodes : length v.tables.inodes ≡ (layout v).inodes
  pub used : length v.tables.used ≡ (layout v).log
  pub blocks : v.tables.k ≡ (layout v).k
  pub volumes : v.tables.slots.volumes ≡ (layout v).volumes
  pub in_use : length v.tally.in_use ≡ (layout v).inodes
  pub live : length v.tally.live ≡ (layout v).log
  pub lines : length v.lines.states ≡ (layout v).lines
  pub clean : AreClean (layout v) v.log.at.head.seg v.clean
  pub few : length v.clean < 2 ^ 32
  pub notes : All (IsNoteOf (layout v)) v.notes
