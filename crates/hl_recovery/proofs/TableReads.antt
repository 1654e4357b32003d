-- Tables that are read from the blocks that a record names.
use Rattle.std.proofs.Common.{◌≡◌, inl, inr, ⊎_elim, ℕ, ◌<◌, ◌≤◌, List, refl, sym, ◌∙◌, ap, subst, arith, lit≤}
use Rattle.std.proofs.lemmas.Bool.{cases_lt}
use Rattle.hl_media.specs.History.{Image}
use Rattle.hl_addr.specs.Layout.{Layout, IsWithinLimits}
use Rattle.hl_super.specs.declared.record.Record.{Record}
use Rattle.hl_summary.specs.declared.parts.Summary.{Summary}
use Rattle.hl_image.specs.Places.{InLog, log_end}
use Rattle.hl_image.specs.Chain.{IsCutChain}
use Rattle.hl_image.specs.Newest.{start_of}
use Rattle.hl_log.specs.Logs.{site_blocks}
use Rattle.hl_tables.specs.Values.{TableValues, SameShape, fresh}
use Rattle.hl_tables.specs.TableBlocks.{IsTableBlock}
use Rattle.hl_nodes.specs.declared.rule.Rule.{Rule}
use Rattle.hl_nodes.specs.declared.rule.Rule.TheVariants.{TablePlace, TableBytes}
use Rattle.hl_nodes.specs.Breaks.{Breaks, IsTableAt}
use Rattle.hl_nodes.specs.Verdicts.{rule_number, BreaksNoneBefore}
use Rattle.hl_nodes.proofs.Frame.{table_count}
use Rattle.hl_nodes.proofs.PointerLemmas.{in_log-high}
use Rattle.hl_found.proofs.TablesFound.{shape_between}
use Rattle.hl_recovery.specs.declared.stop.MountError.{MountError}
use Rattle.hl_recovery.specs.declared.stop.MountError.TheVariants.{NoLabel, NoRecord, WrongRack, Damaged, DiskFault, Memory}
use Rattle.hl_recovery.specs.declared.recovering.Recovered.{Recovered}
use Rattle.hl_recovery.specs.Recoveries.{AreInPlace, HasRecovered, HasSite}
use Rattle.hl_recovery.specs.Stops.{IsStopped}
use Rattle.hl_recovery.specs.TablePlaces.{IsMisplaced, IsTableRule, StopsAtTable, StopsAtTables}

-- the log is a part of the site
pub log_in_site : (g : Layout) → log_end g ≤ site_blocks g
log_in_site g = omega arith

-- an address of the log is one of the machine
pub address_in : (g : Layout) (blocks address : ℕ) → IsWithinLimits g → site_blocks g ≤ blocks → InLog g address → address < blocks
address_in g blocks address limits room is = omega (arith, in_log-high g limits address is, log_in_site g, room)

-- each rule has a number, and rule 1 is the first
numbered : (rule : Rule) → 1 ≤ rule_number rule
numbered TablePlace = lit≤ tt
numbered _ = lit≤ tt

first_rule : (rule : Rule) → rule_number rule < 2 → rule ≡ TablePlace
first_rule TablePlace lt = refl
first_rule _ lt = absurd (omega arith)

-- what breaks rule 1 or 2 at an address, and none before it
abbrev BreaksEarly : Layout → Image → Record → ℕ → Rule → Type 0
BreaksEarly g image rec block rule = (rule_number rule ≤ 2) × ((parts : List Summary) (t : TableValues) → Breaks g image rec parts t rule block) × ((parts : List Summary) → BreaksNoneBefore g image rec parts (rule_number rule))

module _ (g : Layout) (image : Image) (rec : Record) where
  -- addresses in place keep rule 1
  keep_first : AreInPlace g rec.tables → (parts : List Summary) (t : TableValues) (address : ℕ) → Breaks g image rec parts t TablePlace address → ⊥
  keep_first places parts t address broken =
      let i = broken.0 in
      let there = broken.1 in
      ⊎_elim
      (λ off. off (subst (InLog g) there.1 (places.in_log i there.0)))
      (λ twice.
      let j = twice.0 in
      let differ = twice.1 in
      let other = twice.2 in
      ⊎_elim
      (λ lt. places.once i j there.0 lt (other.1 ∙ sym there.1))
      (λ le. places.once j i other.0 (let lt : i < j = omega (arith, differ) in lt) (there.1 ∙ sym other.1))
      (cases_lt j i))
      broken.2

  none_before : AreInPlace g rec.tables → (parts : List Summary) → BreaksNoneBefore g image rec parts 2
  none_before places parts rule lt address broken =
      keep_first places parts broken.tables address (subst (λ (r : Rule). Breaks g image rec parts broken.tables r address) (first_rule rule lt) broken.breaks)

  none_at_first : (parts : List Summary) → BreaksNoneBefore g image rec parts 1
  none_at_first parts rule lt address broken = let low = numbered rule in omega arith

  -- a block that spells no table
  module _ (places : AreInPlace g rec.tables) (t : TableValues) (shape : SameShape (fresh g) t) (i address : ℕ) (there : IsTableAt rec i address) where
    no_table : (IsTableBlock t i (image address) → ⊥) → BreaksEarly g image rec address TableBytes
    no_table never = (
      lit≤ tt,
      λ parts u. (i, there, λ is. never (record { values = is.values; shape = shape_between (fresh g) t is.values shape is.shape; block = is.block })),
      none_before places,
    )

    pub table_stops : (stop : MountError) → StopsAtTable t image i address stop → StopsAtTables g image rec stop
    table_stops NoLabel never = never
    table_stops NoRecord never = never
    table_stops (WrongRack volume slots) never = never
    table_stops (Damaged block rule) is =
        subst (λ (n : ℕ). BreaksEarly g image rec n rule) (sym is.0)
        (subst (λ (r : Rule). BreaksEarly g image rec address r) (sym is.1) (no_table is.2))
    table_stops DiskFault is = tt
    table_stops Memory is = tt

  -- an address that is out of place
  pub misplaced_stops : (block : ℕ) → IsMisplaced g rec.tables block → StopsAtTables g image rec (Damaged block TablePlace)
  misplaced_stops block is = (
    lit≤ tt,
    λ parts u. (
      is.place,
      (is.within, is.there),
      ⊎_elim (λ off. inl off) (λ twice. inr (twice.0, (let lt = twice.1 in λ same. (let no : ⊥ = omega arith in no)), (omega (arith, twice.1, is.within), twice.2))) is.off,
    ),
    none_at_first,
  )

  -- with the site and the chain such a stop tells the first broken rule
  pub tables_stopped : (blocks : ℕ) (rack : List ℕ) (parts : List Summary) → HasSite blocks g rec image → rack ≡ g.volumes → IsCutChain g image (start_of rec) rec.serial parts
      → (stop : MountError) → StopsAtTables g image rec stop → IsStopped blocks rack image stop
  tables_stopped blocks rack parts has same chain NoLabel never = absurd never
  tables_stopped blocks rack parts has same chain NoRecord never = absurd never
  tables_stopped blocks rack parts has same chain (WrongRack volume slots) never = absurd never
  tables_stopped blocks rack parts has same chain (Damaged block rule) is = record {
    geometry = g;
    rec = rec;
    parts = parts;
    site = has;
    rack_is = same;
    chain = chain;
    broken = record { tables = fresh g; are = inl is.0; breaks = is.1 parts (fresh g) };
    first = is.2 parts;
  }
  tables_stopped blocks rack parts has same chain DiskFault is = tt
  tables_stopped blocks rack parts has same chain Memory is = tt

-- what was recovered breaks neither rule 1 nor rule 2
module _ (blocks : ℕ) (rack : List ℕ) (r : Recovered) (image : Image) (has : HasRecovered blocks rack r image) (parts : List Summary) (t : TableValues) where
  bytes_kept : (address : ℕ) → Breaks r.geometry image r.rec parts t TableBytes address → ⊥
  bytes_kept address (i, at, off) =
      let lt = at.0 in
      off (record {
        values = has.laid.before;
        shape = has.laid.spelled.values.shape;
        block = sym (has.laid.spelled.blocks i (omega (arith, table_count r.geometry image r.rec has.site.newest has.site.volumes))) ∙ ap image at.1;
      })

  pub recovered_keeps : (rule : Rule) (address : ℕ) → IsTableRule rule → Breaks r.geometry image r.rec parts t rule address → ⊥
  recovered_keeps rule address (inl is) broken = keep_first r.geometry image r.rec has.in_place parts t address (subst (λ (x : Rule). Breaks r.geometry image r.rec parts t x address) is broken)
  recovered_keeps rule address (inr is) broken = bytes_kept address (subst (λ (x : Rule). Breaks r.geometry image r.rec parts t x address) is broken)
