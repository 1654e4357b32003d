-- A part of a batch is a part of the site.
use Rattle.std.proofs.Common.{◌≡◌, inl, inr, ℕ, ◌+◌, ◌-◌, ◌<◌, ◌≤◌, Bool, List, length, take, drop, sum, sym, ◌∙◌, ap, subst, arith, length-drop}
use Rattle.std.specs.Prelude.{◌&&◌, IsTrue, ◌↔◌, true, false}
use Rattle.std.proofs.lemmas.Bool.{cases_lt}
use Rattle.std.proofs.lemmas.List.{length-take-le}
use Rattle.std.proofs.lemmas.List.Elements.{All-take, All-drop}
use Rattle.hl_addr.specs.Layout.{Layout, table_blocks}
use Rattle.hl_bytes.specs.declared.records.TableRecord.{TableRecord}
use Rattle.hl_summary.specs.Ranges.{IsBlockOf, IsChangeOf, IsNextPlace}
use Rattle.hl_summary.specs.Parts.{HasRanges, with_records}
use Rattle.hl_summary.specs.declared.parts.Heading.{Heading}
use Rattle.hl_summary.specs.declared.parts.Summary.{Summary}
use Rattle.hl_image.specs.Parts.{IsPartBytes}
use Rattle.hl_log.specs.Steps.{own_blocks}
use Rattle.hl_image.specs.declared.place.LogPlace.{LogPlace}
use Rattle.hl_image.specs.Places.{IsLogPlace}
use Rattle.hl_log.specs.declared.piece.Piece.{Piece}
use Rattle.hl_log.specs.declared.piece.Left.{Left}
use Rattle.hl_log.specs.Batches.{IsBatch, CanStand, IsPartWhereItMay, part_of_unit, blocks_of_part}
use Rattle.hl_log.specs.Cut.{Goes, LeavesBehind}
use Rattle.hl_log.specs.Free.{AreClean}
use Rattle.hl_log.specs.Units.{Brought}
use Rattle.hl_log.proofs.Cleans.{first_in_log, first_apart}
use Rattle.hl_log.proofs.Cutting.{place_then, within}

module _ (g : Layout) (head : LogPlace) (left : Left) (u : Brought) (p : Piece) (serial : ℕ) (last : Bool) (batch : IsBatch g u) (stands : CanStand g head left u p) where
  pub records_taken : length (take p.blocks (drop (length u.records - left.blocks) u.records)) ≡ p.blocks
  records_taken = length-take-le p.blocks (drop (length u.records - left.blocks) u.records) (omega (arith, length-drop (length u.records - left.blocks) u.records, stands.blocks, stands.blocks_left))

  pub changes_taken : length (take p.tables (drop (length u.changes - left.tables) u.changes)) ≡ p.tables
  changes_taken = length-take-le p.tables (drop (length u.changes - left.tables) u.changes) (omega (arith, length-drop (length u.changes - left.tables) u.changes, stands.tables, stands.tables_left))

  pub ranges_ok : HasRanges g head.seg head.block (part_of_unit u left serial last p)
  ranges_ok =
      let IsBlock = IsBlockOf g.inodes (table_blocks g) in
      let IsChange = IsChangeOf g.inodes (sum g.volumes) (length g.volumes) in
      record {
        place = record { seg_low = stands.place.low; seg_high = stands.place.high; block_high = stands.place.room };
        within = omega (arith, stands.within, records_taken);
        next = subst (λ (n : ℕ). IsNextPlace g head.seg head.block n p.next.seg p.next.block) (sym records_taken) stands.goes;
        room = record { blocks = omega (arith, stands.blocks_most, records_taken); tables = omega (arith, stands.tables_most, changes_taken) };
        blocks = All-take IsBlock p.blocks (drop (length u.records - left.blocks) u.records) (All-drop IsBlock (length u.records - left.blocks) u.records batch.of.blocks);
        tables = All-take IsChange p.tables (drop (length u.changes - left.tables) u.changes) (All-drop IsChange (length u.changes - left.tables) u.changes batch.of.tables);
      }

-- the next place of a part is one that its summary may name
next_named : (g : Layout) (at : LogPlace) (n : ℕ) (clean : List ℕ) (next : LogPlace) (more : List ℕ) → AreClean g at.seg clean → Goes g at n clean next more → IsNextPlace g at.seg at.block n next.seg next.block
next_named g at n clean next more cleans (inl near) = inl (near.0, near.1, near.2)
next_named g at n clean next more cleans (inr far) = (let c = subst (AreClean g at.seg) far.1 cleans in let in_log = first_in_log g at.seg next.seg more c in inr (far.0, first_apart g at.seg next.seg more c, in_log.0, in_log.1, far.2))

-- a part that is cut off may stand
pub can_stand : (g : Layout) (left behind : Left) (clean : List ℕ) (u : Brought) (p : Piece) → LeavesBehind g left clean p behind → IsLogPlace g left.at → AreClean g left.at.seg (drop left.used clean)
    → left.blocks ≤ length u.records → left.tables ≤ length u.changes → CanStand g left.at left u p
can_stand g left behind clean u p l place cleans records changes =
    let t = l.takes in
    record {
      place = place;
      next = (place_then g left.at p.blocks (drop left.used clean) p.next (drop behind.used clean) place cleans t.goes).0;
      goes = next_named g left.at p.blocks (drop left.used clean) p.next (drop behind.used clean) cleans t.goes;
      within = within g left.at (drop left.used clean) left.blocks left.tables p (drop behind.used clean) place t;
      blocks_most = omega (arith, t.blocks_are);
      tables_most = omega (arith, t.tables_are);
      blocks = omega (arith, t.blocks_are);
      tables = omega (arith, t.tables_are);
      blocks_left = records;
      tables_left = changes;
    }

-- the bytes that were filled are the part
pub part_bytes_of : (g : Layout) (head : LogPlace) (left : Left) (u : Brought) (p : Piece) (serial : ℕ) (last : Bool) (first : ℕ) (ends : Bool) (changes : List TableRecord) (bytes : List ℕ)
    → first ≡ length u.records - left.blocks → ends ≡ (u.closes && last) → changes ≡ take p.tables (drop (length u.changes - left.tables) u.changes)
    → IsPartWhereItMay (with_records (record { serial = serial; next_seg = p.next.seg; next_block = p.next.block; ends = ends }) (take p.blocks (drop first u.records)) changes) bytes
    → HasRanges g head.seg head.block (part_of_unit u left serial last p) → IsPartBytes g head serial bytes (part_of_unit u left serial last p)
part_bytes_of g head left u p serial last first ends changes bytes first_is ends_is changes_are filled ok =
    let head_of : Bool → Heading = λ e. record { serial = serial; next_seg = p.next.seg; next_block = p.next.block; ends = e } in
    let same : with_records (head_of ends) (take p.blocks (drop first u.records)) changes ≡ part_of_unit u left serial last p =
    ap (λ (n : ℕ). with_records (head_of ends) (take p.blocks (drop n u.records)) changes) first_is
    ∙ ap (λ (e : Bool). with_records (head_of e) (take p.blocks (drop (length u.records - left.blocks) u.records)) changes) ends_is
    ∙ ap (λ (l : List TableRecord). with_records (head_of (u.closes && last)) (take p.blocks (drop (length u.records - left.blocks) u.records)) l) changes_are in
    subst (λ (x : Summary). IsPartWhereItMay x bytes) same filled g head ok

-- and behind its summary they have its blocks
pub own_of : (left : Left) (u : Brought) (p : Piece) (first : ℕ) (bytes : List ℕ) → first ≡ length u.records - left.blocks → length (take p.blocks (drop (length u.records - left.blocks) u.records)) ≡ p.blocks
    → own_blocks bytes p.blocks ≡ take p.blocks (drop first u.contents) → own_blocks bytes (length (take p.blocks (drop (length u.records - left.blocks) u.records))) ≡ blocks_of_part u left p
own_of left u p first bytes first_is count own = ap (own_blocks bytes) count ∙ own ∙ ap (λ (n : ℕ). take p.blocks (drop n u.contents)) first_is

-- what it says that something is left
pub some_left : (b t : ℕ) (last : Bool) → (IsTrue last ↔ ((b ≡ 0) × (t ≡ 0))) → last ≡ false → 0 < b + t
some_left b t last test not_last = elim (cases_lt 0 (b + t)) [
  | inl lt ↦ lt
  | inr none ↦ absurd (let e = test.1 (omega arith, omega arith) in cc)
]

-- and that nothing is
pub none_left : (b t p q b2 t2 : ℕ) (last : Bool) → (IsTrue last ↔ ((b2 ≡ 0) × (t2 ≡ 0))) → b2 ≡ b - p → t2 ≡ t - q → last ≡ true → (b - p ≡ 0) × (t - q ≡ 0)
none_left b t p q b2 t2 last test bs ts is_last = let e = test.0 is_last in (sym bs ∙ e.0, sym ts ∙ e.1)
